use Rattle.std.proofs.lemmas.Grind.{common_steps}
use Rattle.std.proofs.Common.{ℕ, ◌+◌, ◌*◌, ◌++◌, ◌∷◌, [], List, get_or, ap, sym, ◌∙◌, arith, pos, neg_ℤ, FitsSigned, if◌then◌else◌}
use Rattle.std.specs.Int.{w128}
use Rattle.std.specs.Ordering.{int_eq}
use Rattle.std.proofs.lemmas.Int.{ints, to_z-of_z}
use Rattle.sdc_base.specs.Forms.{Term}
use Rattle.sdc_base.specs.Systems.{number_at}
use Rattle.interval_audit.proofs.Counting.{entries_next}
use Rattle.interval_audit.proofs.entries.entries_at.Goals as goal

pub members-preserved : goal.members-preserved
members-preserved c = λ group n terms is are.
    let cell : ℕ = get_or c.args.members.now c.members.place 0 in
    let within = c.requires.within cell in
    let fits : FitsSigned w128 (number_at c.args.numbers.now cell) = omega (arith, ints, within.0, within.1) in
    let k = number_at c.args.numbers.now cell in
    let pushed = simp to_z-of_z at c.in_ok-push_entries.ensures in
    pushed
    ∙ ap (λ (done : List Term). done ++ (if int_eq k (pos 0) then [] else (2 * c.members.place, k) ∷ (2 * c.members.place + 1, neg_ℤ k) ∷ [])) (c.members.invariant group n terms is are)
    ∙ sym (entries_next group n terms c.args.members.now c.members.place k is c.members-test.true (are cell))

pub returns : goal.returns
returns c = grind (arith, common_steps)

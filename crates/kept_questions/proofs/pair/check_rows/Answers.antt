use Rattle.std.proofs.Common.{◌≡◌, ◌∙◌, subst, ℕ, List, [], false, true, ◌<◌, length, pos, ◌*ℤ◌, ◌<ℤ◌, ◌≤ℤ◌, FitsSigned, arith, rules}
use Rattle.std.specs.Int.{w128}
use Rattle.std.specs.List.{flat_map}
use Rattle.std.proofs.lemmas.Int.{ints, to_z-of_z}
use Rattle.sdc_base.specs.Forms.{Term, coefficient}
use Rattle.sdc_base.specs.Worlds.{amount_toward}
use Rattle.interval_audit.specs.Groups.{Group, group_of, members}
use Rattle.interval_audit.specs.Labels.{caps_for, forms_for, met_relations}
use Rattle.kept_questions.specs.Checks.{LabelsFit, IsHeldBelow}
use Rattle.kept_questions.specs.TermLists.{list_at}
use Rattle.kept_questions.specs.declared.labels.Checked.{Checked}
use Rattle.kept_questions.proofs.PairChecks.{pair_found}
use Rattle.kept_questions.proofs.pair.check_rows.Goals as goal

pub returns : goal.returns
returns c = λ flags each own.
    let checked : Checked = c.args.checked.now in
    let asked : ℕ = c.args.question.cell in
    let group : Group = group_of c.args.component.now.of asked in
    let den_fits : FitsSigned w128 checked.den = search rules in
    let q_fits : FitsSigned w128 c.args.q = c.ranges.q in
    let den_no = simp to_z-of_z at c.if-checked-lt1.false in
    let q_no = simp to_z-of_z at c.if-q-lt1.false in
    let den : pos 1 ≤ℤ checked.den = omega (arith, ints, den_no) in
    let q : pos 1 ≤ℤ c.args.q = omega (arith, ints, q_no) in
    let of_is : c.as_slice-of.result.now ≡ c.args.component.now.of = c.as_slice-of.ensures in
    let members_are : c.as_slice-members.result.now ≡ members group checked.system.now.cells = c.as_slice-members.ensures.value ∙ c.requires.members in
    let met_are : c.as_slice-met.result.now ≡ met_relations group checked.system.now.relations = c.as_slice-met.ensures.value ∙ c.requires.met in
    let outside : (cell : ℕ) → group cell ≡ false → list_at checked.lists.now cell ≡ [] =
    subst (λ of. (cell : ℕ) → group_of of asked cell ≡ false → list_at checked.lists.now cell ≡ []) of_is c.in_ok-check_outside.ensures in
    let held : (cell : ℕ) → cell < checked.system.now.cells → group cell ≡ true → IsHeldBelow checked cell =
    subst (λ of. (cell : ℕ) → cell < checked.system.now.cells → group_of of asked cell ≡ true → IsHeldBelow checked cell) of_is c.in_ok-check_held.ensures in
    let target = simp to_z-of_z at c.in_ok-check_target.ensures in
    let below : amount_toward c.args.question.side (coefficient (list_at checked.lists.now asked) 0) <ℤ (checked.den *ℤ c.args.question.target) =
    subst (λ (ts : List Term). amount_toward c.args.question.side (coefficient ts 0) <ℤ (checked.den *ℤ c.args.question.target)) c.list_at-own.ensures target in
    let caps : LabelsFit checked 0 (flat_map (caps_for checked.cells.now) (members group checked.system.now.cells)) =
    subst (λ (ms : List ℕ). LabelsFit checked 0 (flat_map (caps_for checked.cells.now) ms)) members_are c.in_ok-behind.ensures.fit in
    let behind_is : c.in_ok-behind.behind ≡ length (flat_map (caps_for checked.cells.now) (members group checked.system.now.cells)) =
    subst (λ (ms : List ℕ). c.in_ok-behind.behind ≡ length (flat_map (caps_for checked.cells.now) ms)) members_are c.in_ok-behind.ensures.next in
    let forms : LabelsFit checked (length (flat_map (caps_for checked.cells.now) (members group checked.system.now.cells))) (flat_map forms_for (met_relations group checked.system.now.relations)) =
    subst (λ (n : ℕ). LabelsFit checked n (flat_map forms_for (met_relations group checked.system.now.relations))) behind_is
    (subst (λ (ms : List ℕ). LabelsFit checked c.in_ok-behind.behind (flat_map forms_for ms)) met_are c.in_ok-check_forms.ensures) in
    pair_found checked flags group c.args.question c.args.q each den q own outside below c.requires.left held caps forms

use Rattle.std.proofs.Common.{◌∙◌, ◌+◌, ◌*◌, ◌++◌, ◌∷◌, ◌^◌, ◌<◌, [], ℕ, List, length, get_or, All, ap, sym, subst, rules, arith, ℤ, pos, neg_ℤ, ◌-ℤ◌, ◌≤ℤ◌, ◌<ℤ◌, FitsSigned, if◌then◌else◌}
use Rattle.std.specs.Int.{w128}
use Rattle.std.specs.Ordering.{int_eq}
use Rattle.std.proofs.lemmas.Int.{ints, to_z-of_z}
use Rattle.std.proofs.lemmas.List.{take_all}
use Rattle.sdc_base.specs.Forms.{Term}
use Rattle.sdc_base.specs.Systems.{number_at}
use Rattle.interval_audit.specs.Readings.{nonzero_terms}
use Rattle.interval_audit.proofs.Listing.{listed_next, held_more}
use Rattle.interval_audit.proofs.readings.differences.Goals as goal

pub list-preserved : goal.list-preserved
list-preserved c =
    let place : ℕ = c.list.place in
    let more : ℤ = number_at c.args.numbers.now (c.args.plus + 2 * place) in
    let less : ℤ = number_at c.args.numbers.now (c.args.minus + 2 * place) in
    let inside : place < length c.args.list.now = c.list-test.true in
    let more_from : pos 0 ≤ℤ more = c.requires.from_zero (c.args.plus + 2 * place) (pos 0) (omega (arith, inside, c.requires.plus_within)) in
    let less_from : pos 0 ≤ℤ less = c.requires.from_zero (c.args.minus + 2 * place) (pos 0) (omega (arith, inside, c.requires.minus_within)) in
    let more_fits : FitsSigned w128 more = search rules in
    let less_fits : FitsSigned w128 less = search rules in
    let fits : FitsSigned w128 (more -ℤ less) = omega (arith, ints, more_from, less_from, more_fits, less_fits) in
    let above : neg_ℤ (pos (2 ^ 127)) <ℤ (more -ℤ less) = omega (arith, ints, more_from, less_from, less_fits) in
    let pushed = simp to_z-of_z at c.in_ok-push_term.ensures in
    record {
      terms = λ given is.
          pushed ∙ ap (λ (done : List Term). done ++ (if int_eq (more -ℤ less) (pos 0) then [] else (get_or c.args.list.now place 0, more -ℤ less) ∷ [])) (c.list.invariant.terms given is)
          ∙ sym (listed_next given c.args.list.now place 0 (more -ℤ less) inside (sym (is place inside)));
      held = subst (λ ts. All (λ (t : Term). neg_ℤ (pos (2 ^ 127)) <ℤ t.1) ts) (sym pushed) (held_more c.list.terms.items (get_or c.args.list.now place 0) (more -ℤ less) c.list.invariant.held above);
    }

pub returns-clause-terms : goal.returns-clause-terms
returns-clause-terms c = λ given is. c.list.invariant.terms given is ∙ ap (nonzero_terms given) (take_all c.list.place c.args.list.now c.list-test.false)

use Rattle.std.proofs.lemmas.Grind.{common_steps}
use Rattle.std.proofs.Common.{◌≡◌, ◌∙◌, ◌+◌, ◌++◌, ◌∷◌, [], take, get_or, ap, sym, subst, rules, ℤ, pos, neg_ℤ, ◌<ℤ◌, ◌^◌, All, FitsSigned, unsigned_abs, arith}
use Prim.Native.Nat.{◌∣◌}
use Rattle.std.specs.Int.{w128}
use Rattle.std.proofs.lemmas.Int.{to_z-of_z}
use Rattle.std.proofs.lemmas.List.Elements.{All-push}
use Rattle.sdc_base.specs.Forms.{Term}
use Rattle.interval_audit.specs.LowestTerms.{times_each}
use Rattle.interval_audit.proofs.Divisors.{times_next}
use Rattle.interval_audit.proofs.lowest_terms.divided_all.Goals as goal

pub quotient_of-part-requires-clause-divides : goal.quotient_of-part-requires-clause-divides
quotient_of-part-requires-clause-divides c =
    let term : Term = get_or c.args.terms.now c.terms.term-index (0, pos 0) in
    let fits : FitsSigned w128 term.1 = search rules in
    subst (λ z. c.args.by ∣ unsigned_abs z) (sym (to_z-of_z w128 term.1 fits)) (c.requires.divides c.terms.term-index (0, pos 0) c.terms-test.true)

pub terms-preserved : goal.terms-preserved
terms-preserved c =
    let term : Term = get_or c.args.terms.now c.terms.term-index (0, pos 0) in
    let fits : FitsSigned w128 term.1 = search rules in
    let part : FitsSigned w128 c.quotient_of-part.result = search rules in
    let told = simp to_z-of_z at c.quotient_of-part.ensures.value in
    let pushed = simp to_z-of_z at c.in_ok-push.ensures.items in
    let next : take (c.terms.term-index + 1) c.args.terms.now ≡ times_each (pos c.args.by) (c.terms.less.items ++ (term.0, c.quotient_of-part.result) ∷ []) =
    times_next (pos c.args.by) c.args.terms.now c.terms.less.items c.terms.term-index (0, pos 0) (term.0, c.quotient_of-part.result) c.terms-test.true c.terms.invariant.each (ap (λ (z : ℤ). (term.0, z)) told) in
    let above : neg_ℤ (pos (2 ^ 127)) <ℤ c.quotient_of-part.result = c.quotient_of-part.ensures.held in
    record {
      each = next ∙ ap (times_each (pos c.args.by)) (sym pushed);
      held = subst (λ ts. All (λ (t : Term). neg_ℤ (pos (2 ^ 127)) <ℤ t.1) ts) (sym pushed) (All-push (λ (t : Term). neg_ℤ (pos (2 ^ 127)) <ℤ t.1) c.terms.less.items (term.0, c.quotient_of-part.result) c.terms.invariant.held above);
    }

pub returns-clause-each : goal.returns-clause-each
returns-clause-each c = grind (arith, common_steps)

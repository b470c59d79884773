use Rattle.std.proofs.Common.{◌≡◌, ◌∙◌, get_or, length-set, arith, pos, ◌+ℤ◌, FitsSigned, to_z, of_z}
use Rattle.std.specs.Int.{w128}
use Rattle.std.proofs.lemmas.Int.{ints, to_z-of_z}
use Rattle.sdc_base.specs.Forms.{Term}
use Rattle.interval_audit.specs.FormSigns.{IsFormSign}
use Rattle.sdc_base.specs.Systems.{number_at}
use Rattle.interval_audit.proofs.CellSums.{few_taken, added}
use Rattle.interval_audit.proofs.terms.add_terms.Goals as goal

pub overflow_add-sum : goal.overflow_add-sum
overflow_add-sum c =
    let term : Term = get_or c.args.terms.now c.terms.term-index (0, pos 0) in
    let sign : IsFormSign term.1 = c.requires.signs c.terms.term-index (0, pos 0) c.terms-test.true in
    let few = few_taken c.args.terms.now term.0 c.terms.term-index (omega (arith, c.terms-test.true)) c.requires.signs in
    let own : FitsSigned w128 term.1 = omega (arith, ints, sign.low, sign.high) in
    let here : FitsSigned w128 (number_at c.terms.numbers term.0) = omega (arith, ints, c.terms.invariant.each term.0, few.0, few.1, c.requires.at_most_2_32, c.terms-test.true) in
    let whole : FitsSigned w128 (number_at c.terms.numbers term.0 +ℤ term.1) = omega (arith, ints, c.terms.invariant.each term.0, few.0, few.1, c.requires.at_most_2_32, c.terms-test.true, sign.low, sign.high) in
    simp to_z-of_z whole

pub terms-preserved : goal.terms-preserved
terms-preserved c =
    let term : Term = get_or c.args.terms.now c.terms.term-index (0, pos 0) in
    let sign : IsFormSign term.1 = c.requires.signs c.terms.term-index (0, pos 0) c.terms-test.true in
    let few = few_taken c.args.terms.now term.0 c.terms.term-index (omega (arith, c.terms-test.true)) c.requires.signs in
    let own : FitsSigned w128 term.1 = omega (arith, ints, sign.low, sign.high) in
    let here : FitsSigned w128 (number_at c.terms.numbers term.0) = omega (arith, ints, c.terms.invariant.each term.0, few.0, few.1, c.requires.at_most_2_32, c.terms-test.true) in
    let whole : FitsSigned w128 (number_at c.terms.numbers term.0 +ℤ term.1) = omega (arith, ints, c.terms.invariant.each term.0, few.0, few.1, c.requires.at_most_2_32, c.terms-test.true, sign.low, sign.high) in
    let sum : to_z w128 (of_z w128 (to_z w128 (of_z w128 (number_at c.terms.numbers term.0)) +ℤ to_z w128 (of_z w128 term.1))) ≡ number_at c.terms.numbers term.0 +ℤ term.1 = simp to_z-of_z in
    record {
      long = length-set c.terms.numbers term.0 _ ∙ c.terms.invariant.long;
      each = added c.terms.numbers c.args.terms.now c.terms.term-index (0, pos 0) _ c.terms-test.true (omega (arith, c.terms.invariant.long, c.requires.named c.terms.term-index (0, pos 0) c.terms-test.true)) c.terms.invariant.each sum;
    }

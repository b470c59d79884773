use Rattle.std.proofs.Common.{◌≡◌, ◌∙◌, get_or, ap, sym, subst, rules, ℤ, pos, FitsSigned, to_z, of_z, unsigned_abs}
use Prim.Native.Nat.{◌∣◌}
use Rattle.std.specs.Int.{w128, IsGcd}
use Rattle.std.proofs.lemmas.Int.{to_z-of_z}
use Rattle.std.proofs.lemmas.Nat.Gcd.{dvd_refl}
use Rattle.sdc_base.specs.Forms.{Term}
use Rattle.interval_audit.proofs.Divisors.{divides_none, divides_less, divides_more, gcd_positive, size_positive}
use Rattle.interval_audit.proofs.lowest_terms.divisor_of.Goals as goal

pub terms-init : goal.terms-init
terms-init c =
    let den : ℤ = to_z w128 (of_z w128 c.args.den) in
    let value : c.unsigned_abs-divisor.result ≡ unsigned_abs den = c.unsigned_abs-divisor.ensures.value in
    record {
      positive = size_positive c.args.den c.unsigned_abs-divisor.result (value ∙ ap unsigned_abs (to_z-of_z w128 c.args.den c.ranges.den)) c.requires;
      divides = divides_none c.unsigned_abs-divisor.result den (subst (λ n. c.unsigned_abs-divisor.result ∣ n) value (dvd_refl c.unsigned_abs-divisor.result));
      greatest = λ d all. subst (λ n. d ∣ n) (sym value) all.den_divided;
    }

pub terms-preserved : goal.terms-preserved
terms-preserved c =
    let den : ℤ = to_z w128 (of_z w128 c.args.den) in
    let term : Term = get_or c.args.terms.now c.terms.term-index (0, pos 0) in
    let fits : FitsSigned w128 term.1 = search rules in
    let size : c.unsigned_abs-size.result ≡ unsigned_abs term.1 = c.unsigned_abs-size.ensures.value ∙ ap unsigned_abs (to_z-of_z w128 term.1 fits) in
    let gcd : IsGcd c.terms.divisor c.unsigned_abs-size.result c.gcd-divisor.result = c.gcd-divisor.ensures.greatest in
    record {
      positive = gcd_positive c.terms.divisor c.unsigned_abs-size.result c.gcd-divisor.result c.terms.invariant.positive gcd;
      divides = divides_more c.terms.divisor c.unsigned_abs-size.result c.gcd-divisor.result den c.args.terms.now c.terms.term-index (0, pos 0) c.terms-test.true gcd size c.terms.invariant.divides;
      greatest = λ d all.
          let less = divides_less d den c.args.terms.now c.terms.term-index (0, pos 0) c.terms-test.true all in
          gcd.2 d (c.terms.invariant.greatest d less.0) (subst (λ n. d ∣ n) (sym size) less.1);
    }

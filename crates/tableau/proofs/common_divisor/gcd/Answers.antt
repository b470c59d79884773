use Rattle.std.proofs.Common.{◌*◌, arith, sym, subst}
use Prim.Native.Nat.{◌∣◌}
use Rattle.std.specs.Int.{IsGcd}
use Rattle.std.proofs.lemmas.Nat.Gcd.{IsGcd-from_zero, IsGcd-from_mod}
use Rattle.tableau.proofs.Remainders.{rest_divides}
use Rattle.tableau.proofs.common_divisor.gcd.Goals as goal

pub steps-preserved : goal.steps-preserved
steps-preserved c = record {
  greatest = λ g h. c.steps.invariant.greatest g (IsGcd-from_mod c.steps.a c.steps.b g (subst (λ n. IsGcd c.steps.b n g) c.remainder-rest.ensures h));
  multiples = λ d times of_one of_other.
      let both = c.steps.invariant.multiples d times of_one of_other in
      (both.1, subst (λ n. d ∣ times * n) (sym c.remainder-rest.ensures) (rest_divides d times c.steps.a c.steps.b both.0 both.1));
}

pub returns-clause-greatest : goal.returns-clause-greatest
returns-clause-greatest c = c.steps.invariant.greatest _ (IsGcd-from_zero _ _ (omega arith))

pub returns-clause-multiples : goal.returns-clause-multiples
returns-clause-multiples c = λ d times of_one of_other. (c.steps.invariant.multiples d times of_one of_other).0

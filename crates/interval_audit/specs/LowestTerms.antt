-- A denominator and numbers over it in lowest terms (own).
use Rattle.std.specs.Prelude.{◌≡◌, ℕ, List, All, map, ℤ, pos, ◌*ℤ◌, ◌≤ℤ◌, unsigned_abs}
use Prim.Native.Nat.{◌∣◌}
use Rattle.sdc_base.specs.Forms.{Term}

-- the number divides the denominator and each of the numbers over it
pub record IsCommonDivisor (d : ℕ) (den : ℤ) (terms : List Term) : Type 0 where
  pub den_divided : d ∣ unsigned_abs den
  pub each_divided : All (λ term. d ∣ unsigned_abs term.1) terms

-- a denominator of 1 or more and numbers over it that no number but 1 divides
pub record AreInLowestTerms (den : ℤ) (terms : List Term) : Type 0 where
  pub positive : pos 1 ≤ℤ den
  pub alone : (d : ℕ) → IsCommonDivisor d den terms → d ≡ 1

-- the numbers, each so many times
abbrev pub times_each : ℤ → List Term → List Term
times_each by terms = map (λ term. (term.0, by *ℤ term.1)) terms

-- A denominator and numbers over it in lowest terms: divided by one and the same number, by which they are lowest.
pub record AreLowestTermsOf (den : ℤ) (terms : List Term) (lower : ℤ) (less : List Term) : Type 0 where
  pub by : ℤ
  pub by_positive : pos 1 ≤ℤ by
  pub den_same : den ≡ by *ℤ lower
  pub each_same : terms ≡ times_each by less
  pub lowest : AreInLowestTerms lower less

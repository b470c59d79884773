-- A sum for each relation, kept while numbers of cells change (own).
use Rattle.std.specs.Prelude.{◌≡◌, ℕ, ◌^◌, List, length, slice_get, Some, ℤ, pos, neg_ℤ, ◌+ℤ◌, ◌-ℤ◌, ◌≤ℤ◌}
use Rattle.sdc_base.specs.declared.relation.Relation.{Relation}
use Rattle.sdc_base.specs.Systems.{number_at}
use Rattle.rounding.specs.Extremes.{extreme_of_form}

-- one number isn't further from another than this
pub record IsNear (far : ℕ) (one other : ℤ) : Type 0 where
  pub low : (other -ℤ pos far) ≤ℤ one
  pub high : one ≤ℤ (other +ℤ pos far)

-- a sum for each relation: the extremes of its form between one list of numbers and another
pub record AreExtremes (one other : List ℤ) (relations : List Relation) (sums : List ℤ) : Type 0 where
  pub each : length sums ≡ length relations
  pub extremes : (number : ℕ) (r : Relation) → slice_get relations number ≡ Some r
      → number_at sums number ≡ extreme_of_form (number_at one) (number_at other) r

-- sums far within 128 bits
abbrev pub AreSmall : List ℤ → Type 0
AreSmall sums =
    (number : ℕ) → (neg_ℤ (pos (2 ^ 120)) ≤ℤ number_at sums number) × (number_at sums number ≤ℤ pos (2 ^ 120))

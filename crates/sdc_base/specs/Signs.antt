-- Signs for relations: with them each cell is an arc between at most two relations (network flows; own).
use Rattle.std.specs.Prelude.{◌≡◌, ◌⊎◌, ℕ, Bool, true, false, List, length, slice_get, slice_index_or, ℤ, pos, negsuc, neg_ℤ}
use Rattle.std.specs.Option.{option_map_or}
use Rattle.sdc_base.specs.declared.relation.Relation.{Relation}
use Rattle.sdc_base.specs.Forms.{count_of}

-- a number with a sign: under plus as it is, under minus turned round
abbrev pub number_with_sign : Bool → ℤ → ℤ
number_with_sign true number = number
number_with_sign false number = neg_ℤ number

-- the sign of the relation with this number
abbrev pub sign_of : List Bool → ℕ → Bool
sign_of signs number = slice_index_or signs number true

-- how often the relation with this number counts the cell; 0 where there is no such relation
abbrev pub times_counted : List Relation → ℕ → ℕ → ℤ
times_counted relations number cell = option_map_or (λ r. count_of r cell) (slice_get relations number) (pos 0)

-- the same, the relation's form taken with its sign
abbrev pub signed_count : List Relation → List Bool → ℕ → ℕ → ℤ
signed_count relations signs number cell = number_with_sign (sign_of signs number) (times_counted relations number cell)

-- Signs, true for plus: one for each relation, such that, each form taken with its sign, each cell stands with 1 in at
-- most one form, with -1 in at most one, and with no other number but 0. Not: with 1 in one form and with 1 in another.
pub record AreSigns (relations : List Relation) (signs : List Bool) : Type 0 where
  pub each : length signs ≡ length relations
  pub once : (number cell : ℕ) → (signed_count relations signs number cell ≡ pos 0)
      ⊎ ((signed_count relations signs number cell ≡ pos 1) ⊎ (signed_count relations signs number cell ≡ negsuc 0))
  pub one_plus : (one other cell : ℕ) → signed_count relations signs one cell ≡ pos 1
      → signed_count relations signs other cell ≡ pos 1 → one ≡ other
  pub one_minus : (one other cell : ℕ) → signed_count relations signs one cell ≡ negsuc 0
      → signed_count relations signs other cell ≡ negsuc 0 → one ≡ other

-- the relations have no signs
abbrev pub HasNone : List Relation → Type 0
HasNone relations = (signs : List Bool) → AreSigns relations signs → ⊥

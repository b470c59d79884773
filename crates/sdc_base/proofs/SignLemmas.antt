-- What signs for relations say of the relations that count one cell.
use Rattle.std.proofs.Common.{◌≡◌, ◌≢◌, ◌⊎◌, inl, inr, ℕ, Bool, true, false, List, ℤ, pos, negsuc, neg_ℤ, ◌≤ℤ◌, arith}
use Rattle.std.proofs.lemmas.Int.{ints}
use Rattle.sdc_base.specs.declared.relation.Relation.{Relation}
use Rattle.sdc_base.specs.Signs.{AreSigns, HasNone, times_counted, sign_of, number_with_sign, signed_count}

pub signed-none : (sign : Bool) (z : ℤ) → number_with_sign sign z ≡ pos 0 → z ≡ pos 0
signed-none true z h = h
signed-none false z h = omega (arith, ints, h)

-- a cell that is counted once has 1 or -1 with the sign
pub signed-once : (relations : List Relation) (signs : List Bool) → AreSigns relations signs → (number cell : ℕ) → times_counted relations number cell ≢ pos 0 → (signed_count relations signs number cell ≡ pos 1) ⊎ (signed_count relations signs number cell ≡ negsuc 0)
signed-once relations signs are number cell some =
    elim (are.once number cell) as (λ _. (signed_count relations signs number cell ≡ pos 1) ⊎ (signed_count relations signs number cell ≡ negsuc 0)) [
      | inl none ↦ absurd (some (signed-none (sign_of signs number) (times_counted relations number cell) none))
      | inr one ↦ one
    ]

-- two relations that count one cell count it with opposite signs
pub opposite : (relations : List Relation) (signs : List Bool) → AreSigns relations signs → (one other cell : ℕ) → one ≢ other → times_counted relations one cell ≢ pos 0 → times_counted relations other cell ≢ pos 0 → signed_count relations signs one cell ≡ neg_ℤ (signed_count relations signs other cell)
opposite relations signs are one other cell apart one_counts other_counts =
    elim (signed-once relations signs are one cell one_counts) as (λ _. signed_count relations signs one cell ≡ neg_ℤ (signed_count relations signs other cell)) [
      | inl plus ↦
          elim (signed-once relations signs are other cell other_counts) as (λ _. signed_count relations signs one cell ≡ neg_ℤ (signed_count relations signs other cell)) [
            | inl too ↦ absurd (apart (are.one_plus one other cell plus too))
            | inr minus ↦ omega (arith, ints, plus, minus)
          ]
      | inr minus ↦
          elim (signed-once relations signs are other cell other_counts) as (λ _. signed_count relations signs one cell ≡ neg_ℤ (signed_count relations signs other cell)) [
            | inl plus ↦ omega (arith, ints, plus, minus)
            | inr too ↦ absurd (apart (are.one_minus one other cell minus too))
          ]
    ]

-- no three relations count one cell
pub no-three : (relations : List Relation) (one two three cell : ℕ) → one ≢ two → two ≢ three → one ≢ three → times_counted relations one cell ≢ pos 0 → times_counted relations two cell ≢ pos 0 → times_counted relations three cell ≢ pos 0 → HasNone relations
no-three relations one two three cell one_two two_three one_three first second third signs are =
    let a = opposite relations signs are one two cell one_two first second in
    let b = opposite relations signs are two three cell two_three second third in
    let c = opposite relations signs are one three cell one_three first third in
    elim (signed-once relations signs are one cell first) as (λ _. ⊥) [
      | inl plus ↦ absurd (omega (arith, ints, a, b, c, plus))
      | inr minus ↦ absurd (omega (arith, ints, a, b, c, minus))
    ]

-- no relation counts a cell twice or more often as a part
pub no-twice : (relations : List Relation) (number cell : ℕ) → times_counted relations number cell ≤ℤ negsuc 1 → HasNone relations
no-twice relations number cell low signs are = twice (sign_of signs number) (times_counted relations number cell) low (are.once number cell)
  where
    twice : (sign : Bool) (z : ℤ) → z ≤ℤ negsuc 1 → (number_with_sign sign z ≡ pos 0) ⊎ ((number_with_sign sign z ≡ pos 1) ⊎ (number_with_sign sign z ≡ negsuc 0)) → ⊥
    twice true z low (inl h) = absurd (omega (arith, ints, h, low))
    twice true z low (inr (inl h)) = absurd (omega (arith, ints, h, low))
    twice true z low (inr (inr h)) = absurd (omega (arith, ints, h, low))
    twice false z low (inl h) = absurd (omega (arith, ints, h, low))
    twice false z low (inr (inl h)) = absurd (omega (arith, ints, h, low))
    twice false z low (inr (inr h)) = absurd (omega (arith, ints, h, low))

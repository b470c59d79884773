-- The numbers that divide some numbers, and the numbers that some divide (own).
use Rattle.std.specs.Prelude.{ℕ, ◌*◌, List, All, unsigned_abs}
use Prim.Native.Nat.{◌∣◌}
use Rattle.sdc_base.specs.Forms.{Term}

-- a number divides all numbers of some entries
abbrev pub DividesEach : ℕ → List Term → Type 0
DividesEach e entries = All (λ entry. e ∣ unsigned_abs entry.1) entries

-- a number divides all numbers of some entries, each taken so many times
abbrev pub DividesTimes : ℕ → ℕ → List Term → Type 0
DividesTimes e times entries = All (λ entry. e ∣ times * unsigned_abs entry.1) entries

-- a number is the least that two numbers divide
pub record IsLeastMultiple (one other multiple : ℕ) : Type 0 where
  pub first : one ∣ multiple
  pub second : other ∣ multiple
  pub least : (m : ℕ) → one ∣ m → other ∣ m → multiple ∣ m

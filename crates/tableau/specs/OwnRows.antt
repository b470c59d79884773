-- Rows over dens of their own, and the rows over one den that they stand for (own).
use Rattle.std.specs.Prelude.{ℕ, ◌+◌, ◌*◌, ◌/◌, ◌<◌, List, [], ◌∷◌, ◌++◌, length, slice_index_or, ℤ, pos, ◌≤ℤ◌, unsigned_abs}
use Prim.Native.Nat.{◌∣◌}
use Rattle.sdc_base.specs.Forms.{Term, coefficient}
use Rattle.tableau.specs.Entries.{IsSparse, row_of_entries}
use Rattle.tableau.specs.Tables.{times_row}

-- a row of so many numbers has its own den behind them
abbrev pub own_den : ℕ → List Term → ℤ
own_den width entries = coefficient entries width

-- how many times a row's own den is the table's
abbrev pub factor_of : ℤ → ℕ → List Term → ℤ
factor_of den width entries = pos (unsigned_abs den / unsigned_abs (own_den width entries))

-- the numbers of a row, over the table's den
abbrev pub row_over : ℤ → ℕ → List Term → List ℤ
row_over den width entries = times_row (factor_of den width entries) (row_of_entries width entries)

-- no number but 1 divides all numbers: what divides them all, taken so many times, divides the times
abbrev pub IsLowest : List Term → Type 0
IsLowest entries = (d times : ℕ) → ((v : ℕ) → d ∣ times * unsigned_abs (coefficient entries v)) → d ∣ times

-- a row is in lowest terms over its own den, which divides a number
pub record IsOwnRow (whole : ℕ) (width : ℕ) (entries : List Term) : Type 0 where
  pub above : pos 1 ≤ℤ own_den width entries
  pub divides : unsigned_abs (own_den width entries) ∣ whole
  pub lowest : IsLowest entries

-- all own dens divide a number
abbrev pub DensDivide : ℕ → List (List Term) → ℕ → Type 0
DensDivide width lists m =
    (k : ℕ) → k < length lists → unsigned_abs (own_den width (slice_index_or lists k [])) ∣ m

-- rows are such, and the den is the least number that all own dens divide
pub record AreOwnRows (den : ℤ) (width : ℕ) (lists : List (List Term)) : Type 0 where
  pub above : pos 1 ≤ℤ den
  pub each : (k : ℕ) → k < length lists → IsOwnRow (unsigned_abs den) width (slice_index_or lists k [])
  pub least : (m : ℕ) → DensDivide width lists m → unsigned_abs den ∣ m

-- lists are without zeros, and each has a den above 0 behind its numbers
pub record AreWithDens (width : ℕ) (lists : List (List Term)) : Type 0 where
  pub sparse : (k : ℕ) → k < length lists → IsSparse 0 (width + 1) (slice_index_or lists k [])
  pub above : (k : ℕ) → k < length lists → pos 1 ≤ℤ own_den width (slice_index_or lists k [])

-- a den is above 0, and the least number that all own dens divide
pub record IsDenOf (width : ℕ) (lists : List (List Term)) (den : ℤ) : Type 0 where
  pub above : pos 1 ≤ℤ den
  pub divide : DensDivide width lists (unsigned_abs den)
  pub least : (m : ℕ) → DensDivide width lists m → unsigned_abs den ∣ m

-- a row with the den 1 behind it
abbrev pub with_den : List ℤ → List ℤ
with_den row = row ++ pos 1 ∷ []

-- Where an exchange is told to be wide (own).
use Rattle.std.specs.Prelude.{◌≡◌, ◌⊎◌, ℕ, ◌<◌, ◌≤◌}
use Rattle.tableau.specs.declared.faults.RowFault.{RowFault}
use Rattle.tableau.specs.declared.faults.RowFault.TheVariants as faults

-- a fault of the k-th row is told at this row and place: at its own place, or where that is behind the last number, at
-- the pivot's
abbrev pub IsFaultAt : ℕ → ℕ → ℕ → ℕ → RowFault → ℕ → ℕ → Type 0
IsFaultAt k row column last fault i j = (place : ℕ) × (fault ≡ faults.Wide place)
    × (((place ≤ last) × (i ≡ k) × (j ≡ place)) ⊎ ((last < place) × (i ≡ row) × (j ≡ column)))

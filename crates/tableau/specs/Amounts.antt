-- What entries come to on the amounts of columns (own).
use Rattle.std.specs.Prelude.{ℕ, List, ℤ, ◌*ℤ◌}
use Rattle.sdc_base.specs.Totals.{sum_of}
use Rattle.sdc_base.specs.Forms.{Term}

-- an entry is a column with a number of it; on amounts of the columns the entries come to the sum of number times
-- amount
abbrev pub value_of : (ℕ → ℤ) → List Term → ℤ
value_of amounts entries = sum_of (λ entry. entry.1 *ℤ amounts entry.0) entries

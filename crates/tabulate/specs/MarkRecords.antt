-- What a mark tells of the records that it was given (own).
use Rattle.std.specs.Prelude.{◌≡◌, ℕ, ◌≤◌, ◌-◌, ◌*◌, ◌^◌, min, nat_abs, sum_by, All, ◌≤ℤ◌, Bool, List, length, map, slice_get, Option, Some, option_map, ℤ, pos}
use Rattle.sdc_base.specs.Largest.{contribution}
use Rattle.sdc_base.specs.LargestKept.{KeepsLargest}
use Rattle.sdc_base.specs.declared.rows.Row.{Row}
use Rattle.sdc_base.specs.declared.tops.Unit.{Unit as Contribution}
use Rattle.linked_tables.specs.declared.mark.Mark.{Mark}

-- what records contribute, in their order
abbrev pub units_of : List Row → List Contribution
units_of rows = map (λ row. contribution row.value row.weight) rows

-- weight times value of a record whose value isn't below 0
abbrev pub worth_of_record : Row → ℕ
worth_of_record row = row.weight * nat_abs row.value

-- the mark was given these records: their sum and their number as far as there is room for them, and their largest
pub record HoldsRecords (mark : Mark) (rows : List Row) : Type 0 where
  pub from_zero : All (λ row. pos 0 ≤ℤ row.value) rows
  pub truth : mark.facts.truth ≡ pos (min (sum_by worth_of_record rows) (2 ^ 127 - 1))
  pub freq : mark.facts.freq ≡ min (length rows) (2 ^ 32 - 1)
  pub largest : KeepsLargest mark.facts.tops (units_of rows)

-- each mark was given the records that stand for its number
abbrev pub MarksHoldRecords : List Mark → (ℕ → List Row) → Type 0
MarksHoldRecords marks given =
    (cell : ℕ) (mark : Mark) → slice_get marks cell ≡ Some mark → HoldsRecords mark (given cell)

-- what stays of a mark while it is given records: whether it is hidden, how many it keeps, and the scale
abbrev pub settings_of : Mark → Bool × (ℕ × ℕ)
settings_of mark = (mark.hidden, (mark.facts.tops.keep, mark.facts.tops.scale))

-- the same of the mark of a cell
abbrev pub settings_at : List Mark → ℕ → Option (Bool × (ℕ × ℕ))
settings_at marks cell = option_map settings_of (slice_get marks cell)

-- no cell's scale is above this weight
abbrev pub HaveScalesWithin : ℕ → List Mark → Type 0
HaveScalesWithin weight marks =
    (cell : ℕ) (mark : Mark) → slice_get marks cell ≡ Some mark → mark.facts.tops.scale ≤ weight

-- all keep as many, at one scale
abbrev pub HaveOneScale : List Mark → Type 0
HaveOneScale marks =
    (cell other : ℕ) (mark one : Mark) → slice_get marks cell ≡ Some mark → slice_get marks other ≡ Some one
    → (mark.facts.tops.keep ≡ one.facts.tops.keep) × (mark.facts.tops.scale ≡ one.facts.tops.scale)

-- whether the cell is hidden
abbrev pub hidden_at : List Mark → ℕ → Option Bool
hidden_at marks cell = option_map (λ mark. mark.hidden) (slice_get marks cell)

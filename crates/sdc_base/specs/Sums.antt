-- What the records that fall in a cell come to: truth and frequency (handbook, magnitude tables; weights: own).
use Rattle.std.specs.Prelude.{ℕ, List, length, filter, fold, ℤ, pos, ◌+ℤ◌, ◌*ℤ◌}
use Rattle.sdc_base.specs.Trees.{Tree}
use Rattle.sdc_base.specs.Records.{Name, row_falls}
use Rattle.sdc_base.specs.declared.rows.Row.{Row}

-- the records that fall in a cell, in their order
abbrev pub rows_in : List Tree → Name → List Row → List Row
rows_in trees name rows = filter (row_falls trees name) rows

-- weight times value of a record
abbrev pub weighted_value : Row → ℤ
weighted_value row = pos row.weight *ℤ row.value

-- the truth of a cell: the sum of weight times value over the records that fall in it
abbrev pub truth : List Tree → Name → List Row → ℤ
truth trees name rows = fold (λ sum row. sum +ℤ weighted_value row) (pos 0) (rows_in trees name rows)

-- the frequency of a cell: how many records fall in it
abbrev pub freq : List Tree → Name → List Row → ℕ
freq trees name rows = length (rows_in trees name rows)

-- The text of the interval file: a line of headings, and a line for each hidden cell (own).
use Rattle.std.specs.Prelude.{◌==◌, ℕ, List, ◌++◌, codes, decimal, flat_map, if◌then◌else◌}
use Rattle.cell_intervals.specs.declared.ratio.Ratio.{Ratio}
use Rattle.cell_intervals.specs.declared.interval.CellInterval.{CellInterval}
use Rattle.cell_intervals.specs.declared.interval.UpperEnd.{UpperEnd}
use Rattle.cell_intervals.specs.declared.interval.UpperEnd.TheVariants.{At, Open}

-- a fraction in digits: a whole number, or what is divided, a slash and what it is divided by
abbrev pub fraction_text : ℕ → ℕ → List ℕ
fraction_text num den = if den == 1 then decimal num else decimal num ++ codes "/" ++ decimal den

-- a value in digits
abbrev pub ratio_text : Ratio → List ℕ
ratio_text value = fraction_text value.num value.den

-- an upper end: its value, or the word `open`
abbrev pub upper_text : UpperEnd → List ℕ
upper_text (At high) = ratio_text high
upper_text Open = codes "open"

-- the line of an interval: the cell's number and the two ends, with commas between them, ended by LF
abbrev pub line_text : CellInterval → List ℕ
line_text interval =
    decimal interval.cell ++ codes "," ++ ratio_text interval.low ++ codes "," ++ upper_text interval.high ++ codes "\n"

-- the file: the headings, and then each interval's line
abbrev pub interval_text : List CellInterval → List ℕ
interval_text intervals = codes "cell,low,high\n" ++ flat_map line_text intervals

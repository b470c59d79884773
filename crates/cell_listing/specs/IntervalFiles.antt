-- The interval file of a release: its text, and how such a text is read (own; `argus intervals` writes it).
use Rattle.std.specs.Prelude.{◌≡◌, ℕ, ◌+◌, ◌-◌, ◌^◌, ◌≤◌, ◌==◌, ◌&&◌, ◌||◌, ◌⊎◌, Bool, not, List, [], ◌∷◌, ◌++◌, codes, decimal, filter, length, map, if◌then◌else◌, Option, None, Some, is_some, Result, Ok, Err}
use Rattle.std.specs.List.{AllByRecursion, after_first, before_first, list_any, range_with_len}
use Rattle.std.specs.Str.{bytes_eq}
use Rattle.sdc_base.specs.Lines.{is_line_feed}
use Rattle.sdc_base.specs.Steps.{◌>>=◌, or_fault, refuse}
use Rattle.certificate.specs.Numerals.{natural_in}
use Rattle.certificate.specs.declared.certificate.Certificate.{Certificate}
use Rattle.certificate.specs.declared.extra.Extra.{Extra}
use Rattle.cell_intervals.specs.IntervalTexts.{fraction_text}
use Rattle.job_check.specs.ReleaseFiles.{ReleasedFiles}
use Rattle.cell_listing.specs.ListedCells.{listed_cells}
use Rattle.cell_listing.specs.Outcomes.{is_listed_hidden}
use Rattle.cell_listing.specs.declared.cell_range.CellRange.{CellRange}

-- ---- the text

-- the greatest number that stands in an end
abbrev pub greatest : ℕ
greatest = 2 ^ 127 - 1

-- the text is that of a fraction: a whole number, or one that is divided by another
pub record IsFraction (text : List ℕ) : Type 0 where
  pub num : ℕ
  pub den : ℕ
  pub num_fits : num ≤ greatest
  pub den_fits : den ≤ greatest
  pub den_from_1 : 1 ≤ den
  pub text_is : text ≡ fraction_text num den

-- the text is that of an upper end: of a fraction, or the word `open`
abbrev pub IsUpperEnd : List ℕ → Type 0
IsUpperEnd text = IsFraction text ⊎ (text ≡ codes "open")

-- the ends of a range are such texts
pub record HasEnds (range : CellRange) : Type 0 where
  pub low : IsFraction range.low
  pub high : IsUpperEnd range.high

-- the line of a range: the number of its cell and the two ends, with commas between them
abbrev pub range_line : CellRange → List ℕ
range_line range = decimal range.cell ++ 44 ∷ (range.low ++ 44 ∷ range.high)

-- lines, each ended by LF
abbrev pub range_lines : List CellRange → List ℕ
range_lines [] = []
range_lines (range ∷ ranges) = range_line range ++ 10 ∷ range_lines ranges

-- the columns of the file
abbrev pub heading : List ℕ
heading = codes "cell,low,high"

-- the file: the line of the columns, and then that of each range
abbrev pub ranges_text : List CellRange → List ℕ
ranges_text ranges = heading ++ 10 ∷ range_lines ranges

-- The text is the interval file of these hidden cells, with these ranges: one for each, in this order, and nothing else.
-- Whether a fraction is in lowest terms isn't looked at.
pub record IsIntervalFileOf (hidden : List ℕ) (ranges : List CellRange) (text : List ℕ) : Type 0 where
  pub cells : map (λ range. range.cell) ranges ≡ hidden
  pub ends : AllByRecursion HasEnds ranges
  pub text_is : text ≡ ranges_text ranges

-- the numbers of the cells, of so many, that a certificate or extra cells list as hidden, ascending
abbrev pub hidden_numbers : Certificate → Option Extra → ℕ → List ℕ
hidden_numbers c extra cells = filter (is_listed_hidden c extra) (range_with_len 0 cells)

-- those of a release
abbrev pub hidden_in : ReleasedFiles → List ℕ
hidden_in released = hidden_numbers released.certificate released.extra (length (listed_cells released.settled))

-- ---- its reading

-- a byte is the comma
abbrev pub is_comma : ℕ → Bool
is_comma b = b == 44

-- a byte is the slash
abbrev pub is_slash : ℕ → Bool
is_slash b = b == 47

-- the text is that of a number, from this one on
abbrev pub is_natural : ℕ → List ℕ → Bool
is_natural low text = is_some (natural_in low greatest text)

-- the text is that of a fraction
abbrev pub is_fraction : List ℕ → Bool
is_fraction text =
    if list_any is_slash text then is_natural 0 (before_first is_slash text) && is_natural 2 (after_first is_slash text)
    else is_natural 0 text

-- the text is that of an upper end
abbrev pub is_upper_end : List ℕ → Bool
is_upper_end text = is_fraction text || bytes_eq text (codes "open")

-- the digits are these, and the ends are those of a range
abbrev pub is_range : List ℕ → List ℕ → List ℕ → List ℕ → Bool
is_range own digits low high = bytes_eq digits own && (is_fraction low && is_upper_end high)

-- the range of a cell with these ends, where the digits are those of its number and the ends are ends
abbrev pub range_with : ℕ → List ℕ → List ℕ → List ℕ → Option CellRange
range_with cell digits low high =
    if is_range (decimal cell) digits low high then Some (record { cell = cell; low = low; high = high }) else None

-- the range of a cell with these digits, and its ends with a comma between them
abbrev pub range_by : ℕ → List ℕ → List ℕ → Option CellRange
range_by cell digits ends = range_with cell digits (before_first is_comma ends) (after_first is_comma ends)

-- the range of a cell that its line says
abbrev pub range_in : ℕ → List ℕ → Option CellRange
range_in cell line = range_by cell (before_first is_comma line) (after_first is_comma line)

-- The ranges of cells that a text says in their lines, the first of which has this number, or the number of the first
-- line that isn't as it must be: a line that is ended, for each cell its own, and nothing behind the last.
unfoldable pub ranges_read : List ℕ → List ℕ → ℕ → Result (List CellRange) ℕ
ranges_read [] text number = do
  over ← refuse number (not (length text == 0))
  Ok []
ranges_read (cell ∷ hidden) text number = do
  ended ← refuse number (not (list_any is_line_feed text))
  range ← or_fault number (range_in cell (before_first is_line_feed text))
  ranges ← ranges_read hidden (after_first is_line_feed text) (number + 1)
  Ok (range ∷ ranges)

-- the text begins with the line of the columns
abbrev pub has_heading : List ℕ → Bool
has_heading text = list_any is_line_feed text && bytes_eq (before_first is_line_feed text) heading

-- the ranges of hidden cells that an interval file says, or the number of the first line that isn't as it must be
unfoldable pub file_read : List ℕ → List ℕ → Result (List CellRange) ℕ
file_read hidden text = do
  begun ← refuse 1 (not (has_heading text))
  ranges_read hidden (after_first is_line_feed text) 2

-- the text is no interval file of these hidden cells, whatever the ranges, and this is its first line that isn't as it
-- must be
pub record IsNoIntervalFile (hidden : List ℕ) (text : List ℕ) (number : ℕ) : Type 0 where
  pub first : file_read hidden text ≡ Err number
  pub none : (ranges : List CellRange) → IsIntervalFileOf hidden ranges text → ⊥

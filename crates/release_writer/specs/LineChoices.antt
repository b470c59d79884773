-- What a cell of a line of a release may show: its truth or nothing, a rounded number, or what an earlier line shows
-- (own).
use Rattle.std.specs.Prelude.{ℕ, ◌+◌, ◌-◌, Bool, List, [], ◌∷◌, ◌++◌, length, take, drop, slice_get, bytes_eq, if◌then◌else◌, Option, None, Some, option_map, Result, Ok, Err, ℤ}
use Rattle.std.specs.List.{before_first}
use Rattle.std.specs.Option.{option_and_then}
use Rattle.sdc_base.specs.Lines.{is_line_feed}
use Rattle.sdc_base.specs.Numbers.{read_units}
use Rattle.sdc_base.specs.Cells.{trees_of}
use Rattle.sdc_base.specs.TableText.{line_text, codes_of_place, shown_text}
use Rattle.sdc_base.specs.declared.dimension.Dimension.{Dimension}
use Rattle.linked_tables.specs.declared.mark.Mark.{Mark}
use Rattle.linked_tables.specs.BookViews.{BookView}

-- what is left of bytes behind a line with which they begin
abbrev pub rest_behind : List ℕ → List ℕ → Option (List ℕ)
rest_behind line bytes = if bytes_eq (take (length line) bytes) line then Some (drop (length line) bytes) else None

-- a table of a release less what its cells show: rounded numbers, or truths and nothing
pub record Template : Type 0 where
  pub book : BookView
  pub t : ℕ
  pub table : List Dimension
  pub decimals : ℕ
  pub rounded : Bool

-- the line of a place whose cell shows this
abbrev pub line_showing : Template → List ℕ → Option ℤ → List ℕ
line_showing form place value =
    line_text (codes_of_place (trees_of form.book.trees form.table) place ++ shown_text form.decimals value ∷ [])

-- a choice for the cell of a place, and what is left behind the line that shows it; none where the bytes don't begin
-- with that line
abbrev pub choice_there : Template → List ℕ → List ℕ → Option ℤ → Option (Option ℤ × List ℕ)
choice_there form place bytes value =
    option_map (λ rest. (value, rest)) (rest_behind (line_showing form place value) bytes)

-- the first, or the second where there is none
abbrev pub or_second : {X : Type 0} → Option X → Option X → Option X
or_second None second = second
or_second (Some x) second = Some x

-- the value that was read, and none where there was a fault
abbrev pub value_read : {X F : Type 0} → Result X F → Option X
value_read (Ok x) = Some x
value_read (Err fault) = None

-- the number whose text begins where the last two bytes of a line so long begin: up to LF, and in 60 bytes at most
abbrev pub number_behind : ℕ → List ℕ → ℕ → Option ℤ
number_behind line bytes decimals =
    value_read (read_units (before_first is_line_feed (take 60 (drop (line - 2) bytes))) decimals)

-- the number whose text stands where the line of a hidden cell has its `x`
abbrev pub number_there : Template → List ℕ → List ℕ → Option ℤ
number_there form place bytes = number_behind (length (line_showing form place None)) bytes form.decimals

-- the truth of a cell
abbrev pub truth_of : List Mark → ℕ → Option ℤ
truth_of marks cell = option_map (λ mark. mark.facts.truth) (slice_get marks cell)

-- the number that a cell of a rounded release shows
abbrev pub rounded_value : Template → List ℕ → List ℕ → Option (Option ℤ × List ℕ)
rounded_value form place bytes =
    option_and_then (λ number. choice_there form place bytes (Some number)) (number_there form place bytes)

-- what a cell shows that no earlier line shows: its truth, or else nothing; in a rounded release the number that stands
-- there
abbrev pub new_value : Template → List ℕ → List ℕ → ℕ → Option (Option ℤ × List ℕ)
new_value form place bytes cell =
    if form.rounded then rounded_value form place bytes
    else or_second (choice_there form place bytes (truth_of form.book.marks cell)) (choice_there form place bytes None)

-- what a cell shows: what an earlier line shows of it, where one does
abbrev pub value_there : Template → List ℕ → List ℕ → ℕ → Option (Option ℤ) → Option (Option ℤ × List ℕ)
value_there form place bytes cell None = new_value form place bytes cell
value_there form place bytes cell (Some value) = choice_there form place bytes value

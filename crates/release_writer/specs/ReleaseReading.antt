-- Which lines a table of a release may have, and the first line that it may not (own).
use Rattle.std.specs.Prelude.{ℕ, ◌+◌, ◌-◌, ◌^◌, nat_lt, Bool, true, false, not, List, [], ◌∷◌, ◌++◌, length, map, min, slice_get, if◌then◌else◌, Option, is_some, Result, Ok, ℤ, pos}
use Rattle.std.specs.Option.{unwrap_or}
use Rattle.sdc_base.specs.Cells.{places, trees_of}
use Rattle.sdc_base.specs.Steps.{◌>>=◌, or_fault, refuse, map_ok}
use Rattle.sdc_base.specs.TableText.{line_text}
use Rattle.sdc_base.specs.declared.dimension.Dimension.{Dimension}
use Rattle.linked_tables.specs.BookViews.{BookView}
use Rattle.linked_tables.specs.BookCells.{name_in_table, number_of}
use Rattle.release_writer.specs.LineChoices.{Template, rest_behind, value_there}

-- what the lines so far show of the cells, in the order of their numbers, the bytes that are left, and the number of
-- their first line
pub record ReleaseSoFar : Type 0 where
  pub shown : List (Option ℤ)
  pub rest : List ℕ
  pub line : ℕ

-- a table and a line of it
abbrev pub LinePlace : Type 0
LinePlace = ℕ × ℕ

-- the number of the next line; the last number stands still
abbrev pub next_line : ℕ → ℕ
next_line line = min (line + 1) (2 ^ 32 - 1)

-- what is shown, with what a cell shows, unless that is among it
abbrev pub with_value : List (Option ℤ) → ℕ → Option ℤ → List (Option ℤ)
with_value shown cell value = if nat_lt cell (length shown) then shown else shown ++ value ∷ []

-- the reading behind a line that shows this of a cell, with these bytes behind it
abbrev pub reading_after : ReleaseSoFar → ℕ → Option ℤ × List ℕ → Result ReleaseSoFar LinePlace
reading_after reading cell found =
    Ok (record { shown = with_value reading.shown cell found.0; rest = found.1; line = next_line reading.line })

-- the line of a place is read: its choice is taken in, unless no choice gives the line
unfoldable pub read_place : Template → ReleaseSoFar → List ℕ → Result ReleaseSoFar LinePlace
read_place form reading place = do
  cell ← or_fault (form.t, reading.line) (number_of form.book (name_in_table form.book form.table place))
  found ← or_fault (form.t, reading.line) (value_there form place reading.rest cell (slice_get reading.shown cell))
  reading_after reading cell found

-- the lines of places are read, one after another
abbrev pub read_places : Template → ReleaseSoFar → List (List ℕ) → Result ReleaseSoFar LinePlace
read_places form reading [] = Ok reading
read_places form reading (place ∷ rest) = read_place form reading place >>= λ next. read_places form next rest

-- bytes are left
abbrev pub is_left : List ℕ → Bool
is_left [] = false
is_left (b ∷ bytes) = true

-- A table is read: the line of its names, a line for each place in lexicographic order, and no further line.
-- The first line that isn't so is bad, also where it is missing or too many. Lines are numbered from 1.
unfoldable pub read_table : Template → List (List ℕ) → List ℕ → List (Option ℤ) → Result (List (Option ℤ)) LinePlace
read_table form names bytes shown = do
  rest ← or_fault (form.t, 1) (rest_behind (line_text names) bytes)
  all ← read_places form (record { shown = shown; rest = rest; line = 2 })
      (places (trees_of form.book.trees form.table))
  end ← refuse (form.t, all.line) (is_left all.rest)
  Ok all.shown

-- Tables from number t on are read, each with its names and its bytes: what their cells show, or the first bad line.
-- A cell that several tables have shows the same in each.
unfoldable pub read_tables : BookView → ℕ → Bool → ℕ → List (List Dimension) → List (List (List ℕ)) → List (List ℕ)
    → List (Option ℤ) → Result (List (Option ℤ)) LinePlace
read_tables book decimals rounded t (table ∷ tables) (names ∷ others) (bytes ∷ files) shown = do
  next ← read_table (record { book = book; t = t; table = table; decimals = decimals; rounded = rounded }) names bytes
      shown
  read_tables book decimals rounded (t + 1) tables others files next
read_tables book decimals rounded t tables names files shown = Ok shown

-- what the cells of a release show, or its first bad line
abbrev pub release_read : BookView → List (List (List ℕ)) → ℕ → Bool → List (List ℕ)
    → Result (List (Option ℤ)) LinePlace
release_read book names decimals rounded files = read_tables book decimals rounded 0 book.tables names files []

-- the flags of cells that show this: a cell that shows nothing is hidden
abbrev pub flags_of : List (Option ℤ) → List Bool
flags_of shown = map (λ value. not (is_some value)) shown

-- the numbers of cells that show this
abbrev pub shown_numbers : List (Option ℤ) → List ℤ
shown_numbers shown = map (λ value. unwrap_or value (pos 0)) shown

-- the hidden set, by a flag for each cell, whose texts these bytes are, or the first bad line
abbrev pub hidden_read : BookView → List (List (List ℕ)) → ℕ → List (List ℕ) → Result (List Bool) LinePlace
hidden_read book names decimals files = map_ok flags_of (release_read book names decimals false files)

-- the numbers whose texts these bytes are, or the first bad line
abbrev pub rounded_read : BookView → List (List (List ℕ)) → ℕ → List (List ℕ) → Result (List ℤ) LinePlace
rounded_read book names decimals files = map_ok shown_numbers (release_read book names decimals true files)

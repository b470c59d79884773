-- Where the tables of a release differ from the texts of a hidden set (own).
use Rattle.std.specs.Prelude.{ℕ, ◌+◌, ◌==◌, Bool, List, [], ◌∷◌, if◌then◌else◌, Option, None, Some, Result, Ok}
use Rattle.std.specs.Option.{option_and_then}
use Rattle.sdc_base.specs.Steps.{◌>>=◌}
use Rattle.sdc_base.specs.TableText.{table_text}
use Rattle.sdc_base.specs.declared.dimension.Dimension.{Dimension}
use Rattle.linked_tables.specs.BookViews.{BookView}
use Rattle.linked_tables.specs.BookCells.{number_of}
use Rattle.release_writer.specs.ShownCells.{open_truth}
use Rattle.worlds.specs.WorldFaults.{refuse_at}
use Rattle.worlds.specs.ProtectFaults.{line_number}
use Rattle.cert_check.specs.declared.faults.CheckFault.{CheckFault}
use Rattle.cert_check.specs.declared.faults.CheckFault.TheVariants as fault

-- the line after a byte: the next one after LF
abbrev pub line_after : ℕ → ℕ → ℕ
line_after b line = if b == 10 then line + 1 else line

-- The line, counted from this one, in which two texts first differ. Each line ends with LF, and a missing or a further
-- line differs, as does one whose LF is missing.
abbrev pub differing_line : ℕ → List ℕ → List ℕ → Option ℕ
differing_line line [] [] = None
differing_line line [] (y ∷ ys) = Some line
differing_line line (x ∷ xs) [] = Some line
differing_line line (x ∷ xs) (y ∷ ys) = if x == y then differing_line (line_after x line) xs ys else Some line

-- the text of a table in which each cell shows its truth, unless it is hidden
abbrev pub hiding_text : BookView → List Bool → ℕ → List Dimension → List (List ℕ) → List ℕ
hiding_text book flags decimals table names =
    table_text book.trees table names decimals
    (λ name. option_and_then (open_truth book.marks flags) (number_of book name))

-- table t is refused at its first line that differs from that text
abbrev pub table_fault : BookView → List Bool → ℕ → ℕ → List Dimension → List (List ℕ) → List ℕ
    → Result (Unit {0}) CheckFault
table_fault book flags decimals t table names bytes =
    refuse_at (λ line. fault.Release t (line_number line))
    (differing_line 1 bytes (hiding_text book flags decimals table names))

-- the first fault of the tables from number t on, each with its names and its bytes
abbrev pub tables_fault : BookView → List Bool → ℕ → ℕ → List (List Dimension) → List (List (List ℕ)) → List (List ℕ)
    → Result (Unit {0}) CheckFault
tables_fault book flags decimals t (table ∷ tables) (names ∷ others) (bytes ∷ files) =
    table_fault book flags decimals t table names bytes
    >>= λ _. tables_fault book flags decimals (t + 1) tables others files
tables_fault book flags decimals t tables names files = Ok tt

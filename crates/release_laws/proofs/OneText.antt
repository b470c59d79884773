-- What tables are to show, and how they are read as numbers, rests on trees, tables and truths of a book alone.
use Rattle.std.proofs.Common.{◌≡◌, ℕ, ◌+◌, Bool, true, List, [], ◌∷◌, map, slice_get, slice_index_or, Option, None, Some, Result, if◌then◌else◌, ℤ, refl, ap, ap₂, sym, ◌∙◌}
use Rattle.std.proofs.Math.Path.{fun_ext}
use Rattle.std.proofs.lemmas.Option.{slice_get-map}
use Rattle.std.specs.Option.{option_and_then}
use Rattle.sdc_base.specs.Cells.{places, trees_of}
use Rattle.sdc_base.specs.Steps.{◌>>=◌, map_ok, or_fault, refuse}
use Rattle.sdc_base.specs.TableText.{line_text, table_text}
use Rattle.sdc_base.specs.Trees.{Tree}
use Rattle.sdc_base.specs.declared.dimension.Dimension.{Dimension}
use Rattle.linked_tables.specs.BookViews.{BookView}
use Rattle.linked_tables.specs.BookCells.{name_in_table, number_of}
use Rattle.linked_tables.specs.declared.mark.Mark.{Mark}
use Rattle.release_writer.specs.ReleaseReading.{ReleaseSoFar, LinePlace, is_left, shown_numbers, read_place, read_places, read_table, read_tables, reading_after, rounded_read}
use Rattle.release_writer.specs.LineChoices.{Template, rest_behind, value_there}
use Rattle.release_writer.specs.ShownCells.{open_truth}
use Rattle.worlds.specs.ProtectFaults.{line_number}
use Rattle.worlds.specs.WorldFaults.{refuse_at}
use Rattle.cert_check.specs.OwnTexts.{hiding_texts}
use Rattle.cert_check.specs.ReleaseLines.{differing_line, hiding_text, tables_fault}
use Rattle.cert_check.specs.declared.faults.CheckFault.{CheckFault}
use Rattle.cert_check.specs.declared.faults.CheckFault.TheVariants as fault

-- both books have the same trees, the same tables and the same truths
pub record AreAlike (one other : BookView) : Type 0 where
  pub trees : one.trees ≡ other.trees
  pub tables : one.tables ≡ other.tables
  pub truths : map (λ mark. mark.facts.truth) one.marks ≡ map (λ mark. mark.facts.truth) other.marks

-- ---- what tables are to show

-- what a cell shows, by the truths
abbrev shown_by : List ℤ → List Bool → ℕ → Option ℤ
shown_by truths flags cell = if slice_index_or flags cell Bool.false then None else slice_get truths cell

shown-same : (one other : List Mark) (flags : List Bool) → map (λ mark. mark.facts.truth) one ≡ map (λ mark. mark.facts.truth) other → open_truth one flags ≡ open_truth other flags
shown-same one other flags same = fun_ext (λ cell.
    ap (λ (o : Option ℤ). if slice_index_or flags cell Bool.false then None else o)
    (sym (slice_get-map (λ (mark : Mark). mark.facts.truth) one cell) ∙ ap (λ (truths : List ℤ). slice_get truths cell) same ∙ slice_get-map (λ (mark : Mark). mark.facts.truth) other cell))

text-same : (one other : BookView) (flags : List Bool) (decimals : ℕ) (table : List Dimension) (names : List (List ℕ)) → AreAlike one other → hiding_text one flags decimals table names ≡ hiding_text other flags decimals table names
text-same one other flags decimals table names alike =
    ap (λ (shown : ℕ → Option ℤ). table_text one.trees table names decimals (λ name. option_and_then shown (number_of one name))) (shown-same one.marks other.marks flags alike.truths)
    ∙ ap₂ (λ (trees : List Tree) (tables : List (List Dimension)). table_text trees table names decimals (λ name. option_and_then (open_truth other.marks flags) (number_of (record { trees = trees; tables = tables; marks = other.marks }) name))) alike.trees alike.tables

-- so are the texts of a hidden set
pub texts-same : (one other : BookView) (flags : List Bool) (decimals : ℕ) (tables : List (List Dimension)) (names : List (List (List ℕ))) → AreAlike one other → hiding_texts one flags decimals tables names ≡ hiding_texts other flags decimals tables names
texts-same one other flags decimals [] names alike = refl
texts-same one other flags decimals (table ∷ tables) [] alike = refl
texts-same one other flags decimals (table ∷ tables) (own ∷ names) alike =
    ap₂ (λ (text : List ℕ) (rest : List (List ℕ)). text ∷ rest) (text-same one other flags decimals table own alike) (texts-same one other flags decimals tables names alike)

pub tables-same : (one other : BookView) (flags : List Bool) (decimals t : ℕ) (tables : List (List Dimension)) (names : List (List (List ℕ))) (files : List (List ℕ)) → AreAlike one other
    → tables_fault one flags decimals t tables names files ≡ tables_fault other flags decimals t tables names files
tables-same one other flags decimals t [] names files alike = refl
tables-same one other flags decimals t (table ∷ tables) [] files alike = refl
tables-same one other flags decimals t (table ∷ tables) (own ∷ names) [] alike = refl
tables-same one other flags decimals t (table ∷ tables) (own ∷ names) (bytes ∷ files) alike =
    ap₂ (λ (first rest : Result (Unit {0}) CheckFault). first >>= λ _. rest)
    (ap (λ (text : List ℕ). refuse_at (λ line. fault.Release t (line_number line)) (differing_line 1 bytes text)) (text-same one other flags decimals table own alike))
    (tables-same one other flags decimals (t + 1) tables names files alike)

-- ---- how tables are read as numbers

-- a book of these trees and tables with these marks
abbrev held : List Tree → List (List Dimension) → List Mark → BookView
held trees tables marks = record { trees = trees; tables = tables; marks = marks }

-- a table of it, to be read as numbers
abbrev form : List Tree → List (List Dimension) → ℕ → List Dimension → ℕ → List Mark → Template
form trees tables t table decimals marks = record { book = held trees tables marks; t = t; table = table; decimals = decimals; rounded = true }

value-same : (trees : List Tree) (tables : List (List Dimension)) (t : ℕ) (table : List Dimension) (decimals : ℕ) (one other : List Mark) (place bytes : List ℕ) (cell : ℕ) (earlier : Option (Option ℤ))
    → value_there (form trees tables t table decimals one) place bytes cell earlier ≡ value_there (form trees tables t table decimals other) place bytes cell earlier
value-same trees tables t table decimals one other place bytes cell None = refl
value-same trees tables t table decimals one other place bytes cell (Some value) = refl

place-same : (trees : List Tree) (tables : List (List Dimension)) (t : ℕ) (table : List Dimension) (decimals : ℕ) (one other : List Mark) (reading : ReleaseSoFar) (place : List ℕ)
    → read_place (form trees tables t table decimals one) reading place ≡ read_place (form trees tables t table decimals other) reading place
unfolding read_place
place-same trees tables t table decimals one other reading place =
    ap (λ (next : ℕ → Result ReleaseSoFar LinePlace). or_fault (t, reading.line) (number_of (held trees tables one) (name_in_table (held trees tables one) table place)) >>= next)
    (fun_ext (λ cell. ap (λ (found : Option (Option ℤ × List ℕ)). or_fault (t, reading.line) found >>= λ it. reading_after reading cell it)
    (value-same trees tables t table decimals one other place reading.rest cell (slice_get reading.shown cell))))

places-same : (trees : List Tree) (tables : List (List Dimension)) (t : ℕ) (table : List Dimension) (decimals : ℕ) (one other : List Mark) (reading : ReleaseSoFar) (rest : List (List ℕ))
    → read_places (form trees tables t table decimals one) reading rest ≡ read_places (form trees tables t table decimals other) reading rest
places-same trees tables t table decimals one other reading [] = refl
places-same trees tables t table decimals one other reading (place ∷ rest) =
    ap₂ (λ (first : Result ReleaseSoFar LinePlace) (next : ReleaseSoFar → Result ReleaseSoFar LinePlace). first >>= next)
    (place-same trees tables t table decimals one other reading place)
    (fun_ext (λ next. places-same trees tables t table decimals one other next rest))

table-same : (trees : List Tree) (tables : List (List Dimension)) (t : ℕ) (table : List Dimension) (decimals : ℕ) (one other : List Mark) (names : List (List ℕ)) (bytes : List ℕ) (shown : List (Option ℤ))
    → read_table (form trees tables t table decimals one) names bytes shown ≡ read_table (form trees tables t table decimals other) names bytes shown
unfolding read_table
table-same trees tables t table decimals one other names bytes shown =
    ap (λ (next : List ℕ → Result (List (Option ℤ)) LinePlace). or_fault (t, 1) (rest_behind (line_text names) bytes) >>= next)
    (fun_ext (λ rest. ap (λ (all : Result ReleaseSoFar LinePlace). all >>= λ it. refuse (t, it.line) (is_left it.rest) >>= λ _. Result.Ok it.shown)
    (places-same trees tables t table decimals one other (record { shown = shown; rest = rest; line = 2 }) (places (trees_of trees table)))))

all-same : (trees : List Tree) (tables : List (List Dimension)) (t : ℕ) (decimals : ℕ) (one other : List Mark) (left : List (List Dimension)) (names : List (List (List ℕ))) (files : List (List ℕ)) (shown : List (Option ℤ))
    → read_tables (held trees tables one) decimals true t left names files shown ≡ read_tables (held trees tables other) decimals true t left names files shown
unfolding read_tables
all-same trees tables t decimals one other [] names files shown = refl
all-same trees tables t decimals one other (table ∷ left) [] files shown = refl
all-same trees tables t decimals one other (table ∷ left) (own ∷ names) [] shown = refl
all-same trees tables t decimals one other (table ∷ left) (own ∷ names) (bytes ∷ files) shown =
    ap₂ (λ (first : Result (List (Option ℤ)) LinePlace) (next : List (Option ℤ) → Result (List (Option ℤ)) LinePlace). first >>= next)
    (table-same trees tables t table decimals one other own bytes shown)
    (fun_ext (λ next. all-same trees tables (t + 1) decimals one other left names files next))

pub rounded-same : (one other : BookView) (names : List (List (List ℕ))) (decimals : ℕ) (files : List (List ℕ)) → AreAlike one other → rounded_read one names decimals files ≡ rounded_read other names decimals files
rounded-same one other names decimals files alike =
    ap (map_ok shown_numbers) (all-same one.trees one.tables 0 decimals one.marks other.marks one.tables names files [])
    ∙ ap₂ (λ (trees : List Tree) (tables : List (List Dimension)). rounded_read (held trees tables other.marks) names decimals files) alike.trees alike.tables

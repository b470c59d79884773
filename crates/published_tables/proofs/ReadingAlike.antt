-- Tables are read by the trees, the tables and the truths of a book alone.
use Rattle.std.proofs.Common.{◌≡◌, ℕ, zero, suc, ◌+◌, Bool, true, false, List, [], ◌∷◌, map, Option, None, Some, refl, ap, sym, ◌∙◌, arith, ℤ}
use Rattle.std.specs.Prelude.{slice_get, option_map, length}
use Rattle.sdc_base.proofs.StepLemmas.{bind_same}
use Rattle.sdc_base.specs.Steps.{map_fault, map_ok, or_fault}
use Rattle.sdc_base.specs.Cells.{places, trees_of}
use Rattle.sdc_base.specs.Records.{Name}
use Rattle.sdc_base.specs.TableText.{line_text}
use Rattle.sdc_base.specs.Trees.{Tree}
use Rattle.sdc_base.specs.declared.dimension.Dimension.{Dimension}
use Rattle.sdc_base.specs.declared.cell.Cell.{Cell}
use Rattle.apriori.specs.Settling.{SettledCell, view_of_cell}
use Rattle.linked_tables.specs.BookViews.{BookView}
use Rattle.linked_tables.specs.BookCells.{name_in_table, number_of}
use Rattle.linked_tables.specs.declared.mark.Mark.{Mark}
use Rattle.release_writer.specs.ReleaseReading.{ReleaseSoFar, read_place, read_places, read_table, read_tables, release_read, hidden_read, rounded_read, flags_of, shown_numbers}
use Rattle.release_writer.specs.LineChoices.{Template, rest_behind, truth_of, value_there}
use Rattle.worlds.specs.ProtectFaults.{fixed_hidden}
use Rattle.cert_check.specs.RoundedRelease.{at_line}
use Rattle.job_inputs.proofs.Facts.{facts-in}
use Rattle.job_inputs.specs.Cells.{cells, truth_in}
use Rattle.job_inputs.specs.ClassifiedJobs.{SettledInputs, IsSettledOf}
use Rattle.job_inputs.specs.Tables.{names_of}
use Rattle.job_inputs.specs.TabulatedBooks.{IsBookOf}
use Rattle.job_inputs.specs.declared.described.DescribedJob.{DescribedJob}
use Rattle.job_inputs.specs.declared.inputs.Inputs.{Inputs}
use Rattle.job_inputs.specs.declared.settled.ClassifiedJob.{ClassifiedJob}
use Rattle.published_tables.specs.HiddenLines.{flags_in, lines_read}
use Rattle.published_tables.specs.ShownValues.{values_read}

-- a book by its parts
abbrev held : List Tree → List (List Dimension) → List Mark → BookView
held trees tables marks = record { trees = trees; tables = tables; marks = marks }

-- table t of a release that hides cells or rounds
abbrev form : BookView → Bool → ℕ → List Dimension → ℕ → Template
form book rounded t table decimals = record { book = book; t = t; table = table; decimals = decimals; rounded = rounded }

-- the marks of two books have the same truths
abbrev HaveSameTruths : List Mark → List Mark → Type 0
HaveSameTruths ones others = (cell : ℕ) → truth_of ones cell ≡ truth_of others cell

same_value : (trees : List Tree) (tables : List (List Dimension)) (ones others : List Mark) (rounded : Bool) (t : ℕ) (table : List Dimension) (decimals : ℕ) (place bytes : List ℕ) (cell : ℕ) (shown : Option (Option ℤ)) → HaveSameTruths ones others
    → value_there (form (held trees tables ones) rounded t table decimals) place bytes cell shown ≡ value_there (form (held trees tables others) rounded t table decimals) place bytes cell shown
same_value trees tables ones others true t table decimals place bytes cell None same = refl
same_value trees tables ones others false t table decimals place bytes cell None same = rw (same cell) refl
same_value trees tables ones others rounded t table decimals place bytes cell (Some value) same = refl

same_place : (trees : List Tree) (tables : List (List Dimension)) (ones others : List Mark) (rounded : Bool) (t : ℕ) (table : List Dimension) (decimals : ℕ) (reading : ReleaseSoFar) (place : List ℕ) → HaveSameTruths ones others
    → read_place (form (held trees tables ones) rounded t table decimals) reading place ≡ read_place (form (held trees tables others) rounded t table decimals) reading place
unfolding read_place
same_place trees tables ones others rounded t table decimals reading place same =
    bind_same (or_fault (t, reading.line) (number_of (held trees tables ones) (name_in_table (held trees tables ones) table place))) _ _
    (λ cell. rw (same_value trees tables ones others rounded t table decimals place reading.rest cell (slice_get reading.shown cell) same) refl)

same_places : (trees : List Tree) (tables : List (List Dimension)) (ones others : List Mark) (rounded : Bool) (t : ℕ) (table : List Dimension) (decimals : ℕ) (reading : ReleaseSoFar) (all : List (List ℕ)) → HaveSameTruths ones others
    → read_places (form (held trees tables ones) rounded t table decimals) reading all ≡ read_places (form (held trees tables others) rounded t table decimals) reading all
same_places trees tables ones others rounded t table decimals reading [] same = refl
same_places trees tables ones others rounded t table decimals reading (place ∷ rest) same =
    rw (same_place trees tables ones others rounded t table decimals reading place same)
    (bind_same (read_place (form (held trees tables others) rounded t table decimals) reading place) _ _ (λ next. same_places trees tables ones others rounded t table decimals next rest same))

same_table : (trees : List Tree) (tables : List (List Dimension)) (ones others : List Mark) (rounded : Bool) (t : ℕ) (table : List Dimension) (decimals : ℕ) (names : List (List ℕ)) (bytes : List ℕ) (shown : List (Option ℤ)) → HaveSameTruths ones others
    → read_table (form (held trees tables ones) rounded t table decimals) names bytes shown ≡ read_table (form (held trees tables others) rounded t table decimals) names bytes shown
unfolding read_table
same_table trees tables ones others rounded t table decimals names bytes shown same =
    bind_same (or_fault (t, 1) (rest_behind (line_text names) bytes)) _ _
    (λ rest. rw (same_places trees tables ones others rounded t table decimals (record { shown = shown; rest = rest; line = 2 }) (places (trees_of trees table)) same) refl)

same_tables : (trees : List Tree) (tables : List (List Dimension)) (ones others : List Mark) (rounded : Bool) (decimals t : ℕ) (some : List (List Dimension)) (names : List (List (List ℕ))) (files : List (List ℕ)) (shown : List (Option ℤ)) → HaveSameTruths ones others
    → read_tables (held trees tables ones) decimals rounded t some names files shown ≡ read_tables (held trees tables others) decimals rounded t some names files shown
unfolding read_tables
same_tables trees tables ones others rounded decimals t [] names files shown same = refl
same_tables trees tables ones others rounded decimals t (table ∷ some) [] files shown same = refl
same_tables trees tables ones others rounded decimals t (table ∷ some) (own ∷ names) [] shown same = refl
same_tables trees tables ones others rounded decimals t (table ∷ some) (own ∷ names) (bytes ∷ files) shown same =
    rw (same_table trees tables ones others rounded t table decimals own bytes shown same)
    (bind_same (read_table (form (held trees tables others) rounded t table decimals) own bytes shown) _ _ (λ next. same_tables trees tables ones others rounded decimals (t + 1) some names files next same))

-- a release is read alike by books of the same truths
release_alike : (one other : BookView) (names : List (List (List ℕ))) (decimals : ℕ) (rounded : Bool) (files : List (List ℕ)) → one.trees ≡ other.trees → one.tables ≡ other.tables → HaveSameTruths one.marks other.marks
    → release_read one names decimals rounded files ≡ release_read other names decimals rounded files
release_alike one other names decimals rounded files trees tables same =
    let first : release_read one names decimals rounded files ≡ release_read (held other.trees other.tables one.marks) names decimals rounded files = rw (← trees, ← tables) refl in
    first ∙ same_tables other.trees other.tables one.marks other.marks rounded decimals 0 other.tables names files [] same

truths_at : (truth : Name → ℤ) (names : List Name) (marks : List Mark) → length names ≡ length marks → ((k : ℕ) (name : Name) (mark : Mark) → slice_get names k ≡ Some name → slice_get marks k ≡ Some mark → mark.facts.truth ≡ truth name)
    → (cell : ℕ) → truth_of marks cell ≡ option_map truth (slice_get names cell)
truths_at truth [] [] many is cell = refl
truths_at truth [] (mark ∷ marks) many is cell = absurd cc
truths_at truth (name ∷ names) [] many is cell = absurd cc
truths_at truth (name ∷ names) (mark ∷ marks) many is zero = ap Some (is 0 name mark refl refl)
truths_at truth (name ∷ names) (mark ∷ marks) many is (suc cell) = truths_at truth names marks (omega (arith, many)) (λ k other one at holds. is (suc k) other one at holds) cell

-- marks of the same inputs have the same truths
same_truths : (inputs : Inputs) (one other : BookView) → IsBookOf inputs one → IsBookOf inputs other → HaveSameTruths one.marks other.marks
same_truths inputs one other is_one is_other cell =
    let here = facts-in inputs one is_one in
    let there = facts-in inputs other is_other in
    truths_at (truth_in inputs) (cells inputs) one.marks here.one_each (λ k name mark at holds. (here.each k name mark at holds).0.truth) cell
    ∙ sym (truths_at (truth_in inputs) (cells inputs) other.marks there.one_each (λ k name mark at holds. (there.each k name mark at holds).0.truth) cell)

-- so the tables of all jobs of the same settled inputs are read alike
jobs_alike : (settled : SettledInputs) (one other : ClassifiedJob) (names : List (List (List ℕ))) (decimals : ℕ) (rounded : Bool) (files : List (List ℕ)) → IsSettledOf settled one → IsSettledOf settled other
    → release_read one.book names decimals rounded files ≡ release_read other.book names decimals rounded files
jobs_alike settled one other names decimals rounded files is_one is_other =
    release_alike one.book other.book names decimals rounded files (is_one.book.trees ∙ sym is_other.book.trees) (is_one.book.tables ∙ sym is_other.book.tables) (same_truths settled.inputs one.book other.book is_one.book is_other.book)

-- ---- what tables hide

same_fixed : (flags : List Bool) (number : ℕ) (ones others : List Cell) → map view_of_cell ones ≡ map view_of_cell others → fixed_hidden flags number ones ≡ fixed_hidden flags number others
same_fixed flags number [] [] same = refl
same_fixed flags number [] (cell ∷ others) same = absurd cc
same_fixed flags number (cell ∷ ones) [] same = absurd cc
same_fixed flags number (cell ∷ ones) (another ∷ others) same =
    let heads : view_of_cell cell ≡ view_of_cell another = cc in
    let tails : map view_of_cell ones ≡ map view_of_cell others = cc in
    let kinds : cell.kind ≡ another.kind = ap (λ (one : SettledCell). one.kind) heads in
    rw (kinds, same_fixed flags (number + 1) ones others tails) refl

same_flags : (one other : ClassifiedJob) (tables : List (List ℕ)) → lines_read one tables ≡ lines_read other tables → ((flags : List Bool) → fixed_hidden flags 0 one.cells ≡ fixed_hidden flags 0 other.cells) → flags_in one tables ≡ flags_in other tables
unfolding flags_in
same_flags one other tables lines fixed = rw lines (bind_same (lines_read other tables) _ _ (λ flags. rw (fixed flags) refl))

-- tables show one hidden set, or have one first fault, for all jobs of the same settled inputs
pub flags_alike : (settled : SettledInputs) (one other : ClassifiedJob) (tables : List (List ℕ)) → IsSettledOf settled one → IsSettledOf settled other → flags_in one tables ≡ flags_in other tables
flags_alike settled one other tables is_one is_other =
    let described = is_one.described ∙ sym is_other.described in
    let alike = ap (map_ok flags_of) (jobs_alike settled one other (map names_of other.described.job.tables) other.described.bound.decimals false tables is_one is_other) in
    let lines : lines_read one tables ≡ lines_read other tables = ap (λ (d : DescribedJob). map_fault at_line (hidden_read one.book (map names_of d.job.tables) d.bound.decimals tables)) described ∙ ap (map_fault at_line) alike in
    same_flags one other tables lines (λ flags. same_fixed flags 0 one.cells other.cells (is_one.cells ∙ sym is_other.cells))

-- ---- which numbers rounded tables show

-- tables show the same numbers, or have one first bad line, for all jobs of the same settled inputs
pub values_alike : (settled : SettledInputs) (one other : ClassifiedJob) (tables : List (List ℕ)) → IsSettledOf settled one → IsSettledOf settled other → values_read one tables ≡ values_read other tables
values_alike settled one other tables is_one is_other =
    let described = is_one.described ∙ sym is_other.described in
    let alike = ap (map_ok shown_numbers) (jobs_alike settled one other (map names_of other.described.job.tables) other.described.bound.decimals true tables is_one is_other) in
    ap (λ (d : DescribedJob). map_fault at_line (rounded_read one.book (map names_of d.job.tables) d.bound.decimals tables)) described ∙ ap (map_fault at_line) alike

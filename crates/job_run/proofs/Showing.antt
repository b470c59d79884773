-- What the tables of a job show.
use Rattle.std.proofs.Common.{◌≡◌, ℕ, zero, suc, ◌<◌, Bool, true, false, cond, ◌||◌, List, [], ◌∷◌, ◌++◌, length, Option, None, Some, option_map, refl, ap, sym, ◌∙◌, arith, ℤ}
use Rattle.std.specs.Prelude.{slice_get, slice_index_or, is_some, bytes_eq, flat_map}
use Rattle.std.specs.Option.{option_and_then, option_map_or}
use Rattle.std.proofs.lemmas.Slice.Eq.{bytes_eq-Decides}
use Rattle.sdc_base.proofs.Places.{places_are_lexicographic}
use Rattle.sdc_base.specs.CellOrder.{is_place_in}
use Rattle.sdc_base.specs.HiddenSets.{is_hidden}
use Rattle.sdc_base.specs.Cells.{places, trees_of, name_of, cells_of, is_named as is_among}
use Rattle.sdc_base.specs.Records.{Name}
use Rattle.sdc_base.specs.Relations.{number_among}
use Rattle.sdc_base.specs.RuleLevels.{keep_of}
use Rattle.sdc_base.specs.Sums.{truth}
use Rattle.sdc_base.specs.TableText.{line_text, codes_of_place, shown_text, table_text}
use Rattle.sdc_base.specs.Trees.{Tree}
use Rattle.sdc_base.specs.declared.dimension.Dimension.{Dimension}
use Rattle.sdc_base.specs.declared.rows.Row.{Row}
use Rattle.linked_tables.proofs.Finding.{named-found, found-name, place-named}
use Rattle.linked_tables.specs.BookViews.{BookView}
use Rattle.linked_tables.specs.BookCells.{cells as cells_in, number_of}
use Rattle.linked_tables.specs.declared.mark.Mark.{Mark}
use Rattle.release_writer.specs.ShownCells.{open_truth, release_text}
use Rattle.release_writer.specs.declared.shown.Shown.{Shown}
use Rattle.release_writer.specs.declared.shown.Shown.TheVariants as shown
use Rattle.tabulate.proofs.Finish.{read-within}
use Rattle.tabulate.specs.TabulatedMarks.{AreTabulated}
use Rattle.job_inputs.proofs.Placing.{get-within}
use Rattle.job_inputs.specs.TabulatedBooks.{IsBookOf}
use Rattle.job_inputs.specs.declared.inputs.Inputs.{Inputs}
use Rattle.job_run.specs.Books.{shown_by}
use Rattle.job_run.specs.Releases.{shown_in, table_of, value_in}

-- ---- the text of a table

itself : (xs : List ℕ) → bytes_eq xs xs ≡ true
itself xs = (bytes_eq-Decides xs xs).1 refl

or-true : (a : Bool) → (a || true) ≡ true
or-true true = refl
or-true false = refl

-- lines that are alike for each of these
same-lines : (f g : List ℕ → List ℕ) (xs : List (List ℕ)) → ((x : List ℕ) → is_among xs x ≡ true → f x ≡ g x) → flat_map f xs ≡ flat_map g xs
same-lines f g [] same = refl
same-lines f g (x ∷ xs) same =
    let here : is_among (x ∷ xs) x ≡ true = ap (λ (t : Bool). t || is_among xs x) (itself x) in
    let later = same-lines f g xs (λ y is. same y (ap (λ (t : Bool). bytes_eq y x || t) is ∙ or-true (bytes_eq y x))) in
    ap (λ (t : List ℕ). t ++ flat_map f xs) (same x here) ∙ ap (λ (t : List ℕ). g x ++ t) later

-- a table's text rests on what the cells of its places show
pub same-text : (trees : List Tree) (table : List Dimension) (header : List (List ℕ)) (decimals : ℕ) (one other : Name → Option ℤ)
    → ((place : List ℕ) → is_place_in (trees_of trees table) place ≡ true → one (name_of (length trees) table place) ≡ other (name_of (length trees) table place))
    → table_text trees table header decimals one ≡ table_text trees table header decimals other
same-text trees table header decimals one other same =
    ap (λ (t : List ℕ). line_text header ++ t)
    (same-lines
    (λ place. line_text (codes_of_place (trees_of trees table) place ++ shown_text decimals (one (name_of (length trees) table place)) ∷ []))
    (λ place. line_text (codes_of_place (trees_of trees table) place ++ shown_text decimals (other (name_of (length trees) table place)) ∷ []))
    (places (trees_of trees table))
    (λ place is. ap (λ (number : Option ℤ). line_text (codes_of_place (trees_of trees table) place ++ shown_text decimals number ∷ []))
    (same place (sym (places_are_lexicographic.all (trees_of trees table) place) ∙ is))))

some-is : (o : Option ℕ) → is_some o ≡ true → (k : ℕ) × (o ≡ Some k)
some-is None h = absurd cc
some-is (Some k) h = (k, refl)

-- what a release shows for a name, by trees and tables
abbrev open_by : List Tree → List (List Dimension) → List Row → List Bool → Name → Option ℤ
open_by trees tables rows flags name = cond (option_map_or (is_hidden flags) (number_among (cells_of trees tables) name) false) None (Some (truth trees name rows))

-- a cell of the book shows its truth over the records, unless it is hidden
shows-right : (book : BookView) (rows : List Row) (keep scale : ℕ) (flags : List Bool) (name : Name) → AreTabulated book rows keep scale → length book.marks ≡ length (cells_in book)
    → is_among (cells_in book) name ≡ true → option_and_then (open_truth book.marks flags) (number_of book name) ≡ open_by book.trees book.tables rows flags name
shows-right book rows keep scale flags name told many there =
    let found = some-is (number_of book name) (named-found (cells_in book) name ∙ there) in
    let at : slice_get (cells_in book) found.0 ≡ Some name = found-name (cells_in book) name found.0 found.1 in
    let mark = read-within book.marks found.0 (omega (arith, many, get-within (cells_in book) found.0 name at)) in
    let tells = told found.0 name mark.0 at mark.1 in
    ap (option_and_then (open_truth book.marks flags)) found.1
    ∙ ap (λ (o : Option Mark). cond (is_hidden flags found.0) None (option_map (λ (m : Mark). m.facts.truth) o)) mark.1
    ∙ ap (λ (t : ℤ). cond (is_hidden flags found.0) None (Some t)) tells.truth_is
    ∙ sym (ap (λ (o : Option ℕ). cond (option_map_or (is_hidden flags) o false) None (Some (truth book.trees name rows))) found.1)

get-at : (xs : List (List Dimension)) (k : ℕ) → k < length xs → slice_get xs k ≡ Some (slice_index_or xs k [])
get-at [] k h = absurd (omega (arith, h))
get-at (x ∷ xs) zero h = refl
get-at (x ∷ xs) (suc k) h = get-at xs k (omega (arith, h))

-- what the release of inputs shows, by the trees and tables of their book
shown-same : (inputs : Inputs) (book : BookView) (flags : List Bool) (name : Name) → IsBookOf inputs book → open_by book.trees book.tables inputs.records.rows flags name ≡ shown_in inputs flags name
shown-same inputs book flags name is =
    ap (λ (trees : List Tree). open_by trees book.tables inputs.records.rows flags name) is.trees
    ∙ ap (λ (tables : List (List Dimension)). open_by inputs.records.trees tables inputs.records.rows flags name) is.tables

-- a table by the trees and tables of the inputs
table-same : (inputs : Inputs) (book : BookView) (shown : Name → Option ℤ) (t : ℕ) (header : List (List ℕ)) → IsBookOf inputs book
    → table_text book.trees (slice_index_or book.tables t []) header inputs.described.bound.decimals shown ≡ table_of inputs shown t header
table-same inputs book shown t header is =
    ap (λ (trees : List Tree). table_text trees (slice_index_or book.tables t []) header inputs.described.bound.decimals shown) is.trees
    ∙ ap (λ (tables : List (List Dimension)). table_text inputs.records.trees (slice_index_or tables t []) header inputs.described.bound.decimals shown) is.tables

-- the text of a table of the book with cells hidden is that of its records
pub hidden-shown : (inputs : Inputs) (book : BookView) (flags : List Bool) (t : ℕ) (header : List (List ℕ)) → IsBookOf inputs book → t < length book.tables
    → table_text book.trees (slice_index_or book.tables t []) header inputs.described.bound.decimals (λ name. option_and_then (open_truth book.marks flags) (number_of book name)) ≡ table_of inputs (shown_in inputs flags) t header
hidden-shown inputs book flags t header is within =
    let rows = inputs.records.rows in
    let table = slice_index_or book.tables t [] in
    let decimals = inputs.described.bound.decimals in
    let here = same-text book.trees table header decimals (λ name. option_and_then (open_truth book.marks flags) (number_of book name)) (shown_in inputs flags)
    (λ place inside. shows-right book rows (keep_of inputs.described.job.rules.list) inputs.described.bound.scale flags (name_of (length book.trees) table place) is.told is.one_each
    (place-named book.trees book.tables t table place (get-at book.tables t within) inside)
    ∙ shown-same inputs book flags (name_of (length book.trees) table place) is) in
    here ∙ table-same inputs book (shown_in inputs flags) t header is

-- the text of a table of the book with these values is that of the inputs
pub values-shown : (inputs : Inputs) (book : BookView) (values : List ℤ) (t : ℕ) (header : List (List ℕ)) → IsBookOf inputs book
    → table_text book.trees (slice_index_or book.tables t []) header inputs.described.bound.decimals (λ name. option_and_then (slice_get values) (number_of book name)) ≡ table_of inputs (value_in inputs values) t header
values-shown inputs book values t header is =
    ap (λ (trees : List Tree). table_text book.trees (slice_index_or book.tables t []) header inputs.described.bound.decimals (λ name. option_and_then (slice_get values) (number_among (cells_of trees book.tables) name))) is.trees
    ∙ ap (λ (tables : List (List Dimension)). table_text book.trees (slice_index_or book.tables t []) header inputs.described.bound.decimals (λ name. option_and_then (slice_get values) (number_among (cells_of inputs.records.trees tables) name))) is.tables
    ∙ table-same inputs book (value_in inputs values) t header is

-- the text of a table of the book is that of the inputs
pub table-shown : (inputs : Inputs) (book : BookView) (how : Shown) (t : ℕ) (header : List (List ℕ)) → IsBookOf inputs book → t < length book.tables
    → release_text book t header inputs.described.bound.decimals how ≡ table_of inputs (shown_by inputs how) t header
table-shown inputs book (shown.Hidden hidden) t header is within = hidden-shown inputs book hidden.now.flags t header is within
table-shown inputs book (shown.Rounded values) t header is within = values-shown inputs book values.now t header is

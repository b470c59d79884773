-- The truths of a job's cells are those of its records, and the relations hold on them.
use Rattle.std.proofs.Common.{◌≡◌, ℕ, zero, suc, ◌<◌, List, [], ◌∷◌, length, map, slice_get, slice_index, slice_index_or, All, Some, arith, refl, ap, sym, subst, ◌∙◌, ℤ}
use Rattle.std.specs.List.{AllByRecursion}
use Rattle.std.proofs.lemmas.List.Elements.{All-nil, All-cons}
use Rattle.sdc_base.specs.AddingUp.{IsCoded}
use Rattle.sdc_base.specs.Records.{Name}
use Rattle.sdc_base.specs.Sums.{truth}
use Rattle.sdc_base.specs.Systems.{Numbers, HoldOn, number_at}
use Rattle.sdc_base.specs.Trees.{Tree, children}
use Rattle.sdc_base.specs.declared.cell.Cell.{Cell}
use Rattle.sdc_base.specs.declared.relation.Relation.{Relation}
use Rattle.sdc_base.specs.declared.rows.Row.{Row}
use Rattle.linked_tables.specs.BookViews.{BookView}
use Rattle.linked_tables.specs.BookCells.{cells as cells_in}
use Rattle.linked_tables.specs.declared.mark.Mark.{Mark}
use Rattle.microdata.specs.Leaves.{AreLeaves}
use Rattle.microdata.specs.Ranges.{IsRow as IsReadRow}
use Rattle.relations.specs.Holding.{AreTruths, HaveNoChildren, truth_at}
use Rattle.job_inputs.proofs.Facts.{cells-are}
use Rattle.job_inputs.proofs.Filling.{rows-are}
use Rattle.job_inputs.specs.Cells.{truth_in}
use Rattle.job_inputs.specs.SoundJobs.{AreSound}
use Rattle.job_inputs.specs.TabulatedBooks.{IsBookOf}
use Rattle.job_inputs.specs.declared.inputs.Inputs.{Inputs}
use Rattle.job_run.specs.Roundings.{truths_in}

-- ---- records at leaves

coded-rows : (trees : List Tree) (scale : ℕ) (rows : List Row) → AllByRecursion (IsReadRow scale trees) rows → All (IsCoded trees) rows
coded-rows trees scale rows all k d within =
    let row = rows-are trees scale rows all k d within in
    record { coded = row.each; inside = row.inside }

bare-codes : (trees : List Tree) (codes : List ℕ) → AreLeaves trees codes → (variable : ℕ) → variable < length trees → children (slice_index_or trees variable []) (slice_index codes variable) ≡ []
bare-codes [] codes are variable known = absurd (omega (arith, known))
bare-codes (tree ∷ trees) [] are variable known = absurd are
bare-codes (tree ∷ trees) (place ∷ places) are zero known = are.0
bare-codes (tree ∷ trees) (place ∷ places) are (suc variable) known = bare-codes trees places are.1 variable (omega (arith, known))

bare-rows : (trees : List Tree) (rows : List Row) → AllByRecursion (λ (row : Row). AreLeaves trees row.codes) rows → HaveNoChildren trees rows
bare-rows trees [] all = All-nil (λ (row : Row). (variable : ℕ) → variable < length trees → children (slice_index_or trees variable []) (slice_index row.codes variable) ≡ [])
bare-rows trees (row ∷ rows) all =
    All-cons (λ (one : Row). (variable : ℕ) → variable < length trees → children (slice_index_or trees variable []) (slice_index one.codes variable) ≡ []) row rows
    (bare-codes trees row.codes all.0) (bare-rows trees rows all.1)

-- the records of a job have a code for each tree of its book
pub are-coded : (inputs : Inputs) (book : BookView) → AreSound inputs → IsBookOf inputs book → All (IsCoded book.trees) inputs.records.rows
are-coded inputs book sound is =
    subst (λ (trees : List Tree). All (IsCoded trees) inputs.records.rows) (sym is.trees)
    (coded-rows inputs.records.trees inputs.described.bound.scale inputs.records.rows sound.records.rows.each)

-- and none of these has codes below it
pub are-bare : (inputs : Inputs) (book : BookView) → AreSound inputs → IsBookOf inputs book → HaveNoChildren book.trees inputs.records.rows
are-bare inputs book sound is =
    subst (λ (trees : List Tree). HaveNoChildren trees inputs.records.rows) (sym is.trees) (bare-rows inputs.records.trees inputs.records.rows sound.records.leaves)

-- each mark has the truth of its cell over the records
pub are-truths : (inputs : Inputs) (book : BookView) → IsBookOf inputs book → AreTruths book inputs.records.rows
are-truths inputs book is cell name mark named at = (is.told cell name mark named at).truth_is

-- ---- lists of truths

-- a cell's truth by its mark is that in the list of truths
truth-listed : (marks : List Mark) (cell : ℕ) → truth_at marks cell ≡ number_at (map (λ (mark : Mark). mark.facts.truth) marks) cell
truth-listed [] cell = refl
truth-listed (mark ∷ marks) zero = refl
truth-listed (mark ∷ marks) (suc cell) = truth-listed marks cell

-- relations that hold on the truths of marks hold on the list of these
pub holds-on : (marks : List Mark) (truths : List ℤ) (relations : List Relation) → map (λ (mark : Mark). mark.facts.truth) marks ≡ truths → HoldOn (truth_at marks) relations → HoldOn (number_at truths) relations
holds-on marks truths relations same holds =
    let as_list : truth_at marks ≡ number_at (map (λ (mark : Mark). mark.facts.truth) marks) = λ i cell. truth-listed marks cell i in
    subst (λ (list : List ℤ). HoldOn (number_at list) relations) same
    (subst (λ (numbers : Numbers). HoldOn numbers relations) as_list holds)

-- marks that each have what a function says of the name are what it says of the names
pub truths-by_name : (f : Name → ℤ) (names : List Name) (marks : List Mark) → length marks ≡ length names → ((cell : ℕ) (name : Name) (mark : Mark) → slice_get names cell ≡ Some name → slice_get marks cell ≡ Some mark → mark.facts.truth ≡ f name)
    → map (λ (mark : Mark). mark.facts.truth) marks ≡ map f names
truths-by_name f [] [] many each = refl
truths-by_name f [] (mark ∷ marks) many each = absurd (omega (arith, many))
truths-by_name f (name ∷ names) [] many each = absurd (omega (arith, many))
truths-by_name f (name ∷ names) (mark ∷ marks) many each =
    ap (λ (t : ℤ). t ∷ map (λ (one : Mark). one.facts.truth) marks) (each 0 name mark refl refl)
    ∙ ap (λ (ts : List ℤ). f name ∷ ts) (truths-by_name f names marks (omega (arith, many)) (λ cell other one named at. each (suc cell) other one named at))

-- the truths of a job's cells are those of the records
pub truths-are : (inputs : Inputs) (book : BookView) (all : List Cell) → IsBookOf inputs book → map (λ (mark : Mark). mark.facts.truth) book.marks ≡ map (λ (cell : Cell). cell.truth) all
    → map (λ (cell : Cell). cell.truth) all ≡ truths_in inputs
truths-are inputs book all is same =
    sym same
    ∙ truths-by_name (λ (name : Name). truth book.trees name inputs.records.rows) (cells_in book) book.marks is.one_each (are-truths inputs book is)
    ∙ ap (λ (trees : List Tree). map (λ (name : Name). truth trees name inputs.records.rows) (cells_in book)) is.trees
    ∙ ap (map (truth_in inputs)) (cells-are inputs book is)

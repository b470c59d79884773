-- What holds of the listing of a job and of its release.
use Rattle.std.proofs.Common.{◌≡◌, ℕ, zero, suc, ◌<◌, List, Bool, false, cond, [], ◌∷◌, length, slice_get, slice_index_or, Option, None, Some, option_map, ℤ, refl, ap, ap₂, sym, subst, ◌∙◌, arith}
use Rattle.std.proofs.lemmas.List.{length-map}
use Rattle.std.proofs.lemmas.Option.{slice_get-map, slice_get_within}
use Rattle.sdc_base.specs.Cells.{cells_of}
use Rattle.sdc_base.specs.Records.{Name}
use Rattle.sdc_base.specs.RuleLevels.{Figures, figures_in}
use Rattle.sdc_base.specs.Sums.{truth}
use Rattle.sdc_base.specs.TableText.{shown_text}
use Rattle.sdc_base.specs.Trees.{Tree}
use Rattle.sdc_base.specs.declared.dimension.Dimension.{Dimension}
use Rattle.apriori.specs.Settling.{SettledCell, view_of_cell}
use Rattle.linked_tables.specs.BookViews.{BookView}
use Rattle.linked_tables.specs.BookCells.{cells as cells_in}
use Rattle.linked_tables.specs.declared.mark.Mark.{Mark}
use Rattle.release_writer.specs.ShownCells.{open_truth}
use Rattle.job_inputs.specs.Cells.{cells, figures}
use Rattle.job_inputs.specs.ClassifiedJobs.{SettledInputs, IsReadyJob, IsSettledOf}
use Rattle.job_inputs.specs.TabulatedBooks.{IsBookOf}
use Rattle.job_inputs.specs.declared.settled.ClassifiedJob.{ClassifiedJob}
use Rattle.cell_listing.specs.Laws.{ListingsCountAsReports, ShownAreValues}
use Rattle.cell_listing.specs.ListedCells.{ListedCell, listed_cells}
use Rattle.cell_listing.proofs.LawsOfCells.{count-primary}
use Rattle.cell_listing.proofs.Numbered.{as_many, was_number}

-- the cells of a job's book are those of its inputs
same-cells : (job : ClassifiedJob) (settled : SettledInputs) → IsSettledOf settled job → cells_in job.book ≡ cells settled.inputs
same-cells job settled is = ap₂ (λ (trees : List Tree) (tables : List (List Dimension)). cells_of trees tables) is.book.trees is.book.tables

-- there is a settled cell for each
all-settled : (job : ClassifiedJob) (settled : SettledInputs) → IsReadyJob job → IsSettledOf settled job → length settled.cells ≡ length (cells settled.inputs)
all-settled job settled ready is =
    ap (λ (all : List SettledCell). length all) (sym is.cells) ∙ length-map job.cells view_of_cell ∙ ready.settled ∙ ready.one_each ∙ ap (λ (all : List Name). length all) (same-cells job settled is)

pub listings_count_as_reports : ListingsCountAsReports
listings_count_as_reports settled job ready is =
    let inputs = settled.inputs in
    let known : length (figures inputs) ≡ length (cells inputs) = length-map (cells inputs) (λ (name : Name). figures_in inputs.records.trees name inputs.records.rows inputs.described.bound.scale) in
    let all = all-settled job settled ready is in
    record {
      one_line_each = as_many 0 (cells inputs) (figures inputs) settled.cells known all;
      primary = count-primary 0 (cells inputs) (figures inputs) settled.cells known all;
    }

there-is : (marks : List Mark) (i : ℕ) → i < length marks → (mark : Mark) × (slice_get marks i ≡ Some mark)
there-is [] i within = absurd (omega arith)
there-is (mark ∷ marks) zero within = (mark, refl)
there-is (mark ∷ marks) (suc i) within = there-is marks i (omega arith)

-- what a cell shows that isn't hidden
pub opened : (marks : List Mark) (flags : List Bool) (number : ℕ) (mark : Mark) → slice_index_or flags number false ≡ false → slice_get marks number ≡ Some mark → open_truth marks flags number ≡ Some mark.facts.truth
opened marks flags number mark shown here =
    ap (λ (hidden : Bool). cond hidden None (option_map (λ (m : Mark). m.facts.truth) (slice_get marks number))) shown ∙ ap (λ (o : Option Mark). option_map (λ (m : Mark). m.facts.truth) o) here

-- a cell of a listing has a mark in the book, with its value
pub record IsMarked (book : BookView) (number : ℕ) (cell : ListedCell) : Type 0 where
  pub mark : Mark
  pub here : slice_get book.marks number ≡ Some mark
  pub truth_is : mark.facts.truth ≡ cell.figures.truth

pub marked : (settled : SettledInputs) (book : BookView) → IsBookOf settled.inputs book → (number : ℕ) (cell : ListedCell) → slice_get (listed_cells settled) number ≡ Some cell → IsMarked book number cell
marked settled book is number cell here =
    let trees : List Tree = settled.inputs.records.trees in
    let rows = settled.inputs.records.rows in
    let scale : ℕ = settled.inputs.described.bound.scale in
    let f : Name → Figures = λ name. figures_in trees name rows scale in
    let was = was_number 0 (cells settled.inputs) (figures settled.inputs) settled.cells number cell here in
    let same : cells_in book ≡ cells settled.inputs = ap₂ (λ (trees : List Tree) (tables : List (List Dimension)). cells_of trees tables) is.trees is.tables in
    let named : slice_get (cells_in book) number ≡ Some cell.name = subst (λ (all : List Name). slice_get all number ≡ Some cell.name) (sym same) was.name in
    let within : number < length book.marks = omega (arith, slice_get_within (cells_in book) number cell.name named, is.one_each) in
    let mark = there-is book.marks number within in
    let tells = is.told number cell.name mark.0 named mark.1 in
    let known : Some (f cell.name) ≡ Some cell.figures = ap (λ (o : Option Name). option_map f o) (sym was.name) ∙ sym (slice_get-map f (cells settled.inputs) number) ∙ was.known in
    let figures-are : f cell.name ≡ cell.figures = cc in
    record {
      mark = mark.0;
      here = mark.1;
      truth_is = tells.truth_is ∙ ap (λ (all : List Tree). truth all cell.name rows) is.trees ∙ ap (λ (one : Figures). one.truth) figures-are;
    }

pub shown_are_values : ShownAreValues
shown_are_values settled job flags number decimals cell ready is here shown =
    let it = marked settled job.book is.book number cell here in
    ap (λ (o : Option ℤ). shown_text decimals o) (opened job.book.marks flags number it.mark shown it.here) ∙ ap (λ (t : ℤ). shown_text decimals (Some t)) it.truth_is

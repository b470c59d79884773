-- What the case of a job's release is made of, and that it is one by which a release can be judged.
use Rattle.std.proofs.Common.{◌≡◌, ℕ, zero, suc, ◌+◌, ◌<◌, ◌≤◌, List, [], ◌∷◌, length, map, All, refl, ap, sym, ◌∙◌, subst, arith, ℤ, pos, ◌≤ℤ◌}
use Rattle.std.specs.Prelude.{slice_index_or}
use Rattle.std.proofs.lemmas.List.{length-append}
use Rattle.std.proofs.lemmas.Option.{slice_get_within}
use Rattle.sdc_base.specs.declared.cell.Cell.{Cell}
use Rattle.sdc_base.specs.declared.dimension.Dimension.{Dimension}
use Rattle.sdc_base.specs.declared.facts.CellFacts.{CellFacts}
use Rattle.sdc_base.specs.declared.system.System.{System}
use Rattle.cert_check.specs.Cases.{IsCase}
use Rattle.cert_check.specs.declared.case.Case.{Case}
use Rattle.linked_tables.specs.BookViews.{BookView}
use Rattle.linked_tables.specs.BookCells.{cells as cells_in}
use Rattle.linked_tables.specs.declared.mark.Mark.{Mark}
use Rattle.modular_plan.specs.Plans.{IsSameButHidden}
use Rattle.release_writer.specs.Sheets.{HaveNames}
use Rattle.sdc_base.specs.HiddenSets.{MayHide}
use Rattle.sdc_base.specs.Trails.{corners_of}
use Rattle.job_lang.specs.declared.job.TableLine.{TableLine}
use Rattle.job_inputs.specs.ClassifiedJobs.{IsReadyJob}
use Rattle.job_inputs.specs.Tables.{names_of}
use Rattle.job_inputs.specs.declared.settled.ClassifiedJob.{ClassifiedJob}
use Rattle.job_check.specs.Reading.{IsReadyRelease}
use Rattle.job_check.specs.declared.reading.ReadRelease.{ReadRelease}

-- there is a cell of the job for each of the system
each-cell : (job : ClassifiedJob) (system : System) (cells : List Cell) → IsReadyJob job → cells ≡ job.cells → system.cells ≡ length (cells_in job.book) → length cells ≡ system.cells
each-cell job system cells ready same is = ap length same ∙ ready.settled ∙ ready.one_each ∙ sym is

-- truths are told by the facts alone
pub by-facts : (marks : List Mark) → map (λ mark. mark.facts.truth) marks ≡ map (λ (facts : CellFacts). facts.truth) (map (λ mark. mark.facts) marks)
by-facts [] = refl
by-facts (mark ∷ marks) = ap (λ (truths : List ℤ). mark.facts.truth ∷ truths) (by-facts marks)

-- the truths are those of the marks, whichever are hidden
same-truths : (job : ClassifiedJob) (book : BookView) (cells : List Cell) → IsReadyJob job → cells ≡ job.cells → IsSameButHidden job.book book → map (λ mark. mark.facts.truth) book.marks ≡ map (λ cell. cell.truth) cells
same-truths job book cells ready same hidden =
    by-facts book.marks
    ∙ ap (map (λ (facts : CellFacts). facts.truth)) hidden.facts
    ∙ sym (by-facts job.book.marks)
    ∙ ready.truths
    ∙ ap (λ (all : List Cell). map (λ (cell : Cell). cell.truth) all) (sym same)

-- what may be hidden is a cell
are-cells : (cells other : List Cell) (corners : List ℕ) → cells ≡ other → All (MayHide cells) corners → All (λ corner. corner < length other) corners
are-cells cells other corners same all = λ k d within.
    let it = all k d within in
    subst (λ (n : ℕ). slice_index_or corners k d < n) (ap length same) (slice_get_within cells (slice_index_or corners k d) it.cell it.found)

-- ---- names

each-named : (tables : List (List Dimension)) (lines : List TableLine) (t : ℕ) → map (λ (dimensions : List Dimension). length dimensions) tables ≡ map (λ (line : TableLine). length line.variables) lines → t < length tables
    → length (slice_index_or (map names_of lines) t []) ≡ length (slice_index_or tables t []) + 1
each-named [] lines t same within = absurd (omega (arith, within))
each-named (table ∷ tables) [] t same within = absurd cc
each-named (table ∷ tables) (line ∷ lines) zero same within =
    let heads : length table ≡ length line.variables = cc in
    length-append line.variables (line.response ∷ []) ∙ ap (λ (n : ℕ). n + 1) (sym heads)
each-named (table ∷ tables) (line ∷ lines) (suc t) same within =
    let tails : map (λ (dimensions : List Dimension). length dimensions) tables ≡ map (λ (line : TableLine). length line.variables) lines = cc in
    each-named tables lines t tails (omega (arith, within))

pub length-map : {X Y : Type 0} (f : X → Y) (xs : List X) → length (map f xs) ≡ length xs
length-map f [] = refl
length-map f (x ∷ xs) = ap suc (length-map f xs)

-- there are as many tables as lines
as-many : (tables : List (List Dimension)) (lines : List TableLine) → map (λ (dimensions : List Dimension). length dimensions) tables ≡ map (λ (line : TableLine). length line.variables) lines → length tables ≡ length lines
as-many tables lines same = sym (length-map (λ (dimensions : List Dimension). length dimensions) tables) ∙ ap length same ∙ length-map (λ (line : TableLine). length line.variables) lines

-- the tables of a job's book are those of its lines
tables-are : (job : ClassifiedJob) (book : BookView) → IsReadyJob job → IsSameButHidden job.book book → book.tables ≡ job.described.bound.tables
tables-are job book ready hidden = hidden.tables ∙ ready.book.tables

pub have-names : (job : ClassifiedJob) (book : BookView) (names : List (List (List ℕ))) → IsReadyJob job → IsSameButHidden job.book book → names ≡ map names_of job.described.job.tables → HaveNames names book.tables
have-names job book names ready hidden are =
    let tables : List (List Dimension) = job.described.bound.tables in
    let lines : List TableLine = job.described.job.tables in
    let same = ready.sound.bound.tables in
    subst (λ (all : List (List Dimension)). HaveNames names all) (sym (tables-are job book ready hidden)) (record {
      lists = ap length are ∙ length-map names_of lines ∙ sym (as-many tables lines same);
      each = λ t within. ap (λ (all : List (List (List ℕ))). length (slice_index_or all t [])) are ∙ each-named tables lines t same within;
    })

-- there are the bytes of each table
pub each-table : (read : ReadRelease) (book : BookView) (tables : List (List ℕ)) → IsReadyRelease read → IsSameButHidden read.job.book book → tables ≡ read.tables → length tables ≡ length book.tables
each-table read book tables ready hidden same =
    ap length same
    ∙ ready.each
    ∙ ready.job.sound.job.outputs
    ∙ sym (as-many read.job.described.bound.tables read.job.described.job.tables ready.job.sound.bound.tables)
    ∙ ap length (sym (tables-are read.job book ready.job hidden))

-- ---- the case

-- A release that was read can be judged by a case of its job: of its cells, which were lent for the trail too, with its book, whichever
-- cells are marked as hidden, its names and its decimals.
pub can-be-judged : (read : ReadRelease) (lent : List Cell) {case : Case} {tables : List (List ℕ)} → IsReadyRelease read → lent ≡ read.job.cells → case.cells.now ≡ read.job.cells → case.system.now.cells ≡ length (cells_in read.job.book)
    → IsSameButHidden read.job.book case.book.now → All (MayHide lent) (corners_of case.trail.now.steps) → case.decimals ≡ read.job.described.bound.decimals → case.names.now ≡ map names_of read.job.described.job.tables
    → tables ≡ read.tables → pos 1 ≤ℤ case.base → IsCase case tables
can-be-judged read lent {case} {tables} ready lends cells system hidden corners decimals names put from_one = record {
  each_cell = each-cell read.job case.system.now case.cells.now ready.job cells system;
  truths = same-truths read.job case.book.now case.cells.now ready.job cells hidden;
  corners = are-cells lent case.cells.now (corners_of case.trail.now.steps) (lends ∙ sym cells) corners;
  decimals = subst (λ (n : ℕ). n ≤ 13) (sym decimals) ready.job.sound.bound.decimals;
  names = have-names read.job case.book.now case.names.now ready.job hidden names;
  tables = each-table read case.book.now tables ready hidden put;
  base = λ rounding. from_one;
}

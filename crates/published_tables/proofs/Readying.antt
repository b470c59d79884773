-- A job with its tables is ready for what is asked of it.
use Rattle.std.proofs.Common.{◌≡◌, ◌^◌, ◌≤ℤ◌, ℕ, pos, List, [], ◌∷◌, length, map, ap, arith}
use Rattle.std.specs.Prelude.{All}
use Rattle.std.proofs.lemmas.List.Elements.{All-nil, All-cons, All-head, All-tail, All-weaker}
use Rattle.std.proofs.lemmas.List.{length-map}
use Rattle.sdc_base.specs.declared.cell.Cell.{Cell}
use Rattle.sdc_base.specs.declared.dimension.Dimension.{Dimension}
use Rattle.sdc_base.specs.Truths.{IsTruth}
use Rattle.linked_tables.specs.declared.mark.Mark.{Mark}
use Rattle.release_writer.specs.Sheets.{HaveNames, HasTruthsFromZero}
use Rattle.published_tables.proofs.Naming.{names-each, names-fit}
use Rattle.job_inputs.specs.ClassifiedJobs.{IsReadyJob}
use Rattle.job_inputs.specs.Tables.{names_of}
use Rattle.job_inputs.specs.declared.settled.ClassifiedJob.{ClassifiedJob}
use Rattle.published_tables.specs.TablesOnShelf.{IsReadyShelved}
use Rattle.published_tables.specs.declared.shelved.ShelvedJob.{ShelvedJob}

-- truths are from 0
pub from_zero : (job : ClassifiedJob) → IsReadyJob job → HasTruthsFromZero job.book
from_zero job ready = All-weaker (λ (mark : Mark). IsTruth mark.facts.truth) (λ (mark : Mark). pos 0 ≤ℤ mark.facts.truth) (λ mark truth. truth.from_zero) job.book.marks ready.book.truths

within : (marks : List Mark) (cells : List Cell) → map (λ (mark : Mark). mark.facts.truth) marks ≡ map (λ (cell : Cell). cell.truth) cells → All (λ (mark : Mark). IsTruth mark.facts.truth) marks → All (λ (cell : Cell). cell.truth ≤ℤ pos (10 ^ 29)) cells
within [] [] same all = All-nil (λ (cell : Cell). cell.truth ≤ℤ pos (10 ^ 29))
within [] (cell ∷ cells) same all = absurd cc
within (mark ∷ marks) [] same all = absurd cc
within (mark ∷ marks) (cell ∷ cells) same all =
    let here : mark.facts.truth ≡ cell.truth = cc in
    let rest : map (λ (m : Mark). m.facts.truth) marks ≡ map (λ (one : Cell). one.truth) cells = cc in
    let truth = All-head (λ (m : Mark). IsTruth m.facts.truth) mark marks all in
    All-cons (λ (one : Cell). one.truth ≤ℤ pos (10 ^ 29)) cell cells (rw (← here) truth.at_most) (within marks cells rest (All-tail (λ (m : Mark). IsTruth m.facts.truth) mark marks all))

-- the truths of cells are within the limit of truths
pub truths_within : (job : ClassifiedJob) → IsReadyJob job → All (λ (cell : Cell). cell.truth ≤ℤ pos (10 ^ 29)) job.cells
truths_within job ready = within job.book.marks job.cells ready.truths ready.book.truths

-- there are names for each table, one for each of its variables and one for the response
pub have_names : (job : ClassifiedJob) (names : List (List (List ℕ))) → IsReadyJob job → names ≡ map names_of job.described.job.tables → HaveNames names job.book.tables
have_names job names ready are =
    let same = ready.sound.bound.tables in
    rw (are, ready.book.tables) (record {
      lists = names-each job.described.bound.tables job.described.job.tables same;
      each = λ t inside. names-fit job.described.bound.tables job.described.job.tables t same inside;
    })

-- and bytes
pub each_table : (shelved : ShelvedJob) → IsReadyShelved shelved → length shelved.tables ≡ length shelved.job.book.tables
each_table shelved ready =
    let job = ready.job.sound in
    let many = names-each shelved.job.described.bound.tables shelved.job.described.job.tables job.bound.tables in
    let same = ap (λ (tables : List (List Dimension)). length tables) ready.job.book.tables in
    let lines = length-map shelved.job.described.job.tables names_of in
    omega (arith, ready.tables, job.job.outputs, many, same, lines)

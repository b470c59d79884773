-- What becomes of a job's settled cells, as the release or the stop of its run.
use Rattle.std.proofs.Common.{◌≡◌, ◌≤◌, ℕ, suc, arith, All, Bor, Bool, true, false, cond, List, [], ◌∷◌, length, map, filter, Option, None, Ok, Err, refl, ap, sym, subst, ◌∙◌, ℤ, pos, ◌≤ℤ◌}
use Rattle.std.specs.List.{range_with_len}
use Rattle.std.proofs.lemmas.List.FromFn.{length-range_with_len}
use Rattle.sdc_base.specs.Cells.{cells_of}
use Rattle.sdc_base.specs.HiddenSets.{is_hidden}
use Rattle.sdc_base.specs.Kinds.{is_primary}
use Rattle.sdc_base.specs.Trees.{Tree}
use Rattle.sdc_base.specs.declared.cell.Cell.{Cell}
use Rattle.sdc_base.specs.declared.hidden.Hidden.{Hidden}
use Rattle.sdc_base.specs.declared.method.Method.{Method}
use Rattle.sdc_base.specs.declared.trail.PlanStep.{PlanStep}
use Rattle.apriori.specs.Settling.{SettledCell, view_of_cell}
use Rattle.sdc_base.specs.declared.system.System.{System}
use Rattle.attackers.specs.declared.extra.Against.{Against}
use Rattle.certificate.specs.declared.certificate.Certificate.{Certificate}
use Rattle.job_lang.specs.declared.job.OutputLine.{OutputLine}
use Rattle.cell_protection.specs.Certifying.{hidden_numbers}
use Rattle.cell_protection.specs.Protections.{IsProtectedWith, IsProtectionOf}
use Rattle.cell_protection.proofs.Wholeness.{protection-whole}
use Rattle.modular_plan.specs.Methods.{passes_of}
use Rattle.cell_protection.specs.declared.protection.ProtectionOutcome.{ProtectionOutcome}
use Rattle.cell_protection.specs.declared.protection.ProtectionOutcome.TheVariants as protection
use Rattle.interval_audit.specs.declared.answer.AskFault.{AskFault}
use Rattle.interval_audit.specs.declared.answer.AskFault.TheVariants as ask
use Rattle.linked_tables.specs.BookViews.{BookView}
use Rattle.linked_tables.specs.BookCells.{cells as cells_in, IsBook}
use Rattle.linked_tables.specs.declared.mark.Mark.{Mark}
use Rattle.modular_plan.specs.Plans.{trail_of}
use Rattle.sdc_base.specs.Truths.{IsTruth}
use Rattle.sdc_base.specs.declared.dimension.Dimension.{Dimension}
use Rattle.release_writer.specs.ShownCells.{CanBeShown}
use Rattle.release_writer.specs.declared.shown.Shown.TheVariants as shown
use Rattle.repair.specs.HidingOrder.{Case, protected_case, prices_of}
use Rattle.repair.specs.declared.stopped.Stopped.{Stopped}
use Rattle.worlds.specs.Protection.{Protection as HiddenSet}
use Rattle.worlds.specs.declared.refuted.Refuted.{Refuted}
use Rattle.job_inputs.specs.Cells.{cells}
use Rattle.job_inputs.specs.ClassifiedJobs.{SettledInputs, IsSettledOf}
use Rattle.job_inputs.specs.TabulatedBooks.{IsReadyFor}
use Rattle.job_inputs.specs.declared.described.DescribedJob.{DescribedJob}
use Rattle.job_inputs.specs.declared.settled.ClassifiedJob.{ClassifiedJob}
use Rattle.relations.specs.Holding.{IsSystemOf}
use Rattle.relations.specs.TableSigns.{HaveSigns, IsOneOrTwoWay}
use Rattle.relations.proofs.SignedTables.{one_or_two_way_has_signs}
use Rattle.job_run.specs.Endings.{ComesToRelease, IsHidingRelease, IsReleaseBy, StopsShort}
use Rattle.job_run.specs.Protections.{IsProtectionFor, IsSuppressedRelease}
use Rattle.job_run.specs.Releases.{summary_of}
use Rattle.job_run.specs.Roundings.{job_base}
use Rattle.job_run.specs.declared.put.Release.{Release}
use Rattle.job_run.specs.declared.report.Summary.{Summary}
use Rattle.job_run.specs.Reporting.{stuck_report, stopped_report}

-- a job has the base of its settled inputs, if it has one
pub same-base : (settled : SettledInputs) (job : ClassifiedJob) → IsSettledOf settled job → job_base settled.inputs.described ≡ job_base job.described
same-base settled job is = ap job_base (sym is.described)

-- the relations of a job of one table of one variable, or of two flat ones, have signs
pub signs-for : (settled : SettledInputs) (job : ClassifiedJob) (system : System) → IsOneOrTwoWay settled.inputs.records.trees settled.inputs.described.bound.tables → IsSettledOf settled job → IsBook job.book → IsSystemOf job.book system → HaveSigns system.relations
signs-for settled job system shape is_job is_book is_system =
    one_or_two_way_has_signs job.book system
    (subst (λ (trees : List Tree). IsOneOrTwoWay trees job.book.tables) (sym is_job.book.trees)
    (subst (λ (tables : List (List Dimension)). IsOneOrTwoWay settled.inputs.records.trees tables) (sym is_job.book.tables) shape)) is_book is_system

-- what protecting the cells of a job comes to is what its settled inputs come to
pub protection-for : (settled : SettledInputs) (job : ClassifiedJob) (system : System) (protection : ProtectionOutcome) → job_base job.described ≡ None → IsSettledOf settled job → IsBook job.book → IsSystemOf job.book system
    → IsProtectionOf (protected_case system job.cells) (prices_of job.described.job.cost job.cells job.book.marks) job.described.job.method (trail_of job.book job.cells job.described.job.cost (passes_of job.described.job.method)) job.described.job.steps protection
    → IsProtectionFor settled protection
protection-for settled job system protection hides is_job is_book is_system is = record {
  hides = same-base settled job is_job ∙ hides;
  job = job;
  system = system;
  job_is = is_job;
  system_is = is_system;
  comes_to = is;
  whole = λ shape.
      let signs = signs-for settled job system shape is_job is_book is_system in
      protection-whole (protected_case system job.cells) (prices_of job.described.job.cost job.cells job.book.marks) job.described.job.method (trail_of job.book job.cells job.described.job.cost (passes_of job.described.job.method)) job.described.job.steps protection signs.0 signs.1 is;
}

-- a question that stopped short stops the run
pub stuck-comes : (settled : SettledInputs) (fault : AskFault) (repairs : List Refuted) (shown : List ℕ) (against : Option Against) → StopsShort settled fault repairs shown against
    → ComesToRelease settled (Err (stuck_report fault repairs shown against))
stuck-comes settled (ask.Work walk) repairs shown against is = is
stuck-comes settled (ask.Wide walk place) repairs shown against is = is
stuck-comes settled (ask.Size question hidden) repairs shown against is = is
stuck-comes settled ask.Memory repairs shown against is = tt

-- a protection that stopped short stops the run
pub stopped-comes : (settled : SettledInputs) (stopped : Stopped) → IsProtectionFor settled (protection.Undecided stopped) → ComesToRelease settled (Err (stopped_report stopped))
stopped-comes settled stopped is = stuck-comes settled stopped.fault stopped.repairs stopped.shown None is

-- the same, where the cells are read through a slice
pub outcome-for : (settled : SettledInputs) (job : ClassifiedJob) (system : System) (cells : List Cell) (one other : ProtectionOutcome) → job_base job.described ≡ None → IsSettledOf settled job → IsBook job.book → IsSystemOf job.book system → cells ≡ job.cells → one ≡ other
    → IsProtectionOf (protected_case system cells) (prices_of job.described.job.cost cells job.book.marks) job.described.job.method (trail_of job.book cells job.described.job.cost (passes_of job.described.job.method)) job.described.job.steps one
    → IsProtectionFor settled other
outcome-for settled job system cells one other hides is_job is_book is_system same is_other is =
    protection-for settled job system other hides is_job is_book is_system
    (subst (λ (protection : ProtectionOutcome). IsProtectionOf (protected_case system job.cells) (prices_of job.described.job.cost job.cells job.book.marks) job.described.job.method (trail_of job.book job.cells job.described.job.cost (passes_of job.described.job.method)) job.described.job.steps protection) is_other
    (subst (λ (all : List Cell). IsProtectionOf (protected_case system all) (prices_of job.described.job.cost all job.book.marks) job.described.job.method (trail_of job.book all job.described.job.cost (passes_of job.described.job.method)) job.described.job.steps one) same is))

-- ---- the hidden cells

few-pass : (test : ℕ → Bool) (numbers : List ℕ) → length (filter test numbers) ≤ length numbers
few-pass test [] = omega arith
few-pass test (n ∷ numbers) = elim (test n) as (λ b. length (cond b (n ∷ filter test numbers) (filter test numbers)) ≤ suc (length numbers)) [
  | true ↦ omega (arith, few-pass test numbers)
  | false ↦ omega (arith, few-pass test numbers)
]

-- no more cells are hidden than there are
pub few-hidden : (c : Case) (prices : List ℕ) (method : Method) (steps : List PlanStep) (limit : ℕ) (one : ProtectionOutcome) (hidden_set : HiddenSet) (certificate : Certificate) → one ≡ protection.Protected hidden_set certificate → IsProtectionOf c prices method steps limit one
    → length certificate.hidden ≤ c.system.cells
few-hidden c prices method steps limit one hidden_set certificate is_one is =
    let protected : IsProtectedWith c prices method steps hidden_set certificate = subst (λ (protection : ProtectionOutcome). IsProtectionOf c prices method steps limit protection) is_one is in
    let same : length certificate.hidden ≡ length (hidden_numbers c.system.cells hidden_set.hidden.flags) = ap (λ (one : Certificate). length one.hidden) protected.certificate_is in
    let few : length (hidden_numbers c.system.cells hidden_set.hidden.flags) ≤ length (range_with_len 0 c.system.cells) = few-pass (is_hidden hidden_set.hidden.flags) (range_with_len 0 c.system.cells) in
    omega (arith, same, few, length-range_with_len 0 c.system.cells)

-- there is a flag for each cell
pub each-flag : (c : Case) (prices : List ℕ) (method : Method) (steps : List PlanStep) (limit : ℕ) (one : ProtectionOutcome) (hidden_set : HiddenSet) (certificate : Certificate) → one ≡ protection.Protected hidden_set certificate → IsProtectionOf c prices method steps limit one
    → length hidden_set.hidden.flags ≡ length c.cells
each-flag c prices method steps limit one hidden_set certificate is_one is =
    let protected : IsProtectedWith c prices method steps hidden_set certificate = subst (λ (protection : ProtectionOutcome). IsProtectionOf c prices method steps limit protection) is_one is in
    protected.verdict.0.each_flag

from-zero : (marks : List Mark) → All (λ (mark : Mark). IsTruth mark.facts.truth) marks → All (λ (mark : Mark). pos 0 ≤ℤ mark.facts.truth) marks
from-zero marks all k d within = (all k d within).from_zero

-- a book with its truths in range and a flag for each cell can be shown with cells hidden
pub hidden-can : (described : DescribedJob) (book : BookView) (hidden : Bor Hidden) → IsReadyFor described book → length hidden.now.flags ≡ length book.marks → CanBeShown book (shown.Hidden hidden)
hidden-can described book hidden ready each = (each, from-zero book.marks ready.truths)

-- ---- the numbers of a release

abbrev pub summary : ℕ → ℕ → ℕ → ℕ → ℕ → ℕ → Summary
summary records skipped passed_over cells primary hidden = record { records = records; skipped = skipped; passed_over = passed_over; cells = cells; primary = primary; hidden = hidden }

-- as many cells are primary, however they are seen
as-many-primary : (cells : List Cell) → length (filter (λ (cell : Cell). is_primary cell.kind) cells) ≡ length (filter (λ (cell : SettledCell). is_primary cell.kind) (map view_of_cell cells))
as-many-primary [] = refl
as-many-primary (cell ∷ cells) = elim (is_primary cell.kind) as (λ b. length (cond b (cell ∷ filter (λ (one : Cell). is_primary one.kind) cells) (filter (λ (one : Cell). is_primary one.kind) cells))
    ≡ length (cond b (view_of_cell cell ∷ filter (λ (one : SettledCell). is_primary one.kind) (map view_of_cell cells)) (filter (λ (one : SettledCell). is_primary one.kind) (map view_of_cell cells)))) [
      | true ↦ ap suc (as-many-primary cells)
      | false ↦ as-many-primary cells
    ]

-- the numbers of a job are those of its settled inputs
pub numbers-are : (settled : SettledInputs) (job : ClassifiedJob) (all : List Cell) (count primary : ℕ) → IsSettledOf settled job
    → count ≡ length (cells_in job.book) → all ≡ job.cells → primary ≡ length (filter (λ (cell : Cell). is_primary cell.kind) all)
    → summary job.records job.skipped job.described.meta.passed_over count primary 0 ≡ summary_of settled 0
numbers-are settled job all count primary is counted same primaries =
    ap (λ (n : ℕ). summary n job.skipped job.described.meta.passed_over count primary 0) is.records
    ∙ ap (λ (n : ℕ). summary (length settled.inputs.records.rows) n job.described.meta.passed_over count primary 0) is.skipped
    ∙ ap (λ (d : DescribedJob). summary (length settled.inputs.records.rows) settled.inputs.records.skipped d.meta.passed_over count primary 0) is.described
    ∙ ap (λ (n : ℕ). summary (length settled.inputs.records.rows) settled.inputs.records.skipped settled.inputs.described.meta.passed_over n primary 0)
    (counted ∙ ap (λ (trees : List Tree). length (cells_of trees job.book.tables)) is.book.trees ∙ ap (λ (tables : List (List Dimension)). length (cells_of settled.inputs.records.trees tables)) is.book.tables)
    ∙ ap (λ (n : ℕ). summary (length settled.inputs.records.rows) settled.inputs.records.skipped settled.inputs.described.meta.passed_over (length (cells settled.inputs)) n 0)
    (primaries ∙ ap (λ (cs : List Cell). length (filter (λ (cell : Cell). is_primary cell.kind) cs)) same ∙ as-many-primary job.cells ∙ ap (λ (cs : List SettledCell). length (filter (λ (cell : SettledCell). is_primary cell.kind) cs)) is.cells)

-- with so many cells hidden they are those with so many
pub with-hidden : (settled : SettledInputs) (numbers : Summary) (counted hidden : ℕ) → numbers ≡ summary_of settled 0 → counted ≡ hidden → record numbers { hidden = counted } ≡ summary_of settled hidden
with-hidden settled numbers counted hidden is same = ap (λ (s : Summary). record s { hidden = counted }) is ∙ ap (summary_of settled) same

-- ---- a suppressed release

-- a job names the file for contributors that its settled inputs name
pub same-contributors : (settled : SettledInputs) (job : ClassifiedJob) → IsSettledOf settled job → settled.inputs.described.job.contributors ≡ job.described.job.contributors
same-contributors settled job is = ap (λ (d : DescribedJob). d.job.contributors) (sym is.described)

-- a release of a job that hides, by the file for contributors that it names
pub hiding-comes : (settled : SettledInputs) (job : ClassifiedJob) (named : Option OutputLine) (release : Release) → job_base job.described ≡ None → job.described.job.contributors ≡ named → IsSettledOf settled job → IsHidingRelease named settled release → ComesToRelease settled (Ok release)
hiding-comes settled job named release hides is_named is_of is =
    subst (λ (base : Option ℤ). IsReleaseBy base settled release) (sym (same-base settled job is_of ∙ hides))
    (subst (λ (line : Option OutputLine). IsHidingRelease line settled release) (sym (same-contributors settled job is_of ∙ is_named)) is)

-- a hidden set that protects makes a suppressed release
pub suppressed-comes : (settled : SettledInputs) (job : ClassifiedJob) (release : Release) → job_base job.described ≡ None → job.described.job.contributors ≡ None → IsSettledOf settled job → IsSuppressedRelease settled release → ComesToRelease settled (Ok release)
suppressed-comes settled job release hides unnamed is_of is = hiding-comes settled job None release hides unnamed is_of is

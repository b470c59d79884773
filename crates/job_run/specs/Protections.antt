-- What becomes of settled inputs that are to be protected (handbook, secondary suppression; repairs, needs and
-- certificate: own).
use Rattle.std.specs.Prelude.{◌≡◌, List, ℕ, length, None, Ok}
use Rattle.sdc_base.specs.declared.system.System.{System}
use Rattle.certificate.specs.Certificates.{certificate_of}
use Rattle.certificate.specs.Spelling.{IsSpellable}
use Rattle.certificate.specs.Texts.{text_of}
use Rattle.certificate.specs.declared.certificate.Certificate.{Certificate}
use Rattle.contributor_protection.specs.Guards.{case_of, IsCertified}
use Rattle.contributor_protection.specs.declared.guarding.ProtectedCells.{ProtectedCells}
use Rattle.cell_protection.specs.Protections.{IsProtectionOf}
use Rattle.cell_protection.specs.WholeProtections.{IsWholeProtection}
use Rattle.modular_plan.specs.Methods.{passes_of}
use Rattle.cell_protection.specs.declared.protection.ProtectionOutcome.{ProtectionOutcome}
use Rattle.cell_protection.specs.declared.protection.ProtectionOutcome.TheVariants as protection
use Rattle.interval_audit.specs.declared.answer.AskFault.{AskFault}
use Rattle.modular_plan.specs.Plans.{IsSameButHidden, trail_of}
use Rattle.repair.specs.HidingOrder.{protected_case, prices_of}
use Rattle.worlds.specs.Protection.{Protection as HiddenSet}
use Rattle.worlds.specs.declared.refuted.Refuted.{Refuted}
use Rattle.job_inputs.specs.ClassifiedJobs.{SettledInputs, IsSettledOf}
use Rattle.job_inputs.specs.declared.described.DescribedJob.{DescribedJob}
use Rattle.job_inputs.specs.declared.settled.ClassifiedJob.{ClassifiedJob}
use Rattle.linked_tables.specs.BookCells.{IsBook}
use Rattle.linked_tables.specs.BookViews.{BookView}
use Rattle.relations.specs.Holding.{IsSystemOf}
use Rattle.relations.specs.TableSigns.{IsOneOrTwoWay}
use Rattle.job_run.specs.Books.{IsPlannedBook, job_of}
use Rattle.job_run.specs.Releases.{puts_of, shown_in, summary_of}
use Rattle.job_run.specs.Roundings.{job_base}
use Rattle.job_run.specs.declared.put.Release.{Release}

-- The job hides, and the protection of settled inputs comes to this: that of their settled cells, with the system of
-- the relations between them, planned by the job's method and its costs, each question within the job's steps. It is in
-- whole units where the job has one table of one variable, or of two flat ones.
pub record IsProtectionFor (settled : SettledInputs) (protection : ProtectionOutcome) : Type 0 where
  pub hides : job_base settled.inputs.described ≡ None
  pub job : ClassifiedJob
  pub system : System
  pub job_is : IsSettledOf settled job
  pub system_is : IsSystemOf job.book system
  pub comes_to : IsProtectionOf (protected_case system job.cells)
      (prices_of job.described.job.cost job.cells job.book.marks) job.described.job.method
      (trail_of job.book job.cells job.described.job.cost (passes_of job.described.job.method)) job.described.job.steps
      protection
  pub whole : IsOneOrTwoWay settled.inputs.records.trees settled.inputs.described.bound.tables
      → IsWholeProtection protection

-- A suppressed release of settled inputs: a hidden set protects their primary cells, and its certificate, the tables
-- that hide these cells, and their numbers are what the release puts and says. The certificate's text is read as that
-- certificate.
pub record IsSuppressedRelease (settled : SettledInputs) (release : Release) : Type 0 where
  pub hidden_set : HiddenSet
  pub certificate : Certificate
  pub protects : IsProtectionFor settled (protection.Protected hidden_set certificate)
  pub read_back : certificate_of (text_of certificate) ≡ Ok certificate
  pub puts : release.puts ≡ puts_of settled.inputs (shown_in settled.inputs hidden_set.hidden.flags) certificate
  pub numbers : release.summary ≡ summary_of settled (length certificate.hidden)
  pub certificate_is : release.certificate ≡ certificate

-- the protection of settled inputs stops short at a question, with these repairs and these cells shown
abbrev pub ProtectionStopsShort : SettledInputs → AskFault → List Refuted → List ℕ → Type 0
ProtectionStopsShort settled fault repairs shown =
    IsProtectionFor settled (protection.Undecided (record { fault = fault; repairs = repairs; shown = shown }))

-- A hidden set protects the cells of a ready job, planned in this book; its certificate can be spelled.
pub record IsProtectedBook (described : DescribedJob) (protected : ProtectedCells) (certificate : Certificate)
    : Type 0 where
  pub planned : IsPlannedBook described protected.book.now protected.cells.now protected.rows.now
  pub one_each : length protected.cells.now ≡ protected.system.now.cells
  pub certified : IsCertified (case_of protected) protected.hidden_set.now certificate
  pub text : IsSpellable certificate

-- The job of these parts is that of settled inputs and hides cells, and this hidden set protects them, planned in this
-- book.
pub record IsProtectedJob (settled : SettledInputs) (described : DescribedJob) (protected : ProtectedCells)
    (certificate : Certificate) : Type 0 where
  pub before : BookView
  pub records : ℕ
  pub skipped : ℕ
  pub hides : job_base described ≡ None
  pub is_of : IsSettledOf settled (job_of described before protected.cells.now protected.rows.now records skipped)
  pub is_book : IsBook before
  pub is_system : IsSystemOf before protected.system.now
  pub same : IsSameButHidden before protected.book.now
  pub protects : IsProtectionOf (protected_case protected.system.now protected.cells.now)
      (prices_of described.job.cost protected.cells.now before.marks) described.job.method
      (trail_of before protected.cells.now described.job.cost (passes_of described.job.method)) described.job.steps
      (protection.Protected protected.hidden_set.now certificate)

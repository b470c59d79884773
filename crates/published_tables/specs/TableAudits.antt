-- What the numbers of a rounded release come to, when their audit is asked for (handbook, feasibility interval;
-- zero-restricted controlled rounding; own).
use Rattle.std.specs.Prelude.{◌≡◌, ◌↔◌, ℕ, true, All, List, length, ℤ}
use Rattle.sdc_base.specs.Kinds.{is_primary_at}
use Rattle.sdc_base.specs.Roundings.{IsRounding}
use Rattle.sdc_base.specs.declared.system.System.{System}
use Rattle.interval_audit.specs.declared.answer.AskFault.{AskFault}
use Rattle.interval_audit.specs.WalkLimits.{HasNoWalk}
use Rattle.cell_intervals.specs.IntervalFaults.{HasSmallComponent}
use Rattle.cell_intervals.specs.Laws.{IsSize}
use Rattle.relations.specs.Holding.{IsSystemOf}
use Rattle.relations.specs.TableSigns.{IsOneOrTwoWay}
use Rattle.cert_check.specs.declared.faults.CheckFault.{CheckFault}
use Rattle.rounding_audit.specs.AuditFaults.{IsQuestionFaultAt, IsUndecidedBy}
use Rattle.rounding_audit.specs.AuditTexts.{audit_text}
use Rattle.rounding_audit.specs.Audits.{HasWholeEnds, IsAudit}
use Rattle.rounding_audit.specs.Exposures.{exposed_in}
use Rattle.rounding_audit.specs.ReaderFaults.{IsReaderFault, truths_of}
use Rattle.rounding_audit.specs.Readers.{all_hidden}
use Rattle.rounding_audit.specs.declared.audited.AuditedCell.{AuditedCell}
use Rattle.rounding_audit.specs.declared.reader_fault.ReaderFault.{ReaderFault}
use Rattle.job_inputs.specs.declared.settled.ClassifiedJob.{ClassifiedJob}
use Rattle.published_tables.specs.TableFiles.{FileOfTables}
use Rattle.published_tables.specs.ShownValues.{base_of_job, values_read}
use Rattle.published_tables.specs.TableStops.{reader_stop}
use Rattle.published_tables.specs.declared.audit_file.AuditFile.{AuditFile}
use Rattle.published_tables.specs.declared.table_stop.TableStop.TheVariants as stop

-- There is a number for each cell, and they are a rounding of the job's truths to its base. The file is that of their
-- audit: each primary cell, ascending, with its two ends and what shows them, as a text; how many primary cells there
-- are, and how many of them aren't covered on some side. No component of a primary cell has too many cells. Where the
-- job has one table of one variable, or of two flat ones, all ends are whole, and so are the worlds beside them.
pub record IsAuditFileFor (job : ClassifiedJob) (values : List ℤ) (file : AuditFile) : Type 0 where
  pub one_each : length values ≡ length job.cells
  pub system : System
  pub audited : List AuditedCell
  pub system_is : IsSystemOf job.book system
  pub rounding : IsRounding system (truths_of job.cells) (base_of_job job) values
  pub are : IsAudit system job.cells values (base_of_job job) audited
  pub whole : IsOneOrTwoWay job.book.trees job.book.tables → All HasWholeEnds audited
  pub small : (number : ℕ) → is_primary_at job.cells number ≡ true
      → HasSmallComponent system (all_hidden system.cells) number
  pub bytes : file.bytes ≡ audit_text audited
  pub primary : file.primary ≡ length audited
  pub exposed : file.exposed ≡ exposed_in audited

-- the numbers aren't a rounding, and this is their first fault
pub record AreNoRounding (job : ClassifiedJob) (values : List ℤ) (why : CheckFault) : Type 0 where
  pub system : System
  pub system_is : IsSystemOf job.book system
  pub first : ReaderFault
  pub first_is : reader_stop first ≡ stop.NotAccepted why
  pub fault : IsReaderFault system job.cells values (base_of_job job) first

-- The numbers are a rounding, and the fault is that of the first question about a primary cell that has no answer within
-- the job's steps, and isn't want of memory. It is that a component has too many cells exactly where that of the
-- question's cell has. Where the job has one table of one variable, or of two flat ones, no walk stopped short.
pub record IsAuditStuckAt (job : ClassifiedJob) (values : List ℤ) (why : AskFault) : Type 0 where
  pub system : System
  pub system_is : IsSystemOf job.book system
  pub undecided : IsUndecidedBy system job.cells values (base_of_job job) job.described.job.steps why
  pub large : (number : ℕ) → IsQuestionFaultAt system job.cells undecided.known job.described.job.steps why number
      → IsSize why ↔ (¬ HasSmallComponent system (all_hidden system.cells) number)
  pub signed : IsOneOrTwoWay job.book.trees job.book.tables → HasNoWalk why

-- An audit of tables: they show numbers, which may be no rounding, and the file is that of the audit of a rounding.
abbrev pub audit_of_tables : FileOfTables (List ℤ) AuditFile
audit_of_tables = record {
  read = values_read;
  is_file = IsAuditFileFor;
  has_fault = AreNoRounding;
  is_stuck = IsAuditStuckAt;
}

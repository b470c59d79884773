-- What a run for an audit of a rounded release answers, and what it leaves on the tray (handbook, feasibility interval;
-- own).
use Rattle.std.specs.Prelude.{◌≡◌, ℕ, List, Result, IsOkAnd}
use Rattle.office_io.specs.Shelves.{ShelfState}
use Rattle.office_io.specs.Trays.{TrayState, HasPut, HasPutInPart}
use Rattle.job_inputs.specs.ClassifiedJobs.{HasOnlyLookedOn}
use Rattle.job_inputs.specs.declared.faults.Fault.{Fault}
use Rattle.job_inputs.specs.declared.file_ref.FileRef.TheVariants as file
use Rattle.published_tables.specs.TableAudits.{audit_of_tables}
use Rattle.published_tables.specs.TableFiles.{AreRefusedFor, IsFileOf, IsUndecidedFor}
use Rattle.job_inputs.specs.declared.purpose.Purpose.TheVariants.{Audit}
use Rattle.published_tables.specs.TablesOnShelf.{ShelvedTables, shelved_for, ComesFor}
use Rattle.published_tables.specs.declared.audit_file.AuditFile.{AuditFile}
use Rattle.job_run.specs.CommandRuns.{Ends, IsRunOf}
use Rattle.job_run.specs.Puts.{HasAtMostOnePut}
use Rattle.job_run.specs.Reporting.{IsQuestionReport}
use Rattle.job_run.specs.declared.report.Report.{Report}
use Rattle.job_run.specs.declared.report.Report.TheVariants as report

-- what a run for an audit ends with: it was found, the tables have this fault, a question stopped short, or the file
-- can't be put
abbrev pub IsAuditEnd : Ends ShelvedTables
IsAuditEnd Holds (report.Audited primary exposed) = Holds (λ shelved. Unit {0})
IsAuditEnd Holds (report.NotAccepted why) = Holds (λ shelved. AreRefusedFor audit_of_tables shelved why)
IsAuditEnd Holds (report.Undecided why repairs shown against) = Holds (λ shelved.
    IsQuestionReport (IsUndecidedFor audit_of_tables shelved) (report.Undecided why repairs shown against))
IsAuditEnd Holds (report.WriteFault f) = Holds (λ shelved. f ≡ file.Out)
IsAuditEnd Holds other = ⊥

-- the file of the audit stands under its name, put once, with so many primary cells and so many exposed ones
pub record IsAuditPut (shelved : ShelvedTables) (out : List ℕ) (primary exposed : ℕ)
    (before after : TrayState) : Type 0 where
  pub audit : AuditFile
  pub is_file : IsFileOf audit_of_tables shelved audit
  pub primary_cells : primary ≡ audit.primary
  pub exposed_cells : exposed ≡ audit.exposed
  pub put : HasPut out audit.bytes before after

-- the first bytes of the file of the audit stand under its name, put once
pub record IsAuditPart (shelved : ShelvedTables) (out : List ℕ) (before after : TrayState) : Type 0 where
  pub audit : AuditFile
  pub is_file : IsFileOf audit_of_tables shelved audit
  pub put : HasPutInPart out audit.bytes before after

-- What the tray holds afterwards: the file of the audit, or after a write fault its first bytes; else all is as it
-- was.
abbrev pub AuditLeaves : List ℕ → Report → Result ShelvedTables Fault → TrayState → TrayState → Type 0
AuditLeaves out (report.Audited primary exposed) outcome before after = IsOkAnd outcome
    (λ shelved. IsAuditPut shelved out primary exposed before after)
AuditLeaves out (report.WriteFault f) outcome before after = IsOkAnd outcome
    (λ shelved. IsAuditPart shelved out before after)
AuditLeaves out other outcome before after = after ≡ before

-- A run for the audit of the job of this name, to be put under the name `out`: whatever the shelf and the tray tell, one
-- put was made where it says that the audit was found and no second one, and the shelf was only looked at.
pub record IsAuditRunOf (name out : List ℕ) (answer : Report) (old new : ShelfState)
    (before after : TrayState) : Type 0 where
  pub run : IsRunOf (λ fs. shelved_for Audit fs name out) (λ fs. ComesFor Audit fs name out) IsAuditEnd
      (AuditLeaves out) answer old new before after
  pub one_put : (primary exposed : ℕ) → answer ≡ report.Audited primary exposed
      → (bytes : List ℕ) × HasPut out bytes before after
  pub at_most_one_put : HasAtMostOnePut out before after
  pub shelf : HasOnlyLookedOn Audit name old new

-- What holds of the tables of a job that are read for their intervals or their audit (own).
use Rattle.std.specs.Prelude.{◌≡◌, ℕ, List, Result}
use Rattle.cert_check.specs.declared.faults.CheckFault.{CheckFault}
use Rattle.job_inputs.specs.ClassifiedJobs.{SettledInputs, IsSettledOf}
use Rattle.job_inputs.specs.declared.settled.ClassifiedJob.{ClassifiedJob}
use Rattle.published_tables.specs.TableAudits.{audit_of_tables}
use Rattle.published_tables.specs.TableFiles.{AreRefusedFor, IsFileOf}
use Rattle.published_tables.specs.TableIntervals.{intervals_of_tables}
use Rattle.published_tables.specs.TablesOnShelf.{ShelvedTables}
use Rattle.published_tables.specs.declared.audit_file.AuditFile.{AuditFile}
use Rattle.published_tables.specs.declared.interval_file.IntervalFile.{IntervalFile}

-- Tables show the same, or have one first fault, for all jobs that are those of the same settled inputs. So this is what
-- the inputs and the tables give.
abbrev pub AreReadAlike : {Shown : Type 0} → (ClassifiedJob → List (List ℕ) → Result Shown CheckFault) → Type 0
AreReadAlike read =
    (settled : SettledInputs) (one other : ClassifiedJob) (tables : List (List ℕ)) → IsSettledOf settled one
    → IsSettledOf settled other
    → read one tables ≡ read other tables

-- The tables of told files have one file of intervals: its bytes and the number of its cells are what the files give.
abbrev pub HaveOneFile : Type 0
HaveOneFile =
    (shelved : ShelvedTables) (one other : IntervalFile) → IsFileOf intervals_of_tables shelved one
    → IsFileOf intervals_of_tables shelved other
    → one ≡ other

-- Tables that have a file of their audit have no fault, whatever jobs of the settled inputs the two are read by. So no
-- tables are both audited and refused.
abbrev pub AuditedHaveNoFault : Type 0
AuditedHaveNoFault =
    (shelved : ShelvedTables) (file : AuditFile) (why : CheckFault) → IsFileOf audit_of_tables shelved file
    → ¬ AreRefusedFor audit_of_tables shelved why

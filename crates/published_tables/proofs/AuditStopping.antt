-- Faults of an audit as stops.
use Rattle.std.proofs.Common.{Bool, List, ℤ, Err, refl}
use Rattle.sdc_base.specs.Signs.{AreSigns}
use Rattle.sdc_base.specs.declared.system.System.{System}
use Rattle.interval_audit.specs.declared.answer.AskFault.{AskFault}
use Rattle.interval_audit.specs.declared.answer.AskFault.TheVariants as ask
use Rattle.interval_audit.specs.WalkLimits.{HasNoWalk}
use Rattle.linked_tables.specs.BookCells.{IsBook}
use Rattle.relations.specs.Holding.{IsSystemOf}
use Rattle.relations.proofs.SignedTables.{one_or_two_way_has_signs}
use Rattle.rounding_audit.specs.AuditFaults.{HasNoWalk as HasNoAuditWalk, IsAuditFault, IsUndecidedBy}
use Rattle.rounding_audit.specs.Laws.{SizeIsLarge}
use Rattle.rounding_audit.specs.declared.audit_fault.AuditFault.{AuditFault}
use Rattle.rounding_audit.specs.declared.audit_fault.AuditFault.TheVariants as audit
use Rattle.rounding_audit.specs.declared.reader_fault.ReaderFault.TheVariants as reader
use Rattle.job_inputs.specs.declared.settled.ClassifiedJob.{ClassifiedJob}
use Rattle.published_tables.specs.TableAudits.{IsAuditStuckAt, audit_of_tables}
use Rattle.published_tables.specs.TableFiles.{ComesFrom}
use Rattle.published_tables.specs.ShownValues.{base_of_job}
use Rattle.published_tables.specs.TableStops.{audit_stop}

-- a question without an answer says why there is no audit
stuck_at : (job : ClassifiedJob) (system : System) (values : List ℤ) (why : AskFault) → IsBook job.book → IsSystemOf job.book system → IsUndecidedBy system job.cells values (base_of_job job) job.described.job.steps why → SizeIsLarge → ((signs : List Bool) → AreSigns system.relations signs → HasNoWalk why) → IsAuditStuckAt job values why
stuck_at job system values why is_book is fault size signed = record {
  system = system;
  system_is = is;
  undecided = fault;
  large = λ number at. size system job.cells fault.known job.described.job.steps number why fault.not_memory at;
  signed = λ shape. (let signs = one_or_two_way_has_signs job.book system shape is_book is in signed signs.0 signs.1);
}

-- and numbers without an audit stop the run
pub audit_stops : (job : ClassifiedJob) (system : System) (values : List ℤ) (e : AuditFault) → IsBook job.book → IsSystemOf job.book system → IsAuditFault system job.cells values (base_of_job job) job.described.job.steps e → SizeIsLarge → ((signs : List Bool) → AreSigns system.relations signs → HasNoAuditWalk e)
    → ComesFrom audit_of_tables job values (Err (audit_stop e))
audit_stops job system values (audit.Reader (reader.Rounded cell)) is_book is fault size signed = record { system = system; system_is = is; first = reader.Rounded cell; first_is = refl; fault = fault.1 }
audit_stops job system values (audit.Reader (reader.Relation number)) is_book is fault size signed = record { system = system; system_is = is; first = reader.Relation number; first_is = refl; fault = fault.1 }
audit_stops job system values (audit.Reader reader.Memory) is_book is fault size signed = tt
audit_stops job system values (audit.Question ask.Memory) is_book is fault size signed = tt
audit_stops job system values (audit.Question (ask.Work walk)) is_book is fault size signed = stuck_at job system values (ask.Work walk) is_book is fault size signed
audit_stops job system values (audit.Question (ask.Wide walk place)) is_book is fault size signed = stuck_at job system values (ask.Wide walk place) is_book is fault size signed
audit_stops job system values (audit.Question (ask.Size asked hidden)) is_book is fault size signed = stuck_at job system values (ask.Size asked hidden) is_book is fault size signed
audit_stops job system values audit.Memory is_book is fault size signed = tt

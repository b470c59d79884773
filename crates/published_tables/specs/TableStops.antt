-- Why no file is made of the tables of a job (own).
use Rattle.std.specs.Prelude.{Result, Ok, Err}
use Rattle.interval_audit.specs.declared.answer.AskFault.{AskFault}
use Rattle.interval_audit.specs.declared.answer.AskFault.TheVariants as ask
use Rattle.rounding_audit.specs.declared.audit_fault.AuditFault.{AuditFault}
use Rattle.rounding_audit.specs.declared.audit_fault.AuditFault.TheVariants as audit
use Rattle.rounding_audit.specs.declared.reader_fault.ReaderFault.{ReaderFault}
use Rattle.rounding_audit.specs.declared.reader_fault.ReaderFault.TheVariants as reader
use Rattle.cert_check.specs.declared.faults.CheckFault.{CheckFault}
use Rattle.cert_check.specs.declared.faults.CheckFault.TheVariants as check
use Rattle.job_inputs.specs.declared.stop.InputStop.{InputStop}
use Rattle.job_inputs.specs.declared.stop.InputStop.TheVariants as input
use Rattle.published_tables.specs.declared.table_stop.TableStop.{TableStop}
use Rattle.published_tables.specs.declared.table_stop.TableStop.TheVariants as stop

-- want of memory
abbrev pub memory_stop : TableStop
memory_stop = stop.Inputs input.Memory

-- a fault of the tables as a stop; want of memory is that of the inputs
abbrev pub check_stop : CheckFault → TableStop
check_stop check.Memory = memory_stop
check_stop why = stop.NotAccepted why

-- a question without an answer as a stop; want of memory is that of the inputs
abbrev pub question_stop : AskFault → TableStop
question_stop ask.Memory = memory_stop
question_stop why = stop.Undecided why

-- numbers that aren't those of a rounded release as a stop; want of memory is that of the inputs
abbrev pub reader_stop : ReaderFault → TableStop
reader_stop (reader.Rounded cell) = stop.NotAccepted (check.Rounded cell)
reader_stop (reader.Relation number) = stop.NotAccepted (check.Relation number)
reader_stop reader.Memory = memory_stop

-- a fault of an audit as a stop
abbrev pub audit_stop : AuditFault → TableStop
audit_stop (audit.Reader why) = reader_stop why
audit_stop (audit.Question why) = question_stop why
audit_stop audit.Memory = memory_stop

-- what the answer says of the reading of the inputs and the tables: what stopped it, if that did
abbrev pub reading_of : {File : Type 0} → Result File TableStop → Result (Unit {0}) InputStop
reading_of (Err (stop.Inputs why)) = Err why
reading_of other = Ok tt

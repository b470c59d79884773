use Rattle.published_tables.proofs.AuditOrFault.{audit_or_fault}
use Rattle.published_tables.proofs.laws.audited_tables_have_no_fault.Goals as goal

pub returns : goal.returns
returns c = audit_or_fault

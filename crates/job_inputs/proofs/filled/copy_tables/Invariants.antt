use Rattle.std.proofs.Common.{◌≡◌, take}
use Rattle.job_inputs.proofs.filled.copy_tables.Given as goal

abbrev pub invariant-tables : goal.invariant-tables
invariant-tables l = l.copies.items ≡ take l.table-index l.tables

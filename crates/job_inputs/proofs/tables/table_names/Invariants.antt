use Rattle.std.proofs.Common.{◌≡◌, take, map}
use Rattle.job_inputs.specs.Tables.{names_of}
use Rattle.job_inputs.proofs.tables.table_names.Given as goal

abbrev pub invariant-tables : goal.invariant-tables
invariant-tables l = l.names ≡ map names_of (take l.line-index l.fn.job.tables)

use Rattle.std.proofs.Common.{◌≡◌, ◌++◌, drop}
use Rattle.job_lang.specs.Statements.{names_in}
use Rattle.job_lang.proofs.lines.names_in.Given as goal

abbrev pub invariant-loop-table : goal.invariant-loop-table
invariant-loop-table l = l.names ++ names_in (drop l.table-index l.tables) ≡ names_in l.tables

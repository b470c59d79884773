use Rattle.std.proofs.Common.{◌≡◌, take}
use Rattle.job_lang.specs.BindingFaults.{tables_fault}
use Rattle.job_lang.proofs.binding_faults.tables_fault.Given as goal

abbrev pub invariant-loop-table : goal.invariant-loop-table
invariant-loop-table l = l.first ≡ tables_fault l.variables (take l.table-index l.tables)

use Rattle.std.proofs.Common.{◌≡◌, drop}
use Rattle.std.specs.Prelude.{find}
use Rattle.job_lang.specs.BindingFaults.{is_named}
use Rattle.job_lang.proofs.binding.variable_named.Given as goal

abbrev pub invariant-loop-variable : goal.invariant-loop-variable
invariant-loop-variable l = find (λ v. is_named l.name v) (drop l.variable-index l.variables) ≡ find (λ v. is_named l.name v) l.variables

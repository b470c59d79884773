use Rattle.std.proofs.Common.{◌≡◌, drop}
use Rattle.std.specs.Prelude.{find}
use Rattle.job_lang.proofs.binding.weight_variable.Given as goal

abbrev pub invariant-loop-variable : goal.invariant-loop-variable
invariant-loop-variable l = find (λ v. v.weight) (drop l.variable-index l.variables) ≡ find (λ v. v.weight) l.variables

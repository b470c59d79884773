use Rattle.std.proofs.Common.{◌≡◌, ◌+◌, drop}
use Rattle.std.specs.Prelude.{option_map}
use Rattle.sdc_base.specs.Places.{first_place}
use Rattle.job_lang.specs.BindingFaults.{is_named}
use Rattle.job_lang.proofs.binding.variable_place.Given as goal

abbrev pub invariant-loop-k : goal.invariant-loop-k
invariant-loop-k l = first_place (λ v. is_named l.name v) l.variables ≡ option_map (λ j. l.k + j) (first_place (λ v. is_named l.name v) (drop l.k l.variables))

use Rattle.std.proofs.Common.{◌≡◌, ◌+◌, ◌==◌, drop}
use Rattle.std.specs.Prelude.{option_map}
use Rattle.sdc_base.specs.Places.{first_place}
use Rattle.job_lang.proofs.binding.spanning_place.Given as goal

abbrev pub invariant-loop-k : goal.invariant-loop-k
invariant-loop-k l = first_place (λ j. j == l.place) l.spanning ≡ option_map (λ j. l.k + j) (first_place (λ j. j == l.place) (drop l.k l.spanning))

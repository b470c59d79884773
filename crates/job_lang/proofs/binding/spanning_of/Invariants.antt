use Rattle.std.proofs.Common.{◌≡◌, ◌++◌, drop}
use Rattle.job_lang.specs.Binding.{places_from, spanning_of}
use Rattle.job_lang.specs.BindingFaults.{is_spanning}
use Rattle.job_lang.proofs.binding.spanning_of.Given as goal

abbrev pub invariant-loop-k : goal.invariant-loop-k
invariant-loop-k l = l.places.items ++ places_from l.k (λ v. is_spanning l.tables v.name) (drop l.k l.variables) ≡ spanning_of l.tables l.variables

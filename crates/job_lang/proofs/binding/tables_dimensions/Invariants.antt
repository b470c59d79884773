use Rattle.std.proofs.Common.{◌≡◌, ◌++◌, drop}
use Rattle.job_lang.specs.Binding.{dimensions_from}
use Rattle.job_lang.proofs.binding.tables_dimensions.Given as goal

abbrev pub invariant-loop-place : goal.invariant-loop-place
invariant-loop-place l =
    l.all ++ dimensions_from l.spanning l.variables l.depths l.place (drop l.place l.tables) ≡ dimensions_from l.spanning l.variables l.depths 0 l.tables

use Rattle.std.proofs.Common.{◌≡◌, ◌-◌}
use Rattle.job_lang.specs.MissingCommands.{outputs_from}
use Rattle.job_lang.proofs.Fronts.{with_front}
use Rattle.job_lang.proofs.reading.outputs_of_tables.Given as goal

abbrev pub invariant-loop-place : goal.invariant-loop-place
invariant-loop-place l = with_front l.outputs (outputs_from (l.count - l.place) l.place l.said) ≡ outputs_from l.count 0 l.said

use Rattle.std.proofs.Common.{◌≡◌, ◌*◌}
use Rattle.demo_files.specs.Draws.{state_after}
use Rattle.demo_files.specs.Surveys as surveys
use Rattle.demo_files.proofs.survey.survey.Given as goal

abbrev pub invariant-records : goal.invariant-records
invariant-records l = (l.text.bytes.items ≡ surveys.survey l.fn.seed l.number) × (l.state ≡ state_after (l.number * 6) l.fn.seed)

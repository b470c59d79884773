use Rattle.std.proofs.Common.{◌≡◌, drop}
use Rattle.job_lang.specs.ClosingLooks.{output_said}
use Rattle.job_lang.proofs.looked_up.output_said.Given as goal

abbrev pub invariant-all : goal.invariant-all
invariant-all l = output_said l.place (drop l.statement-index l.all) ≡ output_said l.place l.all

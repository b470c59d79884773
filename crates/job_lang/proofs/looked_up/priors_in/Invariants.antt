use Rattle.std.proofs.Common.{◌≡◌, ◌++◌, drop}
use Rattle.job_lang.specs.ClosingLooks.{priors_in}
use Rattle.job_lang.proofs.looked_up.priors_in.Given as goal

abbrev pub invariant-all : goal.invariant-all
invariant-all l = l.lines ++ priors_in (drop l.statement-index l.all) ≡ priors_in l.all

use Rattle.std.proofs.Common.{◌≡◌, ◌++◌, drop}
use Rattle.job_lang.specs.ClosingLooks.{depths_in}
use Rattle.job_lang.proofs.looked_up.depths_in.Given as goal

abbrev pub invariant-all : goal.invariant-all
invariant-all l = l.lines ++ depths_in (drop l.statement-index l.all) ≡ depths_in l.all

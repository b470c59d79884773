use Rattle.std.proofs.Common.{◌≡◌, drop}
use Rattle.job_lang.specs.ClosingLooks.{statement_by}
use Rattle.job_lang.proofs.looked_up.statement_by.Given as goal

abbrev pub invariant-all : goal.invariant-all
invariant-all l = statement_by l.keyword (drop l.statement-index l.all) ≡ statement_by l.keyword l.all

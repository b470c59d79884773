use Rattle.std.proofs.Common.{◌≡◌, drop}
use Rattle.job_lang.specs.RuleTexts.{man_of}
use Rattle.job_lang.proofs.rules.man_of.Given as goal

abbrev pub invariant-loop-clause : goal.invariant-loop-clause
invariant-loop-clause l = man_of (drop l.clause-index l.clauses) ≡ man_of l.clauses

use Rattle.std.proofs.Common.{◌≡◌, drop}
use Rattle.job_lang.specs.RuleTexts.{weighted_of}
use Rattle.job_lang.proofs.rules.weighted_of.Given as goal

abbrev pub invariant-loop-clause : goal.invariant-loop-clause
invariant-loop-clause l = weighted_of (drop l.clause-index l.clauses) ≡ weighted_of l.clauses

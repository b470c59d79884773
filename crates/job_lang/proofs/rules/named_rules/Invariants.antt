use Rattle.std.proofs.Common.{◌≡◌, ◌++◌, drop}
use Rattle.job_lang.specs.RuleTexts.{named_in}
use Rattle.job_lang.proofs.rules.named_rules.Given as goal

abbrev pub invariant-loop-clause : goal.invariant-loop-clause
invariant-loop-clause l = l.rules.items ++ named_in (drop l.clause-index l.clauses) ≡ named_in l.clauses

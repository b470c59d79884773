use Rattle.std.proofs.Common.{◌≡◌, ◌+◌, ◌≤◌, length, drop}
use Rattle.job_lang.specs.RuleTexts.{named_in}
use Rattle.job_lang.proofs.rules.named_count.Given as goal

abbrev pub invariant-loop-clause : goal.invariant-loop-clause
invariant-loop-clause l = (l.count + length (named_in (drop l.clause-index l.clauses)) ≡ length (named_in l.clauses)) × (l.count ≤ l.clause-index)

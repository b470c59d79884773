use Rattle.std.proofs.Common.{◌≡◌, ◌≤◌, take}
use Rattle.sdc_base.specs.RuleLevels.{keep_of}
use Rattle.primary_rules.proofs.levels.keep.Given as goal

abbrev pub invariant-loop-rule : goal.invariant-loop-rule
invariant-loop-rule l = record {
  value : l.most ≡ keep_of (take l.rule-index l.rules.list);
  at_least_two : 2 ≤ l.most;
  at_most_ten : l.most ≤ 10;
}

use Rattle.std.proofs.Common.{◌≡◌, drop}
use Rattle.std.specs.Option.{ForSome}
use Rattle.sdc_base.specs.RuleLevels.{figures_of_facts, upper_of}
use Rattle.primary_rules.specs.OneRule.{greater_of}
use Rattle.primary_rules.specs.Ranges.{IsUpper}
use Rattle.primary_rules.proofs.levels.greatest.Given as goal

abbrev pub invariant-loop-rule : goal.invariant-loop-rule
invariant-loop-rule l = record {
  level : ForSome l.most IsUpper;
  value : greater_of l.most (upper_of (drop l.rule-index l.rules) (figures_of_facts l.facts)) ≡ upper_of l.rules (figures_of_facts l.facts);
}

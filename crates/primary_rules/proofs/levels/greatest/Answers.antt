use Rattle.std.proofs.Common.{◌∙◌, ap, drop, ◌+◌, get_or}
use Rattle.std.proofs.lemmas.List.{drop_more}
use Rattle.sdc_base.specs.RuleLevels.{figures_of_facts, upper_of}
use Rattle.sdc_base.specs.declared.rule.Rule.TheVariants as rule
use Rattle.primary_rules.specs.OneRule.{greater_of}
use Rattle.primary_rules.proofs.OneByOne.{one_more}
use Rattle.primary_rules.proofs.levels.greatest.Goals as goal

pub loop-rule-preserved : goal.loop-rule-preserved
loop-rule-preserved c =
    let here = drop_more c.args.rules.now c.loop-rule.rule-index (rule.Freq 0 0) c.loop-rule-test.true in
    record {
      level = c.greater-most.ensures.level;
      value =
          ap (λ m. greater_of m (upper_of (drop (c.loop-rule.rule-index + 1) c.args.rules.now) (figures_of_facts c.args.facts.now))) (c.greater-most.ensures.value ∙ ap (λ u. greater_of c.loop-rule.most u) c.up_under.ensures.value)
          ∙ one_more c.loop-rule.most c.loop-rule.rule-index c.args.rules.now (get_or c.args.rules.now c.loop-rule.rule-index (rule.Freq 0 0)) (figures_of_facts c.args.facts.now) here
          ∙ c.loop-rule.invariant.value;
    }

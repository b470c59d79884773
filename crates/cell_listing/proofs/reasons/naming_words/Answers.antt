use Rattle.sdc_base.specs.RuleLevels.{figures_of_facts}
use Rattle.cell_listing.proofs.Naming.{naming_step}
use Rattle.cell_listing.proofs.reasons.naming_words.Goals as goal

pub rules-preserved : goal.rules-preserved
rules-preserved c = naming_step c.args.rules.now c.rules.rule-index _ (figures_of_facts c.args.facts.now) c.rules.words c.add_naming.new.words c.rules-test.true c.rules.invariant c.in_ok-add_naming.ensures

use Rattle.std.proofs.Common.{◌≡◌, take}
use Rattle.sdc_base.specs.RuleLevels.{figures_of_facts}
use Rattle.cell_listing.specs.Reasons.{naming_words}
use Rattle.cell_listing.proofs.reasons.naming_words.Given as goal

abbrev pub invariant-rules : goal.invariant-rules
invariant-rules l = l.words ≡ naming_words (take l.rule-index l.rules) (figures_of_facts l.facts)

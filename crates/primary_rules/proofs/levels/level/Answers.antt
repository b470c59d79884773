use Rattle.std.proofs.Common.{ap, ◌∙◌}
use Rattle.primary_rules.proofs.KeptFigures.{same_levels, facts_agree}
use Rattle.sdc_base.specs.RuleLevels.{figures_of_facts, figures_in, level_of}
use Rattle.primary_rules.proofs.levels.level.Goals as goal

pub returns-clause-over_records : goal.returns-clause-over_records
returns-clause-over_records c = λ trees name rows are.
    let facts = c.args.facts.now in
    c.levels_by.ensures.value ∙ ap (λ list. level_of list (figures_of_facts facts)) c.as_slice.ensures ∙ same_levels facts.tops.keep c.args.rules.now.list (figures_of_facts facts) (figures_in trees name rows facts.tops.scale) c.requires.kept (facts_agree facts trees name rows are)

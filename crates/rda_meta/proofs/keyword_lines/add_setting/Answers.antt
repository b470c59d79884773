use Rattle.std.proofs.Common.{sym, ◌∙◌}
use Rattle.rda_meta.proofs.LineSteps.{with_none}
use Rattle.rda_meta.proofs.keyword_lines.add_setting.Goals as goal

pub returns-in_default : goal.returns-in_default
returns-in_default c = c.in_default.ensures.same ∙ c.in_default.ensures.none ∙ sym (with_none c.args.setting c.args.entries.now c.in_default.ensures.none)

use Rattle.std.proofs.Common.{◌∙◌, List, All, length, ap, sym, subst}
use Rattle.cost_rule.specs.Costs.{AreCosted}
use Rattle.linked_tables.specs.declared.mark.Mark.{Mark}
use Rattle.cell_protection.proofs.Protecting.{modest-levels}
use Rattle.contributor_protection.proofs.guarding.answer_by.Goals as goal

pub guard-requires-clause-can : goal.guard-requires-clause-can
guard-requires-clause-can g c = record {
  each_cell = c.requires.together.one_each;
  each_mark = ap (λ (marks : List Mark). length marks) c.marks.ensures ∙ sym c.requires.together.marks;
  costed = subst (λ (marks : List Mark). All (λ (mark : Mark). AreCosted mark.facts) marks) (sym c.marks.ensures) c.requires.together.costed;
  modest = modest-levels c.args.protected.now.cells.now c.requires.together.levels;
  some_steps = c.requires.limit;
}

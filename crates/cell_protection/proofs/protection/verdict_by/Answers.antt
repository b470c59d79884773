use Rattle.cell_protection.proofs.Protecting.{modest-levels}
use Rattle.cell_protection.proofs.protection.verdict_by.Goals as goal

pub protect-requires-clause-can : goal.protect-requires-clause-can
protect-requires-clause-can g c = record {
  each_cell = c.requires.one_each;
  each_mark = c.requires.marks;
  costed = c.requires.costed;
  modest = modest-levels c.args.costed.now.cells.now c.requires.levels;
  some_steps = c.requires.limit;
}

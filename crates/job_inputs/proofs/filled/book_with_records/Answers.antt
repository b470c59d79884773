use Rattle.std.proofs.Common.{ℕ, arith, subst}
use Rattle.tabulate.specs.TabulatedMarks.{AreTabulated}
use Rattle.job_inputs.proofs.Filling.{scale-range, rows-are}
use Rattle.job_inputs.proofs.filled.book_with_records.Goals as goal

pub tabulate-requires-clause-scale_from_one : goal.tabulate-requires-clause-scale_from_one
tabulate-requires-clause-scale_from_one c = (scale-range c.args.described.now c.requires.sound).0

pub tabulate-requires-clause-rows : goal.tabulate-requires-clause-rows
tabulate-requires-clause-rows c = record {
  each = rows-are c.args.book.trees c.args.described.now.bound.scale c.args.rows.now c.requires.rows.each;
  at_most_1000000 = c.requires.rows.at_most_1000000;
}

pub returns : goal.returns
returns c = let book = c.cells-cells.ensures.book in record {
  trees = c.tabulate.ensures.trees;
  tables = c.tabulate.ensures.tables;
  told = subst (λ (kept : ℕ). AreTabulated c.tabulate.new.book c.args.rows.now kept c.args.described.now.bound.scale) c.keep-kept.ensures.value c.tabulate.ensures.marks;
  one_each = book.one_each;
  fewer_than_2_32 = omega (arith, book.one_each, book.at_most);
}

use Rattle.std.proofs.Common.{length, pos, arith}
use Rattle.rounding_audit.proofs.Adjacent.{rounded_at, unrounded_at, rounded_next, rounded_all}
use Rattle.rounding_audit.proofs.adjacency.first_unrounded.Goals as goal

pub returns-then-not-is_adjacent-clause-first : goal.returns-then-not-is_adjacent-clause-first
returns-then-not-is_adjacent-clause-first c = record {
  known = c.cells-test.true;
  unrounded = unrounded_at c.args.cells.now c.args.values.now c.args.base.now c.cells.number c.index-cells-number.result (pos 0) c.is_adjacent.result c.cells-test.true c.requires.each c.index-cells-number.is c.if-not-is_adjacent.true c.is_adjacent.ensures;
  earlier = c.cells.invariant;
}

pub cells-preserved : goal.cells-preserved
cells-preserved c =
    rounded_next c.args.cells.now c.args.values.now c.args.base.now c.cells.number c.cells.invariant
    (rounded_at c.args.cells.now c.args.values.now c.args.base.now c.cells.number c.index-cells-number.result (pos 0) c.is_adjacent.result c.cells-test.true c.requires.each c.index-cells-number.is c.if-not-is_adjacent.false c.is_adjacent.ensures)

pub returns-clause-none : goal.returns-clause-none
returns-clause-none c = rounded_all c.args.cells.now c.args.values.now c.args.base.now c.cells.number (length c.args.cells.now) (omega (arith, c.cells-test.false)) c.cells.invariant

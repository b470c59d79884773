use Rattle.std.proofs.Common.{◌≡◌, ◌∙◌, ℕ, length, arith, subst, sym}
use Rattle.signed_network.specs.Networks.{AreTouching}
use Rattle.signed_network.proofs.Touching.{none_touching, one_more_touching, passed_touching}
use Rattle.signed_network.proofs.network.touching_of.Goals as goal

pub cells-init : goal.cells-init
cells-init c = record { each = c.in_ok-touching.ensures.many; touched = none_touching c.args.flags.now c.args.arcs.now c.in_ok-touching.touching.items c.in_ok-touching.ensures.empty }

pub returns-clause-touched : goal.returns-clause-touched
returns-clause-touched c =
    let all : c.cells.cell ≡ length c.args.arcs.now = omega (arith, c.cells-test.false, c.cells.auto.cell-end) in
    subst (λ (k : ℕ). AreTouching c.args.flags.now c.args.arcs.now k c.cells.touching.items) all c.cells.invariant.touched

pub cells-preserved-then-not-is_hidden : goal.cells-preserved-then-not-is_hidden
cells-preserved-then-not-is_hidden c = record {
  each = c.cells.invariant.each;
  touched = passed_touching c.args.flags.now c.args.arcs.now c.cells.cell c.cells.touching.items (sym c.is_hidden.ensures ∙ c.if-not-is_hidden.true) c.cells.invariant.touched;
}

pub cells-preserved : goal.cells-preserved
cells-preserved c = record {
  each = c.in_ok-add_cell-2.ensures.each ∙ c.in_ok-add_cell.ensures.each ∙ c.cells.invariant.each;
  touched = one_more_touching c.args.flags.now c.args.arcs.now c.cells.cell c.cells.touching.items c.add_cell.new.touching.items c.add_cell-in-cells.new.touching.items (sym c.is_hidden.ensures ∙ c.if-not-is_hidden.false) c.in_ok-add_cell.ensures.added c.in_ok-add_cell-2.ensures.added c.cells.invariant.touched;
}

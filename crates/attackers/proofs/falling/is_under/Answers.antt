use Rattle.std.proofs.Common.{◌≡◌, ◌==◌, false, arith}
use Rattle.std.proofs.lemmas.Bool.Decides.{nat_tests}
use Rattle.linked_tables.specs.BookCells.{tree_of}
use Rattle.attackers.proofs.Falls.{met_passed}
use Rattle.sdc_base.specs.Trees.{is_under}
use Rattle.attackers.proofs.falling.is_under.Goals as goal

pub steps-preserved : goal.steps-preserved
steps-preserved c =
    let other : (c.in-Some.at == c.args.above) ≡ false = grind (arith, nat_tests, c.if-at-above.false) in
    met_passed (tree_of c.args.book.now c.args.variable) c.args.above c.size-step-end.result c.steps.step c.in-Some.at c.steps.met c.parent-met.result (is_under (tree_of c.args.book.now c.args.variable) c.args.place c.args.above) c.steps-test.true c.in-Some.is other c.parent-met.ensures c.steps.invariant

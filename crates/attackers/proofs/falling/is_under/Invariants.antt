use Rattle.std.proofs.Common.{◌≡◌, ◌-◌, ◌==◌}
use Rattle.std.specs.List.{list_any}
use Rattle.sdc_base.specs.Trees as trees
use Rattle.linked_tables.specs.BookCells.{tree_of}
use Rattle.attackers.proofs.falling.is_under.Given as goal

abbrev pub invariant-steps : goal.invariant-steps
invariant-steps l =
    list_any (λ met. met == l.above) (trees.met_in (l.step-end - l.step) (tree_of l.book l.variable) l.met)
    ≡ trees.is_under (tree_of l.book l.variable) l.place l.above

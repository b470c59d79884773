use Rattle.std.proofs.Common.{◌≡◌, map, take}
use Rattle.modular_plan.proofs.planning.corner_cell_numbers.Given as goal

abbrev pub invariant-loop-corner : goal.invariant-loop-corner
invariant-loop-corner l = l.numbers.items ≡ map (λ corner. corner.cell) (take l.corner-index l.corners)

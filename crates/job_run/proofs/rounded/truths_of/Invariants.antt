use Rattle.std.proofs.Common.{◌≡◌, map, take}
use Rattle.job_run.proofs.rounded.truths_of.Given as goal

abbrev pub invariant-cells : goal.invariant-cells
invariant-cells l = l.truths ≡ map (λ cell. cell.truth) (take l.cell-index l.fn.cells)

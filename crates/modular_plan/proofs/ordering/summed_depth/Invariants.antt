use Rattle.std.proofs.Common.{◌≡◌, ◌+◌, ◌*◌, ◌^◌, ◌≤◌, drop}
use Rattle.sdc_base.specs.Subtables.{summed_depth}
use Rattle.modular_plan.proofs.ordering.summed_depth.Given as goal

abbrev pub invariant-variables : goal.invariant-variables
invariant-variables l = record {
  rest : l.sum + summed_depth l.book.trees (drop l.k l.table) (drop l.k l.place) ≡ summed_depth l.book.trees l.table l.place;
  few : l.sum ≤ 2 ^ 32 * l.k;
}

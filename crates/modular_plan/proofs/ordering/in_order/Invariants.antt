use Rattle.std.proofs.Common.{◌≡◌, ◌+◌, ◌-◌, ◌++◌}
use Rattle.std.specs.List.{range_with_len}
use Rattle.sdc_base.specs.Subtables.{by_depths, most_depth}
use Rattle.modular_plan.proofs.ordering.in_order.Given as goal

abbrev pub invariant-depths : goal.invariant-depths
invariant-depths l = l.found.items ++ by_depths l.book.trees l.book.tables l.all (range_with_len l.depth (73 - l.depth)) ≡ by_depths l.book.trees l.book.tables l.all (range_with_len 0 (most_depth + 1))

use Rattle.std.proofs.Common.{◌≡◌, ◌-◌, ◌++◌, []}
use Rattle.std.specs.List.{range_with_len}
use Rattle.sdc_base.specs.Cells.{cut_tree}
use Rattle.sdc_base.specs.Subtables.{inner_among, inner_codes}
use Rattle.modular_plan.proofs.subtables.inner_codes.Given as goal

abbrev pub invariant-codes : goal.invariant-codes
invariant-codes l = l.codes.items ++ inner_among (cut_tree l.book.trees l.dimension) (range_with_len l.code (l.size - l.code)) ≡ inner_codes (cut_tree l.book.trees l.dimension)

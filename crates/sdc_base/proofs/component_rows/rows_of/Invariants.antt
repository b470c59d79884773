use Rattle.std.proofs.Common.{◌≡◌, false, length, slice_get}
use Rattle.std.specs.Option.{option_map_or}
use Rattle.sdc_base.specs.ComponentRows.{lists_in, stands_in}
use Rattle.sdc_base.proofs.PuttingRows.{lists_below}
use Rattle.sdc_base.proofs.component_rows.rows_of.Given as goal

abbrev pub invariant-relations : goal.invariant-relations
invariant-relations l = lists_in l.lists.items ≡ lists_below (λ number row. option_map_or (stands_in l.of number) (slice_get l.system.relations row) false) l.number (length l.components.sizes)

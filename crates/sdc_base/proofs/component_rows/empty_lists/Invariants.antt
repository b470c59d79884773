use Rattle.std.proofs.Common.{◌≡◌, [], replicate}
use Rattle.sdc_base.specs.ComponentRows.{lists_in}
use Rattle.sdc_base.proofs.component_rows.empty_lists.Given as goal

abbrev pub invariant-lists : goal.invariant-lists
invariant-lists l = lists_in l.lists.items ≡ replicate l._list []

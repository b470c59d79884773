use Rattle.std.proofs.Common.{◌+◌, ◌-◌, ◌++◌, ℕ, List, ap, sym, ◌∙◌, append_assoc}
use Rattle.std.specs.List.{range_with_len}
use Rattle.sdc_base.specs.Subtables.{by_depths, of_depth}
use Rattle.sdc_base.specs.declared.cube.Subtable.{Subtable}
use Rattle.sdc_base.proofs.GrowingLists.{range-next}
use Rattle.modular_plan.proofs.ordering.in_order.Goals as goal

pub depths-preserved : goal.depths-preserved
depths-preserved c =
    let trees = c.args.book.now.trees in
    let tables = c.args.book.now.tables in
    let all : List Subtable = c.args.all.now in
    let depth = c.depths.depth in
    let done : List Subtable = c.depths.found.items in
    let left : List Subtable = by_depths trees tables all (range_with_len (depth + 1) (73 - (depth + 1))) in
    ap (λ (found : List Subtable). found ++ left) c.in_ok-add_depth.ensures
    ∙ append_assoc done (of_depth trees tables depth all) left
    ∙ ap (λ (depths : List ℕ). done ++ by_depths trees tables all depths) (sym (range-next depth 73 c.depths-test.true))
    ∙ c.depths.invariant

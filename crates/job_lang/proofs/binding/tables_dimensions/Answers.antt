use Rattle.std.proofs.Common.{List, map, ℕ, ap, ◌∙◌}
use Rattle.sdc_base.specs.declared.dimension.Dimension.{Dimension}
use Rattle.job_lang.specs.Binding.{spanning_place, depth_of}
use Rattle.job_lang.proofs.DimensionLists.{dimensions_go_on}
use Rattle.job_lang.proofs.binding.tables_dimensions.Goals as goal

pub loop-place-preserved : goal.loop-place-preserved
loop-place-preserved c =
    let dimension : List ℕ → Dimension = λ name. record { variable = spanning_place c.args.spanning.now c.args.variables.now name; depth = depth_of c.args.depths.now c.loop-place.place name } in
    let made = c.table_dimensions.ensures ∙ ap (λ (names : List (List ℕ)). map dimension names) c.as_slice-names.ensures in
    rw c.in_ok-push.ensures.ok
    (dimensions_go_on c.args.spanning.now c.args.variables.now c.args.depths.now c.loop-place.place c.loop-place.all c.args.tables.now c.index-tables-place.result c.table_dimensions.result c.loop-place-test.true c.index-tables-place.is made
    ∙ c.loop-place.invariant)

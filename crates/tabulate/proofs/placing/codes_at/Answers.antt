use Rattle.std.proofs.Common.{◌≡◌, ◌<◌, ◌∙◌, List, length, get_or, ap, arith}
use Rattle.sdc_base.specs.declared.dimension.Dimension.{Dimension}
use Rattle.tabulate.proofs.PlaceLists.{insert-next, mapped-at, mapped-long, no_dimension}
use Rattle.tabulate.specs.RecordsByPlace.{code_in_table, codes_for}
use Rattle.tabulate.proofs.placing.codes_at.Goals as goal

pub variables-preserved : goal.variables-preserved
variables-preserved c =
    let trees = c.args.book.now.trees in
    let codes = c.args.codes.now in
    let table = c.args.table.now in
    let k = c.variables.k in
    let inside : k < length table = omega (arith, c.variables-test.true, c.len-k-end.ensures.len) in
    let long = mapped-long (code_in_table trees codes) table in
    let code : c.code_under.result ≡ get_or (codes_for trees codes table) k 0 =
    c.code_under.ensures ∙ ap (λ (some : List Dimension). code_in_table trees codes (get_or some k no_dimension)) c.as_slice.ensures ∙ mapped-at (code_in_table trees codes) table k inside
    in
    c.insert.ensures ∙ insert-next (codes_for trees codes table) c.variables.place k c.code_under.result c.variables.invariant (omega (arith, inside, long)) code

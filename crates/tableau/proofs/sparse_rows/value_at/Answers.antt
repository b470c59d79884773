use Rattle.std.proofs.Common.{◌<◌, pos, length, ◌∙◌, arith, rules, FitsSigned}
use Rattle.std.specs.Int.{w128}
use Rattle.std.proofs.lemmas.Int.{to_z-of_z}
use Rattle.std.proofs.lemmas.List.{get_or_read}
use Rattle.tableau.proofs.SparseTables.{length-values_kept, value_kept}
use Rattle.tableau.proofs.sparse_rows.value_at.Goals as goal

pub index-requires : goal.index-requires
index-requires c = omega (arith, length-values_kept c.args.table.now c.requires.sound, c.requires.row)

pub returns : goal.returns
returns c =
    let s = c.args.table.now in
    let fits : FitsSigned w128 c.index.result.now = search rules in
    let within : c.args.k < length s.values.items = omega (arith, length-values_kept s c.requires.sound, c.requires.row) in
    to_z-of_z w128 c.index.result.now fits ∙ get_or_read s.values.items c.args.k c.index.result.now within c.index.ensures (pos 0) ∙ value_kept s c.args.k c.requires.sound c.requires.row

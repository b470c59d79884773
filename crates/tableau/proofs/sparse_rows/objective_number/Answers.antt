use Rattle.std.proofs.Common.{◌<◌, ℤ, List, pos, length, slice_index_or, ap, ◌∙◌, arith, rules, FitsSigned}
use Rattle.std.specs.Int.{w128}
use Rattle.std.proofs.lemmas.Int.{to_z-of_z}
use Rattle.std.proofs.lemmas.List.{get_or_read}
use Rattle.tableau.proofs.SparseTables.{length-objective_kept}
use Rattle.tableau.proofs.sparse_rows.objective_number.Goals as goal

pub index-requires : goal.index-requires
index-requires c = omega (arith, length-objective_kept c.args.table.now c.requires.sound, c.requires.place)

pub returns : goal.returns
returns c =
    let s = c.args.table.now in
    let fits : FitsSigned w128 c.index.result.now = search rules in
    let within : c.args.j < length s.objective.items = omega (arith, length-objective_kept s c.requires.sound, c.requires.place) in
    to_z-of_z w128 c.index.result.now fits ∙ get_or_read s.objective.items c.args.j c.index.result.now within c.index.ensures (pos 0) ∙ ap (λ (t : List ℤ). slice_index_or t c.args.j (pos 0)) c.requires.sound.objective

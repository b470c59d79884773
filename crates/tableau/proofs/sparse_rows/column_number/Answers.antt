use Rattle.std.proofs.Common.{ℤ, List, pos, length, slice_index_or, ap, ◌∙◌, arith, rules, FitsSigned}
use Rattle.std.specs.Int.{w128}
use Rattle.std.proofs.lemmas.Int.{to_z-of_z}
use Rattle.tableau.proofs.SparseTables.{column_at, length-column}
use Rattle.tableau.proofs.sparse_rows.column_number.Goals as goal

pub bounds-numbers-k : goal.bounds-numbers-k
bounds-numbers-k c = omega (arith, ap length c.requires.numbers, length-column c.args.table.now c.args.column, c.requires.row)

pub returns : goal.returns
returns c =
    let s = c.args.table.now in
    let x : ℤ = slice_index_or c.args.numbers.now c.args.k (pos 0) in
    let fits : FitsSigned w128 x = search rules in
    to_z-of_z w128 x fits ∙ ap (λ (t : List ℤ). slice_index_or t c.args.k (pos 0)) c.requires.numbers ∙ column_at s c.args.column c.args.k c.requires.row

use Rattle.std.proofs.Common.{◌≡◌, ◌+◌, List, length, ap, ◌∙◌, arith, rules, FitsSigned, ◌*ℤ◌}
use Rattle.std.specs.Int.{w128}
use Rattle.std.proofs.lemmas.Int.{to_z-of_z}
use Rattle.sdc_base.specs.Forms.{Term}
use Rattle.tableau.specs.OwnRows.{own_den}
use Rattle.tableau.specs.SparseTables.{factor_at, width_of}
use Rattle.tableau.proofs.SparseTables.{factor_is, den_up, sparse_at}
use Rattle.tableau.proofs.sparse_rows.row_den.Goals as goal

pub den_of-requires-clause-sparse : goal.den_of-requires-clause-sparse
den_of-requires-clause-sparse c = sparse_at (length c.args.table.now.others.items + 2) (c.len.result + 1 + 1) c.row_of.result.now (omega (arith, c.len.ensures)) c.row_of.ensures.sparse

pub den_of-requires-clause-above : goal.den_of-requires-clause-above
den_of-requires-clause-above c = den_up c.args.table.now c.args.k (c.len.result + 1) c.row_of.result.now c.requires.sound (omega (arith, c.requires.row)) (omega (arith, c.len.ensures)) c.row_of.ensures.row_at

pub returns : goal.returns
returns c =
    let s = c.args.table.now in
    let fits : FitsSigned w128 c.den_of.result = search rules in
    let width : c.len.result + 1 ≡ width_of s = omega (arith, c.len.ensures) in
    ap (λ x. x *ℤ factor_at s c.args.k) (to_z-of_z w128 c.den_of.result fits ∙ c.den_of.ensures ∙ ap (λ n. own_den n c.row_of.result.now) width ∙ ap (λ (t : List Term). own_den (width_of s) t) c.row_of.ensures.row_at)
    ∙ factor_is s c.args.k c.requires.sound (omega (arith, c.requires.row))

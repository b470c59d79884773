use Rattle.std.proofs.Common.{pos, ◌≤ℤ◌, slice_index_or, [], arith, rules, refl, subst, FitsSigned}
use Rattle.std.specs.Int.{w128}
use Rattle.std.proofs.lemmas.Int.{ints, to_z-of_z}
use Rattle.sdc_base.specs.Systems.{number_at}
use Rattle.tableau.specs.Choices.{IsLeaving}
use Rattle.tableau.specs.SparseTables.{table_of}
use Rattle.tableau.proofs.LeavingRows.{leaves_new, leaves_tied, leaves_passed}
use Rattle.tableau.proofs.leaving.choose_leaving.Goals as goal

pub returns-in-Less : goal.returns-in-Less
returns-in-Less c =
    let t = table_of c.args.column.now.table.now in
    let problem = c.args.column.now.problem.now in
    let up : pos 1 ≤ℤ number_at (slice_index_or t.rows c.args.k []) c.args.column.now.place = let fits : FitsSigned w128 c.member_number.result = search rules in c.member_number.ensures.above (omega (arith, ints, to_z-of_z w128 c.member_number.result fits)) in
    let best = subst (λ b. IsLeaving problem t c.args.column.now.place c.args.k b) c.in-Some.is c.requires.best in
    leaves_new problem t c.args.column.now.place c.args.k c.in-Some.row best up (c.in-Less.ensures.less refl)

pub returns-in-Equal : goal.returns-in-Equal
returns-in-Equal c =
    let t = table_of c.args.column.now.table.now in
    let problem = c.args.column.now.problem.now in
    let best = subst (λ b. IsLeaving problem t c.args.column.now.place c.args.k b) c.in-Some.is c.requires.best in
    leaves_tied problem t c.args.column.now.place c.args.k c.in-Some.row best (c.in-Equal.ensures.equal refl)

pub returns-then-member_number-le0 : goal.returns-then-member_number-le0
returns-then-member_number-le0 c =
    let x = c.member_number.result in
    let fits : FitsSigned w128 x = search rules in
    leaves_passed c.args.column.now.problem.now (table_of c.args.column.now.table.now) c.args.column.now.place c.args.k c.args.best c.requires.best (c.member_number.ensures.below (omega (arith, ints, c.if-member_number-le0.true, to_z-of_z w128 x fits)))

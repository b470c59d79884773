use Rattle.std.proofs.Common.{◌≡◌, ◌+◌, pos, arith, refl, ap, ◌∙◌, below_more}
use Rattle.tableau.specs.RowLists.{lead}
use Rattle.tableau.specs.SparseTables.{table_of}
use Rattle.tableau.proofs.Numbers.{lead_turned, leads}
use Rattle.tableau.proofs.Exchanges.{by_place}
use Rattle.tableau.proofs.lists.compare_lists.Goals as goal

pub loop-place-init : goal.loop-place-init
loop-place-init c i below =
    let g = lead c.args.column.now.problem.now (table_of c.args.column.now.table.now) c.args.column.now.place c.args.other c.args.one in
    by_place i 0 (λ same. ap g same ∙ c.in-Equal.ensures.equal refl) (λ apart. c.first_apart-first.ensures.same i apart below)

pub loop-place-preserved : goal.loop-place-preserved
loop-place-preserved c =
    below_more (λ i. lead c.args.column.now.problem.now (table_of c.args.column.now.table.now) c.args.column.now.place c.args.other c.args.one i ≡ pos 0) c.loop-place.place c.loop-place.invariant (c.in-Equal-compare_places.ensures.equal refl)

pub returns-in-Less-clause-less : goal.returns-in-Less-clause-less
returns-in-Less-clause-less c _ =
    leads c.args.column.now.problem.now (table_of c.args.column.now.table.now) c.args.column.now.place c.args.one c.args.other 0 (omega arith) (λ i below. absurd (omega (arith, below))) (c.in-Less.ensures.less refl)

pub returns-in-Greater-clause-greater : goal.returns-in-Greater-clause-greater
returns-in-Greater-clause-greater c _ =
    leads c.args.column.now.problem.now (table_of c.args.column.now.table.now) c.args.column.now.place c.args.other c.args.one 0 (omega arith) (λ i below. absurd (omega (arith, below))) (c.in-Greater.ensures.greater refl)

pub returns-in-Less-compare_places-clause-less : goal.returns-in-Less-compare_places-clause-less
returns-in-Less-compare_places-clause-less c _ =
    let t = table_of c.args.column.now.table.now in
    let problem = c.args.column.now.problem.now in
    leads problem t c.args.column.now.place c.args.one c.args.other c.loop-place.place (omega (arith, c.requires.column.kept.sized.members, c.loop-place-test.true))
    (λ i below. lead_turned problem t c.args.column.now.place c.args.other c.args.one i (c.loop-place.invariant i below))
    (c.in-Less-compare_places.ensures.less refl)

pub returns-in-Greater-compare_places-clause-greater : goal.returns-in-Greater-compare_places-clause-greater
returns-in-Greater-compare_places-clause-greater c _ =
    leads c.args.column.now.problem.now (table_of c.args.column.now.table.now) c.args.column.now.place c.args.other c.args.one c.loop-place.place (omega (arith, c.requires.column.kept.sized.members, c.loop-place-test.true)) c.loop-place.invariant (c.in-Greater-compare_places.ensures.greater refl)

pub returns-clause-equal : goal.returns-clause-equal
returns-clause-equal c _ i below =
    let t = table_of c.args.column.now.table.now in
    let from : 0 + i ≡ i = omega arith in
    ap (lead c.args.column.now.problem.now t c.args.column.now.place c.args.other c.args.one) from ∙ c.loop-place.invariant i (omega (arith, c.loop-place-test.false, c.loop-place.auto.place-end, c.requires.column.kept.sized.members, below))

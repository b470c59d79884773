use Rattle.std.proofs.Common.{◌≡◌, ◌≤◌, slice_index, arith}
use Rattle.std.proofs.lemmas.List.{get_or_read}
use Rattle.tableau.specs.RowLists.{list_size}
use Rattle.tableau.proofs.Independent.{by_less}
use Rattle.tableau.proofs.lists.own_place.Goals as goal

pub returns-clause-within : goal.returns-clause-within
returns-clause-within c =
    let d = c.args.table.now in
    let name = c.index.result.now in
    let own : name ≡ slice_index d.members.items c.args.k = get_or_read d.members.items c.args.k name c.requires.row c.index.ensures 0 in
    by_less {P = c.list_place.result ≤ list_size c.args.problem.now} name c.args.problem.now.columns
    (λ less. omega (arith, c.list_place.ensures.column less, c.requires.kept.sized.members))
    (λ more. omega (arith, own, c.list_place.ensures.slack more, c.requires.kept.basis.members_below c.args.k c.requires.row))

pub returns-clause-slack : goal.returns-clause-slack
returns-clause-slack c up =
    let d = c.args.table.now in
    let own : c.index.result.now ≡ slice_index d.members.items c.args.k = get_or_read d.members.items c.args.k c.index.result.now c.requires.row c.index.ensures 0 in
    omega (arith, own, c.list_place.ensures.slack (omega (arith, own, up)))

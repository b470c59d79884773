use Rattle.std.proofs.Common.{◌≡◌, ◌⊎◌, ◌<◌, ℕ, true, List, All, length, take, arith, inr, sym, subst}
use Rattle.std.specs.List.{Contains}
use Rattle.std.specs.List.Sorted.{IsNonDecreasing}
use Rattle.std.proofs.lemmas.List.Elements.{All-drop, All-weaker}
use Rattle.sdc_base.specs.Systems.{number_at}
use Rattle.rounding.specs.Neighbours.{is_multiple}
use Rattle.rounding.proofs.Circling.{ends_inside, read_cells, cells_inside, found_touches, never_stuck, with_front, found_behind}
use Rattle.rounding.proofs.walk.next_step.Goals as goal

pub place_from-requires : goal.place_from-requires
place_from-requires c =
    let arcs = c.args.network.now.arcs.items in
    let touching = c.args.network.now.touching.items in
    let below : c.args.step.cell < length arcs = omega (arith, c.requires.balanced.each, c.requires.moves.inside) in
    let is = read_cells touching c.args.step.end c.index.result.now c.as_slice-cells.result.now (ends_inside arcs touching c.args.step c.requires.balanced.network below c.requires.along) c.index.ensures c.as_slice-cells.ensures in
    subst IsNonDecreasing (sym is) (c.requires.balanced.network.touched.ascending c.args.step.end)

pub other_cell-requires-clause-within : goal.other_cell-requires-clause-within
other_cell-requires-clause-within c =
    let arcs = c.args.network.now.arcs.items in
    let touching = c.args.network.now.touching.items in
    let below : c.args.step.cell < length arcs = omega (arith, c.requires.balanced.each, c.requires.moves.inside) in
    let is = read_cells touching c.args.step.end c.index.result.now c.as_slice-cells.result.now (ends_inside arcs touching c.args.step c.requires.balanced.network below c.requires.along) c.index.ensures c.as_slice-cells.ensures in
    let all = subst (λ (n : ℕ). All (λ (cell : ℕ). cell < n) c.as_slice-cells.result.now) c.requires.balanced.each
    (subst (λ (cells : List ℕ). All (λ (cell : ℕ). cell < length arcs) cells) (sym is) (cells_inside arcs touching c.args.step.end c.requires.balanced.network)) in
    subst (λ (cells : List ℕ). All (λ (cell : ℕ). cell < length c.args.numbers.now) cells) (sym c.cells_behind-left.ensures) (All-drop (λ (cell : ℕ). cell < length c.args.numbers.now) c.place_from.result c.as_slice-cells.result.now all)

pub unreachable-requires : goal.unreachable-requires
unreachable-requires c =
    let arcs = c.args.network.now.arcs.items in
    let touching = c.args.network.now.touching.items in
    let base = c.args.task.now.base in
    let numbers = c.args.numbers.now in
    let cells = c.as_slice-cells.result.now in
    let below : c.args.step.cell < length arcs = omega (arith, c.requires.balanced.each, c.requires.moves.inside) in
    let is = read_cells touching c.args.step.end c.index.result.now c.as_slice-cells.result.now (ends_inside arcs touching c.args.step c.requires.balanced.network below c.requires.along) c.index.ensures c.as_slice-cells.ensures in
    let front = All-weaker (λ (cell : ℕ). cell < c.args.first) (λ (cell : ℕ). (cell ≡ c.args.step.cell) ⊎ (is_multiple base (number_at numbers cell) ≡ true)) (λ cell under. inr (c.requires.first cell under)) (take c.place_from.result cells) c.place_from.ensures.below in
    let rest = subst (λ (list : List ℕ). All (λ (cell : ℕ). (cell ≡ c.args.step.cell) ⊎ (is_multiple base (number_at numbers cell) ≡ true)) list) c.cells_behind-left.ensures c.in_default.ensures.none in
    let all = with_front (λ (cell : ℕ). (cell ≡ c.args.step.cell) ⊎ (is_multiple base (number_at numbers cell) ≡ true)) cells c.place_from.result front rest in
    never_stuck c.args.task.now.truths.now base arcs touching numbers c.args.step c.requires.balanced.network c.requires.balanced.each c.requires.balanced.balanced c.requires.balanced.beside c.requires.moves c.requires.along c.requires.apart
    (subst (λ (list : List ℕ). All (λ (cell : ℕ). (cell ≡ c.args.step.cell) ⊎ (is_multiple base (number_at numbers cell) ≡ true)) list) is all)

pub step_from-requires : goal.step_from-requires
step_from-requires c =
    let arcs = c.args.network.now.arcs.items in
    let touching = c.args.network.now.touching.items in
    let cells = c.as_slice-cells.result.now in
    let below : c.args.step.cell < length arcs = omega (arith, c.requires.balanced.each, c.requires.moves.inside) in
    let is = read_cells touching c.args.step.end c.index.result.now cells (ends_inside arcs touching c.args.step c.requires.balanced.network below c.requires.along) c.index.ensures c.as_slice-cells.ensures in
    let has = found_behind cells c.place_from.result c.in-Some.cell (subst (λ (list : List ℕ). Contains list c.in-Some.cell) c.cells_behind-left.ensures c.in-Some.ensures.another_cell.0) in
    (found_touches arcs touching c.args.step.end c.in-Some.cell c.index-2.result.now c.requires.balanced.network (subst (λ (list : List ℕ). Contains list c.in-Some.cell) is has) c.index-2.ensures).1

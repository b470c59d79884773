use Rattle.std.proofs.Common.{◌≡◌, ◌<◌, ℕ, List, All, length, get_or, arith, ap, sym, subst, ◌∙◌}
use Rattle.std.proofs.lemmas.List.{take_all}
use Rattle.flow_worlds.specs.declared.search.Visit.{Visit}
use Rattle.flow_worlds.specs.declared.steps.Step.{Step}
use Rattle.signed_network.specs.Arcs.{arc_at}
use Rattle.signed_network.specs.Networks.{Touches}
use Rattle.signed_network.specs.Networks.{cells_at}
use Rattle.flow_worlds.specs.Searches.{IsSearchOf, StaysOver, first_step, is_reached, visited}
use Rattle.flow_worlds.proofs.Searching.{all_over, more_over, grown_on, read_visit, read_cells, cell_there, visit_end_within}
use Rattle.flow_worlds.proofs.search.go_on.Goals as goal

pub go_over-requires-clause-asked : goal.go_over-requires-clause-asked
go_over-requires-clause-asked c = ap (λ (step : Step). step.cell) c.cells.invariant.search.begins ∙ c.requires.asked

pub go_over-requires-clause-search : goal.go_over-requires-clause-search
go_over-requires-clause-search c =
    subst (λ (first : Step). IsSearchOf c.args.task.now c.args.moves.now c.args.forward first c.cells.search) (sym c.cells.invariant.search.begins) c.cells.invariant.search

pub go_over-requires-clause-at_point : goal.go_over-requires-clause-at_point
go_over-requires-clause-at_point c =
    let point : ℕ = (visited c.args.search.now.visits.items c.args.place).end in
    let at : c.index.result.now.step.end ≡ point = ap (λ (v : Visit). v.step.end) (read_visit c.args.search.now.visits.items c.args.place c.index.result.now c.requires.place c.index.ensures) in
    let inside : point < length c.args.task.now.touching.now = visit_end_within c.args.task.now c.args.moves.now c.args.forward (first_step c.args.search.now) c.args.search.now c.args.place c.requires.task c.requires.search c.requires.place in
    let cells : c.as_slice-cell-items.result.now ≡ cells_at c.args.task.now.touching.now point = read_cells c.args.task.now.touching.now c.index.result.now.step.end c.index-task-point.result c.as_slice-cell-items.result.now (omega (arith, at, inside)) c.index-task-point.is (c.as_slice-cell-items.ensures ∙ sym c.index-task-point.is) ∙ ap (λ (p : ℕ). cells_at c.args.task.now.touching.now p) at in
    let there = cell_there c.args.task.now point c.as_slice-cell-items.result.now c.cells.cell-index c.requires.task cells c.cells-test.true in
    record { known = there.0; hidden = there.1; touches = subst (λ (v : Visit). Touches (arc_at c.args.task.now.arcs.now (get_or c.as_slice-cell-items.result.now c.cells.cell-index 0)) v.step.end) (sym (c.cells.invariant.grows.same c.args.place c.requires.place)) there.2 }

pub cells-preserved : goal.cells-preserved
cells-preserved c =
    let point : ℕ = (visited c.args.search.now.visits.items c.args.place).end in
    let over = subst (λ (v : Visit). StaysOver c.args.task.now c.args.moves.now c.args.forward (is_reached c.go_over.new.search.reached.items) v.step.end (get_or c.as_slice-cell-items.result.now c.cells.cell-index 0)) (c.cells.invariant.grows.same c.args.place c.requires.place) c.in_ok-go_over.ensures.stays in
    record {
      search = subst (λ (first : Step). IsSearchOf c.args.task.now c.args.moves.now c.args.forward first c.go_over.new.search) c.cells.invariant.search.begins c.in_ok-go_over.ensures.search;
      grows = grown_on c.args.search.now c.cells.search c.go_over.new.search c.cells.invariant.grows c.in_ok-go_over.ensures.grows;
      stays = more_over c.args.task.now c.args.moves.now c.args.forward c.cells.search c.go_over.new.search point c.as_slice-cell-items.result.now c.cells.cell-index c.cells-test.true c.in_ok-go_over.ensures.grows over c.cells.invariant.stays;
    }

pub returns-clause-stays : goal.returns-clause-stays
returns-clause-stays c =
    let point : ℕ = (visited c.args.search.now.visits.items c.args.place).end in
    let at : c.index.result.now.step.end ≡ point = ap (λ (v : Visit). v.step.end) (read_visit c.args.search.now.visits.items c.args.place c.index.result.now c.requires.place c.index.ensures) in
    let inside : point < length c.args.task.now.touching.now = visit_end_within c.args.task.now c.args.moves.now c.args.forward (first_step c.args.search.now) c.args.search.now c.args.place c.requires.task c.requires.search c.requires.place in
    let cells : c.as_slice-cell-items.result.now ≡ cells_at c.args.task.now.touching.now point = read_cells c.args.task.now.touching.now c.index.result.now.step.end c.index-task-point.result c.as_slice-cell-items.result.now (omega (arith, at, inside)) c.index-task-point.is (c.as_slice-cell-items.ensures ∙ sym c.index-task-point.is) ∙ ap (λ (p : ℕ). cells_at c.args.task.now.touching.now p) at in
    let all = subst (λ (cs : List ℕ). All (StaysOver c.args.task.now c.args.moves.now c.args.forward (is_reached c.cells.search.reached.items) point) cs) (take_all c.cells.cell-index c.as_slice-cell-items.result.now c.cells-test.false) c.cells.invariant.stays in
    all_over c.args.task.now c.args.moves.now c.args.forward c.cells.search point c.as_slice-cell-items.result.now c.requires.task cells all

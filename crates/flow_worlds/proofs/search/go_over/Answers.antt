use Rattle.std.proofs.Common.{refl, sym, ◌∙◌, ap}
use Rattle.flow_worlds.specs.declared.search.Visit.{Visit}
use Rattle.flow_worlds.specs.Steps.{step_from}
use Rattle.signed_network.specs.Arcs.{arc_at}
use Rattle.flow_worlds.specs.Searches.{first_step}
use Rattle.flow_worlds.proofs.Searching.{IsNext, gone_on, read_visit, flag_unmet}
use Rattle.flow_worlds.proofs.search.go_over.Goals as goal

pub returns-clause-search : goal.returns-clause-search
returns-clause-search c =
    let visits = c.args.search.now.visits.items in
    let next : IsNext c.args.task.now c.args.moves.now c.args.forward visits c.args.search.now.reached.items c.args.place c.args.cell c.step_from-step.result = record {
      inside = c.requires.place;
      known = c.requires.at_point.known;
      hidden = c.requires.at_point.hidden;
      touches = c.requires.at_point.touches;
      other = c.if-cell-task.false;
      is = c.step_from-step.ensures ∙ ap (λ (visit : Visit). step_from visit.step.end c.args.cell (arc_at c.args.task.now.arcs.now c.args.cell)) (read_visit visits c.args.place c.index.result.now c.requires.place c.index.ensures);
      opened = sym c.is_open.ensures ∙ c.if-not-is_open.false;
      unmet = flag_unmet c.args.search.now.reached.items c.step_from-step.result.end c.index-2.result.now c.index-2.ensures c.if-index.false;
    } in
    gone_on c.args.task.now c.args.moves.now c.args.forward (first_step c.args.search.now) visits c.push.new.self.items c.args.search.now.reached.items _ c.args.place c.args.cell c.step_from-step.result c.requires.task c.requires.asked c.requires.search next c.in_ok-push.ensures.items refl

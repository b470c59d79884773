use Rattle.std.proofs.Common.{◌<◌, ◌-◌, ◌+◌, length, arith, ap, sym, subst, ◌∙◌}
use Rattle.flow_worlds.specs.declared.steps.Step.{Step}
use Rattle.flow_worlds.specs.Searches.{IsSearchOf}
use Rattle.flow_worlds.proofs.Searching.{search_few, more_gone}
use Rattle.flow_worlds.proofs.search.search_from.Goals as goal

pub places-smaller : goal.places-smaller
places-smaller c =
    let few = search_few c.args.task.now c.args.moves.now c.args.forward c.args.first c.places.search c.places.invariant.search in
    let less : length c.args.task.now.arcs.now - (c.places.place + 1) < length c.args.task.now.arcs.now - c.places.place = omega (arith, few, c.places-test.true, c.len.ensures) in
    less

pub go_on-requires-clause-asked : goal.go_on-requires-clause-asked
go_on-requires-clause-asked c = ap (λ (step : Step). step.cell) c.places.invariant.search.begins ∙ c.requires.asked

pub go_on-requires-clause-search : goal.go_on-requires-clause-search
go_on-requires-clause-search c =
    subst (λ (first : Step). IsSearchOf c.args.task.now c.args.moves.now c.args.forward first c.places.search) (sym c.places.invariant.search.begins) c.places.invariant.search

pub places-preserved : goal.places-preserved
places-preserved c = record {
  search = subst (λ (first : Step). IsSearchOf c.args.task.now c.args.moves.now c.args.forward first c.go_on.new.search) c.places.invariant.search.begins c.in_ok-go_on.ensures.search;
  stays = more_gone c.args.task.now c.args.moves.now c.args.forward c.places.search c.go_on.new.search c.places.place (omega (arith, c.places-test.true, c.len.ensures)) c.in_ok-go_on.ensures.grows c.in_ok-go_on.ensures.stays c.places.invariant.stays;
}

use Rattle.std.proofs.Common.{◌≡◌, ◌<◌, List, length, arith, sym, subst}
use Rattle.rounding.specs.declared.steps.Step.{Step}
use Rattle.rounding.specs.Choices.{unrounded_cells}
use Rattle.rounding.specs.Circuits.{IsWalk, start_at}
use Rattle.rounding.proofs.Circling.{round_ready}
use Rattle.rounding.proofs.cycles.round_cell.Goals as goal

pub walk_from-requires-clause-balanced : goal.walk_from-requires-clause-balanced
walk_from-requires-clause-balanced c = record {
  network = c.requires.network;
  each = omega (arith, c.requires.each, c.rounds.auto.numbers);
  balanced = c.rounds.invariant.balanced;
  beside = c.rounds.invariant.beside;
}

pub walk_from-requires-clause-first : goal.walk_from-requires-clause-first
walk_from-requires-clause-first c = λ cell below. c.rounds.invariant.multiples cell (omega (arith, below, c.requires.cell)) (c.requires.first cell below)

pub go_round-requires-clause-at_most_2_32 : goal.go_round-requires-clause-at_most_2_32
go_round-requires-clause-at_most_2_32 c =
    let arcs = c.args.network.now.arcs.items in
    let each : length arcs ≡ length c.rounds.numbers = omega (arith, c.requires.each, c.rounds.auto.numbers) in
    (round_ready c.args.task.now.base arcs c.args.network.now.touching.items c.rounds.numbers c.in_ok-walk.walk.steps.items c.circuit.result.now c.in_ok-walk.walk.place c.requires.network each c.in_ok-walk.ensures c.circuit.ensures).few

pub rounds-preserved : goal.rounds-preserved
rounds-preserved c =
    let arcs = c.args.network.now.arcs.items in
    let steps = c.in_ok-walk.walk.steps.items in
    let point = start_at steps c.in_ok-walk.walk.place in
    let walked : IsWalk arcs point c.circuit.result.now point = subst (λ (ss : List Step). IsWalk arcs point ss point) (sym c.circuit.ensures) c.in_ok-walk.ensures.walked in
    record {
      balanced = c.go_round.ensures.balanced arcs (length c.args.network.now.touching.items) point walked c.rounds.invariant.balanced;
      beside = c.go_round.ensures.beside;
      multiples = λ cell below whole. c.go_round.ensures.multiples cell (omega (arith, below, c.rounds.auto.numbers)) (c.rounds.invariant.multiples cell below whole);
    }

pub rounds-smaller : goal.rounds-smaller
rounds-smaller c =
    let base = c.args.task.now.base in
    let less : length (unrounded_cells base 0 c.go_round.new.numbers) < length (unrounded_cells base 0 c.rounds.numbers) = c.go_round.ensures.fewer in
    less

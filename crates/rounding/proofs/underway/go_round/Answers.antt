use Rattle.std.proofs.Common.{◌≡◌, ◌⊎◌, ◌<◌, pos, negsuc, length, arith, FitsSigned}
use Rattle.std.specs.Int.{w128}
use Rattle.std.proofs.lemmas.Int.{ints, to_z-of_z}
use Rattle.std.proofs.lemmas.List.Elements.{All-weaker}
use Rattle.rounding.specs.declared.steps.Step.{Step}
use Rattle.rounding.specs.Circuits.{IsMove}
use Rattle.rounding.proofs.Moving.{goes, goes_balanced, in_range}
use Rattle.rounding.proofs.underway.go_round.Goals as goal

pub move_cells-requires : goal.move_cells-requires
move_cells-requires c =
    let base = c.args.task.now.base in
    let numbers = c.args.numbers.now in
    let by : FitsSigned w128 c.room_for-by.result = omega (arith, ints, c.room_for-by.ensures.low, c.room_for-by.ensures.high) in
    simp to_z-of_z (record {
      each = All-weaker (IsMove base numbers) (λ (s : Step). (s.cell < length numbers) × ((s.turn ≡ pos 1) ⊎ (s.turn ≡ negsuc 0))) (λ s one. (one.inside, one.turned)) c.args.steps.now c.requires.moves.each;
      at_most_2_32 = c.requires.at_most_2_32;
      by = (c.room_for-by.ensures.low, c.room_for-by.ensures.high);
      numbers = in_range c.args.task.now.truths.now base numbers c.requires.beside;
    })

pub returns : goal.returns
returns c =
    let base = c.args.task.now.base in
    let before = c.args.numbers.now in
    let after = c.move_cells.new.numbers in
    let steps = c.args.steps.now in
    let by : FitsSigned w128 c.room_for-by.result = omega (arith, ints, c.room_for-by.ensures.low, c.room_for-by.ensures.high) in
    let is = simp to_z-of_z at c.move_cells.ensures in
    let each : length after ≡ length before = omega (arith, c.move_cells.auto.numbers) in
    let has = goes c.args.task.now.truths.now base c.room_for-by.result before after steps c.tightest-tightest.result c.requires.beside c.requires.moves c.tightest-tightest.ensures.place c.tightest-tightest.ensures.least c.room_for-by.ensures.value each is in
    record {
      beside = has.beside;
      balanced = λ arcs points point walk balanced. goes_balanced arcs points point c.room_for-by.result before after steps walk balanced is;
      multiples = has.multiples;
      fewer = has.fewer;
    }

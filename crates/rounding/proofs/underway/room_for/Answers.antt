use Rattle.std.proofs.Common.{◌≡◌, ◌≤ℤ◌, ℤ, pos, ◌^◌, arith, rules, sym, subst, FitsSigned}
use Rattle.std.specs.Int.{w128}
use Rattle.std.proofs.lemmas.Int.{ints, to_z-of_z}
use Rattle.sdc_base.specs.Systems.{number_at}
use Rattle.rounding.specs.Circuits.{room_of}
use Rattle.rounding.proofs.Moving.{in_range, room_within, turn_fits}
use Rattle.rounding.proofs.underway.room_for.Goals as goal

pub room-requires : goal.room-requires
room-requires c =
    let are = c.requires.beside in
    let within = in_range c.args.task.now.truths.now c.args.task.now.base c.args.numbers.now are c.args.step.cell in
    let from_one = are.from_one in
    let to_most = are.to_most in
    let number : FitsSigned w128 (number_at c.args.numbers.now c.args.step.cell) = omega (arith, ints, within.0, within.1) in
    let base : FitsSigned w128 c.args.task.now.base = omega (arith, ints, from_one, to_most) in
    simp to_z-of_z (record { base = from_one; number = within.0 })

pub returns : goal.returns
returns c =
    let are = c.requires.beside in
    let within = in_range c.args.task.now.truths.now c.args.task.now.base c.args.numbers.now are c.args.step.cell in
    let from_one = are.from_one in
    let to_most = are.to_most in
    let number : FitsSigned w128 (number_at c.args.numbers.now c.args.step.cell) = omega (arith, ints, within.0, within.1) in
    let base : FitsSigned w128 c.args.task.now.base = omega (arith, ints, from_one, to_most) in
    let turn : FitsSigned w128 c.args.step.turn = turn_fits c.args.step.turn c.requires.moves.turned in
    let room : FitsSigned w128 c.room.result = search rules in
    let is : c.room.result ≡ room_of c.args.task.now.base c.args.numbers.now c.args.step = simp to_z-of_z at c.room.ensures in
    let bounds = room_within c.args.task.now.truths.now c.args.task.now.base c.args.numbers.now c.args.step.cell c.args.step.turn are c.requires.moves.inside c.requires.moves.turned in
    simp to_z-of_z (record { value = is; low = subst (λ (z : ℤ). pos 0 ≤ℤ z) (sym is) bounds.0; high = subst (λ (z : ℤ). z ≤ℤ pos (10 ^ 22)) (sym is) bounds.1 })

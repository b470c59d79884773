use Rattle.std.proofs.Common.{arith, to_z, of_z, w64}
use Rattle.std.specs.Int.{w128}
use Rattle.std.proofs.lemmas.Int.{ints}
use Rattle.worlds.proofs.Carry.{carried_down, carried_up}
use Rattle.worlds.proofs.sums.Sum.add.Goals as goal

pub returns-in-None : goal.returns-in-None
returns-in-None c =
    rw (← c.self.view_is) (carried_down c.self.inside.low c.self.inside.carry c.args.x (to_z w128 (of_z w128 c.low_part-self-inside.result)) (to_z w64 (of_z w64 c.carry_after-self-inside.result)) (omega (arith, ints)) (omega (arith, ints)))

pub returns-in-None-2 : goal.returns-in-None-2
returns-in-None-2 c =
    rw (← c.self.view_is)
    (carried_up c.self.inside.low c.self.inside.carry c.args.x (to_z w128 (of_z w128 c.low_part-self-inside-in-None-2.result)) (to_z w64 (of_z w64 c.carry_after-self-inside-in-None-2.result)) (omega (arith, ints)) (omega (arith, ints)))

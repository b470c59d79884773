use Rattle.std.proofs.Common.{◌↔◌, IsOk, sym, subst}
use Rattle.worlds.specs.WorldFaults.{world_fault, IsGivenWorld}
use Rattle.worlds.proofs.TrueTests.{ok_where}
use Rattle.worlds.proofs.WorldLaws.{world_law}
use Rattle.worlds.proofs.world_check.check_world.Goals as goal

pub returns-clause-world : goal.returns-clause-world
returns-clause-world c =
    subst (λ r. IsOk r ↔ IsGivenWorld c.args.system.now c.args.cells.now c.args.hidden.now.flags c.args.world.now) (sym c.first_world_fault.ensures.exact)
    (ok_where (IsGivenWorld c.args.system.now c.args.cells.now c.args.hidden.now.flags c.args.world.now) (world_fault c.args.system.now c.args.cells.now c.args.hidden.now.flags c.args.world.now)
    (world_law c.args.system.now c.args.cells.now c.args.hidden.now.flags c.args.world.now c.requires.ground.each_cell))

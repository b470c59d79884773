use Rattle.std.proofs.Common.{List, arith, ap}
use Rattle.worlds.specs.declared.world.Move.{Move}
use Rattle.worlds.specs.NumberLists.{terms_of}
use Rattle.flow_worlds.proofs.Listing.{listed_to_end, all_listed, given_all}
use Rattle.flow_worlds.proofs.whole_world.world_of.Goals as goal

pub returns-clause-listed : goal.returns-clause-listed
returns-clause-listed c =
    all_listed c.args.moves.now (terms_of c.new.result) (listed_to_end c.args.moves.now (terms_of c.cells.listed.items) (terms_of c.new.result) c.cells.cell c.cells.invariant (omega (arith, c.cells-test.false, c.cells.auto.cell-end)) (ap (λ (ms : List Move). terms_of ms) c.new.ensures))

pub returns-clause-given : goal.returns-clause-given
returns-clause-given c =
    given_all c.args.moves.now (terms_of c.new.result) (listed_to_end c.args.moves.now (terms_of c.cells.listed.items) (terms_of c.new.result) c.cells.cell c.cells.invariant (omega (arith, c.cells-test.false, c.cells.auto.cell-end)) (ap (λ (ms : List Move). terms_of ms) c.new.ensures))

use Rattle.std.proofs.Common.{◌≡◌}
use Rattle.sdc_base.specs.Systems.{number_at}
use Rattle.worlds.specs.NumberLists.{terms_of}
use Rattle.flow_worlds.proofs.Listing.{listed}
use Rattle.flow_worlds.proofs.whole_world.world_of.Given as goal

abbrev pub invariant-cells : goal.invariant-cells
invariant-cells l = terms_of l.listed.items ≡ listed (number_at l.moves) l.cell

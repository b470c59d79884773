use Rattle.std.proofs.Common.{◌≡◌, take, map, length, All}
use Rattle.std.specs.List.{zip}
use Rattle.apriori.specs.PrimaryShown.{first_clash}
use Rattle.apriori.specs.Settling.{view_of_cell, told_of, settled_cell}
use Rattle.apriori.specs.CellLevels.{HasLevelsInRange}
use Rattle.apriori.proofs.settling.cells_of.Given as goal

abbrev pub invariant-cells : goal.invariant-cells
invariant-cells l = record {
  told : map view_of_cell l.cells.items ≡ map (λ pair. settled_cell l.rules pair.0 pair.1) (take l.cell (zip (told_of l.marks) l.priors));
  clash : l.clash ≡ first_clash l.rules (take l.cell (zip (told_of l.marks) l.priors));
  count : length l.cells.items ≡ l.cell;
  levels : All HasLevelsInRange l.cells.items;
}

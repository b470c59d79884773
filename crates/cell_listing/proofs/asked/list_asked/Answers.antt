use Rattle.cell_listing.proofs.asked.list_asked.Goals as goal

pub returns-clause-cells : goal.returns-clause-cells
returns-clause-cells g c = λ name named.
    let said = c.list_cells.ensures in
    record {
      stops = said.stops;
      told = said.told name named;
      came_to = said.came_to name named;
      shelf = said.shelf;
      cause = said.cause;
      listed = said.listed;
    }

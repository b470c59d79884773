-- What contracts see of a book of linked tables (tau-ARGUS user manual, linked tables; one mark for each cell: own).
use Rattle.std.specs.Prelude.{List}
use Rattle.sdc_base.specs.Trees.{Tree}
use Rattle.sdc_base.specs.declared.dimension.Dimension.{Dimension}
use Rattle.linked_tables.specs.declared.mark.Mark.{Mark}

-- the tree of each variable, each table as the list of the variables that it spans with the depth to which it takes
-- their trees, and a mark for each cell
pub record BookView : Type 0 where
  pub trees : List Tree
  pub tables : List (List Dimension)
  pub marks : List Mark

use Rattle.std.proofs.Common.{All, map}
use Rattle.relations.specs.Holding.{sum_in}
use Rattle.cell_listing.proofs.RelationLists.{AreListed}
use Rattle.cell_listing.proofs.RelationVariables.{IsForSome}
use Rattle.cell_listing.proofs.listed_relations.listed_relations.Given as goal

abbrev pub invariant-relations : goal.invariant-relations
invariant-relations l = record {
  are : AreListed l.book.trees l.book.tables (map sum_in l.yielded) l.listed;
  rest : All (IsForSome l.book.trees l.book.tables) (map sum_in l.relation-iterator.rest.items);
}

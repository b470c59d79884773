use Rattle.std.proofs.Common.{◌≡◌, ◌++◌, take, flat_map, option_map}
use Rattle.release_writer.specs.Lines.{IsReadyWriter, bytes_written}
use Rattle.cell_listing.specs.RelationListings.{relation_line}
use Rattle.cell_listing.proofs.relations_listing.write_relations.Given as goal

abbrev pub invariant-relations : goal.invariant-relations
invariant-relations l = record {
  ready : IsReadyWriter l.writer;
  text : bytes_written l.writer ≡ option_map (λ text. text ++ flat_map (relation_line l.names) (take l.relation-index l.relations)) (bytes_written l.fn.writer);
}

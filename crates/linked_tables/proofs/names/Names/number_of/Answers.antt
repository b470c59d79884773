use Rattle.std.proofs.Common.{◌∙◌, ap, bytes_eq}
use Rattle.sdc_base.specs.Places.{first_place}
use Rattle.code_trees.proofs.MapEntries.{position-first_place}
use Rattle.linked_tables.proofs.names.Names.number_of.Goals as goal

pub returns-clause-number : goal.returns-clause-number
returns-clause-number c =
    c.get_index_of.ensures.index ∙ position-first_place (bytes_eq c.args.name.now) c.self.inside.keys.keys ∙ ap (first_place (bytes_eq c.args.name.now)) c.self.view_is

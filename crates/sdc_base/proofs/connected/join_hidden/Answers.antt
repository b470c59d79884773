use Rattle.std.proofs.Common.{sym, ◌∙◌}
use Rattle.sdc_base.proofs.Chains.{linked-related}
use Rattle.sdc_base.proofs.connected.join_hidden.Goals as goal

pub join-requires-clause-linked : goal.join-requires-clause-linked
join-requires-clause-linked c =
    linked-related c.args.system.now.relations c.args.flags.now c.args.first c.args.cell
    (record {
      one_hidden = c.requires.hidden;
      other_hidden = sym c.is_hidden.ensures ∙ c.if-is_hidden.true;
      number = c.requires.among.0;
      relation = c.args.relation.now;
      at = c.requires.among.1;
      names_one = c.requires.first_named;
      names_other = c.requires.cell_named;
    })

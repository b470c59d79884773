use Rattle.std.proofs.Common.{◌∙◌, length, refl}
use Rattle.std.proofs.lemmas.Option.{slice_get_read}
use Rattle.rounding.proofs.NamingSteps.{one_more_noted, all_noted}
use Rattle.rounding.proofs.naming.naming_of.Goals as goal

pub relations-preserved : goal.relations-preserved
relations-preserved c =
    let rs = c.as_slice-relations.result.now in
    let k = c.relations.number in
    let more = c.in_ok-note_cells.ensures.more in
    record {
      each = more.each ∙ c.relations.invariant.each;
      noted = more.ascends;
      whole = one_more_noted rs k c.index-relations-number.result c.relations.naming.items c.note_cells.new.naming.items
          (slice_get_read rs (length rs) k c.index-relations-number.result refl c.relations-test.true c.index-relations-number.is) c.relations.invariant.whole more c.in_ok-note_cells.ensures.all_cells_noted;
    }

pub returns : goal.returns
returns c = all_noted c.args.system.now c.as_slice-relations.result.now c.relations.naming.items c.relations.number c.as_slice-relations.ensures c.relations-test.false c.relations.auto.number-end c.relations.invariant.each c.relations.invariant.noted c.relations.invariant.whole

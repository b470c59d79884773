use Rattle.std.proofs.Common.{ap, length, refl, sym, ◌∙◌}
use Rattle.job_inputs.proofs.Books.{is-for-cells, only_cells_are_too_many}
use Rattle.job_inputs.proofs.Filling.{linked-is}
use Rattle.job_inputs.proofs.filled.linked_book.Goals as goal

pub returns-in-Ok : goal.returns-in-Ok
returns-in-Ok c =
    let same = linked-is c.into_vec.result.items c.in_ok-tables.tables.items (c.in-Ok.book.trees, c.in-Ok.book.tables) c.in-Ok.ensures.exact in
    record {
      told = rw (sym c.into_vec.ensures, sym (c.in_ok-tables.ensures ∙ c.as_slice.ensures), c.in-Ok.ensures.exact) refl;
      sound = record { trees_are = same.0 ∙ c.into_vec.ensures; tables_are = same.1 ∙ c.in_ok-tables.ensures ∙ c.as_slice.ensures; blank = c.in-Ok.ensures.blank };
      contents = tt;
    }

pub cells_refusal-requires : goal.cells_refusal-requires
cells_refusal-requires c =
    let tables = c.in_ok-tables.ensures ∙ c.as_slice.ensures in
    is-for-cells only_cells_are_too_many c.args.described.now c.into_vec.result.items c.in_ok-tables.tables.items c.in-Err.fault c.requires.sound (ap length c.into_vec.ensures ∙ c.requires.as_many) tables c.in-Err.ensures.exact

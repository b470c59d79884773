use Rattle.std.proofs.Common.{◌∙◌, arith, sym, ap, Ok}
use Rattle.std.proofs.lemmas.List.{length-set}
use Rattle.std.proofs.lemmas.Result.{err_from_is_err_and}
use Rattle.microdata.proofs.RowsPlaced.{StandAt, placed_next, placed_stop, placed_all}
use Rattle.microdata.proofs.closing.rows_of.Goals as goal

pub returns-in_err-place_codes : goal.returns-in_err-place_codes
returns-in_err-place_codes c =
    let p = err_from_is_err_and c.from_residual.result c.from_residual.ensures.1 in
    let stand : StandAt c.into_parts-numbers.result.0.items c.rows.rows.items c.rows.k c.index.result.now c.index_mut.result.now = record {
      inside = omega (arith, c.len.ensures, c.rows-test.true);
      beside = omega (arith, c.len.ensures, c.rows-test.true, c.rows.invariant.as_many);
      numbered = c.index.ensures;
      there = c.index_mut.ensures.value;
    } in
    rw (p.1, p.2, c.rows.invariant.so_far)
    (placed_stop c.in_err-place_codes.field-0.0 c.args.closed.now c.into_parts-numbers.result.0.items c.rows.rows.items c.rows.k c.index.result.now c.index_mut.result.now stand c.in_err-place_codes.ensures)

pub rows-preserved : goal.rows-preserved
rows-preserved c =
    let stand : StandAt c.into_parts-numbers.result.0.items c.rows.rows.items c.rows.k c.index.result.now c.index_mut.result.now = record {
      inside = omega (arith, c.len.ensures, c.rows-test.true);
      beside = omega (arith, c.len.ensures, c.rows-test.true, c.rows.invariant.as_many);
      numbered = c.index.ensures;
      there = c.index_mut.ensures.value;
    } in
    record {
      so_far =
          c.rows.invariant.so_far
          ∙ placed_next c.args.closed.now c.into_parts-numbers.result.0.items c.rows.rows.items c.rows.k c.index.result.now c.index_mut.result.now c.place_codes.new.row stand c.in_ok-place_codes.ensures;
      as_many = c.rows.invariant.as_many ∙ sym (length-set c.rows.rows.items c.rows.k c.place_codes.new.row);
      within = omega (arith, c.len.ensures, c.rows-test.true, length-set c.rows.rows.items c.rows.k c.place_codes.new.row);
    }

pub returns : goal.returns
returns c =
    c.rows.invariant.so_far
    ∙ placed_all c.args.closed.now c.into_parts-numbers.result.0.items c.rows.rows.items c.rows.k (omega (arith, c.len.ensures, c.rows-test.false))
    ∙ ap Ok (sym c.new.ensures)

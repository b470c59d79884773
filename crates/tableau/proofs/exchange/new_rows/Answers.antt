use Rattle.std.proofs.Common.{◌≡◌, ◌+◌, ◌*ℤ◌, List, [], Err, length, slice_index_or, ap, ◌∙◌, arith, rules, FitsSigned, to_z, of_z, length-append}
use Rattle.std.specs.Int.{w128}
use Rattle.std.proofs.lemmas.Int.{to_z-of_z}
use Rattle.sdc_base.specs.Forms.{Term, coefficient}
use Rattle.sdc_base.specs.Systems.{number_at}
use Rattle.tableau.specs.declared.faults.ExchangeFault.TheVariants as fault
use Rattle.tableau.specs.OwnRows.{own_den}
use Rattle.tableau.specs.SparseTables.{table_of, width_of, factor_at}
use Rattle.tableau.proofs.OwnRows.{above_of}
use Rattle.tableau.proofs.SparseTables.{row_number, factor_up, den_up, sparse_at}
use Rattle.tableau.proofs.NewRows.{no_rows, new_rows_more}
use Rattle.tableau.proofs.exchange.new_rows.Goals as goal

pub bare_row-bare-requires-clause-sparse : goal.bare_row-bare-requires-clause-sparse
bare_row-bare-requires-clause-sparse c = sparse_at (length c.args.table.now.others.items + 2) (c.len.result + 1 + 1) c.row_of-pivot.result.now (omega (arith, c.len.ensures)) c.row_of-pivot.ensures.sparse

pub bare_row-bare-requires-clause-above : goal.bare_row-bare-requires-clause-above
bare_row-bare-requires-clause-above c = den_up c.args.table.now c.args.row (c.len.result + 1) c.row_of-pivot.result.now c.requires.sound (omega (arith, c.requires.row)) (omega (arith, c.len.ensures)) c.row_of-pivot.ensures.row_at

pub den_of-den-requires-clause-sparse : goal.den_of-den-requires-clause-sparse
den_of-den-requires-clause-sparse c = sparse_at (length c.args.table.now.others.items + 2) (c.len.result + 1 + 1) c.row_of-pivot.result.now (omega (arith, c.len.ensures)) c.row_of-pivot.ensures.sparse

pub den_of-den-requires-clause-above : goal.den_of-den-requires-clause-above
den_of-den-requires-clause-above c = den_up c.args.table.now c.args.row (c.len.result + 1) c.row_of-pivot.result.now c.requires.sound (omega (arith, c.requires.row)) (omega (arith, c.len.ensures)) c.row_of-pivot.ensures.row_at

pub loop-k-init : goal.loop-k-init
loop-k-init c = record { long = ap length c.in-Ok.ensures.items; new = no_rows c.args.table.now c.args.row c.args.column c.in-Ok.news.items c.in-Ok.ensures.items }

pub made_row-requires-clause-pivot : goal.made_row-requires-clause-pivot
made_row-requires-clause-pivot c =
    let s = c.args.table.now in
    let own : List Term = slice_index_or s.rows.items c.args.row [] in
    let row_is : c.row_of-pivot.result.now ≡ own = c.row_of-pivot.ensures.row_at in
    let width : c.len.result + 1 ≡ width_of s = omega (arith, c.len.ensures) in
    let den_fits : FitsSigned w128 c.den_of-den.result = search rules in
    let p_fits : FitsSigned w128 c.column_number-p.result = search rules in
    let p_is : to_z w128 (of_z w128 c.column_number-p.result) ≡ coefficient own c.args.column = to_z-of_z w128 c.column_number-p.result p_fits ∙ c.column_number-p.ensures in
    record {
      sparse = sparse_at (c.len.result + 1) (width_of s) c.bare_row-bare.result.now width c.bare_row-bare.ensures.sparse;
      same = λ v below. c.bare_row-bare.ensures.same v (omega (arith, width)) ∙ ap (λ (t : List Term). coefficient t v) row_is;
      den_is = to_z-of_z w128 c.den_of-den.result den_fits ∙ c.den_of-den.ensures ∙ ap (λ n. own_den n c.row_of-pivot.result.now) width ∙ ap (own_den (width_of s)) row_is;
      number_is = p_is;
      above = above_of (to_z w128 (of_z w128 c.column_number-p.result)) (factor_at s c.args.row) (number_at (slice_index_or (table_of s).rows c.args.row []) c.args.column) (factor_up s c.args.row c.requires.sound (omega (arith, c.requires.row)))
          (ap (λ z. z *ℤ factor_at s c.args.row) p_is ∙ row_number s c.args.row c.args.column c.requires.row (omega (arith, c.requires.column))) c.requires.above;
    }

pub returns-in-Err-clause-wide : goal.returns-in-Err-clause-wide
returns-in-Err-clause-wide c k j is =
    let fault_is : c.in-Err.fault ≡ fault.Wide k j = cc in
    c.in-Err.ensures.wide k j (ap Err fault_is)

pub loop-k-preserved : goal.loop-k-preserved
loop-k-preserved c =
    let l = c.loop-k in
    record {
      long = ap length c.in-Ok-push.ensures.items ∙ length-append l.news.items _ ∙ ap (λ n. n + 1) l.invariant.long;
      new = new_rows_more c.args.table.now c.args.row c.args.column l.k l.news.items c.push.new.self.items c.in-Ok-made_row.new l.invariant.long l.invariant.new c.in-Ok-made_row.ensures.ok c.in-Ok-push.ensures.items;
    }

pub returns-clause-long : goal.returns-clause-long
returns-clause-long c = omega (arith, c.loop-k.invariant.long, c.loop-k-test.false, c.loop-k.auto.k-end, c.len-k-end.ensures)

pub returns-clause-ok : goal.returns-clause-ok
returns-clause-ok c = c.loop-k.invariant.new

use Rattle.std.proofs.Common.{◌≡◌, ◌+◌, List, [], Err, length, slice_index_or, pos, ap, sym, ◌∙◌, arith, rules, to_z}
use Rattle.std.specs.Int.{w128}
use Rattle.std.proofs.lemmas.Int.{to_z-of_z}
use Rattle.sdc_base.specs.Forms.{Term, coefficient}
use Rattle.tableau.specs.declared.faults.ExchangeFault.TheVariants as faults
use Rattle.tableau.specs.SparseTables.{width_of}
use Rattle.tableau.proofs.SparseTables.{sparse_at}
use Rattle.tableau.proofs.CrossedEntries.{kept_row}
use Rattle.tableau.proofs.crossing.made_row.Goals as goal

pub returns-in-Err-clause-wide : goal.returns-in-Err-clause-wide
returns-in-Err-clause-wide c i j is =
    let fault_is : c.in-Err.fault ≡ faults.Wide i j = cc in
    c.in-Err.ensures.wide i j (ap Err fault_is)

pub returns-then-f-eq0-clause-ok : goal.returns-then-f-eq0-clause-ok
returns-then-f-eq0-clause-ok c =
    let s = c.args.table.now in
    let own : List Term = slice_index_or s.rows.items c.args.k [] in
    let f_is : pos 0 ≡ coefficient own c.args.pivot.now.column = sym (ap (to_z w128) c.if-f-eq0.true) ∙ to_z-of_z w128 c.column_number-f.result (search rules) ∙ c.column_number-f.ensures in
    kept_row s c.args.pivot.now.row c.args.pivot.now.column c.args.k c.requires.sound c.requires.row c.requires.column c.requires.within c.if-k-pivot.false
    (sparse_at (length s.others.items + 2) (width_of s + 1) own (omega arith) (s.each c.args.k [] (omega (arith, c.requires.within, s.filled))))
    (sym f_is)

pub returns-in-Err-other_row-clause-wide : goal.returns-in-Err-other_row-clause-wide
returns-in-Err-other_row-clause-wide c i j is =
    let fault_is : c.in-Err-other_row.fault ≡ faults.Wide i j = cc in
    c.in-Err-other_row.ensures.wide i j (ap Err fault_is)

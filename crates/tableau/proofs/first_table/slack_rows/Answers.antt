use Rattle.std.proofs.Common.{◌≡◌, ◌+◌, List, [], ℤ, map, slice_index_or, ap, sym, subst, ◌∙◌, arith, rules, FitsSigned, to_z, of_z}
use Rattle.std.specs.Int.{w128}
use Rattle.std.proofs.lemmas.Int.{to_z-of_z}
use Rattle.std.proofs.lemmas.List.{get_or-map, length-map, take_all}
use Rattle.sdc_base.specs.Forms.{Term, coefficient}
use Rattle.tableau.specs.declared.problem.LinRow.{LinRow}
use Rattle.tableau.specs.Problems.{numbers_then_value}
use Rattle.tableau.specs.Entries.{AreEntriesOf, AreListsOf}
use Rattle.tableau.specs.OwnRows.{with_den}
use Rattle.tableau.proofs.FirstNumbers.{slack_row}
use Rattle.tableau.proofs.ReducedRows.{rows_more}
use Rattle.tableau.proofs.first_table.slack_rows.Goals as goal

pub loop-row-preserved : goal.loop-row-preserved
loop-row-preserved c =
    let l = c.loop-row in
    let row : LinRow = c.row-item.result in
    let rows : List (List ℤ) = map (slack_row c.args.columns) c.args.rows.now in
    let fits : FitsSigned w128 row.bound = search rules in
    let own = subst (λ (n : ℤ). AreEntriesOf (c.args.columns + 2) (with_den (numbers_then_value c.args.columns (coefficient row.entries) n)) c.in_ok-made.made) (to_z-of_z w128 row.bound fits)
    (subst (λ (e : List Term). AreEntriesOf (c.args.columns + 2) (with_den (numbers_then_value c.args.columns (coefficient e) (to_z w128 (of_z w128 row.bound)))) c.in_ok-made.made) c.as_slice.ensures c.in_ok-made.ensures) in
    let target : slack_row c.args.columns row ≡ slice_index_or rows l.row-index [] = sym (get_or-map (slack_row c.args.columns) c.args.rows.now l.row-index row [] c.loop-row-test.true ∙ ap (slack_row c.args.columns) (sym c.row-item.is)) in
    rows_more (c.args.columns + 2) rows l.row-index l.lists.items c.push.new.self.items c.in_ok-made.made (omega (arith, length-map c.args.rows.now (slack_row c.args.columns), c.loop-row-test.true)) l.invariant
    (subst (λ (r : List ℤ). AreEntriesOf (c.args.columns + 2) r c.in_ok-made.made) target own) c.in_ok-push.ensures.items

pub returns : goal.returns
returns c =
    let l = c.loop-row in
    subst (λ (r : List (List ℤ)). AreListsOf (c.args.columns + 2) r l.lists.items) (take_all l.row-index (map (slack_row c.args.columns) c.args.rows.now) (omega (arith, length-map c.args.rows.now (slack_row c.args.columns), c.loop-row-test.false))) l.invariant

use Rattle.std.proofs.Common.{◌≡◌, ℕ, List, pos, ◌≤ℤ◌, All, slice_index_or, subst, rules, IsTrue}
use Rattle.std.proofs.lemmas.List.{take_all, get_or_read}
use Rattle.std.proofs.lemmas.List.Elements.{All-more}
use Rattle.tableau.specs.declared.problem.LinRow.{LinRow}
use Rattle.tableau.specs.ProblemForm.{AreEntries}
use Rattle.tableau.specs.Problems.{no_row}
use Rattle.tests_tableau.proofs.form_check.are_rows.Goals as goal

pub loop-row-preserved : goal.loop-row-preserved
loop-row-preserved c =
    let l = c.loop-row in
    let i : ℕ = l.row-index in
    let xs : List LinRow = c.args.rows.now in
    let own : c.row-item.result ≡ slice_index_or xs i no_row = get_or_read xs i c.row-item.result c.loop-row-test.true c.row-item.is no_row in
    let yes : IsTrue c.is_row.result = search rules in
    record {
      entries = All-more (λ (r : LinRow). AreEntries c.args.columns r.entries) xs i no_row c.loop-row-test.true l.invariant.entries (subst (λ (r : LinRow). AreEntries c.args.columns r.entries) own (c.is_row.ensures.entries yes));
      bounds = All-more (λ (r : LinRow). pos 0 ≤ℤ r.bound) xs i no_row c.loop-row-test.true l.invariant.bounds (subst (λ (r : LinRow). pos 0 ≤ℤ r.bound) own (c.is_row.ensures.bound yes));
    }

pub returns-clause-entries : goal.returns-clause-entries
returns-clause-entries c _ = subst (λ (t : List LinRow). All (λ r. AreEntries c.args.columns r.entries) t) (take_all c.loop-row.row-index c.args.rows.now c.loop-row-test.false) c.loop-row.invariant.entries

pub returns-clause-bounds : goal.returns-clause-bounds
returns-clause-bounds c _ = subst (λ (t : List LinRow). All (λ r. pos 0 ≤ℤ r.bound) t) (take_all c.loop-row.row-index c.args.rows.now c.loop-row-test.false) c.loop-row.invariant.bounds

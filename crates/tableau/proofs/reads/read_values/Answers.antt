use Rattle.std.proofs.Common.{◌≡◌, ◌+◌, ℕ, ℤ, [], length, slice_index, slice_index_or, List, ◌<◌, pos, sym, subst, ◌∙◌, arith, rules, FitsSigned, to_z, of_z}
use Rattle.std.specs.Int.{w128}
use Rattle.std.proofs.lemmas.Int.{to_z-of_z}
use Rattle.std.proofs.lemmas.List.{get_or_read}
use Rattle.std.proofs.lemmas.List.FromFn.{fill_by_all}
use Rattle.tableau.specs.Tables.{Table}
use Rattle.sdc_base.specs.Systems.{number_at}
use Rattle.tableau.specs.Readings.{value_for, member_values}
use Rattle.tableau.specs.SparseTables.{table_of}
use Rattle.tableau.proofs.Numbers.{value_found, no_number}
use Rattle.tableau.proofs.ReadNumbers.{IsRead, read_put, read_passed, read_whole}
use Rattle.tableau.proofs.reads.read_values.Goals as goal
use Rattle.tableau.proofs.reads.read_values.Goals.{then-name-values, else-name-values}

pub loop-k-preserved : goal.loop-k-preserved
loop-k-preserved c =
    let t : Table = table_of c.args.table.now in
    let l = c.loop-k in
    let inside : l.k < length t.members = omega (arith, c.loop-k-test.true, c.len-k-end.ensures) in
    let name : c.index.result.now ≡ slice_index t.members l.k = get_or_read t.members l.k c.index.result.now inside c.index.ensures 0 in
    let number : ℕ → ℤ = λ i. number_at (slice_index_or t.rows i []) (length t.others) in
    elim c.if-name-values.branch [
      | then-name-values w ↦
          let x : ℤ = w.value_at.result in
          let fits : FitsSigned w128 x = search rules in
          subst (λ (s : List ℤ). IsRead (l.k + 1) 0 t.members number s) (sym w.values-is)
          (read_put l.k 0 c.index.result.now t.members number l.values (to_z w128 (of_z w128 x)) c.requires.kept.basis.members inside (omega (arith, name)) (omega (arith, w.if-name-values.true)) (to_z-of_z w128 x fits ∙ w.value_at.ensures) l.invariant)
      | else-name-values w ↦
          subst (λ (s : List ℤ). IsRead (l.k + 1) 0 t.members number s) (sym w.values-is)
          (read_passed l.k 0 t.members number l.values (λ up within. absurd (omega (arith, name, w.if-name-values.false))) l.invariant)
    ]

pub returns : goal.returns
returns c =
    let l = c.loop-k in
    let t : Table = table_of c.args.table.now in
    let number : ℕ → ℤ = λ i. number_at (slice_index_or t.rows i []) (length t.others) in
    fill_by_all (value_for t) l.values c.args.problem.now.columns (pos 0) (omega arith)
    (λ v below.
    let shift : 0 + v ≡ v = omega arith in
    read_whole l.k 0 v t.members number l.values (value_for t v) (omega (arith, c.loop-k-test.false, c.len-k-end.ensures)) (omega arith)
    (λ i inside is. value_found c.args.problem.now t i v c.requires.kept inside (is ∙ shift))
    (λ none. sym (no_number t.members (member_values t) v (λ i inside is. none i inside (is ∙ sym shift))))
    l.invariant)

use Rattle.std.proofs.lemmas.Grind.{common_steps, elements}
use Rattle.std.proofs.Common.{◌≡◌, ℕ, ℤ, List, ◌+◌, ◌-◌, ◌<◌, length, slice_index, pos, sym, subst, ◌∙◌, arith, rules, FitsSigned, to_z, of_z}
use Rattle.std.specs.Int.{w128}
use Rattle.std.proofs.lemmas.Int.{to_z-of_z}
use Rattle.std.proofs.lemmas.List.{get_or_read}
use Rattle.std.proofs.lemmas.List.FromFn.{fill_by_all}
use Rattle.tableau.specs.Tables.{Table}
use Rattle.sdc_base.specs.Systems.{number_at}
use Rattle.tableau.specs.Problems.{number_for, rows_of}
use Rattle.tableau.specs.SparseTables.{table_of}
use Rattle.tableau.proofs.Numbers.{number_found, no_number}
use Rattle.tableau.proofs.ReadNumbers.{IsRead, read_none, read_passed, read_put, read_whole}
use Rattle.tableau.proofs.reads.read_slacks.Goals as goal
use Rattle.tableau.proofs.reads.read_slacks.Goals.{then-name-problem, else-name-problem}

pub loop-j-init : goal.loop-j-init
loop-j-init c =
    let t : Table = table_of c.args.table.now in
    read_none c.args.problem.now.columns t.others (λ j. number_at t.objective j) c.loop-slack.slacks (λ v within. c.loop-slack.invariant v (omega (arith, c.loop-slack-test.false)))

pub loop-j-preserved : goal.loop-j-preserved
loop-j-preserved c =
    let t : Table = table_of c.args.table.now in
    let l = c.loop-j in
    let columns : ℕ = c.args.problem.now.columns in
    let inside : l.j < length t.others = omega (arith, c.loop-j-test.true, c.len-j-end.ensures) in
    let name : c.index-name.result.now ≡ slice_index t.others l.j = get_or_read t.others l.j c.index-name.result.now inside c.index-name.ensures 0 in
    let number : ℤ = c.objective_number-number.result in
    let fits : FitsSigned w128 number = search rules in
    let objective : ℕ → ℤ = λ j. number_at t.objective j in
    let is : to_z w128 (of_z w128 number) ≡ objective l.j =
    to_z-of_z w128 number fits ∙ c.objective_number-number.ensures in
    elim c.if-name-problem.branch [
      | then-name-problem w ↦
          subst (λ (s : List ℤ). IsRead (l.j + 1) columns t.others objective s) (sym w.slacks-is)
          (read_put l.j columns (c.index-name.result.now - columns) t.others objective l.slacks (to_z w128 (of_z w128 number)) c.requires.kept.basis.others inside (omega (arith, name, w.if-name-problem.true)) (omega (arith, name, w.if-name-problem.true, c.requires.kept.basis.others_below l.j inside, c.requires.long)) is l.invariant)
      | else-name-problem w ↦
          subst (λ (s : List ℤ). IsRead (l.j + 1) columns t.others objective s) (sym w.slacks-is)
          (read_passed l.j columns t.others objective l.slacks (λ up within. absurd (omega (arith, name, w.if-name-problem.false))) l.invariant)
    ]

pub returns : goal.returns
returns c =
    let l = c.loop-j in
    let t : Table = table_of c.args.table.now in
    let columns : ℕ = c.args.problem.now.columns in
    fill_by_all (λ k. number_for t (columns + k)) l.slacks (length (rows_of c.args.problem.now)) (pos 0) (omega arith)
    (λ v below.
    read_whole l.j columns v t.others (λ j. number_at t.objective j) l.slacks (number_for t (columns + v)) (omega (arith, c.loop-j-test.false, c.len-j-end.ensures)) (omega arith)
    (λ i inside is. number_found c.args.problem.now t i (columns + v) c.requires.kept inside is)
    (λ none. sym (no_number t.others t.objective (columns + v) none))
    l.invariant)

pub loop-slack-preserved : goal.loop-slack-preserved
loop-slack-preserved c = grind (arith, common_steps)

pub bounds-slacks-name : goal.bounds-slacks-name
bounds-slacks-name c = grind (arith, elements)

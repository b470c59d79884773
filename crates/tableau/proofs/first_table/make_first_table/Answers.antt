use Rattle.std.proofs.Common.{◌≡◌, ◌+◌, ◌<◌, ◌∷◌, [], ℕ, List, ℤ, pos, neg_ℤ, length, map, take, slice_index_or, ap, sym, subst, ◌∙◌, arith, rules, length-append, FitsSigned, to_z, of_z}
use Rattle.std.specs.Int.{w128}
use Rattle.std.proofs.lemmas.Int.{to_z-of_z}
use Rattle.std.proofs.lemmas.List.{get_or_at}
use Rattle.std.proofs.lemmas.List.FromFn.{length-range_with_len}
use Rattle.std.specs.List.{range_with_len}
use Rattle.sdc_base.specs.Forms.{Term, coefficient}
use Rattle.sdc_base.specs.Systems.{number_at}
use Rattle.tableau.specs.declared.problem.LinRow.{LinRow}
use Rattle.tableau.specs.Problems.{first_table, rows_of, target_row, numbers_then_value}
use Rattle.tableau.specs.ProblemForm.{AscendFrom}
use Rattle.tableau.specs.Tables.{Table}
use Rattle.tableau.specs.OwnRows.{with_den, row_over, AreOwnRows}
use Rattle.tableau.specs.Entries.{AreEntriesOf, AreListsOf, AreSparse, row_of_entries}
use Rattle.tableau.proofs.Places.{ascend_of}
use Rattle.tableau.proofs.FirstNumbers.{first_rows, first_is, slack_row, rows_push, rows_sparse, rows_ascend, rows_with_dens, length-first, own_first, spread_first, values_first}
use Rattle.tableau.proofs.first_table.make_first_table.Goals as goal

pub spread-requires : goal.spread-requires
spread-requires c =
    let problem = c.args.problem.now in
    let t : Table = first_table problem in
    let w : ℕ = problem.columns + 2 in
    let target_fits : FitsSigned w128 problem.target = search rules in
    let slacks = subst (λ (r : List LinRow). AreListsOf w (map (slack_row problem.columns) r) c.in_ok-lists.lists.items) c.as_slice-rows.ensures c.in_ok-lists.ensures in
    let target = subst (λ (n : ℤ). AreEntriesOf w (with_den (numbers_then_value problem.columns (coefficient problem.objective) n)) c.in_ok-target.target) (to_z-of_z w128 problem.target target_fits) (subst (λ (e : List Term). AreEntriesOf w (with_den (numbers_then_value problem.columns (coefficient e) (to_z w128 (of_z w128 problem.target)))) c.in_ok-target.target) c.as_slice.ensures c.in_ok-target.ensures) in
    let objective = subst (λ (e : List Term). AreEntriesOf w (with_den (numbers_then_value problem.columns (λ column. neg_ℤ (coefficient e column)) (pos 0))) c.in_ok-objective.objective) c.as_slice-2.ensures c.in_ok-objective.ensures in
    subst (λ (e : List Term). AscendFrom 0 e) (sym c.as_slice-3.ensures) (ascend_of 0 w c.in_ok-objective.objective objective.sparse)

pub numbers_at-requires : goal.numbers_at-requires
numbers_at-requires c =
    let problem = c.args.problem.now in
    let t : Table = first_table problem in
    let w : ℕ = problem.columns + 2 in
    let target_fits : FitsSigned w128 problem.target = search rules in
    let slacks = subst (λ (r : List LinRow). AreListsOf w (map (slack_row problem.columns) r) c.in_ok-lists.lists.items) c.as_slice-rows.ensures c.in_ok-lists.ensures in
    let target = subst (λ (n : ℤ). AreEntriesOf w (with_den (numbers_then_value problem.columns (coefficient problem.objective) n)) c.in_ok-target.target) (to_z-of_z w128 problem.target target_fits) (subst (λ (e : List Term). AreEntriesOf w (with_den (numbers_then_value problem.columns (coefficient e) (to_z w128 (of_z w128 problem.target)))) c.in_ok-target.target) c.as_slice.ensures c.in_ok-target.ensures) in
    let objective = subst (λ (e : List Term). AreEntriesOf w (with_den (numbers_then_value problem.columns (λ column. neg_ℤ (coefficient e column)) (pos 0))) c.in_ok-objective.objective) c.as_slice-2.ensures c.in_ok-objective.ensures in
    let more = rows_push w (map (slack_row problem.columns) problem.rows) (slack_row problem.columns (target_row problem)) c.in_ok-lists.lists.items c.push.new.self.items c.in_ok-target.target slacks target c.in_ok-push.ensures.items in
    subst (λ (l : List (List Term)). (k : ℕ) → (d : List Term) → k < length l → AscendFrom 0 (slice_index_or l k d)) (sym c.as_slice-4.ensures.value) (rows_ascend w _ c.push.new.self.items more)

pub invariant_of-result : goal.invariant_of-result
invariant_of-result c =
    let problem = c.args.problem.now in
    let t : Table = first_table problem in
    let w : ℕ = problem.columns + 2 in
    let target_fits : FitsSigned w128 problem.target = search rules in
    let slacks = subst (λ (r : List LinRow). AreListsOf w (map (slack_row problem.columns) r) c.in_ok-lists.lists.items) c.as_slice-rows.ensures c.in_ok-lists.ensures in
    let target = subst (λ (n : ℤ). AreEntriesOf w (with_den (numbers_then_value problem.columns (coefficient problem.objective) n)) c.in_ok-target.target) (to_z-of_z w128 problem.target target_fits) (subst (λ (e : List Term). AreEntriesOf w (with_den (numbers_then_value problem.columns (coefficient e) (to_z w128 (of_z w128 problem.target)))) c.in_ok-target.target) c.as_slice.ensures c.in_ok-target.ensures) in
    let objective = subst (λ (e : List Term). AreEntriesOf w (with_den (numbers_then_value problem.columns (λ column. neg_ℤ (coefficient e column)) (pos 0))) c.in_ok-objective.objective) c.as_slice-2.ensures c.in_ok-objective.ensures in
    let members_are : c.in_ok-members.members.items ≡ t.members = c.in_ok-members.ensures ∙ ap (range_with_len problem.columns) (omega (arith, length-append problem.rows (target_row problem ∷ []), ap length c.as_slice-rows.ensures)) in
    let others_are : c.in_ok-others.others.items ≡ t.others = c.in_ok-others.ensures in
    let wide : length c.in_ok-others.others.items ≡ problem.columns = ap length others_are ∙ length-range_with_len 0 problem.columns in
    let high : length c.in_ok-members.members.items ≡ length (rows_of problem) = ap length members_are ∙ length-range_with_len problem.columns (length (rows_of problem)) in
    let lists : List (List Term) = c.push-2.new.self.items in
    let are = first_rows problem c.in_ok-lists.lists.items c.push.new.self.items lists c.in_ok-target.target c.in_ok-objective.objective slacks target objective c.in_ok-push.ensures.items c.in_ok-push-2.ensures.items in
    let long : length lists ≡ length (rows_of problem) + 1 = length-first problem lists are in
    record {
      filled = long ∙ ap (λ n. n + 1) (sym high);
      fewer_than_2_32 = omega (arith, wide, c.requires.fewer_than_2_32);
      each = subst (λ n. AreSparse (n + 2) lists) (sym wide) (rows_sparse w (rows_with_dens problem) lists are);
    }

pub returns-clause-table : goal.returns-clause-table
returns-clause-table c =
    let problem = c.args.problem.now in
    let t : Table = first_table problem in
    let w : ℕ = problem.columns + 2 in
    let target_fits : FitsSigned w128 problem.target = search rules in
    let slacks = subst (λ (r : List LinRow). AreListsOf w (map (slack_row problem.columns) r) c.in_ok-lists.lists.items) c.as_slice-rows.ensures c.in_ok-lists.ensures in
    let target = subst (λ (n : ℤ). AreEntriesOf w (with_den (numbers_then_value problem.columns (coefficient problem.objective) n)) c.in_ok-target.target) (to_z-of_z w128 problem.target target_fits) (subst (λ (e : List Term). AreEntriesOf w (with_den (numbers_then_value problem.columns (coefficient e) (to_z w128 (of_z w128 problem.target)))) c.in_ok-target.target) c.as_slice.ensures c.in_ok-target.ensures) in
    let objective = subst (λ (e : List Term). AreEntriesOf w (with_den (numbers_then_value problem.columns (λ column. neg_ℤ (coefficient e column)) (pos 0))) c.in_ok-objective.objective) c.as_slice-2.ensures c.in_ok-objective.ensures in
    let members_are : c.in_ok-members.members.items ≡ t.members = c.in_ok-members.ensures ∙ ap (range_with_len problem.columns) (omega (arith, length-append problem.rows (target_row problem ∷ []), ap length c.as_slice-rows.ensures)) in
    let others_are : c.in_ok-others.others.items ≡ t.others = c.in_ok-others.ensures in
    let wide : length c.in_ok-others.others.items ≡ problem.columns = ap length others_are ∙ length-range_with_len 0 problem.columns in
    let high : length c.in_ok-members.members.items ≡ length (rows_of problem) = ap length members_are ∙ length-range_with_len problem.columns (length (rows_of problem)) in
    let lists : List (List Term) = c.push-2.new.self.items in
    let are = first_rows problem c.in_ok-lists.lists.items c.push.new.self.items lists c.in_ok-target.target c.in_ok-objective.objective slacks target objective c.in_ok-push.ensures.items c.in_ok-push-2.ensures.items in
    let long : length lists ≡ length (rows_of problem) + 1 = length-first problem lists are in
    first_is problem c.in_ok-members.members.items c.in_ok-others.others.items lists members_are others_are are wide

pub returns-clause-sound : goal.returns-clause-sound
returns-clause-sound c =
    let problem = c.args.problem.now in
    let t : Table = first_table problem in
    let w : ℕ = problem.columns + 2 in
    let target_fits : FitsSigned w128 problem.target = search rules in
    let slacks = subst (λ (r : List LinRow). AreListsOf w (map (slack_row problem.columns) r) c.in_ok-lists.lists.items) c.as_slice-rows.ensures c.in_ok-lists.ensures in
    let target = subst (λ (n : ℤ). AreEntriesOf w (with_den (numbers_then_value problem.columns (coefficient problem.objective) n)) c.in_ok-target.target) (to_z-of_z w128 problem.target target_fits) (subst (λ (e : List Term). AreEntriesOf w (with_den (numbers_then_value problem.columns (coefficient e) (to_z w128 (of_z w128 problem.target)))) c.in_ok-target.target) c.as_slice.ensures c.in_ok-target.ensures) in
    let objective = subst (λ (e : List Term). AreEntriesOf w (with_den (numbers_then_value problem.columns (λ column. neg_ℤ (coefficient e column)) (pos 0))) c.in_ok-objective.objective) c.as_slice-2.ensures c.in_ok-objective.ensures in
    let members_are : c.in_ok-members.members.items ≡ t.members = c.in_ok-members.ensures ∙ ap (range_with_len problem.columns) (omega (arith, length-append problem.rows (target_row problem ∷ []), ap length c.as_slice-rows.ensures)) in
    let others_are : c.in_ok-others.others.items ≡ t.others = c.in_ok-others.ensures in
    let wide : length c.in_ok-others.others.items ≡ problem.columns = ap length others_are ∙ length-range_with_len 0 problem.columns in
    let high : length c.in_ok-members.members.items ≡ length (rows_of problem) = ap length members_are ∙ length-range_with_len problem.columns (length (rows_of problem)) in
    let lists : List (List Term) = c.push-2.new.self.items in
    let are = first_rows problem c.in_ok-lists.lists.items c.push.new.self.items lists c.in_ok-target.target c.in_ok-objective.objective slacks target objective c.in_ok-push.ensures.items c.in_ok-push-2.ensures.items in
    let long : length lists ≡ length (rows_of problem) + 1 = length-first problem lists are in
    let n : ℕ = length c.in_ok-members.members.items in
    let placed : length c.push.new.self.items ≡ n = omega (arith, long, high, ap length c.in_ok-push-2.ensures.items, length-append c.push.new.self.items (c.in_ok-objective.objective ∷ [])) in
    let values_at : ℕ → List ℤ = λ v. map (λ (row : List ℤ). number_at row v) (map (row_over (pos 1) (v + 1)) (take n lists)) in
    let last : c.in_ok-objective.objective ≡ slice_index_or lists n [] = sym (ap (λ (l : List (List Term)). slice_index_or l n []) c.in_ok-push-2.ensures.items ∙ get_or_at c.push.new.self.items c.in_ok-objective.objective [] [] n placed) in
    record {
      rows = subst (λ v. AreOwnRows (pos 1) (v + 1) lists) (sym wide) (own_first problem lists are);
      values = c.in_ok-values.ensures ∙ ap (map (λ (entries : List Term). coefficient entries problem.columns)) c.as_slice-4.ensures.value ∙ values_first problem c.push.new.self.items lists c.in_ok-objective.objective n are c.in_ok-push-2.ensures.items (sym placed) ∙ ap values_at (sym wide);
      objective = c.in_ok-numbers.ensures ∙ ap (row_of_entries (problem.columns + 1)) (c.as_slice-3.ensures ∙ last) ∙ spread_first problem lists are n (omega (arith, long, high)) ∙ ap (λ v. row_over (pos 1) (v + 1) (slice_index_or lists n [])) (sym wide);
    }

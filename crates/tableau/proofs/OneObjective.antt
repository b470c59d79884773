-- Blocked tables of one problem have one objective.
use Rattle.std.proofs.Common.{◌≡◌, inl, inr, ℕ, suc, ◌+◌, ◌-◌, ◌<◌, ◌≤◌, List, [], ◌∷◌, ◌++◌, length, map, slice_index, slice_index_or, All, ℤ, pos, neg_ℤ, ◌+ℤ◌, ◌-ℤ◌, ◌*ℤ◌, ◌≤ℤ◌, arith, refl, ap, sym, subst, ◌∙◌}
use Rattle.std.specs.List.{range_with_len}
use Rattle.std.proofs.Math.IntN.{*ℤ_comm}
use Rattle.std.proofs.lemmas.Int.{ints}
use Rattle.std.proofs.lemmas.List.{get_or-map, length-map}
use Rattle.std.proofs.lemmas.List.Elements.{All-from_get_or}
use Rattle.sdc_base.specs.Forms.{coefficient}
use Rattle.sdc_base.specs.Totals.{sum_below}
use Rattle.sdc_base.proofs.TotalLemmas.{sum_below-same, sum_below-times}
use Rattle.sdc_base.proofs.WholeNumbers.{assoc, distrib, swap_times, times_more}
use Rattle.tableau.specs.BlockedTables.{BlockedIsOne, BlockedAnyTable, BlockedAnyChain, BlockedIsNotReached, HaveOneObjective}
use Rattle.tableau.specs.declared.problem.Problem.{Problem}
use Rattle.tableau.specs.Problems.{NamesColumns, AreDuals, number_for, rows_of, row_at, variable_count}
use Rattle.tableau.specs.RowLists.{list_of, list_size, objective_list}
use Rattle.tableau.specs.TableLaws.{CannotImprove, value}
use Rattle.tableau.specs.Tables.{Table, Holds, dot, times_row}
use Rattle.tableau.specs.Walks.{IsTableOf}
use Rattle.tableau.proofs.WalkTables.{walk_keeps}
use Rattle.tableau.proofs.Bases.{dot_nil, not_replaced, replaced_at, times_minus}
use Rattle.tableau.proofs.Chains.{distrib_minus}
use Rattle.tableau.proofs.Counts.{all_rise}
use Rattle.tableau.proofs.DualNumbers.{duals}
use Rattle.tableau.proofs.Exchanges.{times_none}
use Rattle.tableau.proofs.Independent.{by_less}
use Rattle.tableau.proofs.LexOrders.{IsLexFromZero, from_positive, from_zeros, from_same, from_dot, both_zeros, first_from_zero}
use Rattle.tableau.proofs.Numbers.{no_number}
use Rattle.tableau.proofs.Rising.{probe_amounts, probe_whole, list_is_form, objective_is_form}
use Rattle.tableau.proofs.Solved.{left_over, taken, basis_of, taken_holds, stands_or_not}

-- the list of a column or slack: its row's, where it is a member, and else zeros
abbrev pub list_for : Problem → Table → ℕ → ℕ → ℤ
list_for problem table v i = table.den *ℤ probe_amounts problem i v -ℤ taken table (probe_amounts problem i) (probe_whole i) v

list_for_member : (problem : Problem) (table : Table) (k i : ℕ) → IsTableOf problem table → k < length table.members → list_of problem table k i ≡ list_for problem table (slice_index table.members k) i
list_for_member problem table k i kept within =
    let u : ℕ → ℤ = probe_amounts problem i in
    let w : ℤ = probe_whole i in
    let left : List ℤ → ℤ = λ row. neg_ℤ (left_over table u w row) in
    let row : List ℤ = slice_index_or table.rows k [] in
    let long : length (map left table.rows) ≡ length table.members = length-map table.rows left ∙ kept.shaped.rows in
    let own : taken table u w (slice_index table.members k) ≡ left row = replaced_at table.members (map left table.rows) (λ v. table.den *ℤ u v) k within long kept.basis.members ∙ get_or-map left table.rows k [] (pos 0) (omega (arith, kept.shaped.rows)) in
    list_is_form problem table k i (kept.shaped.each k within) ∙ omega (arith, ints, own)

-- it is never below 0
pub list_from_zero : (problem : Problem) (table : Table) (v : ℕ) → IsTableOf problem table → IsLexFromZero (list_size problem) 0 (list_for problem table v)
list_from_zero problem table v kept =
    let size : ℕ = list_size problem in
    elim (stands_or_not table.members v) as (λ _. IsLexFromZero size 0 (list_for problem table v)) [
      | inl found ↦ subst (λ m. IsLexFromZero size 0 (list_for problem table m)) found.2
          (from_same size 0 (list_of problem table found.0) (list_for problem table (slice_index table.members found.0)) (λ i. list_for_member problem table found.0 i kept found.1) (from_positive size 0 (list_of problem table found.0) (kept.rows_above found.0 found.1)))
      | inr none ↦ from_zeros size 0 (list_for problem table v)
          (λ i.
          let u : ℕ → ℤ = probe_amounts problem i in
          let left : List ℤ → ℤ = λ row. neg_ℤ (left_over table u (probe_whole i) row) in
          omega (arith, ints, not_replaced table.members (map left table.rows) (λ v. table.den *ℤ u v) v none))
    ]

-- a row on amounts d times as given, less what is missing of that
dot_less : (d : ℤ) (row : List ℤ) (others : List ℕ) (u x : ℕ → ℤ) (w : ℤ) → dot row (map x others ++ (d *ℤ w) ∷ []) ≡ d *ℤ dot row (map u others ++ w ∷ []) -ℤ dot row (map (λ v. d *ℤ u v -ℤ x v) others)
dot_less d [] others u x w = omega (arith, ints, times_none d)
dot_less d (a ∷ row) [] u x w = omega (arith, ints, dot_nil row, swap_times a d w, distrib d (a *ℤ w) (dot row []), ap (λ t. d *ℤ t) (dot_nil row), times_none d)
dot_less d (a ∷ row) (v ∷ others) u x w =
    omega (arith, ints, dot_less d row others u x w, distrib_minus a (d *ℤ u v) (x v), swap_times a d (u v), distrib d (a *ℤ u v) (dot row (map u others ++ w ∷ [])))

-- how far one objective's list is above the other's: the lists of the other's members, weighed by the numbers in the one
-- objective's row
weighed : (problem : Problem) (one other : Table) (i : ℕ) → IsTableOf problem one → IsTableOf problem other →
    dot one.objective (map (λ v. list_for problem other v i) one.others) ≡ other.den *ℤ objective_list problem one i -ℤ one.den *ℤ objective_list problem other i
weighed problem one other i kept also =
    let u : ℕ → ℤ = probe_amounts problem i in
    let w : ℤ = probe_whole i in
    let d : ℤ = other.den in
    let x : ℕ → ℤ = taken other u w in
    let s : ℤ = left_over one u w one.objective in
    let z : ℤ = left_over other u w other.objective in
    let first : objective_list problem one i ≡ s = objective_is_form problem one i kept.shaped.objective ∙ omega (arith, ints, times_none one.den) in
    let second : objective_list problem other i ≡ z = objective_is_form problem other i also.shaped.objective ∙ omega (arith, ints, times_none other.den) in
    let held : Holds one x (neg_ℤ z) (d *ℤ w) = kept.from_start x (neg_ℤ z) (d *ℤ w) (also.to_start x (neg_ℤ z) (d *ℤ w) (taken_holds other u w also.shaped (basis_of problem other also))) in
    let last : neg_ℤ (d *ℤ w) ≡ d *ℤ neg_ℤ w = sym (times_minus d w) in
    let row : one.den *ℤ neg_ℤ z +ℤ dot one.objective (map x one.others ++ neg_ℤ (d *ℤ w) ∷ []) ≡ pos 0 = held.objective_row in
    let under : dot one.objective (map x one.others ++ neg_ℤ (d *ℤ w) ∷ []) ≡ d *ℤ s -ℤ dot one.objective (map (λ v. list_for problem other v i) one.others) =
    ap (λ t. dot one.objective (map x one.others ++ t ∷ [])) last ∙ dot_less d one.objective one.others u x (neg_ℤ w) in
    omega (arith, ints, row, under, times_minus one.den z, ap (λ t. d *ℤ t) first, ap (λ t. one.den *ℤ t) second)

-- where one objective has no number below 0, its list is not below the other's
not_below : (problem : Problem) (one other : Table) → IsTableOf problem one → IsTableOf problem other → CannotImprove one →
    IsLexFromZero (list_size problem) 0 (λ i. other.den *ℤ objective_list problem one i -ℤ one.den *ℤ objective_list problem other i)
not_below problem one other kept also cannot =
    from_same (list_size problem) 0 (λ i. dot one.objective (map (λ v. list_for problem other v i) one.others)) (λ i. other.den *ℤ objective_list problem one i -ℤ one.den *ℤ objective_list problem other i) (λ i. weighed problem one other i kept also)
    (from_dot (list_size problem) one.objective one.others (list_for problem other) cannot (λ v. list_from_zero problem other v also))

-- so both lists are the same over their dens
pub same_lists : (problem : Problem) (one other : Table) → IsTableOf problem one → IsTableOf problem other → CannotImprove one → CannotImprove other →
    (i : ℕ) → i < list_size problem → objective_list problem one i *ℤ other.den ≡ objective_list problem other i *ℤ one.den
same_lists problem one other kept also cannot also_cannot i below =
    let ahead : ℕ → ℤ = λ j. other.den *ℤ objective_list problem one j -ℤ one.den *ℤ objective_list problem other j in
    let behind : ℕ → ℤ = λ j. one.den *ℤ objective_list problem other j -ℤ other.den *ℤ objective_list problem one j in
    let none : ahead (0 + i) ≡ pos 0 = both_zeros (list_size problem) 0 ahead behind (λ j. omega (arith, ints)) (not_below problem one other kept also cannot) (not_below problem other one also kept also_cannot) i below in
    let here : ahead i ≡ pos 0 = sym (ap ahead (omega arith)) ∙ none in
    *ℤ_comm (objective_list problem one i) other.den ∙ omega (arith, ints, here) ∙ *ℤ_comm one.den (objective_list problem other i)

pub others_inside : (problem : Problem) (table : Table) → IsTableOf problem table → All (λ v. v < problem.columns + length (rows_of problem)) table.others
others_inside problem table kept = All-from_get_or (λ v. v < problem.columns + length (rows_of problem)) table.others 0 kept.basis.others_below

pub duals_of : (problem : Problem) (table : Table) → NamesColumns problem → IsTableOf problem table → AreDuals problem table
duals_of problem table formed kept = duals problem table formed kept.shaped (others_inside problem table kept) kept.true_of

-- a * (b * c) is (b * a) * c
pub reordered : (a b c : ℤ) → a *ℤ (b *ℤ c) ≡ (b *ℤ a) *ℤ c
reordered a b c = swap_times a b c ∙ sym (assoc b a c)

-- the numbers at the slacks give those at the columns
same_column : (problem : Problem) (one other : Table) (column : ℕ) → NamesColumns problem → IsTableOf problem one → IsTableOf problem other → column < problem.columns →
    ((k : ℕ) → k < length (rows_of problem) → number_for one (problem.columns + k) *ℤ other.den ≡ number_for other (problem.columns + k) *ℤ one.den) →
    number_for one column *ℤ other.den ≡ number_for other column *ℤ one.den
same_column problem one other column formed kept also within slacks =
    let n : ℕ = problem.columns in
    let m : ℕ = length (rows_of problem) in
    let c : ℤ = coefficient problem.objective column in
    let a : ℕ → ℤ = λ k. coefficient (row_at problem k).entries column in
    let first : one.den *ℤ c +ℤ number_for one column ≡ sum_below m (λ k. number_for one (n + k) *ℤ a k) = (duals_of problem one formed kept).entries column within in
    let second : other.den *ℤ c +ℤ number_for other column ≡ sum_below m (λ k. number_for other (n + k) *ℤ a k) = (duals_of problem other formed also).entries column within in
    let same : other.den *ℤ sum_below m (λ k. number_for one (n + k) *ℤ a k) ≡ one.den *ℤ sum_below m (λ k. number_for other (n + k) *ℤ a k) =
    sym (sum_below-times m other.den (λ k. number_for one (n + k) *ℤ a k))
    ∙ sum_below-same m (λ k. other.den *ℤ (number_for one (n + k) *ℤ a k)) (λ k. one.den *ℤ (number_for other (n + k) *ℤ a k)) (λ k below. reordered other.den (number_for one (n + k)) (a k) ∙ ap (λ t. t *ℤ a k) (slacks k below) ∙ sym (reordered one.den (number_for other (n + k)) (a k)))
    ∙ sum_below-times m one.den (λ k. number_for other (n + k) *ℤ a k) in
    omega (arith, ints, same, ap (λ t. other.den *ℤ t) first, ap (λ t. one.den *ℤ t) second, distrib other.den (one.den *ℤ c) (number_for one column), distrib one.den (other.den *ℤ c) (number_for other column), swap_times one.den other.den c, *ℤ_comm other.den (number_for one column), *ℤ_comm one.den (number_for other column))

pub blocked_is_one : BlockedIsOne
blocked_is_one problem one other formed kept also blocked also_blocked =
    let n : ℕ = problem.columns in
    let lists : (i : ℕ) → i < list_size problem → objective_list problem one i *ℤ other.den ≡ objective_list problem other i *ℤ one.den = same_lists problem one other kept also blocked.none_below also_blocked.none_below in
    let slacks : (k : ℕ) → k < length (rows_of problem) → number_for one (n + k) *ℤ other.den ≡ number_for other (n + k) *ℤ one.den = λ k below. lists (suc k) (omega arith) in
    record {
      values = lists 0 (omega arith);
      numbers = λ v.
          by_less v n (λ is_column. same_column problem one other v formed kept also is_column slacks)
          (λ behind.
          let place : n + (v - n) ≡ v = omega arith in
          by_less (v - n) (length (rows_of problem))
          (λ is_slack. subst (λ s. number_for one s *ℤ other.den ≡ number_for other s *ℤ one.den) place (slacks (v - n) is_slack))
          (λ beyond.
          let out : variable_count problem ≤ v = omega arith in
          let none : number_for one v ≡ pos 0 = no_number one.others one.objective v (λ k below. λ is. absurd (omega (arith, kept.basis.others_below k below))) in
          let also_none : number_for other v ≡ pos 0 = no_number other.others other.objective v (λ k below. λ is. absurd (omega (arith, also.basis.others_below k below))) in
          ap (λ t. t *ℤ other.den) none ∙ omega (arith, ints) ∙ sym (ap (λ t. t *ℤ one.den) also_none)));
    }

same_fractions : (d e : ℤ) (f g : ℕ → ℤ) (ks : List ℕ) → ((k : ℕ) → f k *ℤ d ≡ g k *ℤ e) → times_row d (map f ks) ≡ times_row e (map g ks)
same_fractions d e f g [] same = refl
same_fractions d e f g (k ∷ ks) same = ap (λ t. t ∷ times_row d (map f ks)) (same k) ∙ ap (λ (t : List ℤ). (g k *ℤ e) ∷ t) (same_fractions d e f g ks same)

pub blocked_any_table : BlockedAnyTable
blocked_any_table problem n last table formed bounds walk ends kept blocked =
    let one : HaveOneObjective table last = blocked_is_one problem table last formed kept (walk_keeps problem n last formed bounds walk) blocked ends in
    record {
      objective = one;
      slacks =
          same_fractions last.den table.den (λ k. number_for table (problem.columns + k)) (λ k. number_for last (problem.columns + k)) (range_with_len 0 (length (rows_of problem)))
          (λ k. one.numbers (problem.columns + k));
    }

pub blocked_any_chain : BlockedAnyChain
blocked_any_chain problem n last table earlier formed bounds walk ends chain blocked = blocked_any_table problem n last table formed bounds walk ends (all_rise problem formed table earlier chain).0 blocked

pub blocked_is_not_reached : BlockedIsNotReached
blocked_is_not_reached problem one other kept also blocked reached =
    let first : pos 0 ≤ℤ (other.den *ℤ value one -ℤ one.den *ℤ value other) = first_from_zero (length (rows_of problem)) (λ i. other.den *ℤ objective_list problem one i -ℤ one.den *ℤ objective_list problem other i) (not_below problem one other kept also blocked.none_below) in
    absurd (omega (arith, ints, first, times_more other.den (value one) (one.den *ℤ problem.target) also.above_zero blocked.below, ap (λ t. one.den *ℤ t) reached, swap_times other.den one.den problem.target))

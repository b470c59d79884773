-- Tables of a problem and of a part of it.
use Rattle.std.proofs.Common.{◌≡◌, ℕ, zero, suc, ◌+◌, ◌<◌, ◌==◌, true, false, List, [], ◌∷◌, length, map, All, ℤ, pos, neg_ℤ, ◌+ℤ◌, ◌-ℤ◌, ◌*ℤ◌, ◌≤ℤ◌, arith, refl, ap, sym, subst, ◌∙◌, if◌then◌else◌}
use Rattle.std.proofs.lemmas.Int.{ints}
use Rattle.std.proofs.lemmas.Bool.Decides.{Decides-eqb, nat_tests}
use Rattle.std.proofs.lemmas.List.Elements.{All-head, All-tail}
use Rattle.sdc_base.specs.Forms.{Term, coefficient}
use Rattle.sdc_base.specs.Totals.{sum_below}
use Rattle.sdc_base.proofs.TotalLemmas.{sum_of-cons, sum_below-same, only}
use Rattle.sdc_base.proofs.WholeNumbers.{distrib, swap_times, times_up}
use Rattle.tableau.specs.Amounts.{value_of}
use Rattle.tableau.specs.PartProblems.{Selection, amounts_in_whole, SelectsRows, IsPartOf, IsBlockedIn}
use Rattle.tableau.specs.declared.problem.Problem.{Problem}
use Rattle.tableau.specs.Problems.{NamesColumns, number_for, rows_of, row_at, slack, first_table}
use Rattle.tableau.specs.RowLists.{list_size, objective_list}
use Rattle.tableau.specs.TableLaws.{value}
use Rattle.tableau.specs.Tables.{Table, Holds}
use Rattle.tableau.specs.Walks.{IsTableOf}
use Rattle.tableau.proofs.Bases.{not_replaced, times_minus}
use Rattle.tableau.proofs.Chains.{distrib_minus}
use Rattle.tableau.proofs.DualNumbers.{row_on_all, unit_at, value_of-unit, value_of-none, at_unit, sum_none}
use Rattle.tableau.proofs.Exchanges.{times_none}
use Rattle.tableau.proofs.Independent.{by_less}
use Rattle.tableau.proofs.LexOrders.{IsLexFromZero, from_times, from_zeros}
use Rattle.tableau.proofs.OneObjective.{list_for, list_from_zero, others_inside}
use Rattle.tableau.proofs.Padding.{lex_at, lex_by, lex_each, sum_less}
use Rattle.tableau.proofs.Rising.{probe_amounts, probe_whole, objective_is_form}
use Rattle.tableau.proofs.Solved.{left_over, taken, basis_of, taken_holds, first_row_says, first_objective_says}

-- ---- the lists of columns and slacks satisfy the rows, each with one more of its own slack's place

-- what is under the value at a place of a list
abbrev pub scale : ℕ → ℤ
scale zero = pos 1
scale (suc s) = pos 0

-- what more a row has at a place
abbrev pub shift : ℕ → ℕ → ℤ
shift zero k = pos 0
shift (suc s) k = unit_at s k

-- so many times some amounts less others
value_minus : (d : ℤ) (u x : ℕ → ℤ) (terms : List Term) → value_of (λ v. d *ℤ u v -ℤ x v) terms ≡ d *ℤ value_of u terms -ℤ value_of x terms
value_minus d u x [] = omega (arith, ints, times_none d)
value_minus d u x (t ∷ terms) =
    omega (arith, ints, sum_of-cons (λ (t : Term). t.1 *ℤ (d *ℤ u t.0 -ℤ x t.0)) t terms, sum_of-cons (λ (t : Term). t.1 *ℤ u t.0) t terms, sum_of-cons (λ (t : Term). t.1 *ℤ x t.0) t terms, value_minus d u x terms, distrib_minus t.1 (d *ℤ u t.0) (x t.0), swap_times t.1 d (u t.0), distrib d (t.1 *ℤ u t.0) (value_of u terms), ap (λ z. d *ℤ z) (sum_of-cons (λ (t : Term). t.1 *ℤ u t.0) t terms))

not_named : (n s : ℕ) (terms : List Term) → All (λ (t : Term). t.0 < n) terms → coefficient terms (n + s) ≡ pos 0
not_named n s [] inside = refl
not_named n s (t ∷ terms) inside =
    let below : t.0 < n = All-head (λ (t : Term). t.0 < n) t terms inside in
    let test : (t.0 == n + s) ≡ false = grind (arith, nat_tests) in
    let head : (if t.0 == n + s then t.1 else pos 0) ≡ pos 0 = rw test refl in
    omega (arith, ints, head, sum_of-cons (λ (u : Term). if u.0 == n + s then u.1 else pos 0) t terms, not_named n s terms (All-tail (λ (t : Term). t.0 < n) t terms inside))

-- entries of columns come to nothing on what stands for a place
probe_none : (problem : Problem) (i : ℕ) (terms : List Term) → All (λ (t : Term). t.0 < problem.columns) terms → value_of (probe_amounts problem i) terms ≡ pos 0
probe_none problem zero terms inside = value_of-none terms
probe_none problem (suc s) terms inside = value_of-unit (problem.columns + s) terms ∙ not_named problem.columns s terms inside

probe_scale : (i : ℕ) → neg_ℤ (probe_whole i) ≡ scale i
probe_scale zero = refl
probe_scale (suc s) = refl

behind_test : (n s k : ℕ) → (n + k == n + s) ≡ (k == s)
behind_test n s k = grind (arith, nat_tests)

probe_shift : (problem : Problem) (i k : ℕ) → probe_amounts problem i (problem.columns + k) ≡ shift i k
probe_shift problem zero k = refl
probe_shift problem (suc s) k = ap (λ b. if b then pos 1 else pos 0) (behind_test problem.columns s k)

pub list_row : (problem : Problem) (table : Table) (i k : ℕ) → NamesColumns problem → IsTableOf problem table → k < length (rows_of problem) →
    value_of (λ v. list_for problem table v i) (row_at problem k).entries +ℤ list_for problem table (problem.columns + k) i ≡ table.den *ℤ ((row_at problem k).bound *ℤ scale i +ℤ shift i k)
list_row problem table i k formed kept within =
    let d : ℤ = table.den in
    let u : ℕ → ℤ = probe_amounts problem i in
    let w : ℤ = probe_whole i in
    let x : ℕ → ℤ = taken table u w in
    let z : ℤ = neg_ℤ (left_over table u w table.objective) in
    let b : ℤ = (row_at problem k).bound in
    let started : Holds (first_table problem) x z (d *ℤ w) = kept.to_start x z (d *ℤ w) (taken_holds table u w kept.shaped (basis_of problem table kept)) in
    let says : value_of x (row_at problem k).entries +ℤ x (problem.columns + k) ≡ b *ℤ (d *ℤ w) = first_row_says problem x z (d *ℤ w) formed started k within in
    let turned : b *ℤ (d *ℤ w) ≡ d *ℤ (b *ℤ w) = swap_times b d w in
    let opposite : b *ℤ scale i ≡ neg_ℤ (b *ℤ w) = ap (λ t. b *ℤ t) (sym (probe_scale i)) ∙ times_minus b w in
    let whole : d *ℤ (b *ℤ scale i) ≡ neg_ℤ (d *ℤ (b *ℤ w)) = ap (λ t. d *ℤ t) opposite ∙ times_minus d (b *ℤ w) in
    let none : d *ℤ value_of u (row_at problem k).entries ≡ pos 0 = ap (λ t. d *ℤ t) (probe_none problem i (row_at problem k).entries (formed.rows k within)) ∙ times_none d in
    omega (arith, ints, says, turned, whole, none, value_minus d u x (row_at problem k).entries, ap (λ t. d *ℤ t) (probe_shift problem i k), distrib d (b *ℤ scale i) (shift i k))

pub list_objective : (problem : Problem) (table : Table) (i : ℕ) → NamesColumns problem → IsTableOf problem table → value_of (λ v. list_for problem table v i) problem.objective ≡ objective_list problem table i
list_objective problem table i formed kept =
    let d : ℤ = table.den in
    let u : ℕ → ℤ = probe_amounts problem i in
    let w : ℤ = probe_whole i in
    let x : ℕ → ℤ = taken table u w in
    let s : ℤ = left_over table u w table.objective in
    let started : Holds (first_table problem) x (neg_ℤ s) (d *ℤ w) = kept.to_start x (neg_ℤ s) (d *ℤ w) (taken_holds table u w kept.shaped (basis_of problem table kept)) in
    let says : value_of x problem.objective ≡ neg_ℤ s = first_objective_says problem x (neg_ℤ s) (d *ℤ w) formed started in
    let is : objective_list problem table i ≡ s = objective_is_form problem table i kept.shaped.objective ∙ omega (arith, ints, times_none d) in
    let none : d *ℤ value_of u problem.objective ≡ pos 0 = ap (λ t. d *ℤ t) (probe_none problem i problem.objective formed.objective) ∙ times_none d in
    omega (arith, ints, says, is, none, value_minus d u x problem.objective)

-- ---- how far an objective's row is above amounts that satisfy the rows with other bounds

slack_times : (y t d b : ℤ) → y *ℤ (t -ℤ d *ℤ b) ≡ y *ℤ t -ℤ d *ℤ (y *ℤ b)
slack_times y t d b = omega (arith, ints, distrib_minus y t (d *ℤ b), swap_times y d b)

pub gap : (problem : Problem) (table : Table) (x t b : ℕ → ℤ) (d w : ℤ) → IsTableOf problem table →
    ((k : ℕ) → k < length (rows_of problem) → value_of x (row_at problem k).entries +ℤ t k ≡ d *ℤ ((row_at problem k).bound *ℤ w +ℤ b k)) →
    sum_below problem.columns (λ j. number_for table j *ℤ x j) +ℤ sum_below (length (rows_of problem)) (λ k. number_for table (problem.columns + k) *ℤ t k)
    ≡ d *ℤ (value table *ℤ w +ℤ sum_below (length (rows_of problem)) (λ k. number_for table (problem.columns + k) *ℤ b k)) -ℤ table.den *ℤ value_of x problem.objective
gap problem table x t b d w kept each =
    let n : ℕ = problem.columns in
    let m : ℕ = length (rows_of problem) in
    let y : ℕ → ℤ = λ k. number_for table (n + k) in
    let all : table.den *ℤ value_of x problem.objective +ℤ (sum_below n (λ j. number_for table j *ℤ x j) +ℤ sum_below m (λ k. y k *ℤ slack problem x (d *ℤ w) k)) ≡ value table *ℤ (d *ℤ w) = row_on_all problem table kept.shaped (others_inside problem table kept) kept.true_of x (d *ℤ w) in
    let left : (k : ℕ) → k < m → slack problem x (d *ℤ w) k ≡ t k -ℤ d *ℤ b k = λ k below.
    omega (arith, ints, each k below, swap_times (row_at problem k).bound d w, distrib d ((row_at problem k).bound *ℤ w) (b k)) in
    let slacks : sum_below m (λ k. y k *ℤ slack problem x (d *ℤ w) k) ≡ sum_below m (λ k. y k *ℤ t k) -ℤ d *ℤ sum_below m (λ k. y k *ℤ b k) =
    sum_below-same m (λ k. y k *ℤ slack problem x (d *ℤ w) k) (λ k. y k *ℤ t k -ℤ d *ℤ (y k *ℤ b k)) (λ k below. ap (λ z. y k *ℤ z) (left k below) ∙ slack_times (y k) (t k) d (b k))
    ∙ sum_less m d (λ k. y k *ℤ t k) (λ k. y k *ℤ b k) in
    omega (arith, ints, all, slacks, swap_times (value table) d w, distrib d (value table *ℤ w) (sum_below m (λ k. y k *ℤ b k)))

-- the objective's list, by what more the rows have at its places
pub own_place : (problem : Problem) (table : Table) (i : ℕ) → i < list_size problem →
    value table *ℤ scale i +ℤ sum_below (length (rows_of problem)) (λ k. number_for table (problem.columns + k) *ℤ shift i k) ≡ objective_list problem table i
own_place problem table zero below =
    let m : ℕ = length (rows_of problem) in
    omega (arith, ints, sum_below-same m (λ k. number_for table (problem.columns + k) *ℤ pos 0) (λ _. pos 0) (λ k _. times_none (number_for table (problem.columns + k))), sum_none m)
own_place problem table (suc s) below =
    let m : ℕ = length (rows_of problem) in
    let y : ℕ → ℤ = λ k. number_for table (problem.columns + k) in
    omega (arith, ints, times_none (value table), sum_below-same m (λ k. y k *ℤ unit_at s k) (λ k. if s == k then y k else pos 0) (λ k _. at_unit s k (y k)), only m s y (omega arith))

-- ---- lists of the smaller problem, at the places of the larger one

-- a list, with 0 at the places of rows that the smaller problem hasn't
abbrev pub padded : Selection → (ℕ → ℤ) → ℕ → ℤ
padded s g zero = g zero
padded s g (suc k) = if s.has_row k then g (suc (s.row_in_part k)) else pos 0

pub padded_at : (s : Selection) (g : ℕ → ℤ) (k : ℕ) → s.has_row k ≡ true → padded s g (suc k) ≡ g (suc (s.row_in_part k))
padded_at s g k has = ap (λ b. if b then g (suc (s.row_in_part k)) else pos 0) has

pub padded_out : (s : Selection) (g : ℕ → ℤ) (k : ℕ) → s.has_row k ≡ false → padded s g (suc k) ≡ pos 0
padded_out s g k has = ap (λ b. if b then g (suc (s.row_in_part k)) else pos 0) has

padded_same : (s : Selection) (g h : ℕ → ℤ) (i : ℕ) → ((i : ℕ) → g i ≡ h i) → padded s g i ≡ padded s h i
padded_same s g h zero same = same 0
padded_same s g h (suc k) same = ap (λ z. if s.has_row k then z else pos 0) (same (suc (s.row_in_part k)))

-- by cases on whether the smaller problem has a row
by_row : {P : Type 0} (s : Selection) (k : ℕ) → (s.has_row k ≡ true → P) → (s.has_row k ≡ false → P) → P
by_row {P = P} s k had none = elim (s.has_row k) as (λ b. s.has_row k ≡ b → P) [ true ↦ had | false ↦ none ] refl

-- a place of the smaller problem stands before another where it does in the larger one
before_row : (s : Selection) (part whole : ℕ) → SelectsRows s part whole → (j k : ℕ) → k < whole → s.has_row k ≡ true → j < s.row_in_part k → s.row_in_whole j < k
before_row s part whole rows j k below has less = subst (λ n. s.row_in_whole j < n) (rows.stands k below has) (rows.ascend j (s.row_in_part k) less (rows.in_part k below has))

-- a row of the smaller problem comes back
pub comes_back : (s : Selection) (part whole : ℕ) → SelectsRows s part whole → (k : ℕ) → k < part → s.row_in_part (s.row_in_whole k) ≡ k
comes_back s part whole rows k below =
    let at : ℕ = s.row_in_whole k in
    let within : at < whole = rows.within k below in
    let again : s.row_in_part at < part = rows.in_part at within (rows.had k below) in
    let same : s.row_in_whole (s.row_in_part at) ≡ at = rows.stands at within (rows.had k below) in
    by_less (s.row_in_part at) k
    (λ less. absurd (omega (arith, rows.ascend (s.row_in_part at) k less below)))
    (λ more. by_less k (s.row_in_part at)
    (λ less. absurd (omega (arith, rows.ascend k (s.row_in_part at) less again)))
    (λ also. omega (arith, more, also)))

padded_from_zero : (s : Selection) (part whole : ℕ) (g : ℕ → ℤ) → SelectsRows s part whole → IsLexFromZero (suc part) 0 g → IsLexFromZero (suc whole) 0 (padded s g)
padded_from_zero s part whole g rows up = lex_by (suc whole) 0 (padded s g) (λ i below before. subst (λ n. pos 0 ≤ℤ padded s g n) (sym (plain i)) (at i below (λ j less. sym (ap (padded s g) (plain j)) ∙ before j less)))
  where
    plain : (i : ℕ) → 0 + i ≡ i
    plain i = omega arith

    inside : (k : ℕ) → k < whole → s.has_row k ≡ true → ((j : ℕ) → j < suc k → padded s g j ≡ pos 0) → (j : ℕ) → j < suc (s.row_in_part k) → g (0 + j) ≡ pos 0
    inside k below has before zero less = before 0 (omega arith)
    inside k below has before (suc j) less =
        let in_part : j < part = omega (arith, rows.in_part k below has) in
        let here : s.row_in_whole j < k = before_row s part whole rows j k below has (omega arith) in
        ap g (plain (suc j)) ∙ sym (ap (λ n. g (suc n)) (comes_back s part whole rows j in_part)) ∙ sym (padded_at s g (s.row_in_whole j) (rows.had j in_part)) ∙ before (suc (s.row_in_whole j)) (omega arith)

    at : (i : ℕ) → i < suc whole → ((j : ℕ) → j < i → padded s g j ≡ pos 0) → pos 0 ≤ℤ padded s g i
    at zero below before = lex_at (suc part) 0 g up 0 (omega arith) (λ j less. absurd (omega arith))
    at (suc k) below before =
        by_row s k
        (λ has.
        let first : pos 0 ≤ℤ g (0 + suc (s.row_in_part k)) = lex_at (suc part) 0 g up (suc (s.row_in_part k)) (omega (arith, rows.in_part k (omega arith) has)) (inside k (omega arith) has before) in
        omega (arith, ints, padded_at s g k has, ap g (plain (suc (s.row_in_part k)))))
        (λ out. omega (arith, ints, padded_out s g k out))

-- what entries come to on padded lists
padded_value : (s : Selection) (lists : ℕ → ℕ → ℤ) (i : ℕ) (terms : List Term) → value_of (λ v. padded s (lists v) i) terms ≡ padded s (λ i. value_of (λ v. lists v i) terms) i
padded_value s lists zero terms = refl
padded_value s lists (suc k) terms =
    elim (s.has_row k) as (λ b. value_of (λ v. if b then lists v (suc (s.row_in_part k)) else pos 0) terms ≡ (if b then value_of (λ v. lists v (suc (s.row_in_part k))) terms else pos 0)) [
      | true ↦ refl
      | false ↦ value_of-none terms
    ]

padded_sum : (s : Selection) (f g h : ℕ → ℤ) (i : ℕ) → ((i : ℕ) → f i +ℤ g i ≡ h i) → padded s f i +ℤ padded s g i ≡ padded s h i
padded_sum s f g h zero each = each 0
padded_sum s f g h (suc k) each =
    elim (s.has_row k) as (λ b. (if b then f (suc (s.row_in_part k)) else pos 0) +ℤ (if b then g (suc (s.row_in_part k)) else pos 0) ≡ (if b then h (suc (s.row_in_part k)) else pos 0)) [
      | true ↦ each (suc (s.row_in_part k))
      | false ↦ refl
    ]

-- a row of the smaller problem has as much more at a place as it has in the larger one
same_test : (s : Selection) (part whole : ℕ) → SelectsRows s part whole → (j k : ℕ) → j < part → k < whole → s.has_row k ≡ true → (j == s.row_in_part k) ≡ (s.row_in_whole j == k)
same_test s part whole rows j k j_below below has =
    elim (j == s.row_in_part k) as (λ b. (j == s.row_in_part k) ≡ b → b ≡ (s.row_in_whole j == k)) [
      | true ↦ λ test.
          let same : j ≡ s.row_in_part k = (Decides-eqb j (s.row_in_part k)).0 test in
          sym ((Decides-eqb (s.row_in_whole j) k).1 (ap s.row_in_whole same ∙ rows.stands k below has))
      | false ↦ λ test.
          elim (s.row_in_whole j == k) as (λ b. (s.row_in_whole j == k) ≡ b → false ≡ b) [
            | true ↦ λ is.
                let same : s.row_in_whole j ≡ k = (Decides-eqb (s.row_in_whole j) k).0 is in
                let back : j ≡ s.row_in_part k = sym (comes_back s part whole rows j j_below) ∙ ap s.row_in_part same in
                absurd (let yes : (j == s.row_in_part k) ≡ true = (Decides-eqb j (s.row_in_part k)).1 back in cc)
            | false ↦ λ is. refl
          ] refl
    ] refl

-- a row that it hasn't is none of its own
not_row : (s : Selection) (part whole : ℕ) → SelectsRows s part whole → (j k : ℕ) → j < part → s.has_row k ≡ false → (s.row_in_whole j == k) ≡ false
not_row s part whole rows j k below out =
    elim (s.row_in_whole j == k) as (λ b. (s.row_in_whole j == k) ≡ b → b ≡ false) [
      | true ↦ λ is. let same : s.row_in_whole j ≡ k = (Decides-eqb (s.row_in_whole j) k).0 is in absurd (let clash : true ≡ false = sym (rows.had j below) ∙ ap s.has_row same ∙ out in cc)
      | false ↦ λ is. refl
    ] refl

padded_bound : (s : Selection) (part whole : ℕ) (d b : ℤ) (j i : ℕ) → SelectsRows s part whole → j < part → i < suc whole → padded s (λ i. d *ℤ (b *ℤ scale i +ℤ shift i j)) i ≡ d *ℤ (b *ℤ scale i +ℤ shift i (s.row_in_whole j))
padded_bound s part whole d b j zero rows below inside = refl
padded_bound s part whole d b j (suc k) rows below inside =
    by_row s k
    (λ has. padded_at s (λ i. d *ℤ (b *ℤ scale i +ℤ shift i j)) k has ∙ ap (λ t. d *ℤ (b *ℤ pos 0 +ℤ (if t then pos 1 else pos 0))) (same_test s part whole rows j k below (omega arith) has))
    (λ out.
    let apart : (s.row_in_whole j == k) ≡ false = not_row s part whole rows j k below out in
    padded_out s (λ i. d *ℤ (b *ℤ scale i +ℤ shift i j)) k out ∙ sym (ap (λ t. d *ℤ (b *ℤ pos 0 +ℤ (if t then pos 1 else pos 0))) apart ∙ ap (λ t. d *ℤ (t +ℤ pos 0)) (times_none b) ∙ times_none d))

-- ---- the larger problem's objective is not below the smaller one's

-- what the smaller problem's lists need, as lists of the larger one's
pub record IsWidened (s : Selection) (part whole : Problem) (last : Table) : Type 0 where
  pub formed_part : NamesColumns part
  pub is_part : IsPartOf s part whole
  pub also : IsTableOf part last

-- the smaller problem's lists of columns, as lists of the larger one's
pub wide_list : Selection → Problem → Table → ℕ → ℕ → ℤ
wide_list s part last i = amounts_in_whole s (λ v. padded s (list_for part last v) i)

-- and those of its slacks; other rows have what their bounds leave
pub wide_slack : Selection → Problem → Problem → Table → ℕ → ℕ → ℤ
wide_slack s part whole last i k =
    if s.has_row k then padded s (list_for part last (part.columns + s.row_in_part k)) i
    else last.den *ℤ ((row_at whole k).bound *ℤ scale i +ℤ shift i k)

wide_row : (s : Selection) (part whole : Problem) (last : Table) (i j : ℕ) → IsWidened s part whole last → i < list_size whole → j < length (rows_of part) →
    value_of (wide_list s part last i) (row_at whole (s.row_in_whole j)).entries +ℤ padded s (list_for part last (part.columns + j)) i
    ≡ last.den *ℤ ((row_at whole (s.row_in_whole j)).bound *ℤ scale i +ℤ shift i (s.row_in_whole j))
unfolding wide_list
wide_row s part whole last i j are inside below =
    let entries : List Term = (row_at part j).entries in
    let value : value_of (wide_list s part last i) (row_at whole (s.row_in_whole j)).entries ≡ padded s (λ i. value_of (λ v. list_for part last v i) entries) i =
    are.is_part.widened_rows (λ v. padded s (list_for part last v) i) j below ∙ padded_value s (list_for part last) i entries in
    ap (λ z. z +ℤ padded s (list_for part last (part.columns + j)) i) value
    ∙ padded_sum s (λ i. value_of (λ v. list_for part last v i) entries) (list_for part last (part.columns + j)) (λ i. last.den *ℤ ((row_at part j).bound *ℤ scale i +ℤ shift i j)) i (λ i. list_row part last i j are.formed_part are.also below)
    ∙ padded_bound s (length (rows_of part)) (length (rows_of whole)) last.den (row_at part j).bound j i are.is_part.rows below inside
    ∙ ap (λ b. last.den *ℤ (b *ℤ scale i +ℤ shift i (s.row_in_whole j))) (are.is_part.bounds j below)

pub wide_rows : (s : Selection) (part whole : Problem) (last : Table) (i : ℕ) → IsWidened s part whole last → i < list_size whole → (k : ℕ) → k < length (rows_of whole) →
    value_of (wide_list s part last i) (row_at whole k).entries +ℤ wide_slack s part whole last i k ≡ last.den *ℤ ((row_at whole k).bound *ℤ scale i +ℤ shift i k)
unfolding wide_list wide_slack
wide_rows s part whole last i are inside k below =
    let x : ℕ → ℤ = wide_list s part last i in
    let left : ℤ = last.den *ℤ ((row_at whole k).bound *ℤ scale i +ℤ shift i k) in
    by_row s k
    (λ has.
    let j : ℕ = s.row_in_part k in
    let t : ℤ = padded s (list_for part last (part.columns + j)) i in
    ap (λ b. value_of x (row_at whole k).entries +ℤ (if b then t else left)) has
    ∙ subst (λ q. value_of x (row_at whole q).entries +ℤ t ≡ last.den *ℤ ((row_at whole q).bound *ℤ scale i +ℤ shift i q)) (are.is_part.rows.stands k below has)
    (wide_row s part whole last i j are inside (are.is_part.rows.in_part k below has)))
    (λ out.
    ap (λ b. value_of x (row_at whole k).entries +ℤ (if b then padded s (list_for part last (part.columns + s.row_in_part k)) i else left)) out
    ∙ omega (arith, ints, are.is_part.other_rows (λ v. padded s (list_for part last v) i) k below out))

pub wide_objective : (s : Selection) (part whole : Problem) (last : Table) (i : ℕ) → IsWidened s part whole last → value_of (wide_list s part last i) whole.objective ≡ padded s (objective_list part last) i
unfolding wide_list
wide_objective s part whole last i are =
    are.is_part.widened_objective (λ v. padded s (list_for part last v) i)
    ∙ padded_value s (list_for part last) i part.objective
    ∙ padded_same s (λ i. value_of (λ v. list_for part last v i) part.objective) (objective_list part last) i (λ i. list_objective part last i are.formed_part are.also)

bound_from_zero : (d b : ℤ) (i k : ℕ) → pos 1 ≤ℤ d → pos 0 ≤ℤ b → pos 0 ≤ℤ (d *ℤ (b *ℤ scale i +ℤ shift i k))
bound_from_zero d b zero k up also = omega (arith, ints, times_up d (pos 0) (b *ℤ pos 1 +ℤ pos 0) (omega (arith, ints)) (omega (arith, ints)), times_none d)
bound_from_zero d b (suc s) k up also =
    let unit : pos 0 ≤ℤ unit_at s k = elim (k == s) as (λ t. pos 0 ≤ℤ (if t then pos 1 else pos 0)) [ true ↦ omega (arith, ints) | false ↦ omega (arith, ints) ] in
    omega (arith, ints, times_up d (pos 0) (b *ℤ pos 0 +ℤ unit_at s k) (omega (arith, ints)) (omega (arith, ints, times_none b, unit)), times_none d)

pub wide_list_up : (s : Selection) (part whole : Problem) (last : Table) (y : ℤ) (j : ℕ) → IsWidened s part whole last → (s.has_column j ≡ true → pos 0 ≤ℤ y) → IsLexFromZero (list_size whole) 0 (λ i. y *ℤ wide_list s part last i j)
unfolding wide_list
wide_list_up s part whole last y j are up =
    let size : ℕ = list_size whole in
    let list : ℕ → ℤ = list_for part last (s.column_in_part j) in
    elim (s.has_column j) as (λ b. s.has_column j ≡ b → IsLexFromZero size 0 (λ i. y *ℤ (if b then padded s list i else pos 0))) [
      | true ↦ λ has. from_times size 0 y (padded s list) (up has) (padded_from_zero s (length (rows_of part)) (length (rows_of whole)) list are.is_part.rows (list_from_zero part last (s.column_in_part j) are.also))
      | false ↦ λ out. from_zeros size 0 (λ i. y *ℤ pos 0) (λ i. times_none y)
    ] refl

pub wide_slack_up : (s : Selection) (part whole : Problem) (last : Table) (y : ℤ) (k : ℕ) → IsWidened s part whole last → pos 0 ≤ℤ y → pos 0 ≤ℤ (row_at whole k).bound → IsLexFromZero (list_size whole) 0 (λ i. y *ℤ wide_slack s part whole last i k)
unfolding wide_slack
wide_slack_up s part whole last y k are up bound =
    let size : ℕ = list_size whole in
    let list : ℕ → ℤ = list_for part last (part.columns + s.row_in_part k) in
    let left : ℕ → ℤ = λ i. last.den *ℤ ((row_at whole k).bound *ℤ scale i +ℤ shift i k) in
    elim (s.has_row k) as (λ b. IsLexFromZero size 0 (λ i. y *ℤ (if b then padded s list i else left i))) [
      | true ↦ from_times size 0 y (padded s list) up (padded_from_zero s (length (rows_of part)) (length (rows_of whole)) list are.is_part.rows (list_from_zero part last (part.columns + s.row_in_part k) are.also))
      | false ↦ from_times size 0 y left up (lex_each size left (λ i. bound_from_zero last.den (row_at whole k).bound i k are.also.above_zero bound))
    ]

-- ---- nor the smaller one's below the larger one's

pub left_list : (s : Selection) (whole : Problem) (table : Table) (i column : ℕ) → IsBlockedIn s whole table → s.leaves_out column ≡ true → list_for whole table column i ≡ pos 0
left_list s whole table i column blocked left =
    let u : ℕ → ℤ = probe_amounts whole i in
    let over : List ℤ → ℤ = λ row. neg_ℤ (left_over table u (probe_whole i) row) in
    omega (arith, ints, not_replaced table.members (map over table.rows) (λ v. table.den *ℤ u v) column (λ k below. blocked.left column k left below))

-- the smaller problem's objective, at a place of the larger one
pub narrow_place : (s : Selection) (part whole : Problem) (last : Table) (i : ℕ) → SelectsRows s (length (rows_of part)) (length (rows_of whole)) → i < list_size whole →
    value last *ℤ scale i +ℤ sum_below (length (rows_of part)) (λ k. number_for last (part.columns + k) *ℤ shift i (s.row_in_whole k)) ≡ padded s (objective_list part last) i
narrow_place s part whole last zero rows below = own_place part last 0 (omega arith)
narrow_place s part whole last (suc q) rows below =
    let m : ℕ = length (rows_of part) in
    let y : ℕ → ℤ = λ k. number_for last (part.columns + k) in
    by_row s q
    (λ has.
    let j : ℕ = s.row_in_part q in
    omega (arith, ints, sum_below-same m (λ k. y k *ℤ unit_at q (s.row_in_whole k)) (λ k. y k *ℤ unit_at j k) (λ k k_below. ap (λ b. y k *ℤ (if b then pos 1 else pos 0)) (sym (same_test s m (length (rows_of whole)) rows k q k_below (omega arith) has))))
    ∙ own_place part last (suc j) (omega (arith, rows.in_part q (omega arith) has))
    ∙ sym (padded_at s (objective_list part last) q has))
    (λ out.
    omega (arith, ints, times_none (value last), sum_below-same m (λ k. y k *ℤ unit_at q (s.row_in_whole k)) (λ _. pos 0) (λ k k_below. ap (λ b. y k *ℤ (if b then pos 1 else pos 0)) (not_row s m (length (rows_of whole)) rows k q k_below out) ∙ times_none (y k)), sum_none m, padded_out s (objective_list part last) q out))

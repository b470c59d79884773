-- Amounts that a table takes up, and what they say of its problem.
use Rattle.std.proofs.Common.{◌≡◌, ◌≢◌, ◌==◌, true, false, inl, inr, ℕ, zero, suc, ◌+◌, ◌<◌, List, [], ◌∷◌, ◌++◌, length, map, zip, slice_index, slice_index_or, get_or, All, ℤ, pos, negsuc, neg_ℤ, ◌+ℤ◌, ◌-ℤ◌, ◌*ℤ◌, ◌≤ℤ◌, arith, refl, ap, sym, subst, ◌∙◌, length-append, if◌then◌else◌, ◌⊎◌}
use Rattle.std.specs.List.{range_with_len}
use Rattle.std.proofs.Math.IntN.{*ℤ_comm}
use Rattle.std.proofs.lemmas.Int.{ints}
use Rattle.std.proofs.lemmas.Bool.Decides.{nat_tests}
use Rattle.std.proofs.lemmas.List.{get_or-map, length-map, get_or_at}
use Rattle.std.proofs.lemmas.List.Elements.{All-from_get_or}
use Rattle.std.proofs.lemmas.List.FromFn.{length-range_with_len, get_or-range_with_len}
use Rattle.sdc_base.proofs.WholeNumbers.{minus_times, times_up}
use Rattle.sdc_base.proofs.TotalLemmas.{sum_of-cons, sum_below-same, sum_below-times}
use Rattle.sdc_base.proofs.WeakDual.{by_cells}
use Rattle.sdc_base.specs.Forms.{Term, coefficient}
use Rattle.tableau.specs.declared.problem.Problem.{Problem}
use Rattle.tableau.specs.declared.problem.LinRow.{LinRow}
use Rattle.tableau.specs.Amounts.{value_of}
use Rattle.tableau.specs.Tables.{Table, HasShape, Holds, dot, under_row}
use Rattle.sdc_base.specs.Systems.{number_at}
use Rattle.tableau.specs.Problems.{NamesColumns, rows_of, row_at, no_row, target_row, numbers_then_value, first_table, number_for}
use Rattle.tableau.specs.RowLists.{IsLexPositive, IsBasis, list_of, list_size}
use Rattle.tableau.specs.Walks.{IsTableOf}
use Rattle.tableau.specs.Readings.{value_for, member_values}
use Rattle.tableau.specs.Solutions.{AreFeasible, ValuesAreFeasible, TargetBounds, SomeMemberLeaves, NoneBelow, ComplementarySlackness, TargetIsFree}
use Rattle.tableau.proofs.Exchanges.{times_none, by_place}
use Rattle.tableau.proofs.Starts.{dot_range, minus_whole, none_and}
use Rattle.tableau.proofs.DualNumbers.{dot_zip, unit_at, value_of-unit, value_of-none}
use Rattle.tableau.proofs.Bases.{replaced, not_replaced, replaced_at, dot_scaled, times_minus, taken_up}
use Rattle.tableau.proofs.Independent.{absent}
use Rattle.tableau.proofs.Numbers.{named_number, no_number}

-- ---- amounts that a table takes up, for any amounts of the others

-- what a row comes to on amounts of the others
abbrev pub left_over : Table → (ℕ → ℤ) → ℤ → List ℤ → ℤ
left_over table u w row = dot row (map u table.others ++ neg_ℤ w ∷ [])

-- the others den times as given, the members what is left over
abbrev pub taken : Table → (ℕ → ℤ) → ℤ → ℕ → ℤ
taken table u w = replaced table.members (map (λ (row : List ℤ). neg_ℤ (left_over table u w row)) table.rows) (λ v. table.den *ℤ u v)

pub basis_of : (problem : Problem) (table : Table) → IsTableOf problem table → IsBasis table
basis_of problem table kept = record { distinct = kept.basis.members; apart = kept.basis.apart }

pub taken_holds : (table : Table) (u : ℕ → ℤ) (w : ℤ) → HasShape table → IsBasis table → Holds table (taken table u w) (neg_ℤ (left_over table u w table.objective)) (table.den *ℤ w)
taken_holds table u w shaped basis =
    let d : ℤ = table.den in
    let sum_at : List ℤ → ℤ = left_over table u w in
    let values : List ℤ = map (λ (row : List ℤ). neg_ℤ (sum_at row)) table.rows in
    let base : ℕ → ℤ = λ v. d *ℤ u v in
    let x : ℕ → ℤ = taken table u w in
    let whole : ℤ = d *ℤ w in
    let last : neg_ℤ whole ≡ d *ℤ neg_ℤ w = sym (times_minus d w) in
    let long : length values ≡ length table.members = length-map table.rows (λ (row : List ℤ). neg_ℤ (sum_at row)) ∙ shaped.rows in
    let on_others : (k : ℕ) → k < length table.others → x (slice_index table.others k) ≡ d *ℤ u (slice_index table.others k) = λ k below. not_replaced table.members values base (slice_index table.others k) (λ j j_below. basis.apart j k j_below below) in
    let scaled : (row : List ℤ) → dot row (under_row table x whole) ≡ d *ℤ sum_at row = λ row. ap (λ t. dot row (map x table.others ++ t ∷ [])) last ∙ dot_scaled d row table.others u x (neg_ℤ w) on_others in
    record {
      rows = λ k below.
          let row : List ℤ = slice_index_or table.rows k [] in
          let own : x (slice_index table.members k) ≡ neg_ℤ (sum_at row) = replaced_at table.members values base k below long basis.distinct ∙ get_or-map (λ (row : List ℤ). neg_ℤ (sum_at row)) table.rows k [] (pos 0) (omega (arith, shaped.rows)) in
          taken_up d (x (slice_index table.members k)) (sum_at row) row (under_row table x whole) own (scaled row);
      objective_row = taken_up d (neg_ℤ (sum_at table.objective)) (sum_at table.objective) table.objective (under_row table x whole) refl (scaled table.objective);
    }

-- amounts with some replaced are from 0 where both are
replaced_from_zero : (members : List ℕ) (values : List ℤ) (base : ℕ → ℤ) (v : ℕ) → ((k : ℕ) → k < length values → pos 0 ≤ℤ get_or values k (pos 0)) → pos 0 ≤ℤ base v → pos 0 ≤ℤ replaced members values base v
replaced_from_zero [] values base v up also = also
replaced_from_zero (m ∷ members) [] base v up also = also
replaced_from_zero (m ∷ members) (a ∷ values) base v up also =
    elim (m == v) as (λ b. pos 0 ≤ℤ (if b then a else replaced members values base v)) [
      | true ↦ up 0 (omega arith)
      | false ↦ replaced_from_zero members values base v (λ k below. up (suc k) (omega arith)) also
    ]

-- ---- what the first table says of amounts

pub spread_any : (n : ℕ) (x : ℕ → ℤ) (whole : ℤ) (terms : List Term) (bound : ℤ) → All (λ (t : Term). t.0 < n) terms → dot (numbers_then_value n (coefficient terms) bound) (map x (range_with_len 0 n) ++ neg_ℤ whole ∷ []) ≡ value_of x terms -ℤ bound *ℤ whole
spread_any n x whole terms bound inside =
    dot_range n 0 (coefficient terms) x bound (neg_ℤ whole)
    ∙ omega (arith, ints, minus_whole bound whole, by_cells n x terms inside, sum_below-same n (λ k. coefficient terms (0 + k) *ℤ x (0 + k)) (λ k. coefficient terms k *ℤ x k) (λ k _. ap (λ j. coefficient terms j *ℤ x j) (none_and k)))

pub spread_opposite : (n : ℕ) (x : ℕ → ℤ) (whole : ℤ) (terms : List Term) → All (λ (t : Term). t.0 < n) terms → dot (numbers_then_value n (λ c. neg_ℤ (coefficient terms c)) (pos 0)) (map x (range_with_len 0 n) ++ neg_ℤ whole ∷ []) ≡ neg_ℤ (value_of x terms)
spread_opposite n x whole terms inside =
    let turned : ℕ → ℤ = λ c. neg_ℤ (coefficient terms c) in
    dot_range n 0 turned x (pos 0) (neg_ℤ whole)
    ∙ omega (arith, ints, by_cells n x terms inside, sum_below-times n (negsuc 0) (λ k. coefficient terms k *ℤ x k), sum_below-same n (λ k. turned (0 + k) *ℤ x (0 + k)) (λ k. negsuc 0 *ℤ (coefficient terms k *ℤ x k)) (λ k _. ap (λ j. turned j *ℤ x j) (none_and k) ∙ minus_times (coefficient terms k) (x k) ∙ omega (arith, ints)))

pub first_row_says : (problem : Problem) (x : ℕ → ℤ) (z whole : ℤ) → NamesColumns problem → Holds (first_table problem) x z whole → (k : ℕ) → k < length (rows_of problem) → value_of x (row_at problem k).entries +ℤ x (problem.columns + k) ≡ (row_at problem k).bound *ℤ whole
first_row_says problem x z whole formed holds k within =
    let n : ℕ = problem.columns in
    let m : ℕ = length (rows_of problem) in
    let one : LinRow = row_at problem k in
    let wide : LinRow → List ℤ = λ row. numbers_then_value n (coefficient row.entries) row.bound in
    let under : List ℤ = map x (range_with_len 0 n) ++ neg_ℤ whole ∷ [] in
    let member : x (slice_index (range_with_len n m) k) ≡ x (n + k) = ap x (get_or-range_with_len n m k 0 within) in
    let own : get_or (map wide (rows_of problem)) k [] ≡ wide one = get_or-map wide (rows_of problem) k no_row [] within in
    let sum : dot (get_or (map wide (rows_of problem)) k []) under ≡ value_of x one.entries -ℤ one.bound *ℤ whole = ap (λ t. dot t under) own ∙ spread_any n x whole one.entries one.bound (formed.rows k within) in
    omega (arith, ints, member, sum, holds.rows k (omega (arith, length-range_with_len n m)))

pub first_objective_says : (problem : Problem) (x : ℕ → ℤ) (z whole : ℤ) → NamesColumns problem → Holds (first_table problem) x z whole → value_of x problem.objective ≡ z
first_objective_says problem x z whole formed holds =
    omega (arith, ints, spread_opposite problem.columns x whole problem.objective formed.objective, holds.objective_row)

-- ---- the values of a table

nothing : ℕ → ℤ
nothing v = pos 0

-- what is left over of a row where the others are 0
left_none : (table : Table) (row : List ℤ) → length row ≡ length table.others + 1 → neg_ℤ (left_over table (λ _. pos 0) (pos 1) row) ≡ number_at row (length table.others)
left_none table row long = omega (arith, ints, dot_zip table.others row (λ _. pos 0) (neg_ℤ (pos 1)) long, value_of-none (zip table.others row), minus_whole (get_or row (length table.others) (pos 0)) (pos 1))

-- amounts of members alone, as a coefficient
replaced_coefficient : (members : List ℕ) (values : List ℤ) (base : ℕ → ℤ) (v : ℕ) → ((i j : ℕ) → i < length members → j < length members → slice_index members i ≡ slice_index members j → i ≡ j) → base v ≡ pos 0 → replaced members values base v ≡ coefficient (zip members values) v
replaced_coefficient [] values base v distinct none = none
replaced_coefficient (m ∷ members) [] base v distinct none = none
replaced_coefficient (m ∷ members) (a ∷ values) base v distinct none =
    let next : (i j : ℕ) → i < length members → j < length members → slice_index members i ≡ slice_index members j → i ≡ j = λ i j i_below j_below same. let up : suc i ≡ suc j = distinct (suc i) (suc j) (omega arith) (omega arith) same in omega arith in
    let later : replaced members values base v ≡ coefficient (zip members values) v = replaced_coefficient members values base v next none in
    elim (m == v) as (λ b. (m == v) ≡ b → (if b then a else replaced members values base v) ≡ coefficient ((m, a) ∷ zip members values) v) [
      | true ↦ λ is.
          let same : m ≡ v = grind (arith, nat_tests, is) in
          let others : All (λ u. u ≢ v) members = All-from_get_or (λ u. u ≢ v) members 0 (λ i below clash. let up : suc i ≡ 0 = distinct (suc i) 0 (omega arith) (omega arith) (clash ∙ sym same) in absurd (omega arith)) in
          let head : (if m == v then a else pos 0) ≡ a = rw is refl in
          omega (arith, ints, head, sum_of-cons (λ (t : Term). if t.0 == v then t.1 else pos 0) (m, a) (zip members values), absent members values v others)
      | false ↦ λ is.
          let head : (if m == v then a else pos 0) ≡ pos 0 = rw is refl in
          omega (arith, ints, head, sum_of-cons (λ (t : Term). if t.0 == v then t.1 else pos 0) (m, a) (zip members values), later)
    ] refl

same_values : (table : Table) → HasShape table → (rows : List (List ℤ)) → ((k : ℕ) → k < length rows → length (slice_index_or rows k []) ≡ length table.others + 1) → map (λ (row : List ℤ). neg_ℤ (left_over table (λ _. pos 0) (pos 1) row)) rows ≡ map (λ (row : List ℤ). number_at row (length table.others)) rows
same_values table shaped [] each = refl
same_values table shaped (row ∷ rows) each =
    ap (λ n. n ∷ map (λ (r : List ℤ). neg_ℤ (left_over table (λ _. pos 0) (pos 1) r)) rows) (left_none table row (each 0 (omega arith)))
    ∙ ap (λ (t : List ℤ). number_at row (length table.others) ∷ t) (same_values table shaped rows (λ k below. each (suc k) (omega arith)))

values_are : (problem : Problem) (table : Table) → IsTableOf problem table → (v : ℕ) → taken table (λ _. pos 0) (pos 1) v ≡ value_for table v
values_are problem table kept v =
    let base : ℕ → ℤ = λ u. table.den *ℤ pos 0 in
    ap (λ (t : List ℤ). replaced table.members t base v) (same_values table kept.shaped table.rows (λ k below. kept.shaped.each k (omega (arith, kept.shaped.rows))))
    ∙ replaced_coefficient table.members (member_values table) base v kept.basis.members (times_none table.den)

value_of-same : (x y : ℕ → ℤ) (terms : List Term) → ((v : ℕ) → x v ≡ y v) → value_of x terms ≡ value_of y terms
value_of-same x y [] same = refl
value_of-same x y (t ∷ terms) same =
    omega (arith, ints, sum_of-cons (λ (t : Term). t.1 *ℤ x t.0) t terms, sum_of-cons (λ (t : Term). t.1 *ℤ y t.0) t terms, value_of-same x y terms same, ap (λ n. t.1 *ℤ n) (same t.0))

from_above : (n : ℕ) (g : ℕ → ℤ) → IsLexPositive n 0 g → pos 0 ≤ℤ g 0
from_above zero g above = absurd above
from_above (suc n) g above = elim above as (λ _. pos 0 ≤ℤ g 0) [ inl more ↦ omega (arith, ints) | inr later ↦ omega (arith, ints, later.0) ]

value_from_zero : (problem : Problem) (table : Table) → IsTableOf problem table → (v : ℕ) → pos 0 ≤ℤ taken table (λ _. pos 0) (pos 1) v
value_from_zero problem table kept v =
    let base : ℕ → ℤ = λ u. table.den *ℤ pos 0 in
    let left : List ℤ → ℤ = λ row. neg_ℤ (left_over table (λ _. pos 0) (pos 1) row) in
    replaced_from_zero table.members (map left table.rows) base v
    (λ k below.
    let within : k < length table.rows = omega (arith, length-map table.rows left) in
    let row : List ℤ = slice_index_or table.rows k [] in
    let is : get_or (map left table.rows) k (pos 0) ≡ number_at row (length table.others) = get_or-map left table.rows k [] (pos 0) within ∙ left_none table row (kept.shaped.each k (omega (arith, kept.shaped.rows))) in
    let up : pos 0 ≤ℤ list_of problem table k 0 = from_above (list_size problem) (list_of problem table k) (kept.rows_above k (omega (arith, kept.shaped.rows))) in
    omega (arith, ints, is, up))
    (omega (arith, ints, times_none table.den))

pub values_are_allowed : ValuesAreFeasible
values_are_allowed problem table formed kept =
    let x : ℕ → ℤ = taken table (λ _. pos 0) (pos 1) in
    let z : ℤ = neg_ℤ (left_over table (λ _. pos 0) (pos 1) table.objective) in
    let whole : ℤ = table.den *ℤ pos 1 in
    let whole_is : whole ≡ table.den = *ℤ_comm table.den (pos 1) ∙ omega (arith, ints) in
    let started : Holds (first_table problem) x z whole = kept.to_start x z whole (taken_holds table (λ _. pos 0) (pos 1) kept.shaped (basis_of problem table kept)) in
    let same : (v : ℕ) → x v ≡ value_for table v = values_are problem table kept in
    record {
      from_zero = λ v. subst (λ n. pos 0 ≤ℤ n) (same v) (value_from_zero problem table kept v);
      rows = λ k within.
          let says : value_of x (row_at problem k).entries +ℤ x (problem.columns + k) ≡ (row_at problem k).bound *ℤ whole = first_row_says problem x z whole formed started k within in
          let turned : (row_at problem k).bound *ℤ whole ≡ table.den *ℤ (row_at problem k).bound = ap (λ n. (row_at problem k).bound *ℤ n) whole_is ∙ *ℤ_comm (row_at problem k).bound table.den in
          omega (arith, ints, value_of-same x (value_for table) (row_at problem k).entries same, same (problem.columns + k));
      objective = sym (value_of-same x (value_for table) problem.objective same) ∙ first_objective_says problem x z whole formed started ∙ left_none table table.objective kept.shaped.objective;
    }

pub last_row_is : (problem : Problem) → row_at problem (length problem.rows) ≡ target_row problem
last_row_is problem = get_or_at problem.rows (target_row problem) [] no_row (length problem.rows) refl

pub last_within : (problem : Problem) → length problem.rows < length (rows_of problem)
last_within problem = omega (arith, length-append problem.rows (target_row problem ∷ []))

pub target_bounds : TargetBounds
target_bounds problem table formed kept =
    let t : ℕ = length problem.rows in
    let allowed : AreFeasible problem table = values_are_allowed problem table formed kept in
    let row : value_of (value_for table) (row_at problem t).entries +ℤ value_for table (problem.columns + t) ≡ table.den *ℤ (row_at problem t).bound = allowed.rows t (last_within problem) in
    let own : value_of (value_for table) (row_at problem t).entries ≡ value_of (value_for table) problem.objective = ap (λ (r : LinRow). value_of (value_for table) r.entries) (last_row_is problem) in
    let bound : table.den *ℤ (row_at problem t).bound ≡ table.den *ℤ problem.target = ap (λ (r : LinRow). table.den *ℤ r.bound) (last_row_is problem) in
    omega (arith, ints, allowed.objective, allowed.from_zero (problem.columns + t))

-- ---- some member leaves

unit_from_zero : (v u : ℕ) → pos 0 ≤ℤ unit_at v u
unit_from_zero v u = elim (u == v) as (λ b. pos 0 ≤ℤ (if b then pos 1 else pos 0)) [ true ↦ omega (arith, ints) | false ↦ omega (arith, ints) ]

left_unit : (problem : Problem) (table : Table) (column : ℕ) (row : List ℤ) → IsTableOf problem table → column < length table.others → length row ≡ length table.others + 1 → left_over table (unit_at (slice_index table.others column)) (pos 0) row ≡ number_at row column
left_unit problem table column row kept within long =
    let entering : ℕ = slice_index table.others column in
    omega (arith, ints, dot_zip table.others row (unit_at entering) (neg_ℤ (pos 0)) long, value_of-unit entering (zip table.others row), times_none (get_or row (length table.others) (pos 0)))
    ∙ named_number table.others row column within (omega (arith, long)) kept.basis.others

pub some_member_leaves : SomeMemberLeaves
some_member_leaves problem table column formed kept within below none =
    let entering : ℕ = slice_index table.others column in
    let u : ℕ → ℤ = unit_at entering in
    let x : ℕ → ℤ = taken table u (pos 0) in
    let z : ℤ = neg_ℤ (left_over table u (pos 0) table.objective) in
    let whole : ℤ = table.den *ℤ pos 0 in
    let t : ℕ = length problem.rows in
    let left : List ℤ → ℤ = λ row. neg_ℤ (left_over table u (pos 0) row) in
    let started : Holds (first_table problem) x z whole = kept.to_start x z whole (taken_holds table u (pos 0) kept.shaped (basis_of problem table kept)) in
    let from_zero : pos 0 ≤ℤ x (problem.columns + t) =
    replaced_from_zero table.members (map left table.rows) (λ v. table.den *ℤ u v) (problem.columns + t)
    (λ k k_below.
    let k_within : k < length table.rows = omega (arith, length-map table.rows left) in
    let row : List ℤ = slice_index_or table.rows k [] in
    let is : get_or (map left table.rows) k (pos 0) ≡ neg_ℤ (left_over table u (pos 0) row) = get_or-map left table.rows k [] (pos 0) k_within in
    let number : left_over table u (pos 0) row ≡ number_at row column = left_unit problem table column row kept within (kept.shaped.each k (omega (arith, kept.shaped.rows))) in
    omega (arith, ints, is, number, none k (omega (arith, kept.shaped.rows))))
    (omega (arith, ints, times_up table.den (pos 0) (u (problem.columns + t)) (omega (arith, ints, kept.above_zero)) (unit_from_zero entering (problem.columns + t)), times_none table.den)) in
    let row : value_of x (row_at problem t).entries +ℤ x (problem.columns + t) ≡ (row_at problem t).bound *ℤ whole = first_row_says problem x z whole formed started t (last_within problem) in
    let own : value_of x (row_at problem t).entries ≡ value_of x problem.objective = ap (λ (r : LinRow). value_of x r.entries) (last_row_is problem) in
    let nothing_there : (row_at problem t).bound *ℤ whole ≡ pos 0 = ap (λ n. (row_at problem t).bound *ℤ n) (times_none table.den) ∙ times_none (row_at problem t).bound in
    let objective : value_of x problem.objective ≡ z = first_objective_says problem x z whole formed started in
    let number : left_over table u (pos 0) table.objective ≡ number_at table.objective column = left_unit problem table column table.objective kept within kept.shaped.objective in
    absurd (omega (arith, ints))

-- ---- no number below 0

zip_from_zero : (names : List ℕ) (numbers : List ℤ) (v : ℕ) → ((k : ℕ) → k < length names → pos 0 ≤ℤ get_or numbers k (pos 0)) → pos 0 ≤ℤ coefficient (zip names numbers) v
zip_from_zero [] numbers v up = omega (arith, ints)
zip_from_zero (u ∷ names) [] v up = omega (arith, ints)
zip_from_zero (u ∷ names) (a ∷ numbers) v up =
    let head : pos 0 ≤ℤ (if u == v then a else pos 0) = elim (u == v) as (λ b. pos 0 ≤ℤ (if b then a else pos 0)) [ true ↦ up 0 (omega arith) | false ↦ omega (arith, ints) ] in
    omega (arith, ints, head, sum_of-cons (λ (t : Term). if t.0 == v then t.1 else pos 0) (u, a) (zip names numbers), zip_from_zero names numbers v (λ k below. up (suc k) (omega arith)))

pub none_below : NoneBelow
none_below table shaped cannot v = zip_from_zero table.others table.objective v cannot

-- ---- where a value is above 0

not_in_front : (u : ℕ) (names : List ℕ) (v : ℕ) → u ≢ v → ((k : ℕ) → k < length names → slice_index names k ≢ v) → (k : ℕ) → k < length (u ∷ names) → slice_index (u ∷ names) k ≢ v
not_in_front u names v apart none zero below = apart
not_in_front u names v apart none (suc k) below = none k (omega arith)

-- a name stands among some or not
pub stands_or_not : (names : List ℕ) (v : ℕ) → ((k : ℕ) × (k < length names) × (slice_index names k ≡ v)) ⊎ ((k : ℕ) → k < length names → slice_index names k ≢ v)
stands_or_not [] v = inr (λ k below. absurd (omega arith))
stands_or_not (u ∷ names) v =
    by_place u v
    (λ same. inl (0, omega arith, same))
    (λ apart. elim (stands_or_not names v) as (λ _. ((k : ℕ) × (k < length (u ∷ names)) × (slice_index (u ∷ names) k ≡ v)) ⊎ ((k : ℕ) → k < length (u ∷ names) → slice_index (u ∷ names) k ≢ v)) [
      | inl found ↦ inl (suc found.0, omega (arith, found.1), found.2)
      | inr none ↦ inr (not_in_front u names v apart none)
    ])

pub value_or_number : ComplementarySlackness
value_or_number problem table v kept above =
    elim (stands_or_not table.members v) as (λ _. number_for table v ≡ pos 0) [
      | inl found ↦ no_number table.others table.objective v (λ j below clash. kept.basis.apart found.0 j found.1 below (found.2 ∙ sym clash))
      | inr none ↦ absurd (omega (arith, ints, no_number table.members (member_values table) v none))
    ]

pub target_is_free : TargetIsFree
target_is_free problem table formed kept below =
    let t : ℕ = length problem.rows in
    let allowed : AreFeasible problem table = values_are_allowed problem table formed kept in
    let row : value_of (value_for table) (row_at problem t).entries +ℤ value_for table (problem.columns + t) ≡ table.den *ℤ (row_at problem t).bound = allowed.rows t (last_within problem) in
    let own : value_of (value_for table) (row_at problem t).entries ≡ value_of (value_for table) problem.objective = ap (λ (r : LinRow). value_of (value_for table) r.entries) (last_row_is problem) in
    let bound : table.den *ℤ (row_at problem t).bound ≡ table.den *ℤ problem.target = ap (λ (r : LinRow). table.den *ℤ r.bound) (last_row_is problem) in
    value_or_number problem table (problem.columns + t) kept (omega (arith, ints, allowed.objective))

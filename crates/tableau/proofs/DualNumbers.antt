-- What the objective's row says of a problem's rows.
use Rattle.std.proofs.Common.{◌≡◌, ℕ, zero, suc, ◌+◌, ◌<◌, ◌==◌, List, [], ◌∷◌, ◌++◌, length, map, zip, get_or, All, ℤ, pos, negsuc, neg_ℤ, ◌+ℤ◌, ◌*ℤ◌, true, false, arith, refl, ap, sym, ◌∙◌, if◌then◌else◌}
use Rattle.std.proofs.lemmas.Int.{ints}
use Rattle.std.proofs.lemmas.Bool.Decides.{nat_tests}
use Rattle.std.proofs.lemmas.List.Elements.{All-nil, All-cons, All-head, All-tail}
use Rattle.sdc_base.specs.Totals.{sum_below}
use Rattle.sdc_base.specs.Forms.{coefficient}
use Rattle.tableau.specs.Amounts.{value_of}
use Rattle.sdc_base.proofs.TotalLemmas.{sum_of-cons, sum_below-same, sum_below-times, only}
use Rattle.sdc_base.proofs.WeakDual.{by_cells}
use Rattle.tableau.specs.Tables.{Table, HasShape, dot}
use Rattle.tableau.specs.TableLaws.{value}
use Rattle.tableau.specs.declared.problem.Problem.{Problem}
use Rattle.tableau.specs.Problems.{row_at, slack, all_amounts, number_for, IsTrueOf, TablesGiveDuals, rows_of}
use Rattle.tableau.proofs.Starts.{column_amount, slack_amount, minus_whole}

pub sum_split : (n m : ℕ) (f : ℕ → ℤ) → sum_below (n + m) f ≡ sum_below n f +ℤ sum_below m (λ k. f (n + k))
sum_split n zero f = let none : n + 0 ≡ n = omega arith in rw none (omega (arith, ints))
sum_split n (suc m) f = let next : n + suc m ≡ suc (n + m) = omega arith in rw next (omega (arith, ints, sum_split n m f))

pub dot_zip : (others : List ℕ) (row : List ℤ) (amounts : ℕ → ℤ) (w : ℤ) → length row ≡ length others + 1 → dot row (map amounts others ++ w ∷ []) ≡ value_of amounts (zip others row) +ℤ get_or row (length others) (pos 0) *ℤ w
dot_zip [] [] amounts w long = absurd (omega arith)
dot_zip [] (a ∷ []) amounts w long = omega (arith, ints)
dot_zip [] (a ∷ b ∷ row) amounts w long = absurd (omega arith)
dot_zip (v ∷ others) [] amounts w long = absurd (omega arith)
dot_zip (v ∷ others) (a ∷ row) amounts w long = omega (arith, ints, dot_zip others row amounts w (omega arith), sum_of-cons (λ (t : ℕ × ℤ). t.1 *ℤ amounts t.0) (v, a) (zip others row))

pub zip_inside : (n : ℕ) (others : List ℕ) (row : List ℤ) → All (λ v. v < n) others → All (λ (t : ℕ × ℤ). t.0 < n) (zip others row)
zip_inside n [] row inside = All-nil (λ (t : ℕ × ℤ). t.0 < n)
zip_inside n (v ∷ others) [] inside = All-nil (λ (t : ℕ × ℤ). t.0 < n)
zip_inside n (v ∷ others) (a ∷ row) inside = All-cons (λ (t : ℕ × ℤ). t.0 < n) (v, a) (zip others row) (All-head (λ v. v < n) v others inside) (zip_inside n others row (All-tail (λ v. v < n) v others inside))

-- one column alone
abbrev pub unit_at : ℕ → ℕ → ℤ
unit_at column v = if v == column then pos 1 else pos 0

nothing : ℕ → ℤ
nothing v = pos 0

pub value_of-unit : (column : ℕ) (terms : List (ℕ × ℤ)) → value_of (unit_at column) terms ≡ coefficient terms column
value_of-unit column [] = refl
value_of-unit column (t ∷ terms) =
    sum_of-cons (λ (t : ℕ × ℤ). t.1 *ℤ unit_at column t.0) t terms
    ∙ elim (t.0 == column) as (λ b. t.1 *ℤ (if b then pos 1 else pos 0) +ℤ value_of (unit_at column) terms ≡ (if b then t.1 else pos 0) +ℤ coefficient terms column) [
      | true ↦ omega (arith, ints, value_of-unit column terms)
      | false ↦ omega (arith, ints, value_of-unit column terms)
    ]
    ∙ sym (sum_of-cons (λ (t : ℕ × ℤ). if t.0 == column then t.1 else pos 0) t terms)

pub value_of-none : (terms : List (ℕ × ℤ)) → value_of (λ _. pos 0) terms ≡ pos 0
value_of-none [] = refl
value_of-none (t ∷ terms) = omega (arith, ints, sum_of-cons (λ (t : ℕ × ℤ). t.1 *ℤ pos 0) t terms, value_of-none terms)

-- the objective's row on all amounts
pub row_on_all : (problem : Problem) (table : Table) → HasShape table → All (λ v. v < problem.columns + length (rows_of problem)) table.others → IsTrueOf problem table → (amounts : ℕ → ℤ) (whole : ℤ) →
    table.den *ℤ value_of amounts problem.objective +ℤ (sum_below problem.columns (λ j. number_for table j *ℤ amounts j) +ℤ sum_below (length (rows_of problem)) (λ k. number_for table (problem.columns + k) *ℤ slack problem amounts whole k)) ≡ value table *ℤ whole
row_on_all problem table shaped inside held amounts whole =
    let n : ℕ = problem.columns in
    let m : ℕ = length (rows_of problem) in
    let every : ℕ → ℤ = all_amounts problem amounts whole in
    let terms : List (ℕ × ℤ) = zip table.others table.objective in
    let sum : dot table.objective (map every table.others ++ neg_ℤ whole ∷ []) ≡ value_of every terms +ℤ value table *ℤ neg_ℤ whole = dot_zip table.others table.objective every (neg_ℤ whole) shaped.objective in
    let apart : sum_below (n + m) (λ v. coefficient terms v *ℤ every v) ≡ value_of every terms = by_cells (n + m) every terms (zip_inside (n + m) table.others table.objective inside) in
    let split : sum_below (n + m) (λ v. coefficient terms v *ℤ every v) ≡ sum_below n (λ v. coefficient terms v *ℤ every v) +ℤ sum_below m (λ k. coefficient terms (n + k) *ℤ every (n + k)) = sum_split n m (λ v. coefficient terms v *ℤ every v) in
    let columns : sum_below n (λ v. coefficient terms v *ℤ every v) ≡ sum_below n (λ j. number_for table j *ℤ amounts j) = sum_below-same n (λ v. coefficient terms v *ℤ every v) (λ j. number_for table j *ℤ amounts j) (λ j below. ap (λ t. coefficient terms j *ℤ t) (column_amount problem amounts whole j below)) in
    let slacks : sum_below m (λ k. coefficient terms (n + k) *ℤ every (n + k)) ≡ sum_below m (λ k. number_for table (n + k) *ℤ slack problem amounts whole k) = sum_below-same m (λ k. coefficient terms (n + k) *ℤ every (n + k)) (λ k. number_for table (n + k) *ℤ slack problem amounts whole k) (λ k below. ap (λ t. coefficient terms (n + k) *ℤ t) (slack_amount problem amounts whole k)) in
    let row : table.den *ℤ value_of amounts problem.objective +ℤ dot table.objective (map every table.others ++ neg_ℤ whole ∷ []) ≡ pos 0 = (held amounts whole).objective_row in
    omega (arith, ints, minus_whole (value table) whole)

pub sum_none : (n : ℕ) → sum_below n (λ _. pos 0) ≡ pos 0
sum_none zero = refl
sum_none (suc n) = omega (arith, ints, sum_none n)

pub times_none : (a : ℤ) → a *ℤ pos 0 ≡ pos 0
times_none a = omega (arith, ints)

-- a number times the unit at a column
pub at_unit : (column i : ℕ) (a : ℤ) → a *ℤ unit_at column i ≡ (if column == i then a else pos 0)
at_unit column i a =
    elim (i == column) as (λ b. (i == column) ≡ b → a *ℤ (if b then pos 1 else pos 0) ≡ (if column == i then a else pos 0)) [
      | true ↦ λ is. let same : (column == i) ≡ true = grind (arith, nat_tests, is) in rw same (omega (arith, ints))
      | false ↦ λ is. let other : (column == i) ≡ false = grind (arith, nat_tests, is) in rw other (omega (arith, ints))
    ] refl

pub duals : TablesGiveDuals
duals problem table formed shaped inside held =
    let n : ℕ = problem.columns in
    let m : ℕ = length (rows_of problem) in
    record {
      bounds =
          let none : ℕ → ℤ = λ _. pos 0 in
          let whole : table.den *ℤ value_of none problem.objective +ℤ (sum_below n (λ j. number_for table j *ℤ none j) +ℤ sum_below m (λ k. number_for table (n + k) *ℤ slack problem none (pos 1) k)) ≡ value table *ℤ pos 1 = row_on_all problem table shaped inside held none (pos 1) in
          let objective : table.den *ℤ value_of none problem.objective ≡ pos 0 = ap (λ t. table.den *ℤ t) (value_of-none problem.objective) ∙ times_none table.den in
          let columns : sum_below n (λ j. number_for table j *ℤ none j) ≡ pos 0 = sum_below-same n (λ j. number_for table j *ℤ none j) (λ _. pos 0) (λ j _. times_none (number_for table j)) ∙ sum_none n in
          let slacks : sum_below m (λ k. number_for table (n + k) *ℤ slack problem none (pos 1) k) ≡ sum_below m (λ k. number_for table (n + k) *ℤ (row_at problem k).bound) =
          sum_below-same m (λ k. number_for table (n + k) *ℤ slack problem none (pos 1) k) (λ k. number_for table (n + k) *ℤ (row_at problem k).bound) (λ k _. ap (λ t. number_for table (n + k) *ℤ t) (omega (arith, ints, value_of-none (row_at problem k).entries))) in
          omega (arith, ints);
      entries = λ column below.
          let one : ℕ → ℤ = unit_at column in
          let whole : table.den *ℤ value_of one problem.objective +ℤ (sum_below n (λ j. number_for table j *ℤ one j) +ℤ sum_below m (λ k. number_for table (n + k) *ℤ slack problem one (pos 0) k)) ≡ value table *ℤ pos 0 = row_on_all problem table shaped inside held one (pos 0) in
          let objective : table.den *ℤ value_of one problem.objective ≡ table.den *ℤ coefficient problem.objective column = ap (λ t. table.den *ℤ t) (value_of-unit column problem.objective) in
          let columns : sum_below n (λ j. number_for table j *ℤ one j) ≡ number_for table column = sum_below-same n (λ j. number_for table j *ℤ one j) (λ j. if column == j then number_for table j else pos 0) (λ j _. at_unit column j (number_for table j)) ∙ only n column (number_for table) below in
          let slacks : sum_below m (λ k. number_for table (n + k) *ℤ slack problem one (pos 0) k) ≡ sum_below m (λ k. negsuc 0 *ℤ (number_for table (n + k) *ℤ coefficient (row_at problem k).entries column)) =
          sum_below-same m (λ k. number_for table (n + k) *ℤ slack problem one (pos 0) k) (λ k. negsuc 0 *ℤ (number_for table (n + k) *ℤ coefficient (row_at problem k).entries column))
          (λ k _. ap (λ t. number_for table (n + k) *ℤ t) (omega (arith, ints, value_of-unit column (row_at problem k).entries)) ∙ minus_whole (number_for table (n + k)) (coefficient (row_at problem k).entries column) ∙ omega (arith, ints)) in
          let out : sum_below m (λ k. negsuc 0 *ℤ (number_for table (n + k) *ℤ coefficient (row_at problem k).entries column)) ≡ negsuc 0 *ℤ sum_below m (λ k. number_for table (n + k) *ℤ coefficient (row_at problem k).entries column) = sum_below-times m (negsuc 0) (λ k. number_for table (n + k) *ℤ coefficient (row_at problem k).entries column) in
          omega (arith, ints, times_none (value table));
    }

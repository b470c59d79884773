-- No row is 0 at every slack, so the rows' lists are never equal multiples of one another.
use Rattle.std.proofs.Common.{◌≡◌, ◌≢◌, ℕ, ◌+◌, ◌-◌, ◌<◌, ◌≤◌, ◌==◌, List, [], ◌∷◌, ◌++◌, length, map, zip, slice_index, slice_index_or, get_or, All, ℤ, pos, neg_ℤ, ◌+ℤ◌, ◌*ℤ◌, nat_lt, true, false, arith, refl, ap, sym, ◌∙◌, if◌then◌else◌}
use Rattle.std.proofs.lemmas.Int.{ints}
use Rattle.std.proofs.lemmas.Bool.Decides.{nat_tests}
use Rattle.std.proofs.lemmas.List.Elements.{All-cons, All-head, All-tail}
use Rattle.sdc_base.specs.Totals.{sum_below}
use Rattle.sdc_base.specs.Forms.{coefficient}
use Rattle.tableau.specs.Amounts.{value_of}
use Rattle.sdc_base.proofs.TotalLemmas.{sum_of-cons, sum_below-same, only}
use Rattle.sdc_base.proofs.WeakDual.{by_cells}
use Rattle.tableau.specs.Tables.{Table, dot}
use Rattle.tableau.specs.Problems.{all_amounts, number_in, NoRowIsZero, rows_of}
use Rattle.tableau.proofs.Starts.{column_amount}
use Rattle.tableau.proofs.DualNumbers.{sum_split, dot_zip, zip_inside, unit_at, sum_none, times_none, at_unit}

pub absent : (others : List ℕ) (row : List ℤ) (v : ℕ) → All (λ u. u ≢ v) others → coefficient (zip others row) v ≡ pos 0
absent [] row v apart = refl
absent (u ∷ others) [] v apart = refl
absent (u ∷ others) (a ∷ row) v apart =
    let first : u ≢ v = All-head (λ (w : ℕ). w ≢ v) u others apart in
    let test : (u == v) ≡ false = grind (arith, nat_tests) in
    let head : (if u == v then a else pos 0) ≡ pos 0 = rw test refl in
    omega (arith, ints, head, sum_of-cons (λ (t : ℕ × ℤ). if t.0 == v then t.1 else pos 0) (u, a) (zip others row), absent others row v (All-tail (λ (w : ℕ). w ≢ v) u others apart))

-- a row's own number is the den
pub own_number : (table : Table) (k : ℕ) → All (λ v. v ≢ slice_index table.members k) table.others → number_in table k (slice_index table.members k) ≡ table.den
own_number table k apart =
    let member : ℕ = slice_index table.members k in
    let row : List ℤ = slice_index_or table.rows k [] in
    let test : (member == member) ≡ true = grind (arith, nat_tests) in
    let head : (if member == member then table.den else pos 0) ≡ table.den = rw test refl in
    omega (arith, ints, head, sum_of-cons (λ (t : ℕ × ℤ). if t.0 == member then t.1 else pos 0) (member, table.den) (zip table.others row), absent table.others row member apart)

pub by_less : {P : Type 0} (j k : ℕ) → (j < k → P) → (k ≤ j → P) → P
by_less {P = P} j k less more = elim (nat_lt j k) as (λ b. nat_lt j k ≡ b → P) [ true ↦ λ is. less (grind (arith, nat_tests, is)) | false ↦ λ is. more (grind (arith, nat_tests, is)) ] refl

pub no_row_is_none : NoRowIsZero
no_row_is_none problem table k formed shaped above within inside member_inside apart held none =
    let n : ℕ = problem.columns in
    let m : ℕ = length (rows_of problem) in
    let member : ℕ = slice_index table.members k in
    let row : List ℤ = slice_index_or table.rows k [] in
    let own : number_in table k member ≡ table.den = own_number table k apart in
    by_less member n
    (λ is_column.
    let amounts : ℕ → ℤ = unit_at member in
    let every : ℕ → ℤ = all_amounts problem amounts (pos 0) in
    let terms : List (ℕ × ℤ) = (member, table.den) ∷ zip table.others row in
    let Inside : ℕ × ℤ → Type 0 = λ t. t.0 < n + m in
    let is_true : table.den *ℤ every member +ℤ dot row (map every table.others ++ neg_ℤ (pos 0) ∷ []) ≡ pos 0 = (held amounts (pos 0)).rows k within in
    let as_terms : dot row (map every table.others ++ neg_ℤ (pos 0) ∷ []) ≡ value_of every (zip table.others row) +ℤ get_or row (length table.others) (pos 0) *ℤ neg_ℤ (pos 0) = dot_zip table.others row every (neg_ℤ (pos 0)) (shaped.each k within) in
    let nothing : get_or row (length table.others) (pos 0) *ℤ neg_ℤ (pos 0) ≡ pos 0 = times_none (get_or row (length table.others) (pos 0)) in
    let whole : value_of every terms ≡ pos 0 = omega (arith, ints, sum_of-cons (λ (t : ℕ × ℤ). t.1 *ℤ every t.0) (member, table.den) (zip table.others row)) in
    let apart_sum : sum_below (n + m) (λ v. coefficient terms v *ℤ every v) ≡ value_of every terms = by_cells (n + m) every terms (All-cons Inside (member, table.den) (zip table.others row) member_inside (zip_inside (n + m) table.others row inside)) in
    let split : sum_below (n + m) (λ v. coefficient terms v *ℤ every v) ≡ sum_below n (λ v. coefficient terms v *ℤ every v) +ℤ sum_below m (λ s. coefficient terms (n + s) *ℤ every (n + s)) = sum_split n m (λ v. coefficient terms v *ℤ every v) in
    let columns : sum_below n (λ v. coefficient terms v *ℤ every v) ≡ coefficient terms member =
    sum_below-same n (λ v. coefficient terms v *ℤ every v) (λ v. if member == v then coefficient terms v else pos 0) (λ v below. ap (λ t. coefficient terms v *ℤ t) (column_amount problem amounts (pos 0) v below) ∙ at_unit member v (coefficient terms v)) ∙ only n member (coefficient terms) is_column in
    let slacks : sum_below m (λ s. coefficient terms (n + s) *ℤ every (n + s)) ≡ pos 0 =
    sum_below-same m (λ s. coefficient terms (n + s) *ℤ every (n + s)) (λ _. pos 0) (λ s below. ap (λ t. t *ℤ every (n + s)) (none s below) ∙ omega (arith, ints)) ∙ sum_none m in
    absurd (omega (arith, ints)))
    (λ is_slack.
    let place : n + (member - n) ≡ member = omega arith in
    let zero_number : number_in table k member ≡ pos 0 = ap (λ v. number_in table k v) (sym place) ∙ none (member - n) (omega arith) in
    absurd (omega (arith, ints)))

-- The numbers of a list, one by one.
use Rattle.std.proofs.Common.{◌≡◌, ◌≢◌, ◌==◌, true, false, ℕ, zero, suc, ◌+◌, ◌-◌, ◌<◌, ◌≤◌, List, [], ◌∷◌, length, zip, slice_index, slice_index_or, All, ℤ, pos, ◌-ℤ◌, ◌*ℤ◌, ◌<ℤ◌, ◌≤ℤ◌, arith, refl, ap, sym, subst, ◌∙◌, if◌then◌else◌}
use Rattle.std.proofs.Math.IntN.{*ℤ_comm, *ℤ-zero, zero-*ℤ}
use Rattle.std.proofs.lemmas.Int.{ints}
use Rattle.std.proofs.lemmas.Bool.Decides.{nat_tests}
use Rattle.std.proofs.lemmas.List.Elements.{All-from_get_or}
use Rattle.sdc_base.proofs.TotalLemmas.{sum_of-cons}
use Rattle.sdc_base.proofs.WholeNumbers.{assoc, swap_times, times_more}
use Rattle.sdc_base.specs.Forms.{coefficient}
use Rattle.tableau.specs.declared.problem.Problem.{Problem}
use Rattle.tableau.specs.Tables.{Table}
use Rattle.sdc_base.specs.Systems.{number_at}
use Rattle.tableau.specs.Problems.{number_in, number_for}
use Rattle.tableau.specs.Readings.{member_values, value_for}
use Rattle.std.proofs.lemmas.List.{get_or-map, length-map}
use Rattle.tableau.specs.RowLists.{IsLexPositive, list_of, list_size, lead}
use Rattle.tableau.specs.Walks.{IsTableOf}
use Rattle.tableau.specs.declared.sparse_table.SparseTable.{SparseTable}
use Rattle.tableau.specs.SparseTables.{table_of, factor_at}
use Rattle.tableau.proofs.SparseTables.{row_number}
use Rattle.tableau.proofs.ReadNumbers.{named_or_none}
use Rattle.tableau.proofs.Independent.{absent, own_number}
use Rattle.tableau.proofs.Beginnings.{first_above}
use Rattle.tableau.proofs.Rising.{product_above}

-- the number at a name among distinct ones
pub named_number : (names : List ℕ) (numbers : List ℤ) (j : ℕ) → j < length names → length names ≤ length numbers → ((i k : ℕ) → i < length names → k < length names → slice_index names i ≡ slice_index names k → i ≡ k) → coefficient (zip names numbers) (slice_index names j) ≡ number_at numbers j
named_number [] numbers j within long distinct = absurd (omega arith)
named_number (u ∷ names) [] j within long distinct = absurd (omega arith)
named_number (u ∷ names) (a ∷ numbers) zero within long distinct =
    let others : All (λ v. v ≢ u) names = All-from_get_or (λ v. v ≢ u) names 0 (λ i below same. let clash : suc i ≡ 0 = distinct (suc i) 0 (omega arith) (omega arith) same in absurd (omega arith)) in
    let test : (u == u) ≡ true = grind (arith, nat_tests) in
    let head : (if u == u then a else pos 0) ≡ a = rw test refl in
    omega (arith, ints, head, sum_of-cons (λ (t : ℕ × ℤ). if t.0 == u then t.1 else pos 0) (u, a) (zip names numbers), absent names numbers u others)
named_number (u ∷ names) (a ∷ numbers) (suc j) within long distinct =
    let v : ℕ = slice_index names j in
    let apart : u ≢ v = λ same. let clash : 0 ≡ suc j = distinct 0 (suc j) (omega arith) within same in absurd (omega arith) in
    let test : (u == v) ≡ false = grind (arith, nat_tests) in
    let head : (if u == v then a else pos 0) ≡ pos 0 = rw test refl in
    omega (arith, ints, head, sum_of-cons (λ (t : ℕ × ℤ). if t.0 == v then t.1 else pos 0) (u, a) (zip names numbers), named_number names numbers j (omega arith) (omega arith) (λ i k i_below k_below same. let next : suc i ≡ suc k = distinct (suc i) (suc k) (omega arith) (omega arith) same in omega arith))

-- no number at a name that is not there
pub no_number : (names : List ℕ) (numbers : List ℤ) (v : ℕ) → ((k : ℕ) → k < length names → slice_index names k ≢ v) → coefficient (zip names numbers) v ≡ pos 0
no_number names numbers v apart = absent names numbers v (All-from_get_or (λ u. u ≢ v) names 0 apart)

pub list_at : (problem : Problem) (table : Table) (k place : ℕ) → place ≢ 0 → list_of problem table k place ≡ number_in table k (problem.columns + (place - 1))
list_at problem table k zero apart = absurd (apart refl)
list_at problem table k (suc s) apart = let back : suc s - 1 ≡ s = omega arith in rw back refl

pub list_own : (problem : Problem) (table : Table) (k place v : ℕ) → IsTableOf problem table → k < length table.members → place ≢ 0 → v ≡ problem.columns + (place - 1) → slice_index table.members k ≡ v → table.den ≡ list_of problem table k place
list_own problem table k place v kept within apart is own =
    sym (list_at problem table k place apart ∙ ap (number_in table k) (sym is ∙ sym own) ∙ own_number table k (All-from_get_or (λ u. u ≢ slice_index table.members k) table.others 0 (λ j below clash. kept.basis.apart k j within below (sym clash))))

-- at a slack that is not the row's own member
not_own : (problem : Problem) (table : Table) (k place v : ℕ) → place ≢ 0 → v ≡ problem.columns + (place - 1) → slice_index table.members k ≢ v → list_of problem table k place ≡ coefficient (zip table.others (slice_index_or table.rows k [])) v
not_own problem table k place v apart is other =
    let row : List ℤ = slice_index_or table.rows k [] in
    let member : ℕ = slice_index table.members k in
    let test : (member == v) ≡ false = grind (arith, nat_tests) in
    let head : (if member == v then table.den else pos 0) ≡ pos 0 = rw test refl in
    list_at problem table k place apart ∙ ap (number_in table k) (sym is) ∙ omega (arith, ints, head, sum_of-cons (λ (t : ℕ × ℤ). if t.0 == v then t.1 else pos 0) (member, table.den) (zip table.others row))

pub list_other : (problem : Problem) (table : Table) (k place v j : ℕ) → IsTableOf problem table → k < length table.members → place ≢ 0 → v ≡ problem.columns + (place - 1) → slice_index table.members k ≢ v → j < length table.others → slice_index table.others j ≡ v → number_at (slice_index_or table.rows k []) j ≡ list_of problem table k place
list_other problem table k place v j kept within apart is other j_within found =
    let row : List ℤ = slice_index_or table.rows k [] in
    sym (not_own problem table k place v apart is other ∙ ap (λ u. coefficient (zip table.others row) u) (sym found) ∙ named_number table.others row j j_within (omega (arith, kept.shaped.each k within)) kept.basis.others)

pub list_none : (problem : Problem) (table : Table) (k place v : ℕ) → place ≢ 0 → v ≡ problem.columns + (place - 1) → slice_index table.members k ≢ v → ((j : ℕ) → j < length table.others → slice_index table.others j ≢ v) → pos 0 ≡ list_of problem table k place
list_none problem table k place v apart is other none =
    sym (not_own problem table k place v apart is other ∙ no_number table.others (slice_index_or table.rows k []) v none)

-- ---- which list is less

pub lead_above : (p q x y : ℤ) → (x *ℤ q) <ℤ (y *ℤ p) → pos 0 <ℤ (p *ℤ y -ℤ q *ℤ x)
lead_above p q x y less = omega (arith, ints, *ℤ_comm x q, *ℤ_comm y p)

pub lead_none : (p q x y : ℤ) → x *ℤ q ≡ y *ℤ p → q *ℤ x -ℤ p *ℤ y ≡ pos 0
lead_none p q x y same = omega (arith, ints, *ℤ_comm x q, *ℤ_comm y p)

pub lead_turned : (problem : Problem) (table : Table) (column one other i : ℕ) → lead problem table column one other i ≡ pos 0 → lead problem table column other one i ≡ pos 0
lead_turned problem table column one other i none = omega (arith, ints)

from_zero : (j : ℕ) → j ≡ 0 + j
from_zero j = omega arith

-- the first lead that is not 0 is above it
pub leads : (problem : Problem) (table : Table) (column one other place : ℕ) → place < list_size problem → ((i : ℕ) → i < place → lead problem table column one other i ≡ pos 0) → pos 0 <ℤ lead problem table column one other place → IsLexPositive (list_size problem) 0 (lead problem table column one other)
leads problem table column one other place within none above =
    let g : ℕ → ℤ = lead problem table column one other in
    first_above (list_size problem) 0 place g within (λ i below. ap g (sym (from_zero i)) ∙ none i below) (subst (λ j. pos 0 <ℤ g j) (from_zero place) above)

same_product : (x q x' q' : ℤ) → x ≡ x' → q ≡ q' → x *ℤ q ≡ x' *ℤ q'
same_product x q x' q' ex eq = ap (λ t. t *ℤ q) ex ∙ ap (λ t. x' *ℤ t) eq

both_over : (p x c d p' x' : ℤ) → p *ℤ c ≡ p' → x *ℤ d ≡ x' → (c *ℤ d) *ℤ (x *ℤ p) ≡ p' *ℤ x'
both_over p x c d p' x' ep ex = simp (assoc, *ℤ_comm, swap_times) refl ∙ sym (same_product p' x' (p *ℤ c) (x *ℤ d) (sym ep) (sym ex))

-- numbers over dens of their own compare as those over one den
pub lead_none_over : (p q x y c d p' q' x' y' : ℤ) → p *ℤ c ≡ p' → q *ℤ d ≡ q' → x *ℤ c ≡ x' → y *ℤ d ≡ y' → x *ℤ q ≡ y *ℤ p → q' *ℤ x' -ℤ p' *ℤ y' ≡ pos 0
lead_none_over p q x y c d p' q' x' y' ep eq ex ey same =
    omega (arith, ints, both_over q x d c q' x' eq ex, both_over p y c d p' y' ep ey, ap (λ t. (c *ℤ d) *ℤ t) same, ap (λ t. t *ℤ (x *ℤ q)) (*ℤ_comm c d))

pub lead_above_over : (p q x y c d p' q' x' y' : ℤ) → pos 1 ≤ℤ c → pos 1 ≤ℤ d → p *ℤ c ≡ p' → q *ℤ d ≡ q' → x *ℤ c ≡ x' → y *ℤ d ≡ y' → (x *ℤ q) <ℤ (y *ℤ p) → pos 0 <ℤ (p' *ℤ y' -ℤ q' *ℤ x')
lead_above_over p q x y c d p' q' x' y' c_up d_up ep eq ex ey less =
    omega (arith, ints, times_more (c *ℤ d) (x *ℤ q) (y *ℤ p) (omega (arith, ints, product_above c d c_up (omega (arith, ints)))) less, both_over q x d c q' x' eq ex, both_over p y c d p' y' ep ey, ap (λ t. t *ℤ (x *ℤ q)) (*ℤ_comm c d))

-- ---- lists that are gone through by the entries of two rows

-- where the numbers at a place are the same over those in the column, the lists are at its slack
pub slack_same : (problem : Problem) (s : SparseTable) (column one other k : ℕ) (p q x y : ℤ) → IsTableOf problem (table_of s) → one < length s.members.items → other < length s.members.items → k < length s.others.items → problem.columns ≤ slice_index s.others.items k →
    x ≡ coefficient (slice_index_or s.rows.items one []) k → y ≡ coefficient (slice_index_or s.rows.items other []) k →
    p *ℤ factor_at s one ≡ number_at (slice_index_or (table_of s).rows one []) column → q *ℤ factor_at s other ≡ number_at (slice_index_or (table_of s).rows other []) column →
    x *ℤ q ≡ y *ℤ p → lead problem (table_of s) column other one (slice_index s.others.items k - problem.columns + 1) ≡ pos 0
slack_same problem s column one other k p q x y kept one_in other_in k_in slack x_is y_is ep eq same =
    let t : Table = table_of s in
    let v : ℕ = slice_index s.others.items k in
    let place : ℕ = v - problem.columns + 1 in
    let behind : place ≢ 0 = omega arith in
    let v_is : v ≡ problem.columns + (place - 1) = omega (arith, slack) in
    let ex : x *ℤ factor_at s one ≡ list_of problem t one place = ap (λ z. z *ℤ factor_at s one) x_is ∙ row_number s one k one_in (omega (arith, k_in)) ∙ list_other problem t one place v k kept one_in behind v_is (kept.basis.apart one k one_in k_in) k_in refl in
    let ey : y *ℤ factor_at s other ≡ list_of problem t other place = ap (λ z. z *ℤ factor_at s other) y_is ∙ row_number s other k other_in (omega (arith, k_in)) ∙ list_other problem t other place v k kept other_in behind v_is (kept.basis.apart other k other_in k_in) k_in refl in
    lead_none_over p q x y (factor_at s one) (factor_at s other) (number_at (slice_index_or t.rows one []) column) (number_at (slice_index_or t.rows other []) column) (list_of problem t one place) (list_of problem t other place) ep eq ex ey same

-- and where neither row has a number
pub slack_none : (problem : Problem) (s : SparseTable) (column one other k : ℕ) (p q : ℤ) → IsTableOf problem (table_of s) → one < length s.members.items → other < length s.members.items → k < length s.others.items → problem.columns ≤ slice_index s.others.items k →
    coefficient (slice_index_or s.rows.items one []) k ≡ pos 0 → coefficient (slice_index_or s.rows.items other []) k ≡ pos 0 →
    p *ℤ factor_at s one ≡ number_at (slice_index_or (table_of s).rows one []) column → q *ℤ factor_at s other ≡ number_at (slice_index_or (table_of s).rows other []) column →
    lead problem (table_of s) column other one (slice_index s.others.items k - problem.columns + 1) ≡ pos 0
slack_none problem s column one other k p q kept one_in other_in k_in slack none other_none ep eq =
    slack_same problem s column one other k p q (pos 0) (pos 0) kept one_in other_in k_in slack (sym none) (sym other_none) ep eq (zero-*ℤ q ∙ sym (zero-*ℤ p))

-- lists that are the same at each slack among the others, before those of the two members, are the same before these
pub slacks_same : (problem : Problem) (table : Table) (column one other apart : ℕ) → IsTableOf problem table → one < length table.members → other < length table.members →
    (problem.columns ≤ slice_index table.members one → apart ≤ slice_index table.members one - problem.columns + 1) → (problem.columns ≤ slice_index table.members other → apart ≤ slice_index table.members other - problem.columns + 1) →
    ((k : ℕ) → k < length table.others → problem.columns ≤ slice_index table.others k → slice_index table.others k - problem.columns + 1 < apart → lead problem table column other one (slice_index table.others k - problem.columns + 1) ≡ pos 0) →
    (i : ℕ) → i ≢ 0 → i < apart → lead problem table column other one i ≡ pos 0
slacks_same problem table column one other apart kept one_in other_in one_up other_up same i behind below =
    let v : ℕ = problem.columns + (i - 1) in
    let g : ℕ → ℤ = lead problem table column other one in
    let not_one : slice_index table.members one ≢ v = λ is. absurd (omega (arith, is, behind, below, one_up (omega (arith, is)))) in
    let not_other : slice_index table.members other ≢ v = λ is. absurd (omega (arith, is, behind, below, other_up (omega (arith, is)))) in
    named_or_none table.others (length table.others) v
    (λ k k_in is.
    let here : slice_index table.others k - problem.columns + 1 ≡ i = omega (arith, is, behind) in
    ap g (sym here) ∙ same k k_in (omega (arith, is)) (omega (arith, here, below)))
    (λ none.
    let own_none : list_of problem table one i ≡ pos 0 = sym (list_none problem table one i v behind refl not_one none) in
    let other_none : list_of problem table other i ≡ pos 0 = sym (list_none problem table other i v behind refl not_other none) in
    let p : ℤ = number_at (slice_index_or table.rows one []) column in
    let q : ℤ = number_at (slice_index_or table.rows other []) column in
    let first : q *ℤ list_of problem table one i ≡ pos 0 = ap (λ z. q *ℤ z) own_none ∙ *ℤ-zero q in
    let second : p *ℤ list_of problem table other i ≡ pos 0 = ap (λ z. p *ℤ z) other_none ∙ *ℤ-zero p in
    omega (arith, ints, first, second))

-- ---- what is read off a table

pub value_found : (problem : Problem) (table : Table) (k v : ℕ) → IsTableOf problem table → k < length table.members → slice_index table.members k ≡ v → number_at (slice_index_or table.rows k []) (length table.others) ≡ value_for table v
value_found problem table k v kept within is =
    let last : List ℤ → ℤ = λ row. number_at row (length table.others) in
    sym (ap (λ u. coefficient (zip table.members (member_values table)) u) (sym is)
    ∙ named_number table.members (member_values table) k within (omega (arith, length-map table.rows last, kept.shaped.rows)) kept.basis.members
    ∙ get_or-map last table.rows k [] (pos 0) (omega (arith, kept.shaped.rows)))

pub number_found : (problem : Problem) (table : Table) (j v : ℕ) → IsTableOf problem table → j < length table.others → slice_index table.others j ≡ v → number_at table.objective j ≡ number_for table v
number_found problem table j v kept within is =
    sym (ap (λ u. coefficient (zip table.others table.objective) u) (sym is) ∙ named_number table.others table.objective j within (omega (arith, kept.shaped.objective)) kept.basis.others)

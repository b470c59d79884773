-- A table has at most one step, and a problem one walk of each length.
use Rattle.std.proofs.Common.{◌≡◌, ◌⊎◌, inl, inr, ℕ, zero, suc, ◌+◌, ◌<◌, ◌≤◌, List, [], ◌∷◌, map, slice_index, length, ℤ, pos, ◌+ℤ◌, ◌*ℤ◌, ◌≤ℤ◌, arith, refl, ap, sym, subst, ◌∙◌}
use Rattle.std.proofs.Math.IntN.{*ℤ_comm}
use Rattle.std.proofs.lemmas.Int.{ints, by_lt_z}
use Rattle.sdc_base.proofs.WholeNumbers.{times_more}
use Rattle.tableau.specs.declared.problem.Problem.{Problem}
use Rattle.tableau.specs.Problems.{NamesColumns, rows_of, row_at}
use Rattle.tableau.specs.Tables.{Table, IsQuotient, times_row, exchanged_table}
use Rattle.sdc_base.specs.Systems.{number_at}
use Rattle.tableau.specs.RowLists.{IsLexPositive, AreZeros, Leaves, list_size, lead}
use Rattle.tableau.specs.Steps.{Enters, IsStepOf, CanImprove}
use Rattle.tableau.specs.Walks.{IsTableOf, IsWalk, StepIsOne, WalkIsOne, EndIsOne}
use Rattle.tableau.proofs.Exchanges.{by_place}
use Rattle.tableau.proofs.WalkTables.{walk_keeps}
use Rattle.tableau.proofs.Independent.{by_less}

pub same_from_times : (d x y : ℤ) → pos 1 ≤ℤ d → x *ℤ d ≡ y *ℤ d → x ≡ y
same_from_times d x y up is =
    by_lt_z x y
    (λ less. absurd (omega (arith, ints, times_more d x y up less, *ℤ_comm x d, *ℤ_comm y d)))
    (λ more. by_lt_z y x (λ less. absurd (omega (arith, ints, times_more d y x up less, *ℤ_comm x d, *ℤ_comm y d))) (λ also. omega (arith, ints)))

same_row : (d : ℤ) → pos 1 ≤ℤ d → (xs ys : List ℤ) → times_row d xs ≡ times_row d ys → xs ≡ ys
same_row d up [] [] is = refl
same_row d up [] (y ∷ ys) is = cc
same_row d up (x ∷ xs) [] is = cc
same_row d up (x ∷ xs) (y ∷ ys) is =
    let head : x *ℤ d ≡ y *ℤ d = cc in
    let tail : times_row d xs ≡ times_row d ys = cc in
    ap (λ t. t ∷ xs) (same_from_times d x y up head) ∙ ap (λ t. y ∷ t) (same_row d up xs ys tail)

same_rows : (d : ℤ) → pos 1 ≤ℤ d → (xs ys : List (List ℤ)) → map (times_row d) xs ≡ map (times_row d) ys → xs ≡ ys
same_rows d up [] [] is = refl
same_rows d up [] (y ∷ ys) is = cc
same_rows d up (x ∷ xs) [] is = cc
same_rows d up (x ∷ xs) (y ∷ ys) is =
    let head : times_row d x ≡ times_row d y = cc in
    let tail : map (times_row d) xs ≡ map (times_row d) ys = cc in
    ap (λ (t : List ℤ). t ∷ xs) (same_row d up x y head) ∙ ap (λ (t : List (List ℤ)). y ∷ t) (same_rows d up xs ys tail)

same_table : (one other : Table) → one.den ≡ other.den → one.members ≡ other.members → one.others ≡ other.others → one.rows ≡ other.rows → one.objective ≡ other.objective → one ≡ other
same_table one other den members others rows objective =
    let ExchangedRows : ℤ → List ℕ → List ℕ → List (List ℤ) → List ℤ → Table = λ d m o r j. record { den = d; members = m; others = o; rows = r; objective = j } in
    ap (λ (t : ℤ). ExchangedRows t one.members one.others one.rows one.objective) den
    ∙ ap (λ (t : List ℕ). ExchangedRows other.den t one.others one.rows one.objective) members
    ∙ ap (λ (t : List ℕ). ExchangedRows other.den other.members t one.rows one.objective) others
    ∙ ap (λ (t : List (List ℤ)). ExchangedRows other.den other.members other.others t one.objective) rows
    ∙ ap (λ (t : List ℤ). ExchangedRows other.den other.members other.others other.rows t) objective

same_divided : (d : ℤ) (whole one other : Table) → IsQuotient d whole one → IsQuotient d whole other → one ≡ other
same_divided d whole one other a b =
    same_table one other (same_from_times d one.den other.den a.divisor (a.den ∙ sym b.den)) (a.members ∙ sym b.members) (a.others ∙ sym b.others) (same_rows d a.divisor one.rows other.rows (a.rows ∙ sym b.rows))
    (same_row d a.divisor one.objective other.objective (a.objective ∙ sym b.objective))

one_enters : (problem : Problem) (table : Table) (c e : ℕ) → IsTableOf problem table → Enters table c → Enters table e → c ≡ e
one_enters problem table c e kept a b =
    let same : number_at table.objective e ≡ number_at table.objective c = omega (arith, ints, a.least e b.within, b.least c a.within) in
    let up : slice_index table.others c ≤ slice_index table.others e = a.first e b.within same in
    let down : slice_index table.others e ≤ slice_index table.others c = b.first c a.within (sym same) in
    kept.basis.others c e a.within b.within (omega arith)

-- two leads are opposite
opposite : (problem : Problem) (table : Table) (column row k i : ℕ) → lead problem table column k row i +ℤ lead problem table column row k i ≡ pos 0
opposite problem table column row k i = omega (arith, ints)

not_both_above : (n from : ℕ) (g h : ℕ → ℤ) → ((i : ℕ) → h i +ℤ g i ≡ pos 0) → IsLexPositive n from g → IsLexPositive n from h → ⊥
not_both_above zero from g h opposed one other = one
not_both_above (suc n) from g h opposed one other =
    elim one as (λ _. ⊥) [
      | inl more ↦ elim other as (λ _. ⊥) [ inl too ↦ absurd (omega (arith, ints, opposed from)) | inr later ↦ absurd (omega (arith, ints, opposed from, later.0)) ]
      | inr later ↦ elim other as (λ _. ⊥) [ inl too ↦ absurd (omega (arith, ints, opposed from, later.0)) | inr also ↦ not_both_above n (suc from) g h opposed later.1 also.1 ]
    ]

plain : (from : ℕ) → from + 0 ≡ from
plain from = omega arith

next : (from i : ℕ) → from + suc i ≡ suc from + i
next from i = omega arith

none_not_above : (n from : ℕ) (g h : ℕ → ℤ) → ((i : ℕ) → h i +ℤ g i ≡ pos 0) → AreZeros n from g → IsLexPositive n from h → ⊥
none_not_above zero from g h opposed none above = above
none_not_above (suc n) from g h opposed none above =
    let here : g from ≡ pos 0 = sym (ap g (plain from)) ∙ none 0 (omega arith) in
    elim above as (λ _. ⊥) [
      | inl more ↦ absurd (omega (arith, ints, opposed from))
      | inr later ↦ none_not_above n (suc from) g h opposed (λ i below. sym (ap g (next from i)) ∙ none (suc i) (omega arith)) later.1
    ]

one_leaves : (problem : Problem) (table : Table) (column row k : ℕ) → Leaves problem table row column → Leaves problem table k column → row ≡ k
one_leaves problem table column row k a b =
    let size : ℕ = list_size problem in
    let g : ℕ → ℤ = lead problem table column row k in
    let h : ℕ → ℤ = lead problem table column k row in
    by_place row k (λ same. same)
    (λ apart.
    let first : IsLexPositive size 0 g ⊎ (AreZeros size 0 g × (row < k)) = a.least k b.row_within (λ is. apart (sym is)) b.above in
    let second : IsLexPositive size 0 h ⊎ (AreZeros size 0 h × (k < row)) = b.least row a.row_within apart a.above in
    elim first as (λ _. row ≡ k) [
      | inl more ↦ elim second as (λ _. row ≡ k) [ inl too ↦ absurd (not_both_above size 0 g h (opposite problem table column row k) more too) | inr none ↦ absurd (none_not_above size 0 h g (opposite problem table column k row) none.0 more) ]
      | inr none ↦ elim second as (λ _. row ≡ k) [ inl too ↦ absurd (none_not_above size 0 g h (opposite problem table column row k) none.0 too) | inr also ↦ absurd (omega (arith, none.1, also.1)) ]
    ])

pub step_is_one : StepIsOne
step_is_one problem table one other kept a b =
    let column : a.1 ≡ b.1 = one_enters problem table a.1 b.1 kept a.3.enters b.3.enters in
    let leaves : Leaves problem table a.0 b.1 = subst (λ c. Leaves problem table a.0 c) column a.3.leaves in
    let row : a.0 ≡ b.0 = one_leaves problem table b.1 a.0 b.0 leaves b.3.leaves in
    let whole : exchanged_table table a.0 a.1 ≡ exchanged_table table b.0 b.1 = ap (λ c. exchanged_table table a.0 c) column ∙ ap (λ r. exchanged_table table r b.1) row in
    let first : IsQuotient a.2 (exchanged_table table b.0 b.1) one = subst (λ (t : Table). IsQuotient a.2 t one) whole a.3.reduced.divided in
    let most : b.2 ≤ℤ a.2 = a.3.reduced.greatest b.2 other (subst (λ (t : Table). IsQuotient b.2 t other) (sym whole) b.3.reduced.divided) in
    let least : a.2 ≤ℤ b.2 = b.3.reduced.greatest a.2 one first in
    let same : a.2 ≡ b.2 = omega (arith, ints) in
    same_divided b.2 (exchanged_table table b.0 b.1) one other (subst (λ d. IsQuotient d (exchanged_table table b.0 b.1) one) same first) b.3.reduced.divided

pub walk_is_one : WalkIsOne
walk_is_one problem zero one other formed bounds a b = a ∙ sym b
walk_is_one problem (suc n) one other formed bounds a b =
    let before : a.0 ≡ b.0 = walk_is_one problem n a.0 b.0 formed bounds a.1 b.1 in
    step_is_one problem b.0 one other (walk_keeps problem n b.0 formed bounds b.1) (subst (λ (t : Table). IsStepOf problem t one) before a.2) b.2

-- a longer walk passes a table that can be improved
passed : (problem : Problem) (n m : ℕ) (other : Table) → n < m → IsWalk problem m other → (table : Table) × IsWalk problem n table × CanImprove problem table
passed problem n zero other less walk = absurd (omega (arith, less))
passed problem n (suc m) other less walk =
    by_less n m (λ more. passed problem n m walk.0 more walk.1)
    (λ most.
    let same : m ≡ n = omega (arith, less, most) in
    (walk.0, subst (λ k. IsWalk problem k walk.0) same walk.1, (walk.2.3.below, walk.2.1, walk.2.3.enters)))

-- so a walk that ends is none that goes further
no_further : (problem : Problem) (m n : ℕ) (one other : Table) → NamesColumns problem → ((k : ℕ) → k < length (rows_of problem) → pos 0 ≤ℤ (row_at problem k).bound) → IsWalk problem m one → IsWalk problem n other → ¬ CanImprove problem one → m < n → ⊥
no_further problem m n one other formed bounds a b ends less =
    let on = passed problem m n other less b in
    let same : on.0 ≡ one = walk_is_one problem m on.0 one formed bounds on.1 a in
    ends (subst (λ (t : Table). CanImprove problem t) same on.2)

pub end_is_one : EndIsOne
end_is_one problem m n one other formed bounds a b one_ends other_ends =
    let same : m ≡ n = by_less m n (λ less. absurd (no_further problem m n one other formed bounds a b one_ends less)) (λ most. by_less n m (λ less. absurd (no_further problem n m other one formed bounds b a other_ends less)) (λ also. omega (arith, most, also))) in
    (same, walk_is_one problem n one other formed bounds (subst (λ k. IsWalk problem k one) same a) b)

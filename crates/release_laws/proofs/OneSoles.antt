-- For each cell with one record there is one place of it.
use Rattle.std.proofs.Common.{◌≡◌, ℕ, zero, suc, ◌<◌, Bool, true, false, cond, List, [], ◌∷◌, filter, length, slice_get, Option, None, Some, refl, ap, sym, subst, ◌∙◌, arith}
use Rattle.std.specs.Prelude.{slice_index_or}
use Rattle.std.specs.Option.{option_map_or}
use Rattle.sdc_base.specs.Records.{Name, row_falls}
use Rattle.sdc_base.specs.Trees.{Tree}
use Rattle.sdc_base.specs.declared.rows.Row.{Row}
use Rattle.attackers.specs.Alone.{AreSoles, IsSole}
use Rattle.linked_tables.specs.BookCells.{cells as cells_in}
use Rattle.linked_tables.specs.BookViews.{BookView}

-- a record that passes a test is one of those that pass it
some-passes : (test : Row → Bool) (rows : List Row) (place : ℕ) → option_map_or test (slice_get rows place) false ≡ true → 0 < length (filter test rows)
some-passes test [] place is = absurd cc
some-passes test (row ∷ rows) zero is =
    let here : test row ≡ true = is in
    subst (λ (t : Bool). 0 < length (cond t (row ∷ filter test rows) (filter test rows))) (sym here) (omega arith)
some-passes test (row ∷ rows) (suc place) is =
    let later : 0 < length (filter test rows) = some-passes test rows place is in
    elim (test row) as (λ t. 0 < length (cond t (row ∷ filter test rows) (filter test rows))) [
      | true ↦ omega arith
      | false ↦ later
    ]

-- where the first record passes, no later one does beside it
alone : (test : Row → Bool) (row : Row) (rows : List Row) (place : ℕ) → test row ≡ true → length (filter test (row ∷ rows)) ≡ 1 → option_map_or test (slice_get rows place) false ≡ true → ⊥
alone test row rows place here one also =
    let more : 0 < length (filter test rows) = some-passes test rows place also in
    let all : suc (length (filter test rows)) ≡ 1 = subst (λ (t : Bool). length (cond t (row ∷ filter test rows) (filter test rows)) ≡ 1) here one in
    omega (arith, more, all)

-- of one record that passes there is one place
one-place : (test : Row → Bool) (rows : List Row) (place other : ℕ) → length (filter test rows) ≡ 1 → option_map_or test (slice_get rows place) false ≡ true → option_map_or test (slice_get rows other) false ≡ true → place ≡ other
one-place test [] place other one is also = absurd cc
one-place test (row ∷ rows) zero zero one is also = refl
one-place test (row ∷ rows) zero (suc other) one is also = absurd (alone test row rows other is one also)
one-place test (row ∷ rows) (suc place) zero one is also = absurd (alone test row rows place also one is)
one-place test (row ∷ rows) (suc place) (suc other) one is also =
    elim (test row) as (λ t. test row ≡ t → length (cond t (row ∷ filter test rows) (filter test rows)) ≡ 1 → suc place ≡ suc other) [
      | true ↦ λ here all. absurd (alone test row rows place here one is)
      | false ↦ λ here all. ap suc (one-place test rows place other all is also)
    ] refl one

one-sole : (trees : List Tree) (rows : List Row) (name : Name) (one other : Option ℕ) → IsSole trees rows name one → IsSole trees rows name other → one ≡ other
one-sole trees rows name None None is also = refl
one-sole trees rows name None (Some place) is also = absurd (is also.0)
one-sole trees rows name (Some place) None is also = absurd (also is.0)
one-sole trees rows name (Some place) (Some other) is also = ap Some (one-place (row_falls trees name) rows place other is.0 is.1 also.1)

-- each of a list is that of the name at its place
abbrev AreBy : List Tree → List Row → List Name → List (Option ℕ) → Type 0
AreBy trees rows names soles = (cell : ℕ) (name : Name) → slice_get names cell ≡ Some name → IsSole trees rows name (slice_index_or soles cell None)

by-names : (trees : List Tree) (rows : List Row) (names : List Name) (one other : List (Option ℕ)) → length one ≡ length names → length other ≡ length names → AreBy trees rows names one → AreBy trees rows names other → one ≡ other
by-names trees rows [] [] [] each every are also = refl
by-names trees rows [] [] (b ∷ other) each every are also = absurd (omega (arith, every))
by-names trees rows [] (a ∷ one) other each every are also = absurd (omega (arith, each))
by-names trees rows (name ∷ names) [] other each every are also = absurd (omega (arith, each))
by-names trees rows (name ∷ names) (a ∷ one) [] each every are also = absurd (omega (arith, every))
by-names trees rows (name ∷ names) (a ∷ one) (b ∷ other) each every are also =
    ap (λ (first : Option ℕ). first ∷ one) (one-sole trees rows name a b (are 0 name refl) (also 0 name refl))
    ∙ ap (λ (rest : List (Option ℕ)). b ∷ rest) (by-names trees rows names one other (omega (arith, each)) (omega (arith, every)) (λ cell n at. are (suc cell) n at) (λ cell n at. also (suc cell) n at))

-- the records of a book's cells alone tell who makes up which cell alone
pub one-soles : (book next : BookView) (rows : List Row) (one other : List (Option ℕ)) → book.trees ≡ next.trees → book.tables ≡ next.tables → length one ≡ length (cells_in book) → length other ≡ length (cells_in next)
    → AreSoles book rows one → AreSoles next rows other → one ≡ other
one-soles book next rows one other trees tables each every are also =
    let names : cells_in next ≡ cells_in book = rw (trees, tables) refl in
    by-names book.trees rows (cells_in book) one other each (every ∙ ap (λ (all : List Name). length all) names) are
    (subst (λ (ts : List Tree). AreBy ts rows (cells_in book) other) (sym trees) (subst (λ (all : List Name). AreBy next.trees rows all other) names also))

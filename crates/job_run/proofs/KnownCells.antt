-- Which cells a contributor knows, by its record and by who is alone.
use Rattle.std.proofs.Common.{◌≡◌, inl, inr, ◌⊎◌, ℕ, zero, suc, ◌<◌, ◌≤◌, ◌==◌, ◌&&◌, ◌||◌, not, Bool, true, false, cond, List, [], ◌∷◌, length, filter, map, slice_get, slice_index_or, Option, None, Some, arith, refl, ap, sym, subst, ◌∙◌}
use Rattle.std.specs.List.{list_any, range_with_len}
use Rattle.std.specs.Option.{option_map_or}
use Rattle.std.proofs.Math.Path.{fun_ext}
use Rattle.std.proofs.lemmas.Bool.Decides.{Decides-eqb}
use Rattle.std.proofs.lemmas.Option.{slice_get_past}
use Rattle.sdc_base.specs.HiddenSets.{is_hidden}
use Rattle.sdc_base.specs.Records.{Name, row_falls}
use Rattle.sdc_base.specs.Sums.{freq}
use Rattle.sdc_base.specs.Trees.{Tree}
use Rattle.sdc_base.specs.declared.rows.Row.{Row}
use Rattle.sdc_base.proofs.GrowingLists.{read-at}
use Rattle.linked_tables.specs.BookViews.{BookView}
use Rattle.linked_tables.specs.BookCells.{cells as cells_in}
use Rattle.repair.proofs.Flags.{by_test, clash}
use Rattle.attackers.specs.Alone.{AreSoles, IsSole, falls_at, is_sole}
use Rattle.attackers.specs.KnownCells.{is_known, is_left, without_known}
use Rattle.job_inputs.specs.Cells.{cells}
use Rattle.job_inputs.specs.TabulatedBooks.{IsBookOf}
use Rattle.job_inputs.specs.declared.inputs.Inputs.{Inputs}
use Rattle.job_inputs.proofs.Facts.{cells-are}
use Rattle.job_run.specs.Promise.{knows, knows_cell, unknown_to}

-- the cell is hidden, and the contributor doesn't know it
abbrev is_unknown_in : Inputs → ℕ → List Bool → ℕ → Bool
is_unknown_in inputs row flags number = is_hidden flags number && not (knows_cell inputs row number)

-- ---- one record of a cell

none-left : (b : Bool) (row : Row) (more : List Row) → length (cond b (row ∷ more) more) ≡ 0 → (b ≡ false) × (length more ≡ 0)
none-left true row more is = absurd (omega (arith, is))
none-left false row more is = (refl, is)

one-left : (b : Bool) (row : Row) (more : List Row) → length (cond b (row ∷ more) more) ≡ 1 → ((b ≡ true) × (length more ≡ 0)) ⊎ ((b ≡ false) × (length more ≡ 1))
one-left true row more is = inl (refl, omega (arith, is))
one-left false row more is = inr (refl, is)

none-at : (trees : List Tree) (name : Name) (rows : List Row) (place : ℕ) → freq trees name rows ≡ 0 → falls_at trees rows name place ≡ true → ⊥
none-at trees name [] place none falls = absurd cc
none-at trees name (row ∷ rows) zero none falls =
    let left = none-left (row_falls trees name row) row (filter (row_falls trees name) rows) none in
    clash (row_falls trees name row) falls left.0
none-at trees name (row ∷ rows) (suc place) none falls =
    let left = none-left (row_falls trees name row) row (filter (row_falls trees name) rows) none in
    none-at trees name rows place left.1 falls

-- where one record falls in a cell, it stands at one place
only-one : (trees : List Tree) (name : Name) (rows : List Row) (p q : ℕ) → freq trees name rows ≡ 1 → falls_at trees rows name p ≡ true → falls_at trees rows name q ≡ true → p ≡ q
only-one trees name [] p q one first second = absurd cc
only-one trees name (row ∷ rows) zero zero one first second = refl
only-one trees name (row ∷ rows) zero (suc q) one first second =
    elim (one-left (row_falls trees name row) row (filter (row_falls trees name) rows) one) [
      | inl here ↦ absurd (none-at trees name rows q here.1 second)
      | inr there ↦ clash (row_falls trees name row) first there.0
    ]
only-one trees name (row ∷ rows) (suc p) zero one first second =
    elim (one-left (row_falls trees name row) row (filter (row_falls trees name) rows) one) [
      | inl here ↦ absurd (none-at trees name rows p here.1 first)
      | inr there ↦ clash (row_falls trees name row) second there.0
    ]
only-one trees name (row ∷ rows) (suc p) (suc q) one first second =
    elim (one-left (row_falls trees name row) row (filter (row_falls trees name) rows) one) [
      | inl here ↦ absurd (none-at trees name rows p here.1 first)
      | inr there ↦ ap suc (only-one trees name rows p q there.1 first second)
    ]

-- ---- who is alone knows its cell

sole-knows : (trees : List Tree) (rows : List Row) (name : Name) (row : ℕ) (sole : Option ℕ) → IsSole trees rows name sole → is_sole row sole ≡ ((freq trees name rows == 1) && falls_at trees rows name row)
sole-knows trees rows name row None is =
    by_test (freq trees name rows == 1) (false ≡ ((freq trees name rows == 1) && falls_at trees rows name row))
    (λ one. absurd (is ((Decides-eqb (freq trees name rows) 1).0 one)))
    (λ other. sym (ap (λ b. b && falls_at trees rows name row) other))
sole-knows trees rows name row (Some place) is =
    let one : (freq trees name rows == 1) ≡ true = (Decides-eqb (freq trees name rows) 1).1 is.0 in
    own (falls_at trees rows name row) refl ∙ sym (ap (λ b. b && falls_at trees rows name row) one)
  where
    own : (b : Bool) → falls_at trees rows name row ≡ b → (place == row) ≡ falls_at trees rows name row
    own true falls = (Decides-eqb place row).1 (only-one trees name rows place row is.0 is.1 falls) ∙ sym falls
    own false falls = by_test (place == row) ((place == row) ≡ falls_at trees rows name row)
        (λ same. clash (falls_at trees rows name row) (subst (λ p. falls_at trees rows name p ≡ true) ((Decides-eqb place row).0 same) is.1) falls)
        (λ other. other ∙ sym falls)

past-none : (soles : List (Option ℕ)) (k : ℕ) → length soles ≤ k → slice_index_or soles k None ≡ None
past-none [] k past = refl
past-none (sole ∷ soles) zero past = absurd (omega (arith, past))
past-none (sole ∷ soles) (suc k) past = past-none soles k (omega (arith, past))

below-or : (a b : ℕ) → (a < b) ⊎ (b ≤ a)
below-or a zero = inr (omega arith)
below-or zero (suc b) = inl (omega arith)
below-or (suc a) (suc b) = elim (below-or a b) [
  | inl less ↦ inl (omega (arith, less))
  | inr more ↦ inr (omega (arith, more))
]

-- what a contributor knows by who is alone it knows by its record
pub known-same : (inputs : Inputs) (book : BookView) (soles : List (Option ℕ)) (row k : ℕ) → IsBookOf inputs book → length soles ≡ length (cells_in book) → AreSoles book inputs.records.rows soles → is_known soles row k ≡ knows_cell inputs row k
known-same inputs book soles row k is each are = by_place (below-or k (length (cells inputs)))
  where
    names : cells_in book ≡ cells inputs
    names = cells-are inputs book is

    sole-of : slice_get (cells inputs) k ≡ Some (slice_index_or (cells inputs) k []) → IsSole inputs.records.trees inputs.records.rows (slice_index_or (cells inputs) k []) (slice_index_or soles k None)
    sole-of found =
        subst (λ (trees : List Tree). IsSole trees inputs.records.rows (slice_index_or (cells inputs) k []) (slice_index_or soles k None)) is.trees
        (are k (slice_index_or (cells inputs) k []) (ap (λ (all : List Name). slice_get all k) names ∙ found))

    by_place : (k < length (cells inputs)) ⊎ (length (cells inputs) ≤ k) → is_known soles row k ≡ knows_cell inputs row k
    by_place (inl within) =
        let found = read-at (cells inputs) k [] within in
        sole-knows inputs.records.trees inputs.records.rows (slice_index_or (cells inputs) k []) row (slice_index_or soles k None) (sole-of found)
        ∙ sym (ap (λ (o : Option Name). option_map_or (knows inputs row) o false) found)
    by_place (inr past) =
        let same : length soles ≡ length (cells inputs) = each ∙ ap (λ (all : List Name). length all) names in
        ap (is_sole row) (past-none soles k (omega (arith, same, past)))
        ∙ sym (ap (λ (o : Option Name). option_map_or (knows inputs row) o false) (slice_get_past (cells inputs) k past))

-- so the set without what it knows is the same
pub unknown-same : (inputs : Inputs) (book : BookView) (soles : List (Option ℕ)) (row : ℕ) (flags : List Bool) → IsBookOf inputs book → length soles ≡ length (cells_in book) → AreSoles book inputs.records.rows soles → without_known soles row flags ≡ unknown_to inputs row flags
unknown-same inputs book soles row flags is each are =
    let same : is_left soles row flags ≡ is_unknown_in inputs row flags = fun_ext (λ k. ap (λ b. is_hidden flags k && not b) (known-same inputs book soles row k is each are)) in
    ap (λ (test : ℕ → Bool). map test (range_with_len 0 (length flags))) same

neither : (a b : Bool) → (a || b) ≡ false → (a ≡ false) × (b ≡ false)
neither true b h = absurd cc
neither false b h = (refl, h)

-- a contributor that alone makes up no cell knows none
pub knows-none : (soles : List (Option ℕ)) (row k : ℕ) → list_any (is_sole row) soles ≡ false → is_known soles row k ≡ false
knows-none [] row k none = refl
knows-none (sole ∷ soles) row zero none = (neither (is_sole row sole) (list_any (is_sole row) soles) none).0
knows-none (sole ∷ soles) row (suc k) none = knows-none soles row k ((neither (is_sole row sole) (list_any (is_sole row) soles) none).1)

-- one that alone makes up some cell knows some
pub knows-some : (soles : List (Option ℕ)) (row : ℕ) → list_any (is_sole row) soles ≡ true → (k : ℕ) × (is_known soles row k ≡ true)
knows-some [] row any = absurd cc
knows-some (sole ∷ soles) row any =
    elim (is_sole row sole) as (λ b. is_sole row sole ≡ b → (b || list_any (is_sole row) soles) ≡ true → (k : ℕ) × (is_known (sole ∷ soles) row k ≡ true)) [
      | true ↦ λ same any. (0, same)
      | false ↦ λ other any. (let rest = knows-some soles row any in (suc rest.0, rest.1))
    ] refl any

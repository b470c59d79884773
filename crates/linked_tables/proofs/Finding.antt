-- Each place of a table has its cell, and a cell's number leads to its name.
use Rattle.std.proofs.Common.{◌≡◌, ℕ, zero, suc, ◌+◌, ◌||◌, Bool, true, false, cond, List, [], ◌∷◌, length, map, slice_get, bytes_eq, Option, None, Some, option_map, is_some, if◌then◌else◌, refl, ap, sym, ◌∙◌, subst, add-one}
use Rattle.std.specs.List.{flat_map}
use Rattle.std.specs.Option.{option_and_then, option_map_or}
use Rattle.std.proofs.lemmas.List.Folds.{list_any-append}
use Rattle.std.proofs.lemmas.Slice.Eq.{bytes_eq-Decides}
use Rattle.sdc_base.specs.Trees.{Tree}
use Rattle.sdc_base.specs.Records.{Name}
use Rattle.sdc_base.specs.Places.{first_place}
use Rattle.sdc_base.specs.Cells.{cells_of, is_named, named_by, name_of, places, trees_of}
use Rattle.sdc_base.specs.CellOrder.{is_place_in}
use Rattle.sdc_base.proofs.Places.{places_are_lexicographic}
use Rattle.sdc_base.proofs.FirstNames.{names_are_first}
use Rattle.sdc_base.specs.declared.dimension.Dimension.{Dimension}
use Rattle.linked_tables.specs.BookViews.{BookView}
use Rattle.linked_tables.specs.BookCells.{cells, name_in_table, is_in, number_of, is_place_of, name_at, cell_at}

-- ---- the first place of a name

-- a name that is among others has a place
pub named-found : (names : List Name) (name : Name) → is_some (first_place (bytes_eq name) names) ≡ is_named names name
named-found [] name = refl
named-found (other ∷ names) name =
    elim (bytes_eq name other) as (λ b. is_some (cond b (Some 0) (option_map (λ k. k + 1) (first_place (bytes_eq name) names))) ≡ (b || is_named names name)) [
      | true ↦ refl
      | false ↦ shifted (first_place (bytes_eq name) names) ∙ named-found names name
    ]
  where
    shifted : (found : Option ℕ) → is_some (option_map (λ k. k + 1) found) ≡ is_some found
    shifted None = refl
    shifted (Some k) = refl

-- and there it stands
pub found-name : (names : List Name) (name : Name) (k : ℕ) → first_place (bytes_eq name) names ≡ Some k → slice_get names k ≡ Some name
found-name [] name k h = cc
found-name (other ∷ names) name k h =
    elim (bytes_eq name other) as (λ b. bytes_eq name other ≡ b → cond b (Some 0) (option_map (λ n. n + 1) (first_place (bytes_eq name) names)) ≡ Some k → slice_get (other ∷ names) k ≡ Some name) [
      | true ↦ λ is h. here ((bytes_eq-Decides name other).0 is) k h
      | false ↦ λ is h. later (λ n at. found-name names name n at) (first_place (bytes_eq name) names) refl k h
    ] refl h
  where
    here : name ≡ other → (k : ℕ) → Some 0 ≡ Some k → slice_get (other ∷ names) k ≡ Some name
    here same k h = let at : 0 ≡ k = cc in subst (λ n. slice_get (other ∷ names) n ≡ Some name) at (ap Some (sym same))

    later : ((n : ℕ) → first_place (bytes_eq name) names ≡ Some n → slice_get names n ≡ Some name) → (found : Option ℕ) → first_place (bytes_eq name) names ≡ found → (k : ℕ) → option_map (λ n. n + 1) found ≡ Some k → slice_get (other ∷ names) k ≡ Some name
    later rest None is k h = cc
    later rest (Some n) is k h =
        let at : n + 1 ≡ k = cc in
        subst (λ m. slice_get (other ∷ names) m ≡ Some name) (sym (add-one n) ∙ at) (rest n is)

-- ---- each place of a table is named

pub named-map : (variables : ℕ) (table : List Dimension) (found : List (List ℕ)) (place : List ℕ) → is_named found place ≡ true → is_named (map (name_of variables table) found) (name_of variables table place) ≡ true
named-map variables table [] place h = cc
named-map variables table (other ∷ found) place h =
    elim (bytes_eq place other) as (λ b. bytes_eq place other ≡ b → (b || is_named found place) ≡ true → (bytes_eq (name_of variables table place) (name_of variables table other) || is_named (map (name_of variables table) found) (name_of variables table place)) ≡ true) [
      | true ↦ λ is h. let same : bytes_eq (name_of variables table place) (name_of variables table other) ≡ true = (bytes_eq-Decides _ _).1 (ap (name_of variables table) ((bytes_eq-Decides place other).0 is)) in rw same refl
      | false ↦ λ is h. let rest = named-map variables table found place h in rw rest (either (bytes_eq (name_of variables table place) (name_of variables table other)))
    ] refl h
  where
    either : (b : Bool) → (b || true) ≡ true
    either true = refl
    either false = refl

named-table : (trees : List Tree) (tables : List (List Dimension)) (t : ℕ) (table : List Dimension) (name : Name) → slice_get tables t ≡ Some table → is_named (named_by trees table) name ≡ true → is_named (flat_map (named_by trees) tables) name ≡ true
named-table trees [] t table name at h = cc
named-table trees (first ∷ tables) zero table name at h =
    let same : first ≡ table = cc in
    let here : is_named (named_by trees first) name ≡ true = subst (λ one. is_named (named_by trees one) name ≡ true) (sym same) h in
    list_any-append (bytes_eq name) (named_by trees first) (flat_map (named_by trees) tables) ∙ rw here refl
named-table trees (first ∷ tables) (suc t) table name at h =
    let rest = named-table trees tables t table name at h in
    list_any-append (bytes_eq name) (named_by trees first) (flat_map (named_by trees) tables) ∙ rw rest (either (is_named (named_by trees first) name))
  where
    either : (b : Bool) → (b || true) ≡ true
    either true = refl
    either false = refl

-- a place of a table has a cell
pub place-named : (trees : List Tree) (tables : List (List Dimension)) (t : ℕ) (table : List Dimension) (place : List ℕ) → slice_get tables t ≡ Some table → is_place_in (trees_of trees table) place ≡ true
    → is_named (cells_of trees tables) (name_of (length trees) table place) ≡ true
place-named trees tables t table place at inside =
    names_are_first.all (flat_map (named_by trees) tables) (name_of (length trees) table place)
    ∙ named-table trees tables t table (name_of (length trees) table place) at (named-map (length trees) table (places (trees_of trees table)) place (places_are_lexicographic.all (trees_of trees table) place ∙ inside))

-- ---- the cell at a place of a table of a book

-- there is one exactly where the place is one of the table
pub cell-found : (book : BookView) (t : ℕ) (place : List ℕ) → is_some (cell_at book t place) ≡ is_place_of book t place
cell-found book t place = by_table (slice_get book.tables t) refl
  where
    inside : (table : List Dimension) → slice_get book.tables t ≡ Some table → (b : Bool) → is_in book table place ≡ b → is_some (if b then number_of book (name_in_table book table place) else None) ≡ b
    inside table at true is = named-found (cells book) (name_in_table book table place) ∙ place-named book.trees book.tables t table place at is
    inside table at false is = refl

    by_table : (found : Option (List Dimension)) → slice_get book.tables t ≡ found
        → is_some (option_and_then (λ table. if is_in book table place then number_of book (name_in_table book table place) else None) found) ≡ option_map_or (λ table. is_in book table place) found false
    by_table None at = refl
    by_table (Some table) at = inside table at (is_in book table place) refl

-- and its name is that of the place
pub cell-named : (book : BookView) (t : ℕ) (place : List ℕ) (cell : ℕ) → cell_at book t place ≡ Some cell → slice_get (cells book) cell ≡ Some (name_at book t place)
cell-named book t place cell = by_table (slice_get book.tables t)
  where
    inside : (table : List Dimension) (b : Bool) → (if b then number_of book (name_in_table book table place) else None) ≡ Some cell → slice_get (cells book) cell ≡ Some (name_in_table book table place)
    inside table true is = found-name (cells book) (name_in_table book table place) cell is
    inside table false is = cc

    by_table : (found : Option (List Dimension)) → option_and_then (λ table. if is_in book table place then number_of book (name_in_table book table place) else None) found ≡ Some cell
        → slice_get (cells book) cell ≡ Some (option_map_or (λ table. name_in_table book table place) found [])
    by_table None is = cc
    by_table (Some table) is = inside table (is_in book table place) is

-- The cells at the places of a subtable are its cells, and those that are hidden are found there.
use Rattle.std.proofs.Common.{◌≡◌, inl, inr, ℕ, suc, ◌+◌, ◌<◌, ◌==◌, ◌&&◌, ◌||◌, Bool, true, false, if◌then◌else◌, List, [], ◌∷◌, length, map, filter, fold, get_or, slice_get, slice_index, slice_index_or, All, Option, None, Some, is_some, refl, ap, sym, ◌∙◌, subst, arith}
use Rattle.std.specs.BTreeSet.{insert_key}
use Rattle.std.specs.List.{list_any, range_with_len}
use Rattle.std.specs.Option.{option_map_or}
use Rattle.std.specs.Ordering.{nat_cmp}
use Rattle.std.proofs.lemmas.Bool.Decides.{Decides-eqb}
use Rattle.std.proofs.lemmas.List.Elements.{All-filter, filter_agree}
use Rattle.std.proofs.lemmas.List.FromFn.{get_or-range_with_len, length-range_with_len}
use Rattle.std.proofs.lemmas.Option.{slice_get_within, get_or_from_slice_get}
use Rattle.sdc_base.specs.Records.{Name}
use Rattle.sdc_base.specs.Cells.{name_of}
use Rattle.sdc_base.specs.Cubes.{choices}
use Rattle.sdc_base.specs.Subtables.{is_place_below}
use Rattle.sdc_base.specs.declared.cube.Subtable.{Subtable}
use Rattle.sdc_base.specs.declared.dimension.Dimension.{Dimension}
use Rattle.linked_tables.specs.BookViews.{BookView}
use Rattle.linked_tables.specs.BookCells.{IsBook, IsTable, cells, cell_at, is_in, name_at}
use Rattle.linked_tables.proofs.Finding.{cell-found, cell-named}
use Rattle.linked_tables.proofs.Sharing.{place-of-name}
use Rattle.hypercube.specs.LeastCubes.{is_marked}
use Rattle.hypercube.proofs.Members.{Among, Picks, all-among, choices-pick, picks-among}
use Rattle.modular_plan.specs.Plans.{codes_at, hidden_in, is_cell_of}
use Rattle.modular_plan.specs.SubtablePlaces.{code_lists, with_place}
use Rattle.modular_plan.proofs.AscendingNumbers.{one-more}
use Rattle.modular_plan.proofs.CodeLists.{below-picks, picks-below}

-- the cell stands at a place of table t
abbrev stands_at : BookView → ℕ → ℕ → List ℕ → Bool
stands_at book t cell place = option_map_or (λ found. found == cell) (cell_at book t place) false

-- ---- a place is that of its name

both : (a b : Bool) → (a && b) ≡ true → (a ≡ true) × (b ≡ true)
both true b h = (refl, h)
both false b h = cc

-- the codes of a cell are those of a place where it stands
place-codes : (book : BookView) → IsBook book → (t cell : ℕ) (place : List ℕ) → cell_at book t place ≡ Some cell → codes_at book (slice_index_or book.tables t []) cell ≡ place
place-codes book is_book t cell place at = by (slice_get book.tables t) refl (ap is_some (sym at) ∙ cell-found book t place) (cell-named book t place cell at)
  where
    by : (met : Option (List Dimension)) → slice_get book.tables t ≡ met → true ≡ option_map_or (λ table. is_in book table place) met false
        → slice_get (cells book) cell ≡ Some (option_map_or (λ table. name_of (length book.trees) table place) met [])
        → codes_at book (slice_index_or book.tables t []) cell ≡ place
    by None known inside named = cc
    by (Some table) known inside named =
        let same : slice_index_or book.tables t [] ≡ table = get_or_from_slice_get book.tables t table [] known in
        let sound : IsTable (length book.trees) table = subst (IsTable (length book.trees)) same (book_tables t (slice_get_within book.tables t table known)) in
        let name : slice_index_or (cells book) cell [] ≡ name_of (length book.trees) table place = get_or_from_slice_get (cells book) cell (name_of (length book.trees) table place) [] named in
        ap (λ (spanned : List Dimension). codes_at book spanned cell) same
        ∙ ap (λ (one : Name). map (λ (dimension : Dimension). slice_index one dimension.variable) table) name
        ∙ place-of-name book.trees table place sound (sym inside)
      where
        book_tables : (k : ℕ) → k < length book.tables → IsTable (length book.trees) (slice_index_or book.tables k [])
        book_tables k within = is_book.tables k [] within

-- ---- the cells of a subtable

any-among : {X : Type 0} (test : X → Bool) (xs : List X) → list_any test xs ≡ true → (x : X) × Among xs x × (test x ≡ true)
any-among test [] h = cc
any-among test (x ∷ xs) h =
    elim (test x) as (λ b. test x ≡ b → (b || list_any test xs) ≡ true → (one : _) × Among (x ∷ xs) one × (test one ≡ true)) [
      | true ↦ λ is h. (x, inl refl, is)
      | false ↦ λ is h. let rest = any-among test xs h in (rest.0, inr rest.1, rest.2)
    ] refl h

either : (b : Bool) → (b || true) ≡ true
either true = refl
either false = refl

among-any : {X : Type 0} (test : X → Bool) (xs : List X) (x : X) → Among xs x → test x ≡ true → list_any test xs ≡ true
among-any test [] x among is = absurd among
among-any test (y ∷ ys) x (inl same) is = let here : test y ≡ true = ap test (sym same) ∙ is in rw here refl
among-any test (y ∷ ys) x (inr among) is = ap (λ b. test y || b) (among-any test ys x among is) ∙ either (test y)

same-truth : (a b : Bool) → (a ≡ true → b ≡ true) → (b ≡ true → a ≡ true) → a ≡ b
same-truth true true f g = refl
same-truth true false f g = sym (f refl)
same-truth false true f g = g refl
same-truth false false f g = refl

map-long : {X Y : Type 0} (f : X → Y) (xs : List X) → length (map f xs) ≡ length xs
map-long f [] = refl
map-long f (x ∷ xs) = ap suc (map-long f xs)

found-there : (found : Option ℕ) (cell : ℕ) → option_map_or (λ one. one == cell) found false ≡ true → found ≡ Some cell
found-there None cell h = cc
found-there (Some one) cell h = ap Some ((Decides-eqb one cell).0 h)

-- the codes of a cell that stands at one of the places are codes of the subtable
there-below : (book : BookView) → IsBook book → (t cell : ℕ) (parents : List ℕ)
    → list_any (stands_at book t cell) (choices (code_lists book.trees (slice_index_or book.tables t []) parents)) ≡ true
    → (is_place_below book.trees (slice_index_or book.tables t []) parents (codes_at book (slice_index_or book.tables t []) cell) && stands_at book t cell (codes_at book (slice_index_or book.tables t []) cell)) ≡ true
there-below book is_book t cell parents h =
    let table : List Dimension = slice_index_or book.tables t [] in
    let lists = code_lists book.trees table parents in
    let one = any-among (stands_at book t cell) (choices lists) h in
    let place = one.0 in
    let below = picks-below book.trees table parents place (all-among (Picks lists) (choices lists) place (choices-pick lists) one.1) in
    let same : codes_at book table cell ≡ place = place-codes book is_book t cell place (found-there (cell_at book t place) cell one.2) in
    subst (λ (at : List ℕ). (is_place_below book.trees table parents at && stands_at book t cell at) ≡ true) (sym same) (rw (below, one.2) refl)

-- and a cell that stands where its codes say, which are codes of the subtable, stands at one of the places
below-there : (book : BookView) (t cell : ℕ) (table : List Dimension) (parents : List ℕ)
    → (is_place_below book.trees table parents (codes_at book table cell) && stands_at book t cell (codes_at book table cell)) ≡ true
    → list_any (stands_at book t cell) (choices (code_lists book.trees table parents)) ≡ true
below-there book t cell table parents h =
    let place = codes_at book table cell in
    let lists = code_lists book.trees table parents in
    let parts = both (is_place_below book.trees table parents place) (stands_at book t cell place) h in
    let picked = below-picks book.trees table parents place (map-long (λ (dimension : Dimension). slice_index (slice_index_or (cells book) cell []) dimension.variable) table) parts.0 in
    among-any (stands_at book t cell) (choices lists) place (picks-among lists place picked) parts.1

-- a cell stands at one of the places exactly where it is one of the subtable
cells-there : (book : BookView) → IsBook book → (subtable : Subtable) (cell : ℕ)
    → list_any (stands_at book subtable.table cell) (choices (code_lists book.trees (slice_index_or book.tables subtable.table []) subtable.parents)) ≡ is_cell_of book subtable cell
cells-there book is_book subtable cell =
    same-truth (list_any (stands_at book subtable.table cell) (choices (code_lists book.trees (slice_index_or book.tables subtable.table []) subtable.parents))) (is_cell_of book subtable cell)
    (there-below book is_book subtable.table cell subtable.parents)
    (below-there book subtable.table cell (slice_index_or book.tables subtable.table []) subtable.parents)

-- ---- the hidden ones of them

or-more : (old same marked later : Bool) → (same ≡ true → marked ≡ true) → ((old || same) || (marked && later)) ≡ (old || (marked && (same || later)))
or-more true same marked later h = refl
or-more false false marked later h = refl
or-more false true marked later h = let is = h refl in rw is refl

or-less : (old same marked later : Bool) → (same ≡ true → marked ≡ false) → (old || (marked && later)) ≡ (old || (marked && (same || later)))
or-less old false marked later h = refl
or-less old true marked later h = let is = h refl in rw is refl

or-none : (old marked : Bool) → old ≡ (old || (marked && false))
or-none true marked = refl
or-none false true = refl
or-none false false = refl

-- what is found at these places are the hidden cells there, beside those that were found before
found-there-are : (book : BookView) (t n : ℕ) → ((place : List ℕ) (cell : ℕ) → cell_at book t place ≡ Some cell → cell < n) → (old : ℕ → Bool) (places : List (List ℕ))
    → fold (with_place book t) (filter old (range_with_len 0 n)) places ≡ filter (λ cell. old cell || (is_marked book cell && list_any (stands_at book t cell) places)) (range_with_len 0 n)
found-there-are book t n within old [] = filter_agree old (λ cell. old cell || (is_marked book cell && false)) (λ cell. or-none (old cell) (is_marked book cell)) (range_with_len 0 n)
found-there-are book t n within old (place ∷ places) = by (λ tested. found-there-are book t n within tested places) (cell_at book t place) refl
  where
    by : ((tested : ℕ → Bool) → fold (with_place book t) (filter tested (range_with_len 0 n)) places ≡ filter (λ cell. tested cell || (is_marked book cell && list_any (stands_at book t cell) places)) (range_with_len 0 n))
        → (met : Option ℕ) → cell_at book t place ≡ met
        → fold (with_place book t) (option_map_or (λ cell. if is_marked book cell then insert_key nat_cmp (filter old (range_with_len 0 n)) cell else filter old (range_with_len 0 n)) met (filter old (range_with_len 0 n))) places
        ≡ filter (λ cell. old cell || (is_marked book cell && (option_map_or (λ found. found == cell) met false || list_any (stands_at book t cell) places))) (range_with_len 0 n)
    by rest None at = rest old
    by rest (Some cell) at =
        let all : List ℕ = range_with_len 0 n in
        elim (is_marked book cell) as (λ b. is_marked book cell ≡ b → fold (with_place book t) (if b then insert_key nat_cmp (filter old all) cell else filter old all) places
        ≡ filter (λ one. old one || (is_marked book one && ((cell == one) || list_any (stands_at book t one) places))) all) [
          | true ↦ λ is.
              ap (λ (found : List ℕ). fold (with_place book t) found places) (one-more old cell 0 n (omega arith) (let inside = within place cell at in omega (arith, inside)))
              ∙ rest (λ one. old one || (cell == one))
              ∙ filter_agree (λ one. (old one || (cell == one)) || (is_marked book one && list_any (stands_at book t one) places)) (λ one. old one || (is_marked book one && ((cell == one) || list_any (stands_at book t one) places)))
              (λ one. or-more (old one) (cell == one) (is_marked book one) (list_any (stands_at book t one) places) (λ same. ap (is_marked book) (sym ((Decides-eqb cell one).0 same)) ∙ is)) all
          | false ↦ λ is.
              rest old
              ∙ filter_agree (λ one. old one || (is_marked book one && list_any (stands_at book t one) places)) (λ one. old one || (is_marked book one && ((cell == one) || list_any (stands_at book t one) places)))
              (λ one. or-less (old one) (cell == one) (is_marked book one) (list_any (stands_at book t one) places) (λ same. ap (is_marked book) (sym ((Decides-eqb cell one).0 same)) ∙ is)) all
        ] refl

none-kept : {X : Type 0} (xs : List X) → filter (λ x. false) xs ≡ []
none-kept [] = refl
none-kept (x ∷ xs) = none-kept xs

-- what is found at the places of a subtable are its hidden cells
pub hidden-there : (book : BookView) → IsBook book → (subtable : Subtable)
    → fold (with_place book subtable.table) [] (choices (code_lists book.trees (slice_index_or book.tables subtable.table []) subtable.parents)) ≡ hidden_in book (is_marked book) subtable
hidden-there book is_book subtable =
    let t = subtable.table in
    let n = length (cells book) in
    let places : List (List ℕ) = choices (code_lists book.trees (slice_index_or book.tables t []) subtable.parents) in
    ap (λ (found : List ℕ). fold (with_place book t) found places) (sym (none-kept (range_with_len 0 n)))
    ∙ found-there-are book t n (λ place cell at. slice_get_within (cells book) cell (name_at book t place) (cell-named book t place cell at)) (λ cell. false) places
    ∙ filter_agree (λ cell. is_marked book cell && list_any (stands_at book t cell) places) (λ cell. is_marked book cell && is_cell_of book subtable cell)
    (λ cell. ap (λ b. is_marked book cell && b) (cells-there book is_book subtable cell)) (range_with_len 0 n)

-- and each is a cell of the book
pub hidden-within : (book : BookView) (hidden : ℕ → Bool) (subtable : Subtable) → All (λ cell. cell < length (cells book)) (hidden_in book hidden subtable)
hidden-within book hidden subtable =
    let n = length (cells book) in
    All-filter (λ cell. hidden cell && is_cell_of book subtable cell) (λ cell. cell < n) (range_with_len 0 n)
    (λ k d inside.
    let below : k < n = subst (λ long. k < long) (length-range_with_len 0 n) inside in
    let at : get_or (range_with_len 0 n) k d ≡ 0 + k = get_or-range_with_len 0 n k d below in
    omega (arith, below, at))

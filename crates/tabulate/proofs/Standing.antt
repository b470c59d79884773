-- At which places of a table a cell stands.
use Rattle.std.proofs.Common.{◌≡◌, ℕ, zero, suc, ◌+◌, ◌<◌, ◌≤◌, ◌==◌, ◌&&◌, ◌||◌, nat_le, Bool, true, false, cond, List, [], ◌∷◌, ◌++◌, length, take, drop, get_or, slice_get, bytes_eq, if◌then◌else◌, Option, None, Some, option_map, is_some, refl, ap, sym, ◌∙◌, subst, arith, add-one}
use Rattle.std.specs.List.{IsDistinct, flat_map}
use Rattle.std.specs.Option.{option_map_or, option_and_then}
use Rattle.std.proofs.lemmas.Bool.Decides.{nat_tests, Decides-eqb}
use Rattle.std.proofs.lemmas.List.{take-append-drop}
use Rattle.std.proofs.lemmas.Slice.Eq.{bytes_eq-Decides}
use Rattle.sdc_base.specs.Trees.{Tree}
use Rattle.sdc_base.specs.Records.{Name}
use Rattle.sdc_base.specs.Places.{first_place}
use Rattle.sdc_base.specs.Cells.{cut_tree, cells_of, is_named, named_by, name_of, trees_of}
use Rattle.sdc_base.specs.CellOrder.{is_place_in}
use Rattle.sdc_base.specs.CutTrees.{has_code}
use Rattle.sdc_base.specs.declared.dimension.Dimension.{Dimension}
use Rattle.sdc_base.proofs.FirstNames.{all_named, names_are_first}
use Rattle.sdc_base.proofs.PlaceLists.{name_length}
use Rattle.linked_tables.specs.BookViews.{BookView}
use Rattle.linked_tables.specs.Laws.{dimension_of}
use Rattle.linked_tables.specs.BookCells.{IsTable, cells, cell_at, first_own, is_in, name_at, name_in_table, number_of}
use Rattle.linked_tables.proofs.CellLists.{cells-stay}
use Rattle.linked_tables.proofs.TableSteps.{cells-next}
use Rattle.linked_tables.proofs.Finding.{cell-found, cell-named, place-named}
use Rattle.linked_tables.proofs.Sharing.{codes_at, code-back, dimension-spans, known-below, name-codes, name-long, named-codes, place-good, place-of-name, same-items}
use Rattle.tabulate.specs.RecordsByPlace.{is_at}
use Rattle.linked_tables.proofs.Guessing.{found-where}

-- ---- numbers of distinct names

-- a name that is among the first ones has a number below theirs
pub found-early : (names more : List Name) (name : Name) (k : ℕ) → is_named names name ≡ true → first_place (bytes_eq name) (names ++ more) ≡ Some k → k < length names
found-early [] more name k h at = cc
found-early (first ∷ names) more name k h at =
    elim (bytes_eq name first) as (λ b. (b || is_named names name) ≡ true → cond b (Some 0) (option_map (λ n. n + 1) (first_place (bytes_eq name) (names ++ more))) ≡ Some k → k < length (first ∷ names)) [
      | true ↦ λ h at. let here : 0 ≡ k = cc in omega (arith, here)
      | false ↦ λ h at. later (λ n at. found-early names more name n h at) (first_place (bytes_eq name) (names ++ more)) refl at
    ] h at
  where
    later : ((n : ℕ) → first_place (bytes_eq name) (names ++ more) ≡ Some n → n < length names) → (found : Option ℕ) → first_place (bytes_eq name) (names ++ more) ≡ found → option_map (λ n. n + 1) found ≡ Some k → k < length (first ∷ names)
    later rest None is h = cc
    later rest (Some n) is h = let below = rest n is in let at : n + 1 ≡ k = cc in omega (arith, below, at)

pub named-where : (names : List Name) (k : ℕ) (name : Name) → slice_get names k ≡ Some name → is_named names name ≡ true
named-where [] k name at = cc
named-where (first ∷ names) zero name at = let same : first ≡ name = cc in let test : bytes_eq name first ≡ true = (bytes_eq-Decides name first).1 (sym same) in rw test refl
named-where (first ∷ names) (suc k) name at = let rest = named-where names k name at in rw rest (either (bytes_eq name first))
  where
    either : (b : Bool) → (b || true) ≡ true
    either true = refl
    either false = refl

pub at-front : {X : Type 0} (xs ys : List X) (k : ℕ) → k < length xs → slice_get (xs ++ ys) k ≡ slice_get xs k
at-front [] ys k h = absurd (omega (arith, h))
at-front (x ∷ xs) ys zero h = refl
at-front (x ∷ xs) ys (suc k) h = at-front xs ys k (omega (arith, h))

pub once-cells : (book : BookView) → IsDistinct bytes_eq (cells book)
once-cells book = names_are_first.once (flat_map (named_by book.trees) book.tables)

-- the cells of the tables before are the first ones
pub front-cells : (book : BookView) (t : ℕ) → (later : List Name) × (cells book ≡ cells_of book.trees (take t book.tables) ++ later)
front-cells book t =
    let stay = cells-stay book.trees (take t book.tables) (drop t book.tables) in
    (stay.0, ap (cells_of book.trees) (sym (take-append-drop t book.tables)) ∙ stay.1)

-- a cell that a table is the first to name is one of the table's
pub own-named : (book : BookView) (t cell : ℕ) (table : List Dimension) (name : Name) → slice_get book.tables t ≡ Some table → slice_get (cells book) cell ≡ Some name → first_own book t ≤ cell → cell < first_own book (t + 1) → is_named (named_by book.trees table) name ≡ true
own-named book t cell table name at is late early =
    let front = front-cells book (t + 1) in
    let here : slice_get (cells_of book.trees (take (t + 1) book.tables)) cell ≡ Some name =
    sym (at-front (cells_of book.trees (take (t + 1) book.tables)) front.0 cell early) ∙ ap (λ names. slice_get names cell) (sym front.1) ∙ is
    in
    let among : is_named (cells_of book.trees (take (t + 1) book.tables)) name ≡ true = named-where (cells_of book.trees (take (t + 1) book.tables)) cell name here in
    let either : (is_named (cells_of book.trees (take t book.tables)) name || is_named (named_by book.trees table) name) ≡ true =
    sym (all_named (cells_of book.trees (take t book.tables)) (named_by book.trees table) name) ∙ ap (λ names. is_named names name) (sym (cells-next book.trees book.tables t table at)) ∙ among
    in
    by (is_named (cells_of book.trees (take t book.tables)) name) refl either
  where
    number : first_place (bytes_eq name) (cells book) ≡ Some cell
    number = found-where (cells book) cell name (once-cells book) is

    by : (b : Bool) → is_named (cells_of book.trees (take t book.tables)) name ≡ b → (b || is_named (named_by book.trees table) name) ≡ true → is_named (named_by book.trees table) name ≡ true
    by true before h =
        let front = front-cells book t in
        let below : cell < first_own book t = found-early (cells_of book.trees (take t book.tables)) front.0 name cell before (ap (first_place (bytes_eq name)) (sym front.1) ∙ number) in
        absurd (omega (arith, below, late))
    by false before h = h

take-here : (tables : List (List Dimension)) (t : ℕ) (table : List Dimension) → slice_get tables t ≡ Some table → slice_get (take (t + 1) tables) t ≡ Some table
take-here tables t table at = ap (λ n. slice_get (take n tables) t) (add-one t) ∙ by tables t at
  where
    by : (tables : List (List Dimension)) (t : ℕ) → slice_get tables t ≡ Some table → slice_get (take (suc t) tables) t ≡ Some table
    by [] t at = cc
    by (first ∷ tables) zero at = at
    by (first ∷ tables) (suc t) at = by tables t at

-- a cell at a place of a table is none behind the table's last
pub cell-early : (book : BookView) (t found : ℕ) (place : List ℕ) → cell_at book t place ≡ Some found → found < first_own book (t + 1)
cell-early book t found place is = by_table (slice_get book.tables t) refl is
  where
    inside : (table : List Dimension) → slice_get book.tables t ≡ Some table → (b : Bool) → is_in book table place ≡ b → (if b then number_of book (name_in_table book table place) else None) ≡ Some found → found < first_own book (t + 1)
    inside table at true good is =
        let front = front-cells book (t + 1) in
        let taken : slice_get (take (t + 1) book.tables) t ≡ Some table = take-here book.tables t table at in
        let among : is_named (cells_of book.trees (take (t + 1) book.tables)) (name_in_table book table place) ≡ true = place-named book.trees (take (t + 1) book.tables) t table place taken good in
        found-early (cells_of book.trees (take (t + 1) book.tables)) front.0 (name_in_table book table place) found among (ap (first_place (bytes_eq (name_in_table book table place))) (sym front.1) ∙ is)
    inside table at false good is = cc

    by_table : (found_table : Option (List Dimension)) → slice_get book.tables t ≡ found_table → option_and_then (λ table. if is_in book table place then number_of book (name_in_table book table place) else None) found_table ≡ Some found → found < first_own book (t + 1)
    by_table None at is = cc
    by_table (Some table) at is = inside table at (is_in book table place) refl is

-- ---- the one place of a cell in a table

pub spanned-code : (trees : List Tree) (table : List Dimension) (name : Name) → IsTable (length trees) table → is_named (named_by trees table) name ≡ true → (variable : ℕ) (d : Dimension) → dimension_of table variable ≡ Some d → has_code (cut_tree trees d) (get_or name variable 0) ≡ true
spanned-code trees table name sound h variable d spanned =
    ap (λ (found : Option Dimension). option_map_or (λ one. has_code (cut_tree trees one) (get_or name variable 0)) found (get_or name variable 0 == 0)) (sym spanned)
    ∙ named-codes trees table name h variable (known-below (length trees) table variable sound.known (sym (dimension-spans table variable) ∙ ap is_some spanned))

-- a name of a table is that of its place, which is one of the table's
pub name-back : (trees : List Tree) (table : List Dimension) (name : Name) → is_named (named_by trees table) name ≡ true → name_of (length trees) table (codes_at name table) ≡ name
name-back trees table name h =
    same-items (name_of (length trees) table (codes_at name table)) name (name_length table (codes_at name table) (length trees) ∙ sym (name-long trees table name h))
    (λ variable below. let under : variable < length trees = subst (λ n. variable < n) (name_length table (codes_at name table) (length trees)) below in
    name-codes (length trees) table (codes_at name table) variable under ∙ code-back name table variable
    ∙ ap (λ b. if b then get_or name variable 0 else 0) (sym (dimension-spans table variable))
    ∙ back variable (dimension_of table variable) (named-codes trees table name h variable under))
  where
    back : (variable : ℕ) (found : Option Dimension) → option_map_or (λ d. has_code (cut_tree trees d) (get_or name variable 0)) found (get_or name variable 0 == 0) ≡ true → (if is_some found then get_or name variable 0 else 0) ≡ get_or name variable 0
    back variable (Some d) good = refl
    back variable None good = sym ((Decides-eqb (get_or name variable 0) 0).0 good)

-- a cell of a table stands at exactly one place
pub stands-once : (book : BookView) (t first cell : ℕ) (table : List Dimension) (name : Name) (place : List ℕ) → slice_get book.tables t ≡ Some table → IsTable (length book.trees) table → slice_get (cells book) cell ≡ Some name → first ≤ cell
    → is_named (named_by book.trees table) name ≡ true → is_at book t first place cell ≡ bytes_eq place (codes_at name table)
stands-once book t first cell table name place at sound is late given = by (bytes_eq place (codes_at name table)) refl
  where
    good : is_place_in (trees_of book.trees table) (codes_at name table) ≡ true
    good = place-good book.trees name table sound.once (spanned-code book.trees table name sound given)

    here : cell_at book t (codes_at name table) ≡ Some cell
    here =
        ap (λ found. option_and_then (λ one. if is_in book one (codes_at name table) then number_of book (name_in_table book one (codes_at name table)) else None) found) at
        ∙ ap (λ b. if b then number_of book (name_in_table book table (codes_at name table)) else None) good
        ∙ ap (number_of book) (name-back book.trees table name given)
        ∙ found-where (cells book) cell name (once-cells book) is

    stands : is_at book t first (codes_at name table) cell ≡ true
    stands =
        let same : (cell == cell) ≡ true = (Decides-eqb cell cell).1 refl in
        let test : nat_le first cell ≡ true = grind (arith, nat_tests) in
        ap (λ found. option_map_or (λ one. one == cell && nat_le first one) found false) here ∙ rw (same, test) refl

    found : (o : Option ℕ) → option_map_or (λ one. one == cell && nat_le first one) o false ≡ true → o ≡ Some cell
    found None h = cc
    found (Some one) h = ap Some ((Decides-eqb one cell).0 (front (one == cell) (nat_le first one) h))
      where
        front : (a b : Bool) → (a && b) ≡ true → a ≡ true
        front true b h = refl
        front false b h = cc

    some-same : {a b : Name} → Some a ≡ Some b → a ≡ b
    some-same h = cc

    back : is_at book t first place cell ≡ true → place ≡ codes_at name table
    back h =
        let there : cell_at book t place ≡ Some cell = found (cell_at book t place) h in
        let same : name_at book t place ≡ name = some-same (sym (cell-named book t place cell there) ∙ is) in
        let whole : name_in_table book table place ≡ name = ap (λ o. option_map_or (λ one. name_in_table book one place) o []) (sym at) ∙ same in
        let inside : is_in book table place ≡ true = ap (λ o. option_map_or (λ one. is_in book one place) o false) (sym at) ∙ sym (cell-found book t place) ∙ ap is_some there in
        sym (place-of-name book.trees table place sound inside) ∙ ap (λ one. codes_at one table) whole

    never : (b : Bool) → is_at book t first place cell ≡ b → bytes_eq place (codes_at name table) ≡ false → is_at book t first place cell ≡ false
    never true h apart = let same : bytes_eq place (codes_at name table) ≡ true = (bytes_eq-Decides place (codes_at name table)).1 (back h) in cc
    never false h apart = h

    by : (b : Bool) → bytes_eq place (codes_at name table) ≡ b → is_at book t first place cell ≡ bytes_eq place (codes_at name table)
    by true same = subst (λ one. is_at book t first one cell ≡ true) (sym ((bytes_eq-Decides place (codes_at name table)).0 same)) stands ∙ sym same
    by false apart = never (is_at book t first place cell) refl apart ∙ sym apart

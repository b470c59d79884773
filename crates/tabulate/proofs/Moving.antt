-- Cells whose names differ for one variable alone: which table has them, and which has the lower number.
use Rattle.std.proofs.Common.{◌≡◌, ◌≢◌, ℕ, zero, suc, ◌+◌, ◌<◌, ◌≤◌, ◌==◌, ◌&&◌, ◌||◌, nat_lt, Less, Equal, Greater, Bool, true, false, List, [], ◌∷◌, ◌++◌, fold, length, map, take, get_or, set, slice_get, slice_set, slice_index, slice_index_or, bytes_eq, Option, None, Some, is_some, All, refl, ap, sym, ◌∙◌, subst, arith, ◌⊎◌, inl, inr, append_assoc}
use Rattle.std.specs.List.{AllByRecursion, flat_map}
use Rattle.std.specs.Option.{option_and_then, option_map_or}
use Rattle.std.specs.List.Sorted.{IsStrictlySortedBy}
use Rattle.std.specs.Cmp.Lexicographic.{slice_cmp}
use Rattle.std.specs.Ordering.{nat_cmp, ordering_then}
use Rattle.std.proofs.lemmas.Bool.Decides.{nat_tests, Decides-eqb}
use Rattle.std.proofs.lemmas.List.{length-set, get_or-set_same, get_or-set_other, map-append}
use Rattle.std.proofs.lemmas.List.Elements.{All-head, All-tail, All-take}
use Rattle.std.proofs.lemmas.List.Folds.{list_any-append}
use Rattle.std.proofs.lemmas.List.Sums.{fold-append}
use Rattle.std.proofs.lemmas.Option.{slice_get_within, get_or_from_slice_get}
use Rattle.std.proofs.lemmas.Slice.Eq.{bytes_eq-Decides}
use Rattle.sdc_base.specs.Trees.{Tree, IsCodeTree, parent_at}
use Rattle.sdc_base.specs.Records.{Name}
use Rattle.sdc_base.specs.Places.{first_place}
use Rattle.sdc_base.specs.Cells.{cells_of, cut_tree, is_named, named_by, name_of, places, trees_of, spans, with_name}
use Rattle.sdc_base.specs.CellOrder.{is_place_in}
use Rattle.sdc_base.specs.CutTrees.{has_code, is_within}
use Rattle.sdc_base.specs.declared.dimension.Dimension.{Dimension}
use Rattle.sdc_base.proofs.CutTrees.{parent-within as cut_parent_within}
use Rattle.sdc_base.proofs.Places.{places_are_lexicographic}
use Rattle.sdc_base.proofs.FirstNames.{all_named, names_are_first, stay}
use Rattle.sdc_base.proofs.Walks.{parent_is_earlier}
use Rattle.linked_tables.specs.BookViews.{BookView}
use Rattle.linked_tables.specs.Laws.{dimension_of, is_code}
use Rattle.linked_tables.specs.BookCells.{IsBook, IsTable, cells, first_own, number_of}
use Rattle.linked_tables.proofs.Finding.{found-name, named-found}
use Rattle.linked_tables.proofs.Sharing.{cells_by_code, codes_at, dimension-is, known-below, name-long, named-codes, place-good, place-of-name}
use Rattle.linked_tables.proofs.TableSteps.{cells-next}
use Rattle.tabulate.proofs.Standing.{at-front, found-early, front-cells, name-back, named-where, once-cells, own-named, spanned-code}
use Rattle.linked_tables.proofs.Guessing.{found-where}

-- ---- a table that has one has the other

pub set-back : (name : Name) (variable code : ℕ) → set (set name variable code) variable (get_or name variable 0) ≡ name
set-back [] variable code = refl
set-back (one ∷ name) zero code = refl
set-back (one ∷ name) (suc variable) code = ap (λ rest. one ∷ rest) (set-back name variable code)

pub moved-named : (trees : List Tree) (table : List Dimension) (name : Name) (variable code : ℕ) → IsTable (length trees) table → is_named (named_by trees table) name ≡ true → is_code trees table variable code ≡ true → is_named (named_by trees table) (set name variable code) ≡ true
moved-named trees table name variable code sound named fits =
    (cells_by_code trees table (set name variable code) sound (length-set name variable code ∙ name-long trees table name named)).1 (λ one below. each one below (one == variable) refl)
  where
    long : length name ≡ length trees
    long = name-long trees table name named

    each : (one : ℕ) → one < length trees → (b : Bool) → (one == variable) ≡ b → is_code trees table one (get_or (set name variable code) one 0) ≡ true
    each one below true is =
        let same : one ≡ variable = (Decides-eqb one variable).0 is in
        let read : get_or (set name variable code) variable 0 ≡ code = get_or-set_same name variable code 0 (omega (arith, same, below, long)) in
        subst (λ v. is_code trees table v (get_or (set name variable code) v 0) ≡ true) (sym same) (ap (λ c. is_code trees table variable c) read ∙ fits)
    each one below false is =
        let apart : one ≢ variable = λ same. let met : (one == variable) ≡ true = (Decides-eqb one variable).1 same in cc in
        ap (λ c. is_code trees table one c) (get_or-set_other name variable one code 0 apart) ∙ named-codes trees table name named one below

-- a table that has a code has also the code right above it
pub parent-fits : (trees : List Tree) (table : List Dimension) (variable code above : ℕ) → IsCodeTree (slice_index_or trees variable []) → parent_at (slice_index_or trees variable []) code ≡ Some above → is_code trees table variable code ≡ true → is_code trees table variable above ≡ true
parent-fits trees table variable code above good up fits = by (dimension_of table variable) refl fits
  where
    both : (a b : Bool) → (a && b) ≡ true → (a ≡ true) × (b ≡ true)
    both true b h = (refl, h)
    both false b h = cc

    none-some : (found : Option ℕ) → found ≡ None → found ≡ Some above → ⊥
    none-some None e g = absurd cc
    none-some (Some x) e g = absurd cc

    by : (found : Option Dimension) → dimension_of table variable ≡ found → option_map_or (λ d. has_code (cut_tree trees d) code) found (code == 0) ≡ true → option_map_or (λ d. has_code (cut_tree trees d) above) found (above == 0) ≡ true
    by None at h =
        let top : code ≡ 0 = (Decides-eqb code 0).0 h in
        absurd (none-some (parent_at (slice_index_or trees variable []) code) (ap (parent_at (slice_index_or trees variable [])) top ∙ good.total) up)
    by (Some d) at h =
        let same = dimension-is table variable d at in
        let tree : IsCodeTree (cut_tree trees d).tree = subst (λ v. IsCodeTree (slice_index_or trees v [])) (sym same) good in
        let parent : parent_at (cut_tree trees d).tree code ≡ Some above = subst (λ v. parent_at (slice_index_or trees v []) code ≡ Some above) (sym same) up in
        let parts = both (nat_lt code (length (cut_tree trees d).tree)) (is_within (cut_tree trees d) code) h in
        let less = parent_is_earlier (cut_tree trees d).tree tree code above parent in
        let first : nat_lt above (length (cut_tree trees d).tree) ≡ true = let lower = parts.0 in grind (arith, nat_tests, less, lower) in
        let second = cut_parent_within (cut_tree trees d) tree code above parent parts.1 in
        rw (first, second) refl

any-table : (trees : List Tree) (tables : List (List Dimension)) (name other : Name) → ((table : List Dimension) → IsTable (length trees) table → is_named (named_by trees table) name ≡ true → is_named (named_by trees table) other ≡ true)
    → All (IsTable (length trees)) tables → is_named (flat_map (named_by trees) tables) name ≡ true → is_named (flat_map (named_by trees) tables) other ≡ true
any-table trees [] name other each all h = cc
any-table trees (table ∷ tables) name other each all h =
    list_any-append (bytes_eq other) (named_by trees table) (flat_map (named_by trees) tables)
    ∙ by (is_named (named_by trees table) name) refl (sym (list_any-append (bytes_eq name) (named_by trees table) (flat_map (named_by trees) tables)) ∙ h) (λ more. any-table trees tables name other each (All-tail (IsTable (length trees)) table tables all) more)
  where
    either : (b : Bool) → (b || true) ≡ true
    either true = refl
    either false = refl

    by : (b : Bool) → is_named (named_by trees table) name ≡ b → (b || is_named (flat_map (named_by trees) tables) name) ≡ true → (is_named (flat_map (named_by trees) tables) name ≡ true → is_named (flat_map (named_by trees) tables) other ≡ true)
        → (is_named (named_by trees table) other || is_named (flat_map (named_by trees) tables) other) ≡ true
    by true is h rest = let here = each table (All-head (IsTable (length trees)) table tables all) is in rw here refl
    by false is h rest = let more = rest h in rw more (either (is_named (named_by trees table) other))

All-front : {X : Type 0} (P : X → Type 0) (n : ℕ) (xs : List X) → All P xs → All P (take n xs)
All-front P n xs all = All-take P n xs all

pub parent-within : (tree : Tree) (code above : ℕ) → parent_at tree code ≡ Some above → code < length tree
parent-within tree code above up = by (slice_get tree code) refl up
  where
    by : (found : Option (List ℕ × Option ℕ)) → slice_get tree code ≡ found → option_and_then (λ node. node.1) found ≡ Some above → code < length tree
    by None at h = cc
    by (Some node) at h = slice_get_within tree code node at

-- ---- the order of two places

cmp-same : (xs : List ℕ) → slice_cmp nat_cmp xs xs ≡ Equal
cmp-same [] = refl
cmp-same (x ∷ xs) =
    let less : nat_lt x x ≡ false = grind (arith, nat_tests) in
    let same : (x == x) ≡ true = grind (arith, nat_tests) in
    rw (less, same) (cmp-same xs)

codes-greater : (name : Name) (variable code : ℕ) → variable < length name → get_or name variable 0 < code → (table : List Dimension) → spans table variable ≡ true → slice_cmp nat_cmp (codes_at (set name variable code) table) (codes_at name table) ≡ Greater
codes-greater name variable code known above [] h = cc
codes-greater name variable code known above (one ∷ table) h = by (one.variable == variable) refl h (λ more. codes-greater name variable code known above table more)
  where
    by : (b : Bool) → (one.variable == variable) ≡ b → (b || spans table variable) ≡ true → (spans table variable ≡ true → slice_cmp nat_cmp (codes_at (set name variable code) table) (codes_at name table) ≡ Greater) → ordering_then (nat_cmp (get_or (set name variable code) one.variable 0) (get_or name one.variable 0)) (slice_cmp nat_cmp (codes_at (set name variable code) table) (codes_at name table)) ≡ Greater
    by true is h rest =
        let same : one.variable ≡ variable = (Decides-eqb one.variable variable).0 is in
        let read : get_or (set name variable code) one.variable 0 ≡ code = ap (λ v. get_or (set name variable code) v 0) same ∙ get_or-set_same name variable code 0 known in
        let other : get_or name one.variable 0 ≡ get_or name variable 0 = ap (λ v. get_or name v 0) same in
        let less : nat_lt code (get_or name variable 0) ≡ false = grind (arith, nat_tests, above) in
        let apart : (code == get_or name variable 0) ≡ false = grind (arith, nat_tests, above) in
        rw (read, other, less, apart) refl
    by false is h rest =
        let apart : one.variable ≢ variable = λ same. let met : (one.variable == variable) ≡ true = (Decides-eqb one.variable variable).1 same in cc in
        let read = get_or-set_other name variable one.variable code 0 apart in
        let less : nat_lt (get_or name one.variable 0) (get_or name one.variable 0) ≡ false = grind (arith, nat_tests) in
        let same : (get_or name one.variable 0 == get_or name one.variable 0) ≡ true = grind (arith, nat_tests) in
        rw (read, less, same) (rest h)

all-less : (r p : List ℕ) (ps : List (List ℕ)) → AllByRecursion (λ y. slice_cmp nat_cmp r y ≡ Less) ps → is_named ps p ≡ true → slice_cmp nat_cmp r p ≡ Less
all-less r p [] all h = cc
all-less r p (y ∷ ps) all h = by (bytes_eq p y) refl h (λ more. all-less r p ps all.1 more)
  where
    by : (b : Bool) → bytes_eq p y ≡ b → (b || is_named ps p) ≡ true → (is_named ps p ≡ true → slice_cmp nat_cmp r p ≡ Less) → slice_cmp nat_cmp r p ≡ Less
    by true is h rest = ap (slice_cmp nat_cmp r) ((bytes_eq-Decides p y).0 is) ∙ all.0
    by false is h rest = rest h

-- a front of the places has the lower one and not the higher one
record IsSplit (ps : List (List ℕ)) (p q : List ℕ) : Type 0 where
  front : List (List ℕ)
  back : List (List ℕ)
  whole : ps ≡ front ++ back
  has : is_named front p ≡ true
  lacks : is_named front q ≡ false

split-at : (ps : List (List ℕ)) (p q : List ℕ) → IsStrictlySortedBy (slice_cmp nat_cmp) ps → is_named ps p ≡ true → slice_cmp nat_cmp q p ≡ Greater → IsSplit ps p q
unfolding IsStrictlySortedBy
split-at [] p q sorted h above = cc
split-at (r ∷ ps) p q sorted h above = by (bytes_eq p r) refl h (λ more. split-at ps p q sorted.1 more above)
  where
    apart : (b : Bool) → bytes_eq q p ≡ b → b ≡ false
    apart true is = let same : q ≡ p = (bytes_eq-Decides q p).0 is in let equal : slice_cmp nat_cmp q p ≡ Equal = ap (λ one. slice_cmp nat_cmp one p) same ∙ cmp-same p in cc
    apart false is = refl

    first : (b : Bool) → bytes_eq q r ≡ b → is_named ps p ≡ true → b ≡ false
    first true is named = let same : q ≡ r = (bytes_eq-Decides q r).0 is in let less : slice_cmp nat_cmp q p ≡ Less = ap (λ one. slice_cmp nat_cmp one p) same ∙ all-less r p ps sorted.0 named in cc
    first false is named = refl

    or-false : (b : Bool) → (b || false) ≡ b
    or-false true = refl
    or-false false = refl

    by : (b : Bool) → bytes_eq p r ≡ b → (b || is_named ps p) ≡ true → (is_named ps p ≡ true → IsSplit ps p q) → IsSplit (r ∷ ps) p q
    by true is h rest =
        let same : p ≡ r = (bytes_eq-Decides p r).0 is in
        record { front = r ∷ []; back = ps; whole = refl; has = ap (λ b. b || false) is; lacks = ap (λ b. b || false) (ap (bytes_eq q) (sym same) ∙ apart (bytes_eq q p) refl) }
    by false is h rest =
        let more = rest h in
        record {
          front = r ∷ more.front;
          back = more.back;
          whole = ap (λ t. r ∷ t) more.whole;
          has = ap (λ b. b || is_named more.front p) is ∙ more.has;
          lacks = ap (λ b. b || is_named more.front q) (first (bytes_eq q r) refl h) ∙ more.lacks;
        }

-- ---- the numbers of both

-- the cell is one that table t is the first to name
pub record IsOwn (book : BookView) (t cell : ℕ) (name : Name) : Type 0 where
  pub at : slice_get (cells book) cell ≡ Some name
  pub late : first_own book t ≤ cell
  pub early : cell < first_own book (t + 1)

-- with this code the cell is another one of them, and stands behind it
pub record HasChild (book : BookView) (t cell : ℕ) (name : Name) (variable code : ℕ) : Type 0 where
  pub number : ℕ
  pub is : number_of book (slice_set name variable code) ≡ Some number
  pub later : cell < number
  pub early : number < first_own book (t + 1)

pub own-number : (book : BookView) (t cell : ℕ) (name : Name) → IsOwn book t cell name → number_of book name ≡ Some cell
own-number book t cell name own = found-where (cells book) cell name (once-cells book) own.at

pub own-of : (book : BookView) (t cell : ℕ) (table : List Dimension) (name : Name) → slice_get book.tables t ≡ Some table → IsOwn book t cell name → is_named (named_by book.trees table) name ≡ true
own-of book t cell table name at own = own-named book t cell table name at own.at own.late own.early

unmapped : (variables : ℕ) (table : List Dimension) (found : List (List ℕ)) (name : Name) → is_named (map (name_of variables table) found) name ≡ true → (place : List ℕ) × (is_named found place ≡ true) × (name ≡ name_of variables table place)
unmapped variables table [] name h = cc
unmapped variables table (place ∷ found) name h = by (bytes_eq name (name_of variables table place)) refl h (λ more. unmapped variables table found name more)
  where
    either : (b : Bool) → (b || true) ≡ true
    either true = refl
    either false = refl

    by : (b : Bool) → bytes_eq name (name_of variables table place) ≡ b → (b || is_named (map (name_of variables table) found) name) ≡ true
        → (is_named (map (name_of variables table) found) name ≡ true → (one : List ℕ) × (is_named found one ≡ true) × (name ≡ name_of variables table one)) → (one : List ℕ) × (is_named (place ∷ found) one ≡ true) × (name ≡ name_of variables table one)
    by true is h rest = let same : bytes_eq place place ≡ true = (bytes_eq-Decides place place).1 refl in (place, rw same refl, (bytes_eq-Decides name (name_of variables table place)).0 is)
    by false is h rest = let more = rest h in (more.0, rw more.1 (either (bytes_eq more.0 place)), more.2)

mapped : (variables : ℕ) (table : List Dimension) (found : List (List ℕ)) (place : List ℕ) → is_named found place ≡ true → is_named (map (name_of variables table) found) (name_of variables table place) ≡ true
mapped variables table [] place h = cc
mapped variables table (other ∷ found) place h = by (bytes_eq place other) refl h (λ more. mapped variables table found place more)
  where
    either : (b : Bool) → (b || true) ≡ true
    either true = refl
    either false = refl

    by : (b : Bool) → bytes_eq place other ≡ b → (b || is_named found place) ≡ true → (is_named found place ≡ true → is_named (map (name_of variables table) found) (name_of variables table place) ≡ true)
        → (bytes_eq (name_of variables table place) (name_of variables table other) || is_named (map (name_of variables table) found) (name_of variables table place)) ≡ true
    by true is h rest = let same : bytes_eq (name_of variables table place) (name_of variables table other) ≡ true = (bytes_eq-Decides _ _).1 (ap (name_of variables table) ((bytes_eq-Decides place other).0 is)) in rw same refl
    by false is h rest = let more = rest h in rw more (either (bytes_eq (name_of variables table place) (name_of variables table other)))

module _ (book : BookView) (t cell : ℕ) (table : List Dimension) (name : Name) (variable code : ℕ) (is : IsBook book) (at : slice_get book.tables t ≡ Some table) (own : IsOwn book t cell name) (spanned : spans table variable ≡ true) (fits : is_code book.trees table variable code ≡ true) (up : parent_at (slice_index_or book.trees variable []) code ≡ Some (slice_index name variable)) where
  trees : List Tree
  trees = book.trees

  tree : Tree
  tree = slice_index_or book.trees variable []

  other : Name
  other = set name variable code

  sound : IsTable (length book.trees) table
  sound = subst (IsTable (length book.trees)) (get_or_from_slice_get book.tables t table [] at) (is.tables t [] (slice_get_within book.tables t table at))

  known : variable < length book.trees
  known = known-below (length book.trees) table variable sound.known spanned

  good : IsCodeTree (slice_index_or book.trees variable [])
  good = is.trees variable [] known

  inside : code < length (slice_index_or book.trees variable [])
  inside = parent-within (slice_index_or book.trees variable []) code (slice_index name variable) up

  above : get_or name variable 0 < code
  above = parent_is_earlier (slice_index_or book.trees variable []) good code (slice_index name variable) up

  named : is_named (named_by book.trees table) name ≡ true
  named = own-of book t cell table name at own

  long : length name ≡ length book.trees
  long = name-long book.trees table name named

  other-named : is_named (named_by book.trees table) (set name variable code) ≡ true
  other-named = moved-named book.trees table name variable code sound named fits

  -- a table that has the other one has this one
  back : (one : List Dimension) → IsTable (length book.trees) one → is_named (named_by book.trees one) (set name variable code) ≡ true → is_named (named_by book.trees one) name ≡ true
  back one good_one has =
      subst (λ n. is_named (named_by book.trees one) n ≡ true) (set-back name variable code)
      (moved-named book.trees one (set name variable code) variable (get_or name variable 0) good_one has
      (parent-fits book.trees one variable code (get_or name variable 0) good up (ap (λ c. is_code book.trees one variable c) (sym read) ∙ named-codes book.trees one (set name variable code) has variable known)))
    where
      read : get_or (set name variable code) variable 0 ≡ code
      read = get_or-set_same name variable code 0 (omega (arith, known, long))

  before : List Name
  before = cells_of book.trees (take t book.tables)

  -- no table before has it
  fresh : (b : Bool) → is_named (cells_of book.trees (take t book.tables)) (set name variable code) ≡ b → b ≡ false
  fresh true h =
      let given = sym (names_are_first.all (flat_map (named_by book.trees) (take t book.tables)) (set name variable code)) ∙ h in
      let also = any-table book.trees (take t book.tables) (set name variable code) name back (All-front (IsTable (length book.trees)) t book.tables is.tables) given in
      let met : is_named (cells_of book.trees (take t book.tables)) name ≡ true = names_are_first.all (flat_map (named_by book.trees) (take t book.tables)) name ∙ also in
      let front = front-cells book t in
      let early = found-early (cells_of book.trees (take t book.tables)) front.0 name cell met (ap (first_place (bytes_eq name)) (sym front.1) ∙ own-number book t cell name own) in
      absurd (omega (arith, early, own.late))
  fresh false h = refl

  place-in : is_named (places (trees_of book.trees table)) (codes_at name table) ≡ true
  place-in = places_are_lexicographic.all (trees_of book.trees table) (codes_at name table) ∙ place-good book.trees name table sound.once (spanned-code book.trees table name sound named)

  split : IsSplit (places (trees_of book.trees table)) (codes_at name table) (codes_at (set name variable code) table)
  split =
      split-at (places (trees_of book.trees table)) (codes_at name table) (codes_at (set name variable code) table) (places_are_lexicographic.ascending (trees_of book.trees table)) place-in
      (codes-greater name variable code (omega (arith, known, long)) above table spanned)

  f : List ℕ → Name
  f = name_of (length book.trees) table

  -- the names up to this one
  names : List Name
  names = fold with_name (cells_of book.trees (take t book.tables)) (map (name_of (length book.trees) table) split.front)

  next : cells_of book.trees (take (t + 1) book.tables) ≡ fold with_name names (map (name_of (length book.trees) table) split.back)
  unfolding names split
  next =
      cells-next book.trees book.tables t table at
      ∙ ap (λ ps. fold with_name (cells_of book.trees (take t book.tables)) (map (name_of (length book.trees) table) ps)) split.whole
      ∙ ap (fold with_name (cells_of book.trees (take t book.tables))) (map-append (name_of (length book.trees) table) split.front split.back)
      ∙ fold-append with_name (cells_of book.trees (take t book.tables)) (map (name_of (length book.trees) table) split.front) (map (name_of (length book.trees) table) split.back)

  whole : (later : List Name) × (cells book ≡ names ++ later)
  whole =
      let more = stay names (map (name_of (length book.trees) table) split.back) in
      let front = front-cells book (t + 1) in
      (more.0 ++ front.0, front.1 ∙ ap (λ ns. ns ++ front.0) (next ∙ more.1) ∙ append_assoc names more.0 front.0)

  has : is_named names name ≡ true
  unfolding names split
  has =
      all_named (cells_of book.trees (take t book.tables)) (map (name_of (length book.trees) table) split.front) name
      ∙ ap (λ b. is_named (cells_of book.trees (take t book.tables)) name || b) (subst (λ n. is_named (map (name_of (length book.trees) table) split.front) n ≡ true) (name-back book.trees table name named) (mapped (length book.trees) table split.front (codes_at name table) split.has))
      ∙ either (is_named (cells_of book.trees (take t book.tables)) name)
    where
      either : (b : Bool) → (b || true) ≡ true
      either true = refl
      either false = refl

  none-mapped : (b : Bool) → is_named (map (name_of (length book.trees) table) split.front) (set name variable code) ≡ b → b ≡ false
  none-mapped true h =
      let found = unmapped (length book.trees) table split.front (set name variable code) h in
      let all : is_named (places (trees_of book.trees table)) found.0 ≡ true = ap (λ ps. is_named ps found.0) split.whole ∙ list_any-append (bytes_eq found.0) split.front split.back ∙ ap (λ b. b || is_named split.back found.0) found.1 in
      let place : is_place_in (trees_of book.trees table) found.0 ≡ true = sym (places_are_lexicographic.all (trees_of book.trees table) found.0) ∙ all in
      let same : codes_at (set name variable code) table ≡ found.0 = ap (λ n. codes_at n table) found.2 ∙ place-of-name book.trees table found.0 sound place in
      let met : is_named split.front (codes_at (set name variable code) table) ≡ true = ap (is_named split.front) same ∙ found.1 in
      let lacks = split.lacks in
      cc
  none-mapped false h = refl

  lacks : is_named names (set name variable code) ≡ false
  unfolding names split
  lacks =
      all_named (cells_of book.trees (take t book.tables)) (map (name_of (length book.trees) table) split.front) (set name variable code)
      ∙ ap (λ b. b || is_named (map (name_of (length book.trees) table) split.front) (set name variable code)) (fresh (is_named (cells_of book.trees (take t book.tables)) (set name variable code)) refl)
      ∙ none-mapped (is_named (map (name_of (length book.trees) table) split.front) (set name variable code)) refl

  among : is_named (cells_of book.trees (take (t + 1) book.tables)) (set name variable code) ≡ true
  among =
      ap (λ ns. is_named ns (set name variable code)) (cells-next book.trees book.tables t table at)
      ∙ all_named (cells_of book.trees (take t book.tables)) (named_by book.trees table) (set name variable code)
      ∙ ap (λ b. is_named (cells_of book.trees (take t book.tables)) (set name variable code) || b) other-named
      ∙ either (is_named (cells_of book.trees (take t book.tables)) (set name variable code))
    where
      either : (b : Bool) → (b || true) ≡ true
      either true = refl
      either false = refl

  pub child : HasChild book t cell name variable code
  child = by (number_of book (set name variable code)) refl
    where
      front : (later : List Name) × (cells book ≡ cells_of book.trees (take (t + 1) book.tables) ++ later)
      front = front-cells book (t + 1)

      there : is_named (cells book) (set name variable code) ≡ true
      there =
          ap (λ ns. is_named ns (set name variable code)) front.1
          ∙ list_any-append (bytes_eq (set name variable code)) (cells_of book.trees (take (t + 1) book.tables)) front.0
          ∙ ap (λ b. b || is_named front.0 (set name variable code)) among

      behind : (k : ℕ) → number_of book (set name variable code) ≡ Some k → (k < length names) ⊎ (length names ≤ k) → length names ≤ k
      behind k found (inr late) = late
      behind k found (inl early) =
          let here : slice_get names k ≡ Some (set name variable code) = sym (at-front names whole.0 k early) ∙ ap (λ ns. slice_get ns k) (sym whole.1) ∙ found-name (cells book) (set name variable code) k found in
          let met = named-where names k (set name variable code) here in
          let none = lacks in
          cc

      less_or : (a b : ℕ) → (a < b) ⊎ (b ≤ a)
      less_or a b = grind arith

      by : (found : Option ℕ) → number_of book (set name variable code) ≡ found → HasChild book t cell name variable code
      by None found = let some = named-found (cells book) (set name variable code) ∙ there in let none : is_some (number_of book (set name variable code)) ≡ false = ap is_some found in cc
      by (Some k) found = record {
        number = k;
        is = found;
        later =
            let first = found-early names whole.0 name cell has (ap (first_place (bytes_eq name)) (sym whole.1) ∙ own-number book t cell name own) in
            let late = behind k found (less_or k (length names)) in
            omega (arith, first, late);
        early = found-early (cells_of book.trees (take (t + 1) book.tables)) front.0 (set name variable code) k among (ap (first_place (bytes_eq (set name variable code))) (sym front.1) ∙ found);
      }

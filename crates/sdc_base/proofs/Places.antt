-- The places of a table.
use Rattle.std.proofs.Common.{◌≡◌, ℕ, zero, suc, ◌+◌, ◌≤◌, ◌==◌, nat_lt, nat_le, Less, Equal, Bool, true, false, ◌||◌, ◌&&◌, cond, List, [], ◌∷◌, ◌++◌, length, map, filter, bytes_eq, arith, refl, ap, sym, ◌∙◌}
use Rattle.std.specs.List.{flat_map, range_with_len, AllByRecursion}
use Rattle.std.specs.List.Sorted.{IsStrictlySortedBy}
use Rattle.std.specs.Cmp.{nat_cmp_is}
use Rattle.std.specs.Cmp.Lexicographic.{slice_cmp}
use Rattle.std.specs.Ordering.{nat_cmp, ordering_then}
use Rattle.std.proofs.lemmas.Bool.Decides.{nat_tests, Decides-eqb}
use Rattle.std.proofs.lemmas.List.Folds.{list_any-append}
use Rattle.sdc_base.specs.CutTrees.{CutTree, codes_within, has_code, is_within}
use Rattle.sdc_base.specs.Cells.{places, is_named}
use Rattle.sdc_base.specs.CellOrder.{is_place_in, PlacesAreLexicographic}

-- the places that begin with this code
abbrev starting : ℕ → List (List ℕ) → List (List ℕ)
starting code rests = map (λ rest. code ∷ rest) rests

-- the places that begin with one of n codes from a on that are kept
abbrev blocks : (ℕ → Bool) → List (List ℕ) → ℕ → ℕ → List (List ℕ)
blocks keep rests a n = flat_map (λ code. starting code rests) (filter keep (range_with_len a n))

-- the same, where it is known whether a is kept
abbrev first_blocks : (ℕ → Bool) → List (List ℕ) → ℕ → ℕ → Bool → List (List ℕ)
first_blocks keep rests a n kept =
    flat_map (λ code. starting code rests) (cond kept (a ∷ filter keep (range_with_len (a + 1) n)) (filter keep (range_with_len (a + 1) n)))

-- ---- all places

named_starting : (code first : ℕ) (rests : List (List ℕ)) (place : List ℕ) → is_named (starting code rests) (first ∷ place) ≡ ((first == code) && is_named rests place)
named_starting code first [] place = elim (first == code) as (λ b. false ≡ (b && false)) [ true ↦ refl | false ↦ refl ]
named_starting code first (rest ∷ rests) place =
    ap (λ b. ((first == code) && bytes_eq place rest) || b) (named_starting code first rests place)
    ∙ elim (first == code) as (λ b. ((b && bytes_eq place rest) || (b && is_named rests place)) ≡ (b && (bytes_eq place rest || is_named rests place))) [ true ↦ refl | false ↦ refl ]

-- the code is one of n from a on, and kept
abbrev is_kept : (ℕ → Bool) → ℕ → ℕ → ℕ → Bool
is_kept keep a n code = (nat_le a code && nat_lt code (a + n)) && keep code

-- one of n + 1 codes that are kept is the first, or one of the rest
kept_first : (keep : ℕ → Bool) (a n code : ℕ) → keep a ≡ true → ((code == a) || is_kept keep (a + 1) n code) ≡ is_kept keep a (suc n) code
kept_first keep a n code kept =
    elim (code == a) as (λ b. (code == a) ≡ b → (b || is_kept keep (a + 1) n code) ≡ is_kept keep a (suc n) code) [
      | true ↦ λ is.
          let same : code ≡ a = (Decides-eqb code a).0 is in
          let here : (nat_le a code && nat_lt code (a + suc n)) ≡ true = grind (arith, nat_tests, same) in
          let this : keep code ≡ true = ap keep same ∙ kept in
          rw (here, this) refl
      | false ↦ λ is. let tests : (nat_le (a + 1) code && nat_lt code ((a + 1) + n)) ≡ (nat_le a code && nat_lt code (a + suc n)) = grind (arith, nat_tests, is) in ap (λ b. b && keep code) tests
    ] refl

kept_later : (keep : ℕ → Bool) (a n code : ℕ) → keep a ≡ false → is_kept keep (a + 1) n code ≡ is_kept keep a (suc n) code
kept_later keep a n code passed =
    elim (code == a) as (λ b. (code == a) ≡ b → is_kept keep (a + 1) n code ≡ is_kept keep a (suc n) code) [
      | true ↦ λ is.
          let same : code ≡ a = (Decides-eqb code a).0 is in
          let this : keep code ≡ false = ap keep same ∙ passed in
          ap (λ b. (nat_le (a + 1) code && nat_lt code ((a + 1) + n)) && b) this ∙ never (nat_le (a + 1) code && nat_lt code ((a + 1) + n)) ∙ sym (never (nat_le a code && nat_lt code (a + suc n))) ∙ ap (λ b. (nat_le a code && nat_lt code (a + suc n)) && b) (sym this)
      | false ↦ λ is. let tests : (nat_le (a + 1) code && nat_lt code ((a + 1) + n)) ≡ (nat_le a code && nat_lt code (a + suc n)) = grind (arith, nat_tests, is) in ap (λ b. b && keep code) tests
    ] refl
  where
    never : (b : Bool) → (b && false) ≡ false
    never true = refl
    never false = refl

named_blocks : (keep : ℕ → Bool) (rests : List (List ℕ)) (a n first : ℕ) (place : List ℕ) → is_named (blocks keep rests a n) (first ∷ place) ≡ (is_kept keep a n first && is_named rests place)
named_blocks keep rests a zero first place =
    let none : (nat_le a first && nat_lt first (a + 0)) ≡ false = grind (arith, nat_tests) in
    rw none refl
named_blocks keep rests a (suc n) first place =
    elim (keep a) as (λ b. keep a ≡ b → is_named (first_blocks keep rests a n b) (first ∷ place) ≡ (is_kept keep a (suc n) first && is_named rests place)) [
      | true ↦ λ is.
          list_any-append (bytes_eq (first ∷ place)) (starting a rests) (blocks keep rests (a + 1) n)
          ∙ ap (λ b. b || is_named (blocks keep rests (a + 1) n) (first ∷ place)) (named_starting a first rests place)
          ∙ ap (λ b. ((first == a) && is_named rests place) || b) (named_blocks keep rests (a + 1) n first place)
          ∙ join (first == a) (is_kept keep (a + 1) n first) (is_named rests place)
          ∙ ap (λ b. b && is_named rests place) (kept_first keep a n first is)
      | false ↦ λ is. named_blocks keep rests (a + 1) n first place ∙ ap (λ b. b && is_named rests place) (kept_later keep a n first is)
    ] refl
  where
    join : (b c d : Bool) → ((b && d) || (c && d)) ≡ ((b || c) && d)
    join true true true = refl
    join true true false = refl
    join true false true = refl
    join true false false = refl
    join false c d = refl

empty_starting : (code : ℕ) (rests : List (List ℕ)) → is_named (starting code rests) [] ≡ false
empty_starting code [] = refl
empty_starting code (rest ∷ rests) = empty_starting code rests

empty_blocks : (rests : List (List ℕ)) (codes : List ℕ) → is_named (flat_map (λ code. starting code rests) codes) [] ≡ false
empty_blocks rests [] = refl
empty_blocks rests (code ∷ codes) =
    list_any-append (bytes_eq []) (starting code rests) (flat_map (λ one. starting one rests) codes) ∙ rw (empty_starting code rests) (empty_blocks rests codes)

all_places : (trees : List CutTree) (place : List ℕ) → is_named (places trees) place ≡ is_place_in trees place
all_places [] [] = refl
all_places [] (code ∷ place) = refl
all_places (tree ∷ trees) [] = empty_blocks (places trees) (codes_within tree)
all_places (tree ∷ trees) (code ∷ place) =
    let tests : (nat_le 0 code && nat_lt code (0 + length tree.tree)) ≡ nat_lt code (length tree.tree) = grind (arith, nat_tests) in
    named_blocks (is_within tree) (places trees) 0 (length tree.tree) code place
    ∙ ap (λ b. (b && is_within tree code) && is_named (places trees) place) tests
    ∙ ap (λ b. has_code tree code && b) (all_places trees place)

-- ---- in lexicographic order

abbrev Before : List ℕ → List ℕ → Type 0
Before one other = slice_cmp nat_cmp one other ≡ Less

-- it begins with a code from a on
abbrev BeginsFrom : ℕ → List ℕ → Type 0
BeginsFrom a place = (code : ℕ) × (rest : List ℕ) × (place ≡ code ∷ rest) × (a ≤ code)

starting_from : (a code : ℕ) (rests more : List (List ℕ)) → a ≤ code → AllByRecursion (BeginsFrom a) more → AllByRecursion (BeginsFrom a) (starting code rests ++ more)
starting_from a code [] more h all = all
starting_from a code (rest ∷ rests) more h all = ((code, rest, refl, h), starting_from a code rests more h all)

blocks_from : (keep : ℕ → Bool) (rests : List (List ℕ)) (least a n : ℕ) → least ≤ a → AllByRecursion (BeginsFrom least) (blocks keep rests a n)
blocks_from keep rests least a zero h = tt
blocks_from keep rests least a (suc n) h =
    elim (keep a) as (λ b. AllByRecursion (BeginsFrom least) (first_blocks keep rests a n b)) [
      | true ↦ starting_from least a rests (blocks keep rests (a + 1) n) h (blocks_from keep rests least (a + 1) n (omega arith))
      | false ↦ blocks_from keep rests least (a + 1) n (omega arith)
    ]

same_code : (code : ℕ) → nat_cmp code code ≡ Equal
same_code code = sym (nat_cmp_is code code Equal refl)

before_all : (code : ℕ) (place : List ℕ) (more : List (List ℕ)) → AllByRecursion (BeginsFrom (code + 1)) more → AllByRecursion (Before (code ∷ place)) more
before_all code place [] all = tt
before_all code place (other ∷ more) all =
    let found = all.0 in
    let less : nat_cmp code found.0 ≡ Less = sym (nat_cmp_is code found.0 Less (omega (arith, found.3))) in
    (ap (λ p. slice_cmp nat_cmp (code ∷ place) p) found.2 ∙ ap (λ o. ordering_then o (slice_cmp nat_cmp place found.1)) less, before_all code place more all.1)

before_starting : (code : ℕ) (place : List ℕ) (rests more : List (List ℕ)) → AllByRecursion (Before place) rests → AllByRecursion (Before (code ∷ place)) more → AllByRecursion (Before (code ∷ place)) (starting code rests ++ more)
before_starting code place [] more all rest = rest
before_starting code place (other ∷ rests) more all rest = (ap (λ o. ordering_then o (slice_cmp nat_cmp place other)) (same_code code) ∙ all.0, before_starting code place rests more all.1 rest)

sorted_starting : (code : ℕ) (rests more : List (List ℕ)) → IsStrictlySortedBy (slice_cmp nat_cmp) rests → AllByRecursion (BeginsFrom (code + 1)) more → IsStrictlySortedBy (slice_cmp nat_cmp) more → IsStrictlySortedBy (slice_cmp nat_cmp) (starting code rests ++ more)
unfolding IsStrictlySortedBy
sorted_starting code [] more sorted from rest = rest
sorted_starting code (place ∷ rests) more sorted from rest =
    (before_starting code place rests more sorted.0 (before_all code place more from), sorted_starting code rests more sorted.1 from rest)

sorted_blocks : (keep : ℕ → Bool) (rests : List (List ℕ)) (a n : ℕ) → IsStrictlySortedBy (slice_cmp nat_cmp) rests → IsStrictlySortedBy (slice_cmp nat_cmp) (blocks keep rests a n)
unfolding IsStrictlySortedBy
sorted_blocks keep rests a zero sorted = tt
sorted_blocks keep rests a (suc n) sorted =
    elim (keep a) as (λ b. IsStrictlySortedBy (slice_cmp nat_cmp) (first_blocks keep rests a n b)) [
      | true ↦ sorted_starting a rests (blocks keep rests (a + 1) n) sorted (blocks_from keep rests (a + 1) (a + 1) n (omega arith)) (sorted_blocks keep rests (a + 1) n sorted)
      | false ↦ sorted_blocks keep rests (a + 1) n sorted
    ]

ascending_places : (trees : List CutTree) → IsStrictlySortedBy (slice_cmp nat_cmp) (places trees)
unfolding IsStrictlySortedBy
ascending_places [] = (tt, tt)
ascending_places (tree ∷ trees) = sorted_blocks (is_within tree) (places trees) 0 (length tree.tree) (ascending_places trees)

pub places_are_lexicographic : PlacesAreLexicographic
places_are_lexicographic = record { all = all_places; ascending = ascending_places }

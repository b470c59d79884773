-- A relation's number put on the list of its component.
use Rattle.std.proofs.Common.{◌≡◌, ◌≢◌, ℕ, zero, suc, ◌+◌, ◌<◌, ◌≤◌, ◌==◌, ◌||◌, Bool, true, false, List, [], ◌∷◌, ◌++◌, cond, filter, length, map, replicate, slice_get, slice_set, slice_index, slice_index_or, get_or, set, take, is_some, Option, None, Some, IfSome, Vec, ◌⊎◌, inl, inr, arith, refl, ap, sym, ◌∙◌}
use Rattle.std.specs.List.{list_any, range_with_len}
use Rattle.std.proofs.lemmas.Bool.Decides.{Decides-eqb}
use Rattle.std.specs.Option.{option_map_or}
use Rattle.std.specs.declared.alloc.Global.{Global}
use Rattle.std.proofs.lemmas.List.{append-nil, length-map, map-set, take_all, take_more}
use Rattle.std.proofs.lemmas.List.Elements.{filter-append}
use Rattle.std.proofs.lemmas.List.Folds.{list_any-append}
use Rattle.std.proofs.lemmas.List.FromFn.{get_or-map-range_with_len, length-map-range_with_len}
use Rattle.sdc_base.specs.declared.relation.Relation.{Relation}
use Rattle.sdc_base.specs.HiddenSets.{is_hidden}
use Rattle.sdc_base.specs.Components.{AreComponents, component, is_of, mentions}
use Rattle.sdc_base.specs.ComponentRows.{lists_in, put_in, stands_in}
use Rattle.sdc_base.proofs.Chains.{linked-related}
use Rattle.sdc_base.proofs.Connecting.{alone-more}

-- ---- one component for each relation

either : (a b : Bool) → (a || b) ≡ true → (a ≡ true) ⊎ (b ≡ true)
either true b h = inl refl
either false b h = inr h

or-true : (a : Bool) → (a || true) ≡ true
or-true true = refl
or-true false = refl

of-some : (number : ℕ) (o : Option ℕ) → is_of number o ≡ true → o ≡ Some number
of-some number None h = cc
of-some number (Some other) h = ap Some ((Decides-eqb other number).0 h)

part-cell : (of : List (Option ℕ)) (number : ℕ) (parts : List ℕ) → list_any (λ part. is_of number (component of part)) parts ≡ true → (cell : ℕ) × (list_any (λ part. part == cell) parts ≡ true) × (component of cell ≡ Some number)
part-cell of number [] h = absurd cc
part-cell of number (part ∷ parts) h = pick (λ later. part-cell of number parts later) (either (is_of number (component of part)) (list_any (λ other. is_of number (component of other)) parts) h)
  where
    pick : (list_any (λ other. is_of number (component of other)) parts ≡ true → (cell : ℕ) × (list_any (λ other. other == cell) parts ≡ true) × (component of cell ≡ Some number))
        → (is_of number (component of part) ≡ true) ⊎ (list_any (λ other. is_of number (component of other)) parts ≡ true) → (cell : ℕ) × (list_any (λ other. other == cell) (part ∷ parts) ≡ true) × (component of cell ≡ Some number)
    pick rest (inl here) = (part, ap (λ b. b || list_any (λ other. other == part) parts) ((Decides-eqb part part).1 refl), of-some number (component of part) here)
    pick rest (inr later) = let found = rest later in (found.0, ap (λ b. part == found.0 || b) found.1 ∙ or-true (part == found.0), found.2)

-- a cell that the relation names is in the component
standing-cell : (of : List (Option ℕ)) (number : ℕ) (r : Relation) → stands_in of number r ≡ true → (cell : ℕ) × (mentions r cell ≡ true) × (component of cell ≡ Some number)
standing-cell of number r h = by (either (is_of number (component of r.total)) (list_any (λ part. is_of number (component of part)) r.parts) h)
  where
    by : (is_of number (component of r.total) ≡ true) ⊎ (list_any (λ part. is_of number (component of part)) r.parts ≡ true) → (cell : ℕ) × (mentions r cell ≡ true) × (component of cell ≡ Some number)
    by (inl total) = (r.total, ap (λ b. b || list_any (λ part. part == r.total) r.parts) ((Decides-eqb r.total r.total).1 refl), of-some number (component of r.total) total)
    by (inr part) = let found = part-cell of number r.parts part in (found.0, ap (λ b. r.total == found.0 || b) found.1 ∙ or-true (r.total == found.0), found.2)

-- a cell that has a component is hidden
hidden-if : (relations : List Relation) (flags : List Bool) (of : List (Option ℕ)) (sizes : List ℕ) → AreComponents relations flags of sizes → (cell number : ℕ) → component of cell ≡ Some number → is_hidden flags cell ≡ true
hidden-if relations flags of sizes are cell number some = elim (is_hidden flags cell) as (λ b. is_hidden flags cell ≡ b → b ≡ true) [
  | true ↦ λ is. refl
  | false ↦ λ is. let none : component of cell ≡ None = are.shown cell is in absurd cc
] refl

-- cells of one component alone stand in a relation
pub one-stands : (relations : List Relation) (flags : List Bool) (of : List (Option ℕ)) (sizes : List ℕ) → AreComponents relations flags of sizes → (k : ℕ) (r : Relation) → slice_get relations k ≡ Some r
    → (one other : ℕ) → stands_in of one r ≡ true → stands_in of other r ≡ true → one ≡ other
one-stands relations flags of sizes are k r at one other first second =
    let here = standing-cell of one r first in
    let there = standing-cell of other r second in
    let hidden = hidden-if relations flags of sizes are here.0 one here.2 in
    let hidden_there = hidden-if relations flags of sizes are there.0 other there.2 in
    let linked = linked-related relations flags here.0 there.0 (record { one_hidden = hidden; other_hidden = hidden_there; number = k; relation = r; at = at; names_one = here.1; names_other = there.1 }) in
    let same : component of here.0 ≡ component of there.0 = (are.linked here.0 there.0 hidden hidden_there).1 linked in
    let some : Some one ≡ Some other = sym here.2 ∙ same ∙ there.2 in
    cc

-- and its number is one of the components'
pub stands-within : (relations : List Relation) (flags : List Bool) (of : List (Option ℕ)) (sizes : List ℕ) → AreComponents relations flags of sizes → (r : Relation) (number : ℕ) → stands_in of number r ≡ true → number < length sizes
stands-within relations flags of sizes are r number h = let found = standing-cell of number r h in are.within found.0 number found.2

-- ---- one relation after another

-- the lists of those below a number
abbrev pub lists_below : (ℕ → ℕ → Bool) → ℕ → ℕ → List (List ℕ)
lists_below stands k n = map (λ number. filter (stands number) (range_with_len 0 k)) (range_with_len 0 n)

pub lists-none : (stands : ℕ → ℕ → Bool) (a n : ℕ) → replicate n [] ≡ map (λ number. filter (stands number) (range_with_len 0 0)) (range_with_len a n)
lists-none stands a zero = refl
lists-none stands a (suc n) = ap (λ rest. [] ∷ rest) (lists-none stands (a + 1) n)

filter-more : (test : ℕ → Bool) (k : ℕ) → filter test (range_with_len 0 (k + 1)) ≡ filter test (range_with_len 0 k) ++ cond (test k) (k ∷ []) []
filter-more test k = ap (filter test) (alone-more k) ∙ filter-append test (range_with_len 0 k) (k ∷ [])

map-same : (f g : ℕ → List ℕ) (a n : ℕ) → ((j : ℕ) → a ≤ j → f j ≡ g j) → map f (range_with_len a n) ≡ map g (range_with_len a n)
map-same f g a zero same = refl
map-same f g a (suc n) same = ap (λ x. x ∷ map f (range_with_len (a + 1) n)) (same a (omega arith)) ∙ ap (λ rest. g a ∷ rest) (map-same f g (a + 1) n (λ j h. same j (omega (arith, h))))

map-set_one : (f g : ℕ → List ℕ) (a n i : ℕ) (y : List ℕ) → i < n → y ≡ g (a + i) → ((j : ℕ) → j ≢ a + i → f j ≡ g j) → slice_set (map f (range_with_len a n)) i y ≡ map g (range_with_len a n)
map-set_one f g a zero i y inside own other = absurd (omega (arith, inside))
map-set_one f g a (suc n) zero y inside own other =
    let at : a + zero ≡ a = omega arith in
    ap (λ x. x ∷ map f (range_with_len (a + 1) n)) (own ∙ ap g at) ∙ ap (λ rest. g a ∷ rest) (map-same f g (a + 1) n (λ j h. other j (λ same. absurd (omega (arith, h, same)))))
map-set_one f g a (suc n) (suc i) y inside own other =
    let at : a + suc i ≡ (a + 1) + i = omega arith in
    ap (λ x. x ∷ slice_set (map f (range_with_len (a + 1) n)) i y) (other a (λ same. absurd (omega (arith, same))))
    ∙ ap (λ rest. g a ∷ rest) (map-set_one f g (a + 1) n i y (omega (arith, inside)) (own ∙ ap g at) (λ j apart. other j (λ same. apart (same ∙ at))))

pub lists-same : (stands : ℕ → ℕ → Bool) (k n : ℕ) → ((number : ℕ) → stands number k ≡ false) → lists_below stands k n ≡ lists_below stands (k + 1) n
lists-same stands k n none = map-same (λ number. filter (stands number) (range_with_len 0 k)) (λ number. filter (stands number) (range_with_len 0 (k + 1))) 0 n
    (λ j h. sym (filter-more (stands j) k ∙ ap (λ b. filter (stands j) (range_with_len 0 k) ++ cond b (k ∷ []) []) (none j) ∙ append-nil (filter (stands j) (range_with_len 0 k))))

pub lists-put : (stands : ℕ → ℕ → Bool) (k n at : ℕ) → at < n → stands at k ≡ true → ((number : ℕ) → stands number k ≡ true → number ≡ at)
    → slice_set (lists_below stands k n) at (slice_index_or (lists_below stands k n) at [] ++ k ∷ []) ≡ lists_below stands (k + 1) n
lists-put stands k n at inside here alone =
    let before : ℕ → List ℕ = λ number. filter (stands number) (range_with_len 0 k) in
    let after : ℕ → List ℕ = λ number. filter (stands number) (range_with_len 0 (k + 1)) in
    let start : 0 + at ≡ at = omega arith in
    let own : slice_index_or (lists_below stands k n) at [] ++ k ∷ [] ≡ after (0 + at) =
    ap (λ list. list ++ k ∷ []) (get_or-map-range_with_len before 0 n at at [] inside start) ∙ ap (λ b. before at ++ cond b (k ∷ []) []) (sym here) ∙ sym (filter-more (stands at) k) ∙ ap after (sym start)
    in
    map-set_one before after 0 n at (slice_index_or (lists_below stands k n) at [] ++ k ∷ []) inside own (λ j apart. rest j (λ same. apart (same ∙ sym start)))
  where
    rest : (j : ℕ) → j ≢ at → filter (stands j) (range_with_len 0 k) ≡ filter (stands j) (range_with_len 0 (k + 1))
    rest j apart = elim (stands j k) as (λ b. stands j k ≡ b → filter (stands j) (range_with_len 0 k) ≡ filter (stands j) (range_with_len 0 (k + 1))) [
      | true ↦ λ is. absurd (apart (alone j is))
      | false ↦ λ is. sym (filter-more (stands j) k ∙ ap (λ b. filter (stands j) (range_with_len 0 k) ++ cond b (k ∷ []) []) is ∙ append-nil (filter (stands j) (range_with_len 0 k)))
    ] refl

-- ---- what the code reads

both-false : (a b : Bool) → a ≡ false → b ≡ false → (a || b) ≡ false
both-false true b h g = h
both-false false b h g = g

none-if : (o : Option ℕ) (b : Bool) → b ≡ is_some o → b ≡ false → o ≡ None
none-if None b is absent = refl
none-if (Some x) b is absent = let wrong : true ≡ false = sym is ∙ absent in absurd cc

-- one part more that has no component
pub none-next : (of : List (Option ℕ)) (parts : List ℕ) (k number : ℕ) (found : Option ℕ) (some : Bool) → k < length parts → found ≡ component of (slice_index parts k) → some ≡ is_some found → some ≡ false
    → list_any (λ part. is_of number (component of part)) (take k parts) ≡ false → list_any (λ part. is_of number (component of part)) (take (k + 1) parts) ≡ false
none-next of parts k number found some inside is test absent before =
    let test_of : ℕ → Bool = λ part. is_of number (component of part) in
    let here : test_of (slice_index parts k) ≡ false = ap (is_of number) (sym is ∙ none-if found some test absent) in
    ap (list_any test_of) (take_more parts k 0 inside) ∙ list_any-append test_of (take k parts) (slice_index parts k ∷ [])
    ∙ both-false (list_any test_of (take k parts)) (test_of (slice_index parts k) || false) before (both-false (test_of (slice_index parts k)) false here refl)

-- neither the total nor a part has a component
pub none-stands : (of : List (Option ℕ)) (r : Relation) (parts : List ℕ) (k number : ℕ) (total : Option ℕ) (some : Bool) → total ≡ component of r.total → some ≡ is_some total → some ≡ false → parts ≡ r.parts → length parts ≤ k
    → list_any (λ part. is_of number (component of part)) (take k parts) ≡ false → stands_in of number r ≡ false
none-stands of r parts k number total some is test absent parts_are past before =
    let test_of : ℕ → Bool = λ part. is_of number (component of part) in
    both-false (is_of number (component of r.total)) (list_any test_of r.parts) (ap (is_of number) (sym is ∙ none-if total some test absent))
    (ap (list_any test_of) (sym parts_are ∙ sym (take_all k parts past)) ∙ before)

read-items : (lists : List (Vec ℕ Global)) (at : ℕ) (d : Vec ℕ Global) → at < length lists → (get_or lists at d).items ≡ get_or (lists_in lists) at []
read-items [] at d inside = absurd (omega (arith, inside))
read-items (list ∷ lists) zero d inside = refl
read-items (list ∷ lists) (suc at) d inside = read-items lists at d (omega (arith, inside))

-- a number put at the end of one of the lists
pub put-list : (lists : List (Vec ℕ Global)) (at number : ℕ) (before after : Vec ℕ Global) → at < length lists → before ≡ get_or lists at before → after.items ≡ before.items ++ number ∷ []
    → lists_in (set lists at after) ≡ set (lists_in lists) at (get_or (lists_in lists) at [] ++ number ∷ [])
put-list lists at number before after inside is put =
    map-set (λ (list : Vec ℕ Global). list.items) lists at after
    ∙ ap (λ (list : List ℕ). set (lists_in lists) at list) (put ∙ ap (λ (list : List ℕ). list ++ number ∷ []) (ap (λ (list : Vec ℕ Global). list.items) is ∙ read-items lists at before inside))

-- ---- the next relation

-- a cell of the component with this number stands in the relation with that one
abbrev pub stands_at : List Relation → List (Option ℕ) → ℕ → ℕ → Bool
stands_at relations of number row = option_map_or (stands_in of number) (slice_get relations row) false

pub many-lists : (stands : ℕ → ℕ → Bool) (k n : ℕ) (lists : List (Vec ℕ Global)) → lists_in lists ≡ lists_below stands k n → length lists ≡ n
many-lists stands k n lists is =
    sym (length-map lists (λ (list : Vec ℕ Global). list.items)) ∙ ap (λ (all : List (List ℕ)). length all) is ∙ length-map-range_with_len (λ number. filter (stands number) (range_with_len 0 k)) 0 n

pub put-within : (relations : List Relation) (flags : List Bool) (of : List (Option ℕ)) (sizes : List ℕ) → AreComponents relations flags of sizes → (r : Relation) (met : Option ℕ) → IfSome met (λ at. stands_in of at r ≡ true)
    → (n : ℕ) → n ≡ length sizes → IfSome met (λ at. at < n)
put-within relations flags of sizes are r None some n is = tt
put-within relations flags of sizes are r (Some at) some n is = let below = stands-within relations flags of sizes are r at some in omega (arith, below, is)

pub rows-next : (relations : List Relation) (flags : List Bool) (of : List (Option ℕ)) (sizes : List ℕ) → AreComponents relations flags of sizes → (k : ℕ) (r : Relation) → slice_get relations k ≡ Some r
    → (met : Option ℕ) → IfSome met (λ at. stands_in of at r ≡ true) → (met ≡ None → (number : ℕ) → stands_in of number r ≡ false)
    → put_in met k (lists_below (stands_at relations of) k (length sizes)) ≡ lists_below (stands_at relations of) (k + 1) (length sizes)
rows-next relations flags of sizes are k r at None some none =
    lists-same (stands_at relations of) k (length sizes) (λ number. ap (λ o. option_map_or (stands_in of number) o false) at ∙ none refl number)
rows-next relations flags of sizes are k r at (Some number) some none =
    lists-put (stands_at relations of) k (length sizes) number (stands-within relations flags of sizes are r number some) (reads number ∙ some)
    (λ other h. one-stands relations flags of sizes are k r at other number (sym (reads other) ∙ h) some)
  where
    reads : (other : ℕ) → stands_at relations of other k ≡ stands_in of other r
    reads other = ap (λ o. option_map_or (stands_in of other) o false) at

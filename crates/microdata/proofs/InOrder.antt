-- Codes in ascending order of bytes, each once: what keeps them so, and that their members make them up.
use Rattle.std.proofs.Common.{◌≡◌, ℕ, List, [], ◌∷◌, fold, refl, ap, sym, ◌∙◌, subst, ◌⊎◌, inl, inr}
use Rattle.std.specs.BTreeSet.{insert_key}
use Rattle.std.specs.Cmp.Lexicographic.{slice_cmp}
use Rattle.std.specs.List.{AllByRecursion}
use Rattle.std.specs.Ordering.{nat_cmp, match_ordering, ordering_reverse}
use Rattle.std.specs.declared.cmp.Ordering.TheVariants.{Less, Equal, Greater}
use Rattle.std.proofs.lemmas.Cmp.{nat_list_cmp_total}
use Rattle.code_trees.specs.Among.{IsIn, AreAmong}
use Rattle.code_trees.specs.Levels.{prefixes, with_prefixes, codes_with_prefixes}
use Rattle.code_trees.proofs.Gathered.{all-stays, all-new, all-back}
use Rattle.code_trees.proofs.Prefixes.{not_before_itself}

abbrev Before : List ℕ → List ℕ → Type 0
Before one other = slice_cmp nat_cmp one other ≡ Less

-- each code stands before those behind it
abbrev pub AreInOrder : List (List ℕ) → Type 0
AreInOrder [] = Unit {0}
AreInOrder (code ∷ codes) = AllByRecursion (Before code) codes × AreInOrder codes

abbrev insert : List (List ℕ) → List ℕ → List (List ℕ)
insert codes code = insert_key (slice_cmp nat_cmp) codes code

all-before : (first second : List ℕ) (codes : List (List ℕ)) → Before first second → AllByRecursion (Before second) codes → AllByRecursion (Before first) codes
all-before first second [] h all = tt
all-before first second (code ∷ codes) h all = (nat_list_cmp_total.trans first second code h all.0, all-before first second codes h all.1)

before-insert : (first new : List ℕ) (codes : List (List ℕ)) → Before first new → AllByRecursion (Before first) codes → AllByRecursion (Before first) (insert codes new)
before-insert first new [] h all = (h, tt)
before-insert first new (code ∷ codes) h all =
    let rest = before-insert first new codes h all.1 in
    elim (slice_cmp nat_cmp new code) as (λ o. AllByRecursion (Before first) (match_ordering o (new ∷ code ∷ codes) (code ∷ codes) (code ∷ insert codes new))) [ Less ↦ (h, all) | Equal ↦ all | Greater ↦ (all.0, rest) ]

turned-before : (one other : List ℕ) → slice_cmp nat_cmp one other ≡ Greater → Before other one
turned-before one other h = nat_list_cmp_total.antisymm other one ∙ ap ordering_reverse h

insert-in-order : (new : List ℕ) (codes : List (List ℕ)) → AreInOrder codes → AreInOrder (insert codes new)
insert-in-order new [] order = (tt, tt)
insert-in-order new (code ∷ codes) order =
    let rest = insert-in-order new codes order.1 in
    elim (slice_cmp nat_cmp new code) as (λ o. slice_cmp nat_cmp new code ≡ o → AreInOrder (match_ordering o (new ∷ code ∷ codes) (code ∷ codes) (code ∷ insert codes new))) [
      | Less ↦ λ is. ((is, all-before new code codes is order.0), order)
      | Equal ↦ λ is. order
      | Greater ↦ λ is. (before-insert code new codes (turned-before new code is) order.0, rest)
    ] refl

-- a code more, and codes more, keep the order
pub one-more-in-order : (new : List ℕ) (codes : List (List ℕ)) → AreInOrder codes → AreInOrder (insert_key (slice_cmp nat_cmp) codes new)
one-more-in-order new codes order = insert-in-order new codes order

all-in-order : (more codes : List (List ℕ)) → AreInOrder codes → AreInOrder (fold (insert_key (slice_cmp nat_cmp)) codes more)
all-in-order [] codes order = order
all-in-order (new ∷ more) codes order = all-in-order more (insert codes new) (insert-in-order new codes order)

pub prefixes-in-order : (bounds : List ℕ) (codes : List (List ℕ)) (code : List ℕ) → AreInOrder codes → AreInOrder (with_prefixes bounds codes code)
prefixes-in-order bounds codes code order = all-in-order (prefixes bounds code) codes order

before-each : (first code : List ℕ) (codes : List (List ℕ)) → AllByRecursion (Before first) codes → IsIn code codes → Before first code
before-each first code [] all h = absurd h
before-each first code (other ∷ codes) all h =
    let rest = λ (h : IsIn code codes). before-each first code codes all.1 h in
    elim h [ inl here ↦ subst (Before first) (sym here) all.0 | inr later ↦ rest later ]

not-both : (one other : List ℕ) → Before one other → Before other one → ⊥
not-both one other h back = not_before_itself one (nat_list_cmp_total.trans one other one h back)

same-first : (one other : List ℕ) (ones others : List (List ℕ)) → AllByRecursion (Before one) ones → AllByRecursion (Before other) others → IsIn one (other ∷ others) → IsIn other (one ∷ ones) → one ≡ other
same-first one other ones others first second h back = elim h [
  | inl here ↦ here
  | inr later ↦ elim back [
    | inl here ↦ sym here
    | inr there ↦ absurd (not-both one other (before-each one other ones first there) (before-each other one others second later))
  ]
]

rest-among : (one other : List ℕ) (ones others : List (List ℕ)) → one ≡ other → AllByRecursion (Before one) ones → AreAmong (one ∷ ones) (other ∷ others) → AreAmong ones others
rest-among one other ones others same first among code h = elim (among code (inr h)) [
  | inl here ↦ absurd (not_before_itself one (subst (Before one) (here ∙ sym same) (before-each one code ones first h)))
  | inr later ↦ later
]

-- codes in order are made up by their members
pub same-members : (ones others : List (List ℕ)) → AreInOrder ones → AreInOrder others → AreAmong ones others → AreAmong others ones → ones ≡ others
same-members [] [] order second among back = refl
same-members [] (other ∷ others) order second among back = absurd (back other (inl refl))
same-members (one ∷ ones) [] order second among back = absurd (among one (inl refl))
same-members (one ∷ ones) (other ∷ others) order second among back =
    let same = same-first one other ones others order.0 second.0 (among one (inl refl)) (back other (inl refl)) in
    let rest = same-members ones others order.1 second.1 (rest-among one other ones others same order.0 among) (rest-among other one others ones (sym same) second.0 back) in
    ap (λ (code : List ℕ). code ∷ ones) same ∙ ap (λ (codes : List (List ℕ)). other ∷ codes) rest

-- ---- the members of codes with their prefixes

gathered-stays : (bounds : List ℕ) (codes kept : List (List ℕ)) (x : List ℕ) → IsIn x kept → IsIn x (codes_with_prefixes bounds kept codes)
gathered-stays bounds [] kept x h = h
gathered-stays bounds (code ∷ codes) kept x h = gathered-stays bounds codes (with_prefixes bounds kept code) x (all-stays (prefixes bounds code) kept x h)

pub gathered-new : (bounds : List ℕ) (codes kept : List (List ℕ)) (code x : List ℕ) → IsIn code codes → IsIn x (prefixes bounds code) → IsIn x (codes_with_prefixes bounds kept codes)
gathered-new bounds [] kept code x h inside = absurd h
gathered-new bounds (first ∷ codes) kept code x h inside =
    let rest = λ (h : IsIn code codes). gathered-new bounds codes (with_prefixes bounds kept first) code x h inside in
    elim h [
      | inl here ↦ gathered-stays bounds codes (with_prefixes bounds kept first) x (all-new (prefixes bounds first) kept x (subst (λ (c : List ℕ). IsIn x (prefixes bounds c)) here inside))
      | inr later ↦ rest later
    ]

-- x is among the prefixes of one of the codes
abbrev pub IsPrefixed : List ℕ → List (List ℕ) → List ℕ → Type 0
IsPrefixed bounds codes x = (code : List ℕ) × IsIn code codes × IsIn x (prefixes bounds code)

pub gathered-back : (bounds : List ℕ) (codes kept : List (List ℕ)) (x : List ℕ) → IsIn x (codes_with_prefixes bounds kept codes) → IsIn x kept ⊎ IsPrefixed bounds codes x
gathered-back bounds [] kept x h = inl h
gathered-back bounds (first ∷ codes) kept x h =
    elim (gathered-back bounds codes (with_prefixes bounds kept first) x h) [
      | inl old ↦ elim (all-back (prefixes bounds first) kept x old) [ inl older ↦ inl older | inr here ↦ inr (first, inl refl, here) ]
      | inr later ↦ inr (later.0, inr later.1, later.2)
    ]

-- Links of relations, and the signs that follow them.
use Rattle.std.proofs.Common.{◌≡◌, ◌≢◌, ◌⊎◌, inl, inr, ℕ, zero, suc, ◌+◌, ◌<◌, ◌≤◌, ◌==◌, Bool, true, false, List, [], ◌∷◌, ◌++◌, length, slice_get, slice_set, Some, arith, refl, ap, sym, ◌∙◌, subst, length-append}
use Rattle.std.specs.Option.{option_map_or}
use Rattle.std.proofs.lemmas.Bool.{eqb-true, eqb-false}
use Rattle.std.proofs.lemmas.Option.{slice_get_within}
use Rattle.sdc_base.specs.declared.links.Link.{Link}
use Rattle.sdc_base.specs.Signs.{sign_of}
use Rattle.sdc_base.specs.Links.{AreLinks, Follow, sign_by_link}
use Rattle.sdc_base.proofs.GrowingLists.{read-at}
use Rattle.sdc_base.proofs.ListReads.{set-here, set-there}

-- ---- signs that are turned round

pub turned-turned : (a b x : Bool) → sign_by_link a (sign_by_link b x) ≡ sign_by_link (sign_by_link a b) x
turned-turned true true true = refl
turned-turned true true false = refl
turned-turned true false true = refl
turned-turned true false false = refl
turned-turned false true true = refl
turned-turned false true false = refl
turned-turned false false true = refl
turned-turned false false false = refl

pub turned-twice : (a x : Bool) → sign_by_link a (sign_by_link a x) ≡ x
turned-twice true true = refl
turned-twice true false = refl
turned-twice false true = refl
turned-twice false false = refl

-- what two relations that are tied say of those that they are linked to
pub between : (first second same x y : Bool) → sign_by_link first x ≡ sign_by_link same (sign_by_link second y) → x ≡ sign_by_link (sign_by_link first (sign_by_link same second)) y
between first second same x y h =
    sym (turned-twice first x) ∙ ap (sign_by_link first) (h ∙ turned-turned same second y) ∙ turned-turned first (sign_by_link same second) y

-- and the other way
pub between-back : (first second same x y : Bool) → x ≡ sign_by_link (sign_by_link first (sign_by_link same second)) y → sign_by_link first x ≡ sign_by_link same (sign_by_link second y)
between-back first second same x y h =
    ap (sign_by_link first) (h ∙ sym (turned-turned first (sign_by_link same second) y)) ∙ turned-twice first (sign_by_link (sign_by_link same second) y) ∙ sym (turned-turned same second y)

pub turned-over : (a x y : Bool) → x ≡ sign_by_link a y → y ≡ sign_by_link a x
turned-over a x y h = sym (turned-twice a y) ∙ ap (sign_by_link a) (sym h)

pub not-itself : (x : Bool) → x ≡ sign_by_link false x → ⊥
not-itself true h = absurd cc
not-itself false h = absurd cc

-- ---- reads of lists

pub get-set : {X : Type 0} (xs : List X) (k n : ℕ) (y z : X) → slice_get (slice_set xs k y) n ≡ Some z → ((k ≡ n) × (y ≡ z)) ⊎ ((k ≢ n) × (slice_get xs n ≡ Some z))
get-set [] k n y z h = absurd cc
get-set (x ∷ xs) zero zero y z h = inl (refl, cc)
get-set (x ∷ xs) zero (suc n) y z h = inr ((λ same. absurd (omega (arith, same))), h)
get-set (x ∷ xs) (suc k) zero y z h = inr ((λ same. absurd (omega (arith, same))), h)
get-set (x ∷ xs) (suc k) (suc n) y z h =
    elim (get-set xs k n y z h) as (λ _. ((suc k ≡ suc n) × (y ≡ z)) ⊎ ((suc k ≢ suc n) × (slice_get xs n ≡ Some z))) [
      | inl here ↦ inl (ap suc here.0, here.1)
      | inr there ↦ inr ((λ same. there.0 (omega (arith, same))), there.1)
    ]

pub get-push : {X : Type 0} (xs : List X) (n : ℕ) (y z : X) → slice_get (xs ++ y ∷ []) n ≡ Some z → ((n ≡ length xs) × (y ≡ z)) ⊎ (slice_get xs n ≡ Some z)
get-push [] zero y z h = inl (refl, cc)
get-push [] (suc n) y z h = absurd cc
get-push (x ∷ xs) zero y z h = inr h
get-push (x ∷ xs) (suc n) y z h =
    elim (get-push xs n y z h) as (λ _. ((suc n ≡ suc (length xs)) × (y ≡ z)) ⊎ (slice_get xs n ≡ Some z)) [
      | inl here ↦ inl (ap suc here.0, here.1)
      | inr there ↦ inr there
    ]

-- ---- each linked to itself

abbrev pub AreOwn : List Link → Type 0
AreOwn links = (number : ℕ) (link : Link) → slice_get links number ≡ Some link → (link.to ≡ number) × (link.same ≡ true)

pub own-none : AreOwn []
own-none number link at = absurd cc

pub own-push : (links : List Link) (to : ℕ) → to ≡ length links → AreOwn links → AreOwn (links ++ record { to = to; same = true } ∷ [])
own-push links to next are number link at =
    elim (get-push links number (record { to = to; same = true }) link at) as (λ _. (link.to ≡ number) × (link.same ≡ true)) [
      | inl here ↦ let itself : record { to = to; same = true } ≡ link = here.1 in rw (← itself) (next ∙ sym here.0, refl)
      | inr there ↦ are number link there
    ]

pub own-links : (links : List Link) → AreOwn links → AreLinks links
own-links links are = record { falls = λ number link at. omega (arith, (are number link at).0); itself = λ number link at _. (are number link at).1 }

pub own-follow : (links : List Link) → AreOwn links → (signs : List Bool) → Follow signs links
own-follow links are signs number link at = rw ((are number link at).0, (are number link at).1) refl

-- ---- a link more

pub set-links : (links : List Link) (k : ℕ) (link : Link) → AreLinks links → link.to < k → AreLinks (slice_set links k link)
set-links links k link are low = record {
  falls = λ number one at. elim (get-set links k number link one at) as (λ _. one.to ≤ number) [
    | inl here ↦ let itself : link ≡ one = here.1 in rw (← itself) (omega (arith, low, here.0))
    | inr there ↦ are.falls number one there.1
  ];
  itself = λ number one at same. elim (get-set links k number link one at) as (λ _. one.same ≡ true) [
    | inl here ↦ let to : link.to ≡ one.to = ap (λ (l : Link). l.to) here.1 in absurd (omega (arith, low, here.0, to, same))
    | inr there ↦ are.itself number one there.1 same
  ];
}

pub set-on : (signs : List Bool) (links : List Link) (k : ℕ) (link : Link) → Follow signs links → sign_of signs k ≡ sign_by_link link.same (sign_of signs link.to) → Follow signs (slice_set links k link)
set-on signs links k link follow says number one at =
    elim (get-set links k number link one at) as (λ _. sign_of signs number ≡ sign_by_link one.same (sign_of signs one.to)) [
      | inl here ↦ subst (λ (l : Link). sign_of signs number ≡ sign_by_link l.same (sign_of signs l.to)) here.1 (subst (λ n. sign_of signs n ≡ sign_by_link link.same (sign_of signs link.to)) here.0 says)
      | inr there ↦ follow number one there.1
    ]

-- what the links say with this one, they said without, where the signs are as the one said that it replaces
pub set-back : (signs : List Bool) (links : List Link) (k : ℕ) (link was : Link) → slice_get links k ≡ Some was → sign_of signs k ≡ sign_by_link was.same (sign_of signs was.to) → Follow signs (slice_set links k link) → Follow signs links
set-back signs links k link was at says follow number one found =
    elim (k == number) as (λ b. (k == number) ≡ b → sign_of signs number ≡ sign_by_link one.same (sign_of signs one.to)) [
      | true ↦ λ test.
          let same : k ≡ number = eqb-true k number test in
          let is : Some was ≡ Some one = sym at ∙ ap (slice_get links) same ∙ found in
          let itself : was ≡ one = cc in
          subst (λ (l : Link). sign_of signs number ≡ sign_by_link l.same (sign_of signs l.to)) itself (subst (λ n. sign_of signs n ≡ sign_by_link was.same (sign_of signs was.to)) same says)
      | false ↦ λ test. follow number one (set-there links k number link (eqb-false k number test) ∙ found)
    ] refl

pub set-says : (signs : List Bool) (links : List Link) (k : ℕ) (link was : Link) → slice_get links k ≡ Some was → Follow signs (slice_set links k link) → sign_of signs k ≡ sign_by_link link.same (sign_of signs link.to)
set-says signs links k link was at follow = follow k link (set-here links k was link at)

-- ---- a relation linked past the next one

pub record IsPast (links : List Link) (to : ℕ) (next past : Link) : Type 0 where
  pub at_next : slice_get links to ≡ Some next
  pub at_past : slice_get links next.to ≡ Some past
  pub moved : next.to ≢ to

abbrev pub over : Link → Link → Link
over next past = record { to = past.to; same = sign_by_link next.same past.same }

pub past-low : (links : List Link) (to : ℕ) (next past : Link) → AreLinks links → IsPast links to next past → past.to < to
past-low links to next past are is = grind (arith, are.falls to next is.at_next, are.falls next.to past is.at_past, is.moved)

pub past-links : (links : List Link) (to : ℕ) (next past : Link) → AreLinks links → IsPast links to next past → AreLinks (slice_set links to (over next past))
past-links links to next past are is = set-links links to (over next past) are (past-low links to next past are is)

pub past-on : (signs : List Bool) (links : List Link) (to : ℕ) (next past : Link) → IsPast links to next past → Follow signs links → Follow signs (slice_set links to (over next past))
past-on signs links to next past is follow =
    set-on signs links to (over next past) follow
    (follow to next is.at_next ∙ ap (sign_by_link next.same) (follow next.to past is.at_past) ∙ turned-turned next.same past.same (sign_of signs past.to))

pub past-back : (signs : List Bool) (links : List Link) (to : ℕ) (next past : Link) → IsPast links to next past → Follow signs (slice_set links to (over next past)) → Follow signs links
past-back signs links to next past is follow =
    let here = set-says signs links to (over next past) next is.at_next follow in
    let there = follow next.to past (set-there links to next.to (over next past) (λ same. is.moved (sym same)) ∙ is.at_past) in
    set-back signs links to (over next past) next is.at_next
    (here ∙ sym (turned-turned next.same past.same (sign_of signs past.to)) ∙ ap (sign_by_link next.same) (sym there)) follow

pub past-tied : (signs : List Bool) (links : List Link) (number to : ℕ) (same : Bool) (next past : Link) → IsPast links to next past → (Follow signs links → sign_of signs number ≡ sign_by_link same (sign_of signs to)) → Follow signs (slice_set links to (over next past)) → sign_of signs number ≡ sign_by_link (sign_by_link same (sign_by_link next.same past.same)) (sign_of signs past.to)
past-tied signs links number to same next past is tied follow =
    tied (past-back signs links to next past is follow)
    ∙ ap (sign_by_link same) (set-says signs links to (over next past) next is.at_next follow)
    ∙ turned-turned same (sign_by_link next.same past.same) (sign_of signs past.to)

pub past-last : (links : List Link) (to root : ℕ) (next past link : Link) → IsPast links to next past → slice_get links root ≡ Some link → link.to ≡ root → slice_get (slice_set links to (over next past)) root ≡ Some link
past-last links to root next past link is at itself =
    set-there links to root (over next past) (λ same. is.moved (let found : Some next ≡ Some link = sym is.at_next ∙ ap (slice_get links) same ∙ at in let one : next ≡ link = cc in ap (λ (l : Link). l.to) one ∙ itself ∙ sym same)) ∙ at

-- ---- two relations tied

-- what two relations say of those that they are linked to, with the sign between these
pub tied-on : (signs : List Bool) (one other first second : ℕ) (same first_same second_same b : Bool) → b ≡ sign_by_link first_same (sign_by_link same second_same) → sign_of signs one ≡ sign_by_link first_same (sign_of signs first) → sign_of signs other ≡ sign_by_link second_same (sign_of signs second) → sign_of signs one ≡ sign_by_link same (sign_of signs other) → sign_of signs first ≡ sign_by_link b (sign_of signs second)
tied-on signs one other first second same first_same second_same b is one_is other_is says =
    rw is (between first_same second_same same (sign_of signs first) (sign_of signs second) (sym one_is ∙ says ∙ ap (sign_by_link same) other_is))

-- and the other way
pub tied-back : (signs : List Bool) (one other first second : ℕ) (same first_same second_same b : Bool) → b ≡ sign_by_link first_same (sign_by_link same second_same) → sign_of signs one ≡ sign_by_link first_same (sign_of signs first) → sign_of signs other ≡ sign_by_link second_same (sign_of signs second) → sign_of signs first ≡ sign_by_link b (sign_of signs second) → sign_of signs one ≡ sign_by_link same (sign_of signs other)
tied-back signs one other first second same first_same second_same b is one_is other_is says =
    one_is ∙ between-back first_same second_same same (sign_of signs first) (sign_of signs second) (says ∙ ap (λ t. sign_by_link t (sign_of signs second)) is) ∙ ap (sign_by_link same) (sym other_is)

pub tie-links : (links : List Link) (low high : ℕ) (same : Bool) → AreLinks links → low < high → AreLinks (slice_set links high (record { to = low; same = same }))
tie-links links low high same are less = set-links links high (record { to = low; same = same }) are less

-- a link in place of one to itself
pub tie-back : (signs : List Bool) (links : List Link) (high : ℕ) (link last : Link) → AreLinks links → slice_get links high ≡ Some last → last.to ≡ high → Follow signs (slice_set links high link) → Follow signs links
tie-back signs links high link last are at itself follow =
    set-back signs links high link last at (let same : last.same ≡ true = are.itself high last at itself in rw (same, itself) refl) follow

-- ---- the signs along links

index-push : (signs : List Bool) (sign : Bool) (n : ℕ) → n < length signs → sign_of (signs ++ sign ∷ []) n ≡ sign_of signs n
index-push [] sign n h = absurd (omega (arith, h))
index-push (x ∷ signs) sign zero h = refl
index-push (x ∷ signs) sign (suc n) h = index-push signs sign n (omega (arith, h))

index-last : (signs : List Bool) (sign : Bool) → sign_of (signs ++ sign ∷ []) (length signs) ≡ sign
index-last [] sign = refl
index-last (x ∷ signs) sign = index-last signs sign

-- the signs follow the links of the relations that have one so far
abbrev pub FollowSoFar : List Bool → List Link → Type 0
FollowSoFar signs links = (number : ℕ) (link : Link) → number < length signs → slice_get links number ≡ Some link → sign_of signs number ≡ sign_by_link link.same (sign_of signs link.to)

pub follow-push : (signs : List Bool) (links : List Link) (link : Link) (sign : Bool) → AreLinks links → slice_get links (length signs) ≡ Some link → sign ≡ option_map_or (sign_by_link link.same) (slice_get signs link.to) true → FollowSoFar signs links → FollowSoFar (signs ++ sign ∷ []) links
follow-push signs links link sign are at is follow number one inside found =
    elim (number == length signs) as (λ b. (number == length signs) ≡ b → sign_of (signs ++ sign ∷ []) number ≡ sign_by_link one.same (sign_of (signs ++ sign ∷ []) one.to)) [
      | true ↦ λ test.
          let last : number ≡ length signs = eqb-true number (length signs) test in
          let both : Some link ≡ Some one = sym at ∙ ap (slice_get links) (sym last) ∙ found in
          let itself : link ≡ one = cc in
          subst (λ (l : Link). sign_of (signs ++ sign ∷ []) number ≡ sign_by_link l.same (sign_of (signs ++ sign ∷ []) l.to)) itself
          (subst (λ n. sign_of (signs ++ sign ∷ []) n ≡ sign_by_link link.same (sign_of (signs ++ sign ∷ []) link.to)) (sym last) here)
      | false ↦ λ test.
          let low : number < length signs = below number (length signs) (eqb-false number (length signs) test) (omega (arith, inside, length-append signs (sign ∷ []))) in
          index-push signs sign number low ∙ follow number one low found ∙ ap (sign_by_link one.same) (sym (index-push signs sign one.to (omega (arith, low, are.falls number one found))))
    ] refl
  where
    below : (a b : ℕ) → a ≢ b → a < b + 1 → a < b
    below a b apart less = grind (arith, apart, less)

    here : sign_of (signs ++ sign ∷ []) (length signs) ≡ sign_by_link link.same (sign_of (signs ++ sign ∷ []) link.to)
    here =
        elim (link.to == length signs) as (λ b. (link.to == length signs) ≡ b → sign_of (signs ++ sign ∷ []) (length signs) ≡ sign_by_link link.same (sign_of (signs ++ sign ∷ []) link.to)) [
          | true ↦ λ test. let to : link.to ≡ length signs = eqb-true link.to (length signs) test in let same : link.same ≡ true = are.itself (length signs) link at to in rw (same, to) refl
          | false ↦ λ test.
              let low : link.to < length signs = grind (arith, eqb-false link.to (length signs) test, are.falls (length signs) link at) in
              index-last signs sign ∙ is ∙ ap (λ found. option_map_or (sign_by_link link.same) found true) (read-at signs link.to true low) ∙ ap (sign_by_link link.same) (sym (index-push signs sign link.to low))
        ] refl

pub follow-all : (signs : List Bool) (links : List Link) → length signs ≡ length links → FollowSoFar signs links → Follow signs links
follow-all signs links each follow number link at = follow number link (omega (arith, each, slice_get_within links number link at)) at

-- A new code without levels keeps the codes sound, and sound codes make a flat tree.
use Rattle.std.proofs.Common.{◌≡◌, ℕ, suc, ◌+◌, ◌≤◌, ◌<◌, nat_le, Bool, true, false, ◌||◌, List, [], ◌∷◌, ◌++◌, length, None, Ok, refl, ap, sym, ◌∙◌, subst, arith, ◌⊎◌, inl, inr, append_assoc, length-append}
use Rattle.std.specs.BTreeSet.{insert_key}
use Rattle.std.specs.Cmp.Lexicographic.{slice_cmp}
use Rattle.std.specs.List.{list_any, AllByRecursion, IsDistinct}
use Rattle.std.specs.Ordering.{nat_cmp, match_ordering}
use Rattle.std.specs.Str.{bytes_eq}
use Rattle.std.specs.declared.cmp.Ordering.TheVariants.{Less, Equal, Greater}
use Rattle.std.proofs.lemmas.Bool.Decides.{nat_tests}
use Rattle.std.proofs.lemmas.Map.Keys.{IsDistinct-head, IsDistinct-tail, IsDistinct-cons}
use Rattle.std.proofs.lemmas.Slice.Eq.{bytes_eq-Decides}
use Rattle.code_trees.specs.Among.{IsIn, AreAmong}
use Rattle.code_trees.specs.Faults.{code_fault, first_code_fault, or_else}
use Rattle.code_trees.proofs.Gathered.{in-any, all-back, all-stays, all-new}
use Rattle.microdata.specs.Keeping.{AreFlatCodes}
use Rattle.microdata.specs.SeenCodes.{with_flat_code}
use Rattle.microdata.specs.declared.faults.RowWhy.TheVariants.{NotLeaf, TooManyCodes}
use Rattle.microdata.specs.declared.taking.Seen.{Seen}
use Rattle.microdata.proofs.LevelCodes.{passed, value_is}

abbrev insert : List (List ℕ) → List ℕ → List (List ℕ)
insert nodes code = insert_key (slice_cmp nat_cmp) nodes code

-- a code is none of these
abbrev Apart : List ℕ → List (List ℕ) → Type 0
Apart code codes = AllByRecursion (λ other. bytes_eq code other ≡ false) codes

pub turned : (a b : List ℕ) → bytes_eq a b ≡ false → bytes_eq b a ≡ false
turned a b h = elim (bytes_eq b a) as (λ t. bytes_eq b a ≡ t → t ≡ false) [
  | true ↦ λ e. (let same : a ≡ b = sym ((bytes_eq-Decides b a).0 e) in let yes : bytes_eq a b ≡ true = (bytes_eq-Decides a b).1 same in cc)
  | false ↦ λ e. refl
] refl

apart-insert : (code new : List ℕ) (nodes : List (List ℕ)) → Apart code nodes → bytes_eq code new ≡ false → Apart code (insert nodes new)
apart-insert code new [] apart other = (other, tt)
apart-insert code new (node ∷ nodes) apart other =
    let rest = apart-insert code new nodes apart.1 other in
    elim (slice_cmp nat_cmp new node) as (λ o. Apart code (match_ordering o (new ∷ node ∷ nodes) (node ∷ nodes) (node ∷ insert nodes new))) [ Less ↦ (other, apart) | Equal ↦ apart | Greater ↦ (apart.0, rest) ]

distinct-insert : (new : List ℕ) (nodes : List (List ℕ)) → IsDistinct bytes_eq nodes → Apart new nodes → IsDistinct bytes_eq (insert nodes new)
distinct-insert new [] distinct apart = IsDistinct-cons bytes_eq new [] tt distinct
distinct-insert new (node ∷ nodes) distinct apart =
    let tail = IsDistinct-tail bytes_eq node nodes distinct in
    let rest = distinct-insert new nodes tail apart.1 in
    let here = apart-insert node new nodes (IsDistinct-head bytes_eq node nodes distinct) (turned new node apart.0) in
    elim (slice_cmp nat_cmp new node) as (λ o. IsDistinct bytes_eq (match_ordering o (new ∷ node ∷ nodes) (node ∷ nodes) (node ∷ insert nodes new))) [
      | Less ↦ IsDistinct-cons bytes_eq new (node ∷ nodes) apart distinct
      | Equal ↦ distinct
      | Greater ↦ IsDistinct-cons bytes_eq node (insert nodes new) here rest
    ]

apart-behind : (code new : List ℕ) (front nodes : List (List ℕ)) → Apart code (front ++ nodes) → bytes_eq code new ≡ false → Apart code (front ++ insert nodes new)
apart-behind code new [] nodes apart other = apart-insert code new nodes apart other
apart-behind code new (first ∷ front) nodes apart other = (apart.0, apart-behind code new front nodes apart.1 other)

distinct-behind : (new : List ℕ) (front nodes : List (List ℕ)) → IsDistinct bytes_eq (front ++ nodes) → Apart new (front ++ nodes) → IsDistinct bytes_eq (front ++ insert nodes new)
distinct-behind new [] nodes distinct apart = distinct-insert new nodes distinct apart
distinct-behind new (first ∷ front) nodes distinct apart =
    IsDistinct-cons bytes_eq first (front ++ insert nodes new) (apart-behind first new front nodes (IsDistinct-head bytes_eq first (front ++ nodes) distinct) (turned new first apart.0))
    (distinct-behind new front nodes (IsDistinct-tail bytes_eq first (front ++ nodes) distinct) apart.1)

-- a code that is none of those is none of these, which are among those
apart-among : (code : List ℕ) (these those : List (List ℕ)) → AreAmong these those → list_any (bytes_eq code) those ≡ false → Apart code these
apart-among code [] those among none = tt
apart-among code (first ∷ these) those among none = (
  elim (bytes_eq code first) as (λ t. bytes_eq code first ≡ t → t ≡ false) [ true ↦ λ e. (let found = in-any (bytes_eq code) those first (among first (inl refl)) e in cc) | false ↦ λ e. refl ] refl,
  apart-among code these those (λ x inside. among x (inr inside)) none,
)

pub in-either : (x : List ℕ) (these those : List (List ℕ)) → IsIn x (these ++ those) → IsIn x these ⊎ IsIn x those
in-either x [] those h = inr h
in-either x (first ∷ these) those h =
    let rest = λ (h : IsIn x (these ++ those)). in-either x these those h in
    elim h [ inl here ↦ inl (inl here) | inr later ↦ elim (rest later) [ inl one ↦ inl (inr one) | inr other ↦ inr other ] ]

pub in-first : (x : List ℕ) (these those : List (List ℕ)) → IsIn x these → IsIn x (these ++ those)
in-first x [] those h = absurd h
in-first x (first ∷ these) those h =
    let rest = λ (h : IsIn x these). in-first x these those h in
    elim h [ inl here ↦ inl here | inr later ↦ inr (rest later) ]

pub in-second : (x : List ℕ) (these those : List (List ℕ)) → IsIn x those → IsIn x (these ++ those)
in-second x [] those h = h
in-second x (first ∷ these) those h = inr (in-second x these those h)

among-insert : (codes nodes seen : List (List ℕ)) (new : List ℕ) → AreAmong (codes ++ nodes) seen → AreAmong (codes ++ insert nodes new) (seen ++ new ∷ [])
among-insert codes nodes seen new among x h =
    elim (in-either x codes (insert nodes new) h) [
      | inl listed ↦ in-first x seen (new ∷ []) (among x (in-first x codes nodes listed))
      | inr further ↦ elim (all-back (new ∷ []) nodes x further) [
        | inl old ↦ in-first x seen (new ∷ []) (among x (in-second x codes nodes old))
        | inr it ↦ in-second x seen (new ∷ []) it
      ]
    ]

back-insert : (codes nodes seen : List (List ℕ)) (new : List ℕ) → AreAmong seen (codes ++ nodes) → AreAmong (seen ++ new ∷ []) (codes ++ insert nodes new)
back-insert codes nodes seen new back x h =
    elim (in-either x seen (new ∷ []) h) [
      | inl old ↦ elim (in-either x codes nodes (back x old)) [
        | inl listed ↦ in-first x codes (insert nodes new) listed
        | inr further ↦ in-second x codes (insert nodes new) (all-stays (new ∷ []) nodes x further)
      ]
      | inr it ↦ in-second x codes (insert nodes new) (all-new (new ∷ []) nodes x it)
    ]

length-insert : (nodes : List (List ℕ)) (new : List ℕ) → length (insert nodes new) ≤ length nodes + 1
length-insert [] new = omega arith
length-insert (node ∷ nodes) new =
    let rest = length-insert nodes new in
    elim (slice_cmp nat_cmp new node) as (λ o. length (match_ordering o (new ∷ node ∷ nodes) (node ∷ nodes) (node ∷ insert nodes new)) ≤ suc (length nodes) + 1) [ Less ↦ omega arith | Equal ↦ omega arith | Greater ↦ omega (arith, rest) ]

not_at : (a b : ℕ) → nat_le a b ≡ false → b < a
not_at a b h = grind (arith, nat_tests)

grown-sound : (codes : List (List ℕ)) (total : List ℕ) (old : Seen) (code : List ℕ) → list_any (bytes_eq code) old.codes ≡ false → AreFlatCodes codes total old
    → bytes_eq code total ≡ false → nat_le 5000 (length old.codes) ≡ false
    → AreFlatCodes codes total (record { codes = old.codes ++ code ∷ []; nodes = insert old.nodes code })
grown-sound codes total old code new sound leaf room =
    let more = length-append old.codes (code ∷ []) in
    record {
      distinct = distinct-behind code (total ∷ codes) old.nodes sound.distinct (leaf, apart-among code (codes ++ old.nodes) old.codes sound.among new);
      among = among-insert codes old.nodes old.codes code sound.among;
      back = back-insert codes old.nodes old.codes code sound.back;
      count = omega (arith, sound.count, length-insert old.nodes code, more);
      at_most_5000_codes = omega (arith, not_at _ _ room, more);
    }

pub flat-sound : (codes : List (List ℕ)) (total : List ℕ) (old new : Seen) (code : List ℕ) → list_any (bytes_eq code) old.codes ≡ false → AreFlatCodes codes total old
    → with_flat_code total old code ≡ Ok new → AreFlatCodes codes total new
unfolding with_flat_code
flat-sound codes total old new code fresh sound said =
    let a = passed NotLeaf (bytes_eq code total) _ new said in
    let b = passed TooManyCodes (nat_le 5000 (length old.codes)) _ new a.1 in
    subst (AreFlatCodes codes total) (value_is _ new b.1) (grown-sound codes total old code fresh sound a.0 b.0)

-- a code is none of those before it
pub none-before : (before rest : List (List ℕ)) (code : List ℕ) → IsDistinct bytes_eq (before ++ code ∷ rest) → list_any (bytes_eq code) before ≡ false
none-before [] rest code distinct = refl
none-before (first ∷ before) rest code distinct =
    rw (turned first code (at-code before (IsDistinct-head bytes_eq first (before ++ code ∷ rest) distinct))) (none-before before rest code (IsDistinct-tail bytes_eq first (before ++ code ∷ rest) distinct))
  where
    at-code : (before : List (List ℕ)) → Apart first (before ++ code ∷ rest) → bytes_eq first code ≡ false
    at-code [] apart = apart.0
    at-code (other ∷ before) apart = at-code before apart.1

either-false : (a b : Bool) → a || b ≡ false → (a ≡ false) × (b ≡ false)
either-false true b h = cc
either-false false b h = (refl, h)

room-left : (a b : ℕ) → a + suc b ≤ 5000 → nat_le 5000 a ≡ false
room-left a b h = grind (arith, nat_tests)

no-code-fault : (total : List ℕ) (earlier : List (List ℕ)) (code : List ℕ) (n : ℕ) → bytes_eq code total ≡ false → list_any (bytes_eq code) earlier ≡ false → nat_le 5000 (length earlier) ≡ false → code_fault (total ∷ earlier) code n ≡ None
no-code-fault total earlier code n p q r = rw (p, q, r) refl

pub no-first-fault : (total : List ℕ) (n : ℕ) (earlier codes : List (List ℕ)) → IsDistinct bytes_eq ((total ∷ earlier) ++ codes) → length earlier + length codes ≤ 5000 → first_code_fault n (total ∷ earlier) codes ≡ None
no-first-fault total n earlier [] distinct few = refl
no-first-fault total n earlier (code ∷ codes) distinct few =
    let none = either-false _ _ (none-before (total ∷ earlier) codes code distinct) in
    let here = no-code-fault total earlier code n none.0 none.1 (room-left (length earlier) (length codes) few) in
    let rest = no-first-fault total (n + 1) (earlier ++ code ∷ []) codes (subst (IsDistinct bytes_eq) (sym (append_assoc (total ∷ earlier) (code ∷ []) codes)) distinct) (omega (arith, few, length-append earlier (code ∷ []))) in
    ap (λ told. or_else told (first_code_fault (n + 1) (total ∷ (earlier ++ code ∷ [])) codes)) here ∙ rest

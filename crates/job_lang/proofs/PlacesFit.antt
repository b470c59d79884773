-- The places of a job's variables fit: they are few, as its names are.
use Rattle.std.proofs.Common.{◌≡◌, ℕ, zero, suc, ◌+◌, ◌≤◌, Bool, true, false, cond, List, [], ◌∷◌, length, map, Option, None, Some, refl, ap, sym, ◌∙◌, subst, arith}
use Rattle.std.proofs.lemmas.List.Folds.{list_any-append}
use Rattle.std.proofs.lemmas.Map.Made.{length-le_from_is_member}
use Rattle.std.proofs.lemmas.Slice.Eq.{bytes_eq-Decides}
use Rattle.std.specs.Cmp.Lexicographic.{nat_list_eq_equiv}
use Rattle.std.specs.Prelude.{◌||◌, find, filter, IsTrue}
use Rattle.std.specs.List.{All, AllByRecursion, IsDistinct, list_any}
use Rattle.std.specs.Set.{distinct_count, unique_keys, is_member}
use Rattle.std.specs.Str.{bytes_eq}
use Rattle.sdc_base.specs.declared.rule.Rules.{Rules}
use Rattle.rda_meta.specs.declared.meta.Variable.{Variable}
use Rattle.job_lang.specs.declared.job.TableLine.{TableLine}
use Rattle.job_lang.specs.Statements.{names_in}
use Rattle.job_lang.specs.Binding.{places_from, spanning_of, decimals_of, response_decimals, weight_decimals, response_of}
use Rattle.job_lang.specs.BindingFaults.{is_named, is_spanning}
use Rattle.job_lang.specs.JobLimits.{HasNoTwice, AreTables}
use Rattle.job_lang.specs.BoundLimits.{AreVariables}

-- ---- names among names

pub or_left : (a b : Bool) → a ≡ true → (a || b) ≡ true
or_left a b h = rw h refl

pub or_right : (a b : Bool) → b ≡ true → (a || b) ≡ true
or_right true b h = refl
or_right false b h = h

member_unique : (xs : List (List ℕ)) (q : List ℕ) → list_any (bytes_eq q) xs ≡ true → list_any (bytes_eq q) (unique_keys bytes_eq xs) ≡ true
member_unique [] q h = h
member_unique (x ∷ xs) q h =
    elim (bytes_eq q x) as (λ b. bytes_eq q x ≡ b → (b || list_any (bytes_eq q) xs) ≡ true → list_any (bytes_eq q) (cond (is_member bytes_eq xs x) (unique_keys bytes_eq xs) (x ∷ unique_keys bytes_eq xs)) ≡ true) [
      | true ↦ λ same g.
          let is : q ≡ x = (bytes_eq-Decides q x).0 same in
          elim (is_member bytes_eq xs x) as (λ m. is_member bytes_eq xs x ≡ m → list_any (bytes_eq q) (cond m (unique_keys bytes_eq xs) (x ∷ unique_keys bytes_eq xs)) ≡ true) [
            | true ↦ λ later. member_unique xs q (subst (λ (w : List ℕ). list_any (bytes_eq w) xs ≡ true) (sym is) later)
            | false ↦ λ later. or_left (bytes_eq q x) _ same
          ] refl
      | false ↦ λ apart g.
          elim (is_member bytes_eq xs x) as (λ m. list_any (bytes_eq q) (cond m (unique_keys bytes_eq xs) (x ∷ unique_keys bytes_eq xs)) ≡ true) [
            | true ↦ member_unique xs q g
            | false ↦ or_right (bytes_eq q x) _ (member_unique xs q g)
          ]
    ] refl h

-- distinct names that all are among others are no more than those that differ
pub few_among : (names all : List (List ℕ)) → IsDistinct bytes_eq names → ((q : List ℕ) → list_any (bytes_eq q) names ≡ true → list_any (bytes_eq q) all ≡ true) → length names ≤ distinct_count bytes_eq all
few_among names all distinct among =
    length-le_from_is_member nat_list_eq_equiv names (unique_keys bytes_eq all) distinct (λ q h. member_unique all q (among q h))

-- ---- tables

all_at : {A : Type 0} (P : A → Type 0) (xs : List A) → AllByRecursion P xs → All P xs
all_at P [] all k d h = absurd (omega (arith, h))
all_at P (x ∷ xs) all zero d h = all.0
all_at P (x ∷ xs) all (suc k) d h = all_at P xs all.1 k d (omega (arith, h))

widths_in : (tables : List TableLine) (names : List (List ℕ)) → AllByRecursion HasNoTwice tables → ((q : List ℕ) → list_any (bytes_eq q) (names_in tables) ≡ true → list_any (bytes_eq q) names ≡ true)
    → distinct_count bytes_eq names ≤ 8 → AllByRecursion (λ t. length t.variables ≤ 8) tables
widths_in [] names once among few = tt
widths_in (t ∷ tables) names once among few =
    let own : length t.variables ≤ distinct_count bytes_eq names = few_among t.variables names once.0 (λ q h. among q (list_any-append (bytes_eq q) t.variables (names_in tables) ∙ or_left _ _ h)) in
    (omega (arith, own), widths_in tables names once.1 (λ q h. among q (list_any-append (bytes_eq q) t.variables (names_in tables) ∙ or_right _ _ h)) few)

pub widths_few : (tables : List TableLine) → AreTables tables → All (λ t. length t.variables ≤ 8) tables
widths_few tables is = all_at (λ t. length t.variables ≤ 8) tables (widths_in tables (names_in tables) is.once (λ q h. h) is.variables)

-- ---- variables that span tables

pub turned : (name : List ℕ) (names : List (List ℕ)) → list_any (λ n. bytes_eq n name) names ≡ list_any (bytes_eq name) names
turned name [] = refl
turned name (n ∷ names) = rw (nat_list_eq_equiv.symm n name, turned name names) refl

pub spanning_named : (tables : List TableLine) (name : List ℕ) → is_spanning tables name ≡ list_any (bytes_eq name) (names_in tables)
spanning_named [] name = refl
spanning_named (t ∷ tables) name = rw (list_any-append (bytes_eq name) t.variables (names_in tables), turned name t.variables, spanning_named tables name) refl

-- the names of the variables that pass
abbrev names_of : (Variable → Bool) → List Variable → List (List ℕ)
names_of test variables = map (λ v. v.name) (filter test variables)

count_places : (test : Variable → Bool) (variables : List Variable) (place : ℕ) → length (places_from place test variables) ≡ length (names_of test variables)
count_places test [] place = refl
count_places test (v ∷ variables) place = elim (test v) as (λ t. length (cond t (place ∷ places_from (place + 1) test variables) (places_from (place + 1) test variables)) ≡ length (map (λ v. v.name) (cond t (v ∷ filter test variables) (filter test variables)))) [
  | true ↦ ap suc (count_places test variables (place + 1))
  | false ↦ count_places test variables (place + 1)
]

apart_filtered : (test : Variable → Bool) (name : List ℕ) (variables : List Variable) → AllByRecursion (λ n. bytes_eq name n ≡ false) (map (λ v. v.name) variables) → AllByRecursion (λ n. bytes_eq name n ≡ false) (names_of test variables)
apart_filtered test name [] apart = tt
apart_filtered test name (v ∷ variables) apart = elim (test v) as (λ t. AllByRecursion (λ n. bytes_eq name n ≡ false) (map (λ v. v.name) (cond t (v ∷ filter test variables) (filter test variables)))) [
  | true ↦ (apart.0, apart_filtered test name variables apart.1)
  | false ↦ apart_filtered test name variables apart.1
]

distinct_filtered : (test : Variable → Bool) (variables : List Variable) → IsDistinct bytes_eq (map (λ v. v.name) variables) → IsDistinct bytes_eq (names_of test variables)
unfolding IsDistinct
distinct_filtered test [] distinct = tt
distinct_filtered test (v ∷ variables) distinct = elim (test v) as (λ t. IsDistinct bytes_eq (map (λ v. v.name) (cond t (v ∷ filter test variables) (filter test variables)))) [
  | true ↦ (apart_filtered test v.name variables distinct.0, distinct_filtered test variables distinct.1)
  | false ↦ distinct_filtered test variables distinct.1
]

spanned_among : (tables : List TableLine) (variables : List Variable) (q : List ℕ) → list_any (bytes_eq q) (names_of (λ v. is_spanning tables v.name) variables) ≡ true → list_any (bytes_eq q) (names_in tables) ≡ true
spanned_among tables [] q h = absurd cc
spanned_among tables (v ∷ variables) q h =
    elim (is_spanning tables v.name) as (λ t. is_spanning tables v.name ≡ t → list_any (bytes_eq q) (map (λ v. v.name) (cond t (v ∷ filter (λ v. is_spanning tables v.name) variables) (filter (λ v. is_spanning tables v.name) variables))) ≡ true → list_any (bytes_eq q) (names_in tables) ≡ true) [
      | true ↦ λ spans.
          elim (bytes_eq q v.name) as (λ b. bytes_eq q v.name ≡ b → (b || list_any (bytes_eq q) (names_of (λ v. is_spanning tables v.name) variables)) ≡ true → list_any (bytes_eq q) (names_in tables) ≡ true) [
            | true ↦ λ same g. let is : q ≡ v.name = (bytes_eq-Decides q v.name).0 same in subst (λ (w : List ℕ). list_any (bytes_eq w) (names_in tables) ≡ true) (sym is) (sym (spanning_named tables v.name) ∙ spans)
            | false ↦ λ apart g. spanned_among tables variables q g
          ] refl
      | false ↦ λ spans g. spanned_among tables variables q g
    ] refl h

pub spanning_few : (tables : List TableLine) (variables : List Variable) → AreTables tables → AreVariables variables → length (spanning_of tables variables) ≤ 8
spanning_few tables variables is fit =
    let few = few_among (names_of (λ v. is_spanning tables v.name) variables) (names_in tables) (distinct_filtered (λ v. is_spanning tables v.name) variables fit.names) (spanned_among tables variables) in
    omega (arith, few, count_places (λ v. is_spanning tables v.name) variables 0, is.variables)

-- ---- digits behind the point

found_holds : (P : Variable → Type 0) (test : Variable → Bool) (variables : List Variable) → AllByRecursion P variables → (v : Variable) → find test variables ≡ Some v → P v × (test v ≡ true)
found_holds P test [] all v h = absurd cc
found_holds P test (w ∷ variables) all v h = elim (test w) as (λ t. test w ≡ t → cond t (Some w) (find test variables) ≡ Some v → P v × (test v ≡ true)) [
  | true ↦ λ passes g. let same : w ≡ v = cc in subst (λ (v : Variable). P v × (test v ≡ true)) same (all.0, passes)
  | false ↦ λ fails g. found_holds P test variables all.1 v g
] refl h

decimals_within : (most : ℕ) (o : Option Variable) → ((v : Variable) → o ≡ Some v → v.decimals ≤ most) → decimals_of o ≤ most
decimals_within most None h = omega arith
decimals_within most (Some v) h = h v refl

pub response_few : (tables : List TableLine) (variables : List Variable) → AreVariables variables → response_decimals tables variables ≤ 9
response_few tables variables fit = decimals_within 9 (find (λ v. is_named (response_of tables) v) variables) (λ v h. (found_holds (λ v. v.decimals ≤ 9) (λ v. is_named (response_of tables) v) variables fit.decimals v h).0)

pub weight_few : (rules : Rules) (variables : List Variable) → AreVariables variables → weight_decimals rules variables ≤ 4
weight_few rules variables fit =
    let found : decimals_of (find (λ v. v.weight) variables) ≤ 4 = decimals_within 4 (find (λ v. v.weight) variables) (λ v h. let holds = found_holds (λ v. IsTrue v.weight → v.decimals ≤ 4) (λ v. v.weight) variables fit.weight_decimals v h in holds.0 holds.1) in
    elim rules.weighted as (λ t. cond t (decimals_of (find (λ v. v.weight) variables)) 0 ≤ 4) [ true ↦ found | false ↦ omega arith ]

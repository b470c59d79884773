-- Distinct codes that are among others are no more than those.
use Rattle.std.proofs.Common.{◌≡◌, ℕ, suc, ◌≤◌, true, false, List, [], ◌∷◌, ◌++◌, length, Option, refl, ap, sym, ◌∙◌, subst, arith, ◌⊎◌, inl, inr}
use Rattle.std.specs.List.{AllByRecursion, IsDistinct, list_any}
use Rattle.std.specs.Str.{bytes_eq}
use Rattle.std.proofs.lemmas.Cmp.{nat_list_eq_equiv}
use Rattle.std.proofs.lemmas.Slice.Eq.{bytes_eq-Decides}
use Rattle.std.proofs.lemmas.Map.Keys.{IsDistinct-head, IsDistinct-tail}
use Rattle.sdc_base.specs.Trees.{Tree, codes, HasDistinctCodes}
use Rattle.code_trees.specs.Levels.{prefixes, with_prefixes}
use Rattle.code_trees.specs.Among.{IsIn, AreAmong}
use Rattle.code_trees.proofs.Gathered.{all-stays, all-new, any-in}
use Rattle.code_trees.proofs.Prefixes.{prefixes-have}

-- codes without one of them
record IsWithout (code : List ℕ) (codes left : List (List ℕ)) : Type 0 where
  pub count : length codes ≡ suc (length left)
  pub split : (other : List ℕ) → IsIn other codes → (other ≡ code) ⊎ IsIn other left

taken-out : (code : List ℕ) (codes : List (List ℕ)) → IsIn code codes → (left : List (List ℕ)) × IsWithout code codes left
taken-out code [] h = absurd h
taken-out code (first ∷ codes) h =
    let rest = λ (h : IsIn code codes). taken-out code codes h in
    elim h [
      | inl here ↦ (codes, record { count = refl; split = λ other inside. elim inside [ inl it ↦ inl (it ∙ sym here) | inr later ↦ inr later ] })
      | inr later ↦
          let r = rest later in
          (first ∷ r.0, record { count = ap suc r.1.count; split = λ other inside. elim inside [ inl it ↦ inr (inl it) | inr beyond ↦ elim (r.1.split other beyond) [ inl it ↦ inl it | inr left ↦ inr (inr left) ] ] })
    ]

apart-in : (code other : List ℕ) (codes : List (List ℕ)) → AllByRecursion (λ next. bytes_eq code next ≡ false) codes → IsIn other codes → bytes_eq code other ≡ false
apart-in code other [] all h = absurd h
apart-in code other (first ∷ codes) all h =
    let rest = λ (h : IsIn other codes). apart-in code other codes all.1 h in
    elim h [ inl here ↦ ap (bytes_eq code) here ∙ all.0 | inr later ↦ rest later ]

pub few-among : (these those : List (List ℕ)) → IsDistinct bytes_eq these → AreAmong these those → length these ≤ length those
few-among [] those distinct among = omega arith
few-among (code ∷ these) those distinct among =
    let without = taken-out code those (among code (inl refl)) in
    let apart = IsDistinct-head bytes_eq code these distinct in
    let rest = few-among these without.0 (IsDistinct-tail bytes_eq code these distinct)
    (λ other inside. elim (without.1.split other (among other (inr inside))) [
      | inl same ↦ absurd (twice other (apart-in code other these apart inside) same)
      | inr left ↦ left
    ]) in
    omega (arith, rest, without.1.count)
  where
    twice : (other : List ℕ) → bytes_eq code other ≡ false → other ≡ code → ⊥
    twice other apart same = let found : bytes_eq code other ≡ true = ap (bytes_eq code) same ∙ nat_list_eq_equiv.refl code in cc

codes-long : (tree : Tree) → length (codes tree) ≡ length tree
codes-long [] = refl
codes-long (node ∷ tree) = ap suc (codes-long tree)

-- the codes that were seen are no more than those that are kept
pub seen-few : (seen : Tree) (kept : List (List ℕ)) → HasDistinctCodes seen → AreAmong (codes seen) kept → length kept ≤ 5000 → length seen ≤ 5000
seen-few seen kept distinct among few = omega (arith, few-among (codes seen) kept distinct among, codes-long seen)

pub last-in : (codes : List (List ℕ)) (code other : List ℕ) → IsIn other (codes ++ code ∷ []) → IsIn other codes ⊎ (other ≡ code)
last-in [] code other h = elim h [ inl here ↦ inr here | inr none ↦ absurd none ]
last-in (first ∷ codes) code other h =
    let rest = λ (h : IsIn other (codes ++ code ∷ [])). last-in codes code other h in
    elim h [ inl here ↦ inl (inl here) | inr later ↦ elim (rest later) [ inl old ↦ inl (inr old) | inr new ↦ inr new ] ]

-- a code is among what is kept with its prefixes
pub among-more : (bounds : List ℕ) (seen kept : List (List ℕ)) (code : List ℕ) → AreAmong seen kept → AreAmong (seen ++ code ∷ []) (with_prefixes bounds kept code)
among-more bounds seen kept code among other h =
    elim (last-in seen code other h) [
      | inl old ↦ all-stays (prefixes bounds code) kept other (among other old)
      | inr new ↦ all-new (prefixes bounds code) kept other (subst (λ x. IsIn x (prefixes bounds code)) (sym new) (prefixes-have bounds code))
    ]

pub codes-more : (tree : Tree) (code : List ℕ) (parent : Option ℕ) → codes (tree ++ (code, parent) ∷ []) ≡ codes tree ++ code ∷ []
codes-more [] code parent = refl
codes-more (node ∷ tree) code parent = ap (λ rest. node.0 ∷ rest) (codes-more tree code parent)

-- codes with the same bytes are one
pub same-bytes : (a b : List ℕ) → bytes_eq a b ≡ true → a ≡ b
same-bytes a b h = (bytes_eq-Decides a b).0 h

-- a code that is found is among them
pub any-known : (code : List ℕ) (known : List (List ℕ)) → list_any (bytes_eq code) known ≡ true → IsIn code known
any-known code known h = let found = any-in (bytes_eq code) known h in subst (λ x. IsIn x known) (sym (same-bytes code found.0 found.2)) found.1

-- The entries of a map, seen as a tree.
use Rattle.std.proofs.Common.{◌≡◌, ℕ, suc, ◌+◌, Bool, true, false, cond, not, nat_lt, List, [], ◌∷◌, ◌++◌, length, position, Option, None, Some, option_map, refl, ap, ◌∙◌, arith}
use Rattle.std.proofs.lemmas.Bool.Decides.{nat_tests}
use Rattle.std.specs.List.{IsDistinct, AllByRecursion, position_or_len}
use Rattle.std.specs.Map.{keys_of}
use Rattle.std.specs.Str.{bytes_eq}
use Rattle.std.specs.declared.alloc.Global.{Global}
use Rattle.std.specs.declared.vec.Vec.{Vec}
use Rattle.std.proofs.lemmas.Map.Keys.{IsDistinct-head, IsDistinct-tail, IsDistinct-cons}
use Rattle.indexmap.specs.IndexMap.{insert_entry}
use Rattle.sdc_base.specs.Trees.{codes, find, HasDistinctCodes}
use Rattle.sdc_base.specs.Places.{first_place}
use Rattle.code_trees.specs.Entries.{nodes_of}

abbrev Entries : Type 0
Entries = List (Vec ℕ Global × Option ℕ)

abbrev same_key : Vec ℕ Global → Vec ℕ Global → Bool
same_key a b = bytes_eq a.items b.items

one_more : (p n : ℕ) → cond (nat_lt (1 + p) (suc n)) (Some (1 + p)) None ≡ option_map (λ k. k + 1) (cond (nat_lt p n) (Some p) None)
one_more p n = grind (arith, nat_tests)

zero_first : (n : ℕ) → cond {A = Option ℕ} (nat_lt 0 (suc n)) (Some 0) None ≡ Some 0
zero_first n = grind (arith, nat_tests)

position-cons : {X : Type 0} (test : X → Bool) (x : X) (xs : List X) → position test (x ∷ xs) ≡ cond (test x) (Some 0) (option_map (λ k. k + 1) (position test xs))
position-cons test x xs =
    let p = position_or_len test xs in
    let n = length xs in
    elim (test x) as (λ b. cond (nat_lt (cond (not b) (1 + p) 0) (suc n)) (Some (cond (not b) (1 + p) 0)) None ≡ cond b (Some 0) (option_map (λ k. k + 1) (cond (nat_lt p n) (Some p) None))) [ true ↦ zero_first n | false ↦ one_more p n ]

pub position-first_place : {X : Type 0} (test : X → Bool) (xs : List X) → position test xs ≡ first_place test xs
position-first_place test [] = refl
position-first_place test (x ∷ xs) = position-cons test x xs ∙ ap (λ rest. cond (test x) (Some 0) (option_map (λ k. k + 1) rest)) (position-first_place test xs)

first-entries : (entries : Entries) (code : List ℕ) → first_place (λ (key : Vec ℕ Global). bytes_eq code key.items) (keys_of entries) ≡ find (nodes_of entries) code
first-entries [] code = refl
first-entries (entry ∷ entries) code = ap (λ rest. cond (bytes_eq code entry.0.items) (Some 0) (option_map (λ k. k + 1) rest)) (first-entries entries code)

-- what the map's look-up gives
pub find-entries : (entries : Entries) (code : List ℕ) → position (λ (key : Vec ℕ Global). bytes_eq code key.items) (keys_of entries) ≡ find (nodes_of entries) code
find-entries entries code = position-first_place _ (keys_of entries) ∙ first-entries entries code

-- a new code goes last
pub insert-new : (entries : Entries) (key : Vec ℕ Global) (parent : Option ℕ) → find (nodes_of entries) key.items ≡ None → nodes_of (insert_entry same_key entries key parent) ≡ nodes_of entries ++ (key.items, parent) ∷ []
insert-new [] key parent none = refl
insert-new (entry ∷ entries) key parent none =
    elim (bytes_eq key.items entry.0.items) as (λ b. cond b (Some 0) (option_map (λ k. k + 1) (find (nodes_of entries) key.items)) ≡ None → nodes_of (cond b ((entry.0, parent) ∷ entries) (entry ∷ insert_entry same_key entries key parent)) ≡ nodes_of (entry ∷ entries) ++ (key.items, parent) ∷ []) [
      | true ↦ λ h. cc
      | false ↦ λ h. ap (λ rest. (entry.0.items, entry.1) ∷ rest) (insert-new entries key parent (none_before _ h))
    ] none
  where
    none_before : (o : Option ℕ) → option_map (λ k. k + 1) o ≡ None → o ≡ None
    none_before None h = refl
    none_before (Some k) h = cc

-- distinct keys are distinct codes
pub distinct-entries : (entries : Entries) → IsDistinct same_key (keys_of entries) → HasDistinctCodes (nodes_of entries)
unfolding IsDistinct
distinct-entries [] h = tt
distinct-entries (entry ∷ entries) h = IsDistinct-cons bytes_eq entry.0.items (codes (nodes_of entries)) (apart entries (IsDistinct-head same_key entry.0 (keys_of entries) h)) (distinct-entries entries (IsDistinct-tail same_key entry.0 (keys_of entries) h))
  where
    apart : (rest : Entries) → AllByRecursion (λ key. same_key entry.0 key ≡ false) (keys_of rest) → AllByRecursion (λ code. bytes_eq entry.0.items code ≡ false) (codes (nodes_of rest))
    apart [] all = tt
    apart (e ∷ es) all = (all.0, apart es all.1)

-- The fault of a code, by its place.
use Rattle.std.proofs.Common.{◌≡◌, ℕ, suc, ◌+◌, ◌<◌, ◌≤◌, ◌==◌, nat_le, true, false, cond, ◌||◌, List, [], ◌∷◌, length, Option, None, Some, option_map, Err, refl, ap, subst, arith}
use Rattle.std.specs.List.{list_any}
use Rattle.std.specs.Str.{bytes_eq}
use Rattle.std.proofs.lemmas.Bool.Decides.{nat_tests}
use Rattle.sdc_base.specs.Trees.{Tree, codes, find}
use Rattle.code_trees.specs.Faults.{code_fault, known_fault, AnswersFault}
use Rattle.code_trees.specs.declared.tree_fault.TreeFault.{TreeFault}
use Rattle.code_trees.specs.declared.tree_fault.TreeFault.TheVariants as fault
use Rattle.code_trees.proofs.Growth.{any-from_find, none_after}

pub found-any : (tree : Tree) (code : List ℕ) (place : ℕ) → find tree code ≡ Some place → list_any (bytes_eq code) (codes tree) ≡ true
found-any [] code place h = cc
found-any (node ∷ tree) code place h =
    elim (bytes_eq code node.0) as (λ b. cond b (Some 0) (option_map (λ k. k + 1) (find tree code)) ≡ Some place → b || list_any (bytes_eq code) (codes tree) ≡ true) [
      | true ↦ λ e. refl
      | false ↦ λ e. elim (find tree code) as (λ o. find tree code ≡ o → option_map (λ k. k + 1) o ≡ Some place → list_any (bytes_eq code) (codes tree) ≡ true) [ None ↦ λ is e. cc | Some k ↦ λ is e. found-any tree code k is ] refl e
    ] h

twice-later : (n k : ℕ) → fault.Twice n ≡ known_fault (k + 1) n
twice-later n k = let other : ((k + 1) == 0) ≡ false = grind (arith, nat_tests) in rw other refl

pub fault-known : (tree : Tree) (code : List ℕ) (n place : ℕ) → find tree code ≡ Some place → code_fault (codes tree) code n ≡ Some (known_fault place n)
fault-known [] code n place h = cc
fault-known (node ∷ tree) code n place h =
    elim (bytes_eq code node.0) as (λ b. cond b (Some 0) (option_map (λ k. k + 1) (find tree code)) ≡ Some place
    → cond b (Some (fault.IsTotal n)) (cond (list_any (bytes_eq code) (codes tree)) (Some (fault.Twice n)) (cond (nat_le 5000 (length (codes tree))) (Some (fault.TooMany n)) None)) ≡ Some (known_fault place n)) [
      | true ↦ λ e. let zeroth : 0 ≡ place = cc in subst (λ k. Some (fault.IsTotal n) ≡ Some (known_fault k n)) zeroth refl
      | false ↦ λ e. by (find tree code) refl e
    ] h
  where
    by : (o : Option ℕ) → find tree code ≡ o → option_map (λ k. k + 1) o ≡ Some place → cond (list_any (bytes_eq code) (codes tree)) (Some (fault.Twice n)) (cond (nat_le 5000 (length (codes tree))) (Some (fault.TooMany n)) None) ≡ Some (known_fault place n)
    by None is e = cc
    by (Some k) is e = let next : k + 1 ≡ place = cc in rw (found-any tree code k is) (subst (λ j. Some (fault.Twice n) ≡ Some (known_fault j n)) next (ap Some (twice-later n k)))

pub length-codes : (tree : Tree) → length (codes tree) ≡ length tree
length-codes [] = refl
length-codes (node ∷ tree) = ap suc (length-codes tree)

pub not-le : (a b : ℕ) → b < a → nat_le a b ≡ false
not-le a b h = grind (arith, nat_tests)

pub is-le : (a b : ℕ) → a ≤ b → nat_le a b ≡ true
is-le a b h = grind (arith, nat_tests)

pub fault-new : (tree : Tree) (code : List ℕ) (n : ℕ) → 0 < length tree → find tree code ≡ None → length tree < 5001 → code_fault (codes tree) code n ≡ None
fault-new [] code n some h few = refl
fault-new (node ∷ tree) code n some h few =
    elim (bytes_eq code node.0) as (λ b. cond b (Some 0) (option_map (λ k. k + 1) (find tree code)) ≡ None
    → cond b (Some (fault.IsTotal n)) (cond (list_any (bytes_eq code) (codes tree)) (Some (fault.Twice n)) (cond (nat_le 5000 (length (codes tree))) (Some (fault.TooMany n)) None)) ≡ None) [
      | true ↦ λ e. cc
      | false ↦ λ e.
          let below : nat_le 5000 (length (codes tree)) ≡ false = not-le 5000 (length (codes tree)) (omega (arith, few, length-codes tree)) in
          rw (any-from_find tree code (none_after _ e), below) refl
    ] h

pub fault-many : (tree : Tree) (code : List ℕ) (n : ℕ) → 0 < length tree → find tree code ≡ None → 5000 < length tree → code_fault (codes tree) code n ≡ Some (fault.TooMany n)
fault-many [] code n some h many = absurd (omega arith)
fault-many (node ∷ tree) code n some h many =
    elim (bytes_eq code node.0) as (λ b. cond b (Some 0) (option_map (λ k. k + 1) (find tree code)) ≡ None
    → cond b (Some (fault.IsTotal n)) (cond (list_any (bytes_eq code) (codes tree)) (Some (fault.Twice n)) (cond (nat_le 5000 (length (codes tree))) (Some (fault.TooMany n)) None)) ≡ Some (fault.TooMany n)) [
      | true ↦ λ e. cc
      | false ↦ λ e.
          let above : nat_le 5000 (length (codes tree)) ≡ true = is-le 5000 (length (codes tree)) (omega (arith, many, length-codes tree)) in
          rw (any-from_find tree code (none_after _ e), above) refl
    ] h

pub tells-known : (place n : ℕ) (told : Option TreeFault) → told ≡ Some (known_fault place n) → AnswersFault {X = Unit {0}} (Err (known_fault place n)) told
tells-known place n told = elim (place == 0) as (λ b. told ≡ Some (cond b (fault.IsTotal n) (fault.Twice n)) → AnswersFault {X = Unit {0}} (Err (cond b (fault.IsTotal n) (fault.Twice n))) told) [ true ↦ λ h. h | false ↦ λ h. h ]

-- The fault of a missing code, by its place.
use Rattle.std.proofs.Common.{◌≡◌, ℕ, ◌+◌, ◌<◌, nat_le, Bool, true, false, cond, List, [], ◌∷◌, length, Option, None, Some, option_map, Result, Ok, Err, IfErr, refl, subst, arith}
use Rattle.std.specs.Str.{bytes_eq}
use Rattle.sdc_base.specs.Trees.{Tree, codes, find}
use Rattle.code_trees.specs.Faults.{code_fault, Names, AnswersFault}
use Rattle.code_trees.specs.MissingCodes.{has_code, missing_fault, with_code, IsMissingFault}
use Rattle.code_trees.specs.declared.tree_fault.TreeFault.{TreeFault}
use Rattle.code_trees.specs.declared.tree_fault.TreeFault.TheVariants as fault
use Rattle.code_trees.proofs.Growth.{any-from_find, none_after}
use Rattle.code_trees.proofs.CodeFaults.{found-any}

abbrev at_code : Bool → Bool → Bool → ℕ → Option TreeFault
at_code total there many n = cond total (Some (fault.IsTotal n)) (cond there None (cond many (Some (fault.TooMany n)) None))

not_first : (o : Option ℕ) → option_map (λ k. k + 1) o ≡ Some 0 → ⊥
not_first None h = cc
not_first (Some k) h = let e : k + 1 ≡ 0 = cc in absurd (omega arith)

pub missing-total : (tree : Tree) (code : List ℕ) (n : ℕ) → find tree code ≡ Some 0 → missing_fault (codes tree) code n ≡ Some (fault.IsTotal n)
missing-total [] code n h = cc
missing-total (node ∷ tree) code n h =
    elim (bytes_eq code node.0) as (λ b. cond b (Some 0) (option_map (λ k. k + 1) (find tree code)) ≡ Some 0 → at_code b (has_code (codes tree) code) (nat_le 5000 (length (codes tree))) n ≡ Some (fault.IsTotal n)) [
      | true ↦ λ e. refl
      | false ↦ λ e. absurd (not_first (find tree code) e)
    ] h

some_before : (o : Option ℕ) (place : ℕ) → option_map (λ k. k + 1) o ≡ Some place → (k : ℕ) × (o ≡ Some k)
some_before None place h = cc
some_before (Some k) place h = (k, refl)

pub missing-there : (tree : Tree) (code : List ℕ) (n place : ℕ) → find tree code ≡ Some place → 0 < place → missing_fault (codes tree) code n ≡ None
missing-there [] code n place h some = cc
missing-there (node ∷ tree) code n place h some =
    elim (bytes_eq code node.0) as (λ b. cond b (Some 0) (option_map (λ k. k + 1) (find tree code)) ≡ Some place → at_code b (has_code (codes tree) code) (nat_le 5000 (length (codes tree))) n ≡ None) [
      | true ↦ λ e. let zeroth : 0 ≡ place = cc in absurd (omega arith)
      | false ↦ λ e. let k = some_before (find tree code) place e in rw (found-any tree code k.0 k.1) refl
    ] h

pub missing-new : (tree : Tree) (code : List ℕ) (n : ℕ) → find tree code ≡ None → code_fault (codes tree) code n ≡ missing_fault (codes tree) code n
missing-new [] code n h = refl
missing-new (node ∷ tree) code n h =
    elim (bytes_eq code node.0) as (λ b. cond b (Some 0) (option_map (λ k. k + 1) (find tree code)) ≡ None
    → cond b (Some (fault.IsTotal n)) (cond (has_code (codes tree) code) (Some (fault.Twice n)) (cond (nat_le 5000 (length (codes tree))) (Some (fault.TooMany n)) None)) ≡ at_code b (has_code (codes tree) code) (nat_le 5000 (length (codes tree))) n) [
      | true ↦ λ e. refl
      | false ↦ λ e. rw (any-from_find tree code (none_after _ e)) refl
    ] h

pub with-there : (tree : Tree) (code : List ℕ) (place : ℕ) → find tree code ≡ Some place → tree ≡ with_code tree code
with-there tree code place h = rw (found-any tree code place h) refl

missing-kind : (known : List (List ℕ)) (code : List ℕ) (n : ℕ) (one : TreeFault) → missing_fault known code n ≡ Some one → IsMissingFault one
missing-kind [] code n one h = cc
missing-kind (total ∷ known) code n one h = by (bytes_eq code total) (has_code known code) (nat_le 5000 (length known)) h
  where
    by : (b there many : Bool) → at_code b there many n ≡ Some one → IsMissingFault one
    by true there many e = let same : fault.IsTotal n ≡ one = cc in subst IsMissingFault same tt
    by false true many e = cc
    by false false true e = let same : fault.TooMany n ≡ one = cc in subst IsMissingFault same tt
    by false false false e = cc

names-kind : (one : TreeFault) (known : List (List ℕ)) (code : List ℕ) (n : ℕ) → Names one (missing_fault known code n) → IsMissingFault one
names-kind (fault.NoCode m) known code n h = missing-kind known code n _ h
names-kind (fault.Jump m) known code n h = missing-kind known code n _ h
names-kind (fault.TooDeep m) known code n h = missing-kind known code n _ h
names-kind (fault.Blank m) known code n h = missing-kind known code n _ h
names-kind (fault.IsTotal m) known code n h = tt
names-kind (fault.Twice m) known code n h = missing-kind known code n _ h
names-kind (fault.TooMany m) known code n h = tt
names-kind fault.Memory known code n h = tt

pub tells-kind : (r : Result (Unit {0}) TreeFault) (known : List (List ℕ)) (code : List ℕ) (n : ℕ) → AnswersFault r (missing_fault known code n) → IfErr r IsMissingFault
tells-kind (Ok x) known code n h = tt
tells-kind (Err one) known code n h = names-kind one known code n h

-- One code more of the flat form.
use Rattle.std.proofs.Common.{◌≡◌, ℕ, suc, ◌+◌, ◌<◌, List, [], ◌∷◌, ◌++◌, length, map, take, drop, slice_get, drop-cons, add-one, Option, None, Some, refl, ap, sym, ◌∙◌, subst}
use Rattle.std.proofs.lemmas.List.{take_more, map-append}
use Rattle.std.proofs.lemmas.Option.{slice_get_within, get_or_from_slice_get}
use Rattle.sdc_base.specs.Trees.{Tree, codes, flat_tree}
use Rattle.code_trees.specs.Growing.{tree_with_node}
use Rattle.code_trees.specs.Faults.{code_fault, first_code_fault, tree_fault_of, or_else, tree_unless, Names}
use Rattle.sdc_base.specs.Answers.{Fails}
use Rattle.code_trees.specs.FlatForm.{flat_of}
use Rattle.code_trees.specs.declared.tree_fault.TreeFault.{TreeFault}
use Rattle.code_trees.specs.declared.tree_fault.TreeFault.TheVariants as fault

pub drop-at : {A : Type 0} (xs : List A) (i : ℕ) (x : A) → slice_get xs i ≡ Some x → drop i xs ≡ x ∷ drop (i + 1) xs
drop-at xs i x at =
    let inside : i < length xs = slice_get_within xs i x at in
    drop-cons xs i x inside ∙ ap (λ y. y ∷ drop (suc i) xs) (get_or_from_slice_get xs i x x at) ∙ ap (λ m. x ∷ drop m xs) (sym (add-one i))

pub take-at : {A : Type 0} (xs : List A) (i : ℕ) (x : A) → slice_get xs i ≡ Some x → take (i + 1) xs ≡ take i xs ++ x ∷ []
take-at xs i x at = take_more xs i x (slice_get_within xs i x at) ∙ ap (λ y. take i xs ++ y ∷ []) (get_or_from_slice_get xs i x x at)

pub flat-grown : (total : List ℕ) (before : List (List ℕ)) (code : List ℕ) → tree_with_node (flat_tree total before) code 0 ≡ flat_tree total (before ++ code ∷ [])
flat-grown total [] code = refl
flat-grown total (first ∷ before) code = ap (λ rest. (total, None) ∷ (first, Some 0) ∷ rest) (sym (map-append (λ code. (code, Some 0)) before (code ∷ [])))

pub codes-flat : (total : List ℕ) (before : List (List ℕ)) → codes (flat_tree total before) ≡ total ∷ before
codes-flat total before = ap (λ rest. total ∷ rest) (same before)
  where
    same : (before : List (List ℕ)) → codes (map (λ code. (code, Some 0)) before) ≡ before
    same [] = refl
    same (code ∷ before) = ap (λ rest. code ∷ rest) (same before)

-- the first fault, where a code is the next one
pub first-step : (n i : ℕ) (all before : List (List ℕ)) (code : List ℕ) → slice_get all i ≡ Some code
    → first_code_fault n before (drop i all) ≡ or_else (code_fault before code n) (first_code_fault (n + 1) (before ++ code ∷ []) (drop (i + 1) all))
first-step n i all before code at = ap (first_code_fault n before) (drop-at all i code at)

pub flat-next : (total : List ℕ) (all : List (List ℕ)) (i : ℕ) (code : List ℕ) → slice_get all i ≡ Some code → code_fault (total ∷ take i all) code (i + 1) ≡ None
    → first_code_fault (i + 1) (total ∷ take i all) (drop i all) ≡ first_code_fault (i + 1 + 1) (total ∷ take (i + 1) all) (drop (i + 1) all)
flat-next total all i code at none =
    first-step (i + 1) i all (total ∷ take i all) code at
    ∙ ap (λ told. or_else told (first_code_fault (i + 1 + 1) (total ∷ (take i all ++ code ∷ [])) (drop (i + 1) all))) none
    ∙ ap (λ before. first_code_fault (i + 1 + 1) (total ∷ before) (drop (i + 1) all)) (sym (take-at all i code at))

-- a fault that a step names is the first
pub names-stop : (one : TreeFault) (told rest : Option TreeFault) (tree : Tree) → Names one told → Fails (tree_fault_of one) (tree_unless (or_else told rest) tree)
names-stop (fault.NoCode n) told rest tree h = rw h refl
names-stop (fault.Jump n) told rest tree h = rw h refl
names-stop (fault.TooDeep n) told rest tree h = rw h refl
names-stop (fault.Blank n) told rest tree h = rw h refl
names-stop (fault.IsTotal n) told rest tree h = rw h refl
names-stop (fault.Twice n) told rest tree h = rw h refl
names-stop (fault.TooMany n) told rest tree h = rw h refl
names-stop fault.Memory told rest tree h = tt

pub flat-stop : (total : List ℕ) (all : List (List ℕ)) (i : ℕ) (code : List ℕ) (one : TreeFault) → slice_get all i ≡ Some code
    → first_code_fault 1 (total ∷ []) all ≡ first_code_fault (i + 1) (total ∷ take i all) (drop i all) → Names one (code_fault (total ∷ take i all) code (i + 1))
    → Fails (tree_fault_of one) (flat_of total all)
flat-stop total all i code one at so_far named =
    subst (λ told. Fails (tree_fault_of one) (tree_unless told (flat_tree total all))) (sym (so_far ∙ first-step (i + 1) i all (total ∷ take i all) code at))
    (names-stop one (code_fault (total ∷ take i all) code (i + 1)) _ (flat_tree total all) named)

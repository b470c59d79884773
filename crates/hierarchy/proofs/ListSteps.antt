-- What a code makes of a code list.
use Rattle.std.proofs.Common.{◌≡◌, ℕ, ◌+◌, ◌<◌, ◌≤◌, ◌==◌, nat_le, Bool, true, false, ◌||◌, List, [], ◌∷◌, ◌++◌, length, None, Some, is_some, Err, refl, ap, sym, ◌∙◌, arith}
use Rattle.std.specs.List.{list_any}
use Rattle.std.specs.Str.{bytes_eq}
use Rattle.std.proofs.lemmas.Bool.Decides.{nat_tests}
use Rattle.sdc_base.specs.Trees.{Tree, codes, find}
use Rattle.code_trees.specs.MissingCodes.{has_code}
use Rattle.hierarchy.specs.CodeList.{is_passed_over, codes_listed, codes_listed_from}
use Rattle.code_trees.specs.declared.tree_fault.TreeFault.TheVariants as fault
use Rattle.code_trees.proofs.Growth.{any-from_find}
use Rattle.code_trees.proofs.CodeFaults.{found-any}

-- whether a code is known, by its place
pub known-by-find : (tree : Tree) (total : List ℕ) (kept : List (List ℕ)) (code : List ℕ) → codes tree ≡ total ∷ kept → bytes_eq code total || has_code kept code ≡ is_some (find tree code)
known-by-find tree total kept code same =
    ap (list_any (bytes_eq code)) (sym same)
    ∙ elim (find tree code) as (λ o. find tree code ≡ o → list_any (bytes_eq code) (codes tree) ≡ is_some o) [ None ↦ λ e. any-from_find tree code e | Some place ↦ λ e. found-any tree code place e ] refl

or-true : (b : Bool) → b || true ≡ true
or-true true = refl
or-true false = refl

pub kept-passed : (total : List ℕ) (n : ℕ) (kept : List (List ℕ)) (code : List ℕ) (lines : List (List ℕ)) → bytes_eq code total || has_code kept code ≡ true → codes_listed_from total n kept code lines ≡ codes_listed total (n + 1) kept lines
kept-passed total n kept code lines h =
    let passed : is_passed_over total kept code ≡ true = ap (λ b. (length code == 0) || b) h ∙ or-true (length code == 0) in rw passed refl

pub kept-many : (total : List ℕ) (n : ℕ) (kept : List (List ℕ)) (code : List ℕ) (lines : List (List ℕ)) → (length code == 0) ≡ false → bytes_eq code total || has_code kept code ≡ false → 5000 ≤ length kept → codes_listed_from total n kept code lines ≡ Err (fault.TooMany n)
kept-many total n kept code lines some new many =
    let passed : is_passed_over total kept code ≡ false = ap (λ b. b || (bytes_eq code total || has_code kept code)) some ∙ new in
    let full : nat_le 5000 (length kept) ≡ true = grind (arith, nat_tests) in rw (passed, full) refl

pub kept-more : (total : List ℕ) (n : ℕ) (kept : List (List ℕ)) (code : List ℕ) (lines : List (List ℕ)) → (length code == 0) ≡ false → bytes_eq code total || has_code kept code ≡ false → length kept < 5000 → codes_listed_from total n kept code lines ≡ codes_listed total (n + 1) (kept ++ code ∷ []) lines
kept-more total n kept code lines some new few =
    let passed : is_passed_over total kept code ≡ false = ap (λ b. b || (bytes_eq code total || has_code kept code)) some ∙ new in
    let room : nat_le 5000 (length kept) ≡ false = grind (arith, nat_tests) in rw (passed, room) refl

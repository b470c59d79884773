-- The level form: codes that have their levels in their digits (tau-ARGUS user manual, hierarchical codes by digits;
-- codes that end between two boundaries and the order of faults own).
use Rattle.std.specs.Prelude.{ℕ, ◌+◌, ◌<◌, nat_le, nat_lt, fold, List, [], ◌∷◌, ◌++◌, length, take, slice_index_or, if◌then◌else◌, Option, None, Some, Result}
use Rattle.std.specs.BTreeSet.{insert_key}
use Rattle.std.specs.Cmp.Lexicographic.{slice_cmp}
use Rattle.std.specs.List.{position_or_len, list_any}
use Rattle.std.specs.Ordering.{nat_cmp}
use Rattle.std.specs.Str.{bytes_eq}
use Rattle.sdc_base.specs.Blanks.{is_blank}
use Rattle.code_trees.specs.Among.{IsIn}
use Rattle.code_trees.specs.Faults.{or_else, tree_unless}
use Rattle.code_trees.specs.declared.tree_fault.TreeFault.{TreeFault}
use Rattle.code_trees.specs.declared.tree_fault.TreeFault.TheVariants as fault
use Rattle.sdc_base.specs.Trees.{Tree, find}

-- the boundaries of widths: the sums of the first one, of the first two, and so on, each from this place on
abbrev pub boundaries : ℕ → List ℕ → List ℕ
boundaries from [] = []
boundaries from (width ∷ widths) = (from + width) ∷ boundaries (from + width) widths

-- how many boundaries are inside the code; one at its end is not inside
abbrev pub level : List ℕ → List ℕ → ℕ
level bounds code = position_or_len (λ bound. nat_le (length code) bound) bounds

-- the prefixes of a code at the boundaries inside it, shortest first, and the code itself
abbrev pub prefixes : List ℕ → List ℕ → List (List ℕ)
prefixes [] code = code ∷ []
prefixes (bound ∷ bounds) code = if nat_le (length code) bound then code ∷ []
    else take bound code ∷ prefixes bounds code

-- the total, and the prefixes of a code
abbrev pub chain : List ℕ → List ℕ → List ℕ → List (List ℕ)
chain total bounds code = total ∷ prefixes bounds code

-- the longest proper prefix of a code at a boundary, or else the total
abbrev pub code_above : List ℕ → List ℕ → List ℕ → List ℕ
code_above total bounds code = slice_index_or (chain total bounds code) (level bounds code) []

-- Each code is a node, in order, below its longest proper prefix at a boundary, or else below the total.
abbrev pub tree_of_codes : List ℕ → List ℕ → Tree → List (List ℕ) → Tree
tree_of_codes total bounds tree [] = tree
tree_of_codes total bounds tree (code ∷ codes) = tree_of_codes total bounds
    (tree ++ (code, find tree (code_above total bounds code)) ∷ []) codes

-- each boundary is beyond the one before
abbrev pub IsAscending : ℕ → List ℕ → Type 0
IsAscending from [] = Unit {0}
IsAscending from (bound ∷ bounds) = (from < bound) × IsAscending bound bounds

-- the prefixes of a code are codes too
abbrev pub IsClosed : List ℕ → List (List ℕ) → Type 0
IsClosed bounds codes =
    (code : List ℕ) (bound : ℕ) → IsIn code codes → IsIn bound bounds → bound < length code
    → IsIn (take bound code) codes

-- the codes that are kept, in ascending order of bytes, with a code more and its prefixes
abbrev pub with_prefixes : List ℕ → List (List ℕ) → List ℕ → List (List ℕ)
with_prefixes bounds kept code = fold (insert_key (slice_cmp nat_cmp)) kept (prefixes bounds code)

-- the kept codes, and the codes with their prefixes, each once, in ascending order of bytes
abbrev pub codes_with_prefixes : List ℕ → List (List ℕ) → List (List ℕ) → List (List ℕ)
codes_with_prefixes bounds kept [] = kept
codes_with_prefixes bounds kept (code ∷ codes) = codes_with_prefixes bounds (with_prefixes bounds kept code) codes

-- The fault of a code, as entry n, after these codes, which are kept with their prefixes: a blank inside, it or a
-- prefix of it is the total, an earlier entry is the same, or there are more than 5,000 with its prefixes.
abbrev pub level_fault : List ℕ → List ℕ → List (List ℕ) → List (List ℕ) → List ℕ → ℕ → Option TreeFault
level_fault total bounds earlier kept code n =
    if list_any is_blank code then Some (fault.Blank n)
    else if list_any (bytes_eq total) (prefixes bounds code) then Some (fault.IsTotal n)
    else if list_any (bytes_eq code) earlier then Some (fault.Twice n)
    else if nat_lt 5000 (length (with_prefixes bounds kept code)) then Some (fault.TooMany n)
    else None

-- the first fault of codes, which are numbered from n and come after the earlier ones
abbrev pub first_level_fault : List ℕ → List ℕ → ℕ → List (List ℕ) → List (List ℕ) → List (List ℕ) → Option TreeFault
first_level_fault total bounds n earlier kept [] = None
first_level_fault total bounds n earlier kept (code ∷ codes) =
    or_else (level_fault total bounds earlier kept code n)
    (first_level_fault total bounds (n + 1) (earlier ++ code ∷ []) (with_prefixes bounds kept code) codes)

-- the tree of codes by widths, or the first fault
abbrev pub levels_of : List ℕ → List ℕ → List (List ℕ) → Result Tree TreeFault
levels_of total widths codes =
    let bounds = boundaries 0 widths in
    tree_unless (first_level_fault total bounds 1 [] [] codes)
    (tree_of_codes total bounds ((total, None) ∷ []) (codes_with_prefixes bounds [] codes))

-- what the level form can be refused for
abbrev pub IsLevelFault : TreeFault → Type 0
IsLevelFault (fault.Blank n) = Unit {0}
IsLevelFault (fault.IsTotal n) = Unit {0}
IsLevelFault (fault.Twice n) = Unit {0}
IsLevelFault (fault.TooMany n) = Unit {0}
IsLevelFault fault.Memory = Unit {0}
IsLevelFault other = ⊥

-- The lists of choices that a search for a rounding looks at, and their order (own).
use Rattle.std.specs.Prelude.{◌≡◌, ℕ, zero, suc, ◌-◌, ◌≤◌, All, take, Bool, true, false, List, [], ◌∷◌, ◌++◌, length, if◌then◌else◌, ℤ}
use Rattle.sdc_base.specs.declared.system.System.{System}
use Rattle.sdc_base.specs.Roundings.{IsRounding}
use Rattle.rounding.specs.Choices.{Choices, unrounded_cells, by_choices}
use Rattle.rounding.specs.Extremes.{is_open}

-- the lists from this one on, with so many cells left: the list itself, and where it is open those that extend it, down
-- before up
abbrev pub lists_from : (Choices → Bool) → ℕ → Choices → List Choices
lists_from opens zero list = list ∷ []
lists_from opens (suc left) list = list ∷ (if opens list
    then lists_from opens left (list ++ false ∷ []) ++ lists_from opens left (list ++ true ∷ []) else [])

-- how many cells aren't multiples of the base
abbrev pub unrounded_count : List ℤ → ℤ → ℕ
unrounded_count truths base = length (unrounded_cells base 0 truths)

-- the lists of the search, in its order
abbrev pub lists_of : System → List ℤ → ℤ → List Choices
lists_of system truths base = lists_from (is_open system truths base) (unrounded_count truths base) []

-- a list has a choice for every cell that isn't a multiple, and what it chooses is a rounding
pub record IsRoundingList (system : System) (truths : List ℤ) (base : ℤ) (list : Choices) : Type 0 where
  pub one_for_each : length list ≡ unrounded_count truths base
  pub rounding : IsRounding system truths base (by_choices false base truths list)

-- The lists that come after all those that extend a prefix with these further choices, with so many cells left behind
-- the prefix: for each choice down, from the last to the first, the lists from the one with up in its place.
abbrev pub lists_after : (Choices → Bool) → ℕ → Choices → Choices → List Choices
lists_after opens left prefix [] = []
lists_after opens left prefix (choice ∷ choices) =
    lists_after opens (left - 1) (prefix ++ choice ∷ []) choices
    ++ (if choice then [] else lists_from opens (left - 1) (prefix ++ true ∷ []))

-- the lists of a search over so many cells from this one on
abbrev pub lists_ahead : (Choices → Bool) → ℕ → Choices → List Choices
lists_ahead opens cells list = lists_from opens (cells - length list) list ++ lists_after opens cells [] list

-- what comes from a list on, in the search
abbrev pub ahead_in : System → List ℤ → ℤ → Choices → List Choices
ahead_in system truths base list = lists_ahead (is_open system truths base) (unrounded_count truths base) list

-- a search stops at so many nodes: it has at least so many lists, and none of its first so many is a rounding
pub record Stops (system : System) (truths : List ℤ) (base : ℤ) (nodes : ℕ) : Type 0 where
  pub many : nodes ≤ length (lists_of system truths base)
  pub none : All (λ list. IsRoundingList system truths base list → ⊥) (take nodes (lists_of system truths base))

-- At least so many lists of the search have been looked at, or left out, and none of them is a rounding. These are
-- ahead.
pub record HasSeen (system : System) (truths : List ℤ) (base : ℤ) (seen : ℕ) (lists : List Choices) : Type 0 where
  pub front : List Choices
  pub front_and_rest : lists_of system truths base ≡ front ++ lists
  pub many : seen ≤ length front
  pub none : All (λ list. IsRoundingList system truths base list → ⊥) front

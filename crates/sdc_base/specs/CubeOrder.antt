-- The least cube of a cell: what hiding its corners costs, and which of two comes first (handbook, hypercube method;
-- order own).
use Rattle.std.specs.Prelude.{ℕ, ◌==◌, ◌&&◌, ◌||◌, nat_lt, Bool, true, false, if◌then◌else◌, List, [], ◌∷◌, map, filter, fold, Option, None, Some, option_map}
use Rattle.std.specs.List.{sum_by}
use Rattle.std.specs.Option.{option_map_or}
use Rattle.sdc_base.specs.declared.cell.Cell.{Cell}
use Rattle.sdc_base.specs.declared.cube.Corner.{Corner}
use Rattle.sdc_base.specs.declared.cube.Edge.{Edge}
use Rattle.sdc_base.specs.declared.facts.Levels.{Levels}
use Rattle.sdc_base.specs.Cubes.{corners_of, serve}

-- the prices of the corners that aren't hidden yet
abbrev pub price_of_hiding : (ℕ → Bool) → (ℕ → ℕ) → List Corner → ℕ
price_of_hiding hidden price corners = sum_by (λ corner. if hidden corner.cell then 0 else price corner.cell) corners

-- corners with what it costs to hide them
abbrev pub Offer : Type 0
Offer = ℕ × List Corner

-- the numbers are lower at the first place where they differ; a list that ends there is the lower one
abbrev pub is_lower : List Corner → List Corner → Bool
is_lower [] [] = false
is_lower [] (other ∷ others) = true
is_lower (one ∷ ones) [] = false
is_lower (one ∷ ones) (other ∷ others) = nat_lt one.cell other.cell || (one.cell == other.cell && is_lower ones others)

-- it costs less, or as much and has the lower numbers
abbrev pub comes_before : Offer → Offer → Bool
comes_before one other = nat_lt one.0 other.0 || (one.0 == other.0 && is_lower one.1 other.1)

-- the better of the best so far and another
abbrev pub better : {X : Type 0} → (X → X → Bool) → Option X → X → Option X
better before best x = Some (option_map_or (λ one. if before x one then x else one) best x)

-- the first of all by an order
abbrev pub first_by : {X : Type 0} → (X → X → Bool) → List X → Option X
first_by before xs = fold (better before) None xs

-- the corners of a cube with what it costs to hide them
abbrev pub offer_of : (List ℕ → Option ℕ) → (ℕ → Bool) → (ℕ → ℕ) → List Edge → Offer
offer_of number hidden price edges = (price_of_hiding hidden price (corners_of number edges), corners_of number edges)

-- those of the cubes that serve
abbrev pub offers : (List ℕ → Option ℕ) → (ℕ → Bool) → (ℕ → ℕ) → List Cell → Levels → List (List Edge) → List Offer
offers number hidden price cells levels cubes =
    filter (λ offer. serve cells levels offer.1) (map (offer_of number hidden price) cubes)

-- the corners of the least of the cubes that serve: the one that costs least, and of those the one with the lowest
-- numbers
abbrev pub least_of : (List ℕ → Option ℕ) → (ℕ → Bool) → (ℕ → ℕ) → List Cell → Levels → List (List Edge)
    → Option (List Corner)
least_of number hidden price cells levels cubes =
    option_map (λ offer. offer.1) (first_by comes_before (offers number hidden price cells levels cubes))

-- Refutations: multipliers of relations by which no world moves a cell as far as a level (linear duality).
use Rattle.std.specs.Prelude.{◌≡◌, ℕ, ◌<◌, Bool, true, false, List, ◌∷◌, length, slice_get, Some, IsSome, if◌then◌else◌, ℤ, pos, int_lt, ◌-ℤ◌, ◌*ℤ◌, ◌≤ℤ◌, ◌<ℤ◌}
use Rattle.std.specs.Option.{option_map_or}
use Rattle.sdc_base.specs.declared.cell.Cell.{Cell}
use Rattle.sdc_base.specs.declared.relation.Relation.{Relation}
use Rattle.sdc_base.specs.declared.side.Side.{Side}
use Rattle.sdc_base.specs.declared.system.System.{System}
use Rattle.sdc_base.specs.Totals.{sum_below}
use Rattle.sdc_base.specs.HiddenSets.{is_hidden}
use Rattle.sdc_base.specs.Systems.{Numbers}
use Rattle.sdc_base.specs.Forms.{Term, weighted_forms, coefficient}
use Rattle.sdc_base.specs.Worlds.{IsWorld, amount_toward}

-- the asked cell q times toward the side, and the weighted forms
abbrev pub refuting_terms : List Relation → ℕ → Side → ℤ → List Term → List Term
refuting_terms relations asked side q multipliers = (asked, amount_toward side q) ∷ weighted_forms relations multipliers

-- how far a cell can rise, where it has an upper bound
abbrev pub rise : Cell → ℤ
rise cell = option_map_or (λ high. high -ℤ cell.truth) cell.high (pos 0)

-- What a cell adds to the bound sum: a shown one nothing; a hidden one its coefficient times how far it can rise, where
-- the coefficient is above 0, else times how far it can fall, counted downwards.
abbrev pub share : Bool → ℤ → Cell → ℤ
share false k cell = pos 0
share true k cell = if int_lt (pos 0) k then k *ℤ rise cell else k *ℤ (cell.low -ℤ cell.truth)

-- what the cell with this number adds to the bound sum
abbrev pub share_at : List Cell → List Bool → Numbers → ℕ → ℤ
share_at cells flags coefficients number =
    option_map_or (share (is_hidden flags number) (coefficients number)) (slice_get cells number) (pos 0)

-- the bound sum: the shares of all cells, added up
abbrev pub bound_sum : List Cell → List Bool → Numbers → ℤ
bound_sum cells flags coefficients = sum_below (length cells) (share_at cells flags coefficients)

-- every hidden cell whose coefficient is above 0 has an upper bound
abbrev pub AreBounded : List Cell → List Bool → Numbers → Type 0
AreBounded cells flags coefficients =
    (number : ℕ) (cell : Cell) → slice_get cells number ≡ Some cell → is_hidden flags number ≡ true
    → pos 0 <ℤ coefficients number → IsSome cell.high

-- A refutation of a move of the asked cell by a level to a side: q, and multipliers, such that what they bound is below
-- q times the level.
pub record IsRefutation (system : System) (cells : List Cell) (flags : List Bool) (asked : ℕ) (side : Side)
    (least q : ℤ) (multipliers : List Term) : Type 0 where
  pub q_positive : pos 1 ≤ℤ q
  pub bounded : AreBounded cells flags (coefficient (refuting_terms system.relations asked side q multipliers))
  pub below : bound_sum cells flags (coefficient (refuting_terms system.relations asked side q multipliers))
      <ℤ (q *ℤ least)

-- a refutation keeps the asked cell, in every world of any denominator, below the level
abbrev pub WeakDuality : Type 0
WeakDuality =
    (system : System) (cells : List Cell) (flags : List Bool) (asked : ℕ) (side : Side) (least q : ℤ)
    (multipliers : List Term) →
    length cells ≡ system.cells → asked < system.cells → IsRefutation system cells flags asked side least q multipliers
    →
    (den : ℤ) (moves : Numbers) → IsWorld system cells flags den moves
    → amount_toward side (moves asked) <ℤ (den *ℤ least)

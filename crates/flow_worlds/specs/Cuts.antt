-- Cuts: multipliers by which no hidden cell that counts can go further to the side to which it counts (network flows;
-- linear duality).
use Rattle.std.specs.Prelude.{◌≡◌, ◌⊎◌, ℕ, Bool, true, List, ◌∷◌, All, length, slice_get, Some, ℤ, pos, negsuc, ◌+ℤ◌, ◌*ℤ◌, ◌<ℤ◌, if◌then◌else◌}
use Rattle.sdc_base.specs.declared.cell.Cell.{Cell}
use Rattle.sdc_base.specs.declared.relation.Relation.{Relation}
use Rattle.sdc_base.specs.Forms.{Term, coefficient, weighted_forms}
use Rattle.sdc_base.specs.HiddenSets.{is_hidden}
use Rattle.sdc_base.specs.Signs.{sign_of, times_counted}
use Rattle.signed_network.specs.Arcs.{is_same}
use Rattle.flow_worlds.specs.Searches.{is_reached}
use Rattle.flow_worlds.specs.Steps.{turn_of}
use Rattle.sdc_base.specs.Systems.{Numbers, number_at}
use Rattle.sdc_base.specs.Totals.{sum_below}
use Rattle.worlds.specs.NumberLists.{IsListed}
use Rattle.worlds.specs.declared.multipliers.Multipliers.{Multipliers}
use Rattle.flow_worlds.specs.declared.task.Task.{Task}

-- each hidden cell with a coefficient above 0 is at its upper bound, and each with one below 0 at its lower bound
pub record IsTight (cells : List Cell) (flags : List Bool) (moves coefficients : Numbers) : Type 0 where
  pub above : (number : ℕ) (cell : Cell) → slice_get cells number ≡ Some cell → is_hidden flags number ≡ true
      → pos 0 <ℤ coefficients number → cell.high ≡ Some (cell.truth +ℤ moves number)
  pub below : (number : ℕ) (cell : Cell) → slice_get cells number ≡ Some cell → is_hidden flags number ≡ true
      → coefficients number <ℤ pos 0 → cell.low ≡ cell.truth +ℤ moves number

-- the number is 1 or -1
abbrev pub IsOne : ℤ → Type 0
IsOne number = (number ≡ pos 1) ⊎ (number ≡ negsuc 0)

-- the multiplier of a relation with this sign that a search forward, or else backward, has reached
abbrev pub multiplier_of : Bool → Bool → ℤ
multiplier_of sign forward = if is_same sign forward then negsuc 0 else pos 1

-- the same for the relation with this number; 0 where it isn't reached
abbrev pub weight_of : List Bool → List Bool → Bool → ℕ → ℤ
weight_of signs reached forward number =
    if is_reached reached number then multiplier_of (sign_of signs number) forward else pos 0

-- By multipliers of relations with these signs a cell's coefficient is the sum of the relations' weights, each as many
-- times as its relation counts the cell.
abbrev pub AddUpToWeights : List Bool → List Bool → Bool → List Term → Type 0
AddUpToWeights signs reached forward multipliers =
    (relations : List Relation) (cell : ℕ)
    → coefficient (weighted_forms relations multipliers) cell
    ≡ sum_below (length signs)
    (λ number. weight_of signs reached forward number *ℤ times_counted relations number cell)

-- multipliers of 1 or -1 over the denominator 1, by which the moves are tight
pub record IsCut (task : Task) (moves : List ℤ) (multipliers : Multipliers) : Type 0 where
  pub whole : multipliers.den ≡ pos 1
  pub listed : IsListed (length task.system.now.relations) multipliers.by_relation
  pub ones : All (λ m. IsOne m.1) multipliers.by_relation
  pub tight : IsTight task.cells.now task.flags.now (number_at moves)
      (coefficient ((task.asked.cell, turn_of task.asked)
      ∷ weighted_forms task.system.now.relations multipliers.by_relation))

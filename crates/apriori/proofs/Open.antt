-- Levels of primary cells.
use Rattle.std.proofs.Common.{zero, suc, arith, true, false, cond, [], ◌∷◌, All, Option, None, Some, ℤ, pos, ◌≤ℤ◌, refl}
use Rattle.std.specs.Prelude.{int_lt}
use Rattle.std.specs.Option.{ForSome}
use Rattle.sdc_base.specs.declared.facts.Levels.{Levels}
use Rattle.primary_rules.specs.Ranges.{AreLevels, most_level}
use Rattle.sdc_base.specs.Truths.{IsTruth}
use Rattle.std.proofs.lemmas.Int.{ints}
use Rattle.apriori.specs.CellLevels.{AreOpen, wider_levels}

pub open_from : (truth : ℤ) (levels : Levels) → AreLevels truth levels → AreOpen truth levels
open_from truth levels are = record { unit = are.up.unit; at_most = are.up.at_most; from_zero = are.from_zero; within = are.within }

pub wider_open : (truth : ℤ) (levels : Levels) (others : Option Levels) → AreLevels truth levels → ForSome others (AreLevels truth) → AreOpen truth (wider_levels levels others)
wider_open truth levels None are all = open_from truth levels are
wider_open truth levels (Some others) are all = elim (int_lt levels.up others.up) as (λ t. AreOpen truth (cond t others levels)) [
  | true ↦ open_from truth others (all others refl)
  | false ↦ open_from truth levels are
]

-- open levels of a truth in range are in range
pub levels_in_range : (truth : ℤ) (levels : Levels) → IsTruth truth → AreOpen truth levels → (levels.up ≤ℤ pos most_level) × (levels.down ≤ℤ pos most_level)
levels_in_range truth levels is are = (are.at_most, omega (arith, ints, are.within, is.at_most))

-- what holds of one holds of all of it alone
pub all_one : {X : Type 0} (P : X → Type 0) (x : X) → P x → All P (x ∷ [])
all_one P x holds zero d within = holds
all_one P x holds (suc k) d within = absurd (omega (arith, within))

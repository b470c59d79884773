-- What one more fixed cell forces, and what is kept where fixes are taken back (own).
use Rattle.std.specs.Prelude.{◌≡◌, ℕ, ◌++◌, Bool, true, false, List, All, take, slice_get, Some, ℤ, pos, negsuc, ◌≤ℤ◌}
use Rattle.sdc_base.specs.declared.relation.Relation.{Relation}
use Rattle.sdc_base.specs.Roundings.{IsRounding}
use Rattle.sdc_base.specs.Systems.{number_at}
use Rattle.rounding.specs.Neighbours.{neighbour}
use Rattle.sdc_base.specs.Forms.{count_of}
use Rattle.rounding.specs.Sums.{AreExtremes}
use Rattle.rounding.specs.Tasks.{IsProper}
use Rattle.rounding.specs.Fixes.{Fix, FixedCells, IsFree, IsWithin, by_fixes, number_left}

-- a relation's form counts a cell above 0 times, or below
abbrev pub CountsCell : Bool → Relation → ℕ → Type 0
CountsCell true r cell = pos 1 ≤ℤ count_of r cell
CountsCell false r cell = count_of r cell ≤ℤ negsuc 0

-- Further cells are fixed: the numbers left lie between those before, and no rounding is lost.
pub record IsForced (before after : FixedCells) : Type 0 where
  pub more : List Fix
  pub grown : after ≡ record before { fixes = before.fixes ++ more }
  pub narrower : (cell : ℕ) → (number_left false before cell ≤ℤ number_left false after cell)
      × (number_left true after cell ≤ℤ number_left true before cell)
  pub keeps : (values : List ℤ) → IsRounding before.system before.truths before.base values → IsWithin before values
      → IsWithin after values

-- a cell is fixed at a neighbour of its truth, and only that cell, or it was there already
pub record IsTaken (cell : ℕ) (up : Bool) (before after : FixedCells) : Type 0 where
  pub more : List Fix
  pub grown : after ≡ record before { fixes = before.fixes ++ more }
  pub alone : All (λ fix. fix.0 ≡ cell) more
  pub here : (side : Bool) → number_left side after cell ≡ neighbour before.base (number_at before.truths cell) up

-- The numbers and sums that are kept beside fixed cells. Each cell was free before it was fixed.
pub record IsKept (b : FixedCells) (lows highs mins maxs : List ℤ) : Type 0 where
  pub proper : IsProper b.system b.truths b.base
  pub free : (place : ℕ) (fix : Fix) → slice_get b.fixes place ≡ Some fix
      → IsFree (record b { fixes = take place b.fixes }) fix.0
  pub lower : lows ≡ by_fixes false b.base b.truths b.fixes
  pub upper : highs ≡ by_fixes true b.base b.truths b.fixes
  pub least : AreExtremes lows highs b.system.relations mins
  pub greatest : AreExtremes highs lows b.system.relations maxs

-- What a change of the unit does to the rules: the same cells are named, and levels stay but for rounding (own).
use Rattle.std.specs.Prelude.{◌≡◌, ◌≤◌, ◌*◌, ℕ, List, map, All, Option, None, Some, ℤ, pos, negsuc, ◌+ℤ◌, ◌*ℤ◌, ◌≤ℤ◌, ◌<ℤ◌}
use Rattle.sdc_base.specs.Trees.{Tree}
use Rattle.sdc_base.specs.Records.{Name}
use Rattle.sdc_base.specs.RuleLevels.{Figures, figures_in, level_of}
use Rattle.sdc_base.specs.declared.rows.Row.{Row}
use Rattle.sdc_base.specs.declared.facts.Levels.{Levels}
use Rattle.sdc_base.specs.declared.rule.Rule.{Rule}
use Rattle.sdc_base.specs.declared.rule.Rule.TheVariants as rule
use Rattle.primary_rules.specs.Ranges.{IsInRange}

-- the same cell in a unit of which so many make one of the old: ten, say, where one decimal more is written
pub record IsRescaled (times : ℕ) (cell other : Figures) : Type 0 where
  pub truth : other.truth ≡ pos times *ℤ cell.truth
  pub freq : other.freq ≡ cell.freq
  pub largest : (n : ℕ) → other.largest n ≡ pos times *ℤ cell.largest n

-- A level in the new unit: at most the old one, and above what is one old unit less. Not: times as much exactly, since
-- both are rounded up.
pub record IsWithinRounding (times : ℕ) (level other : ℤ) : Type 0 where
  pub at_most : other ≤ℤ (pos times *ℤ level)
  pub above : (pos times *ℤ (level +ℤ negsuc 0)) <ℤ other

-- both have no levels, or both have, each within rounding
pub data AreWithinRounding (times : ℕ) : Option Levels → Option Levels → Type 0 where
  neither : AreWithinRounding times None None
  both : (levels others : Levels) → IsWithinRounding times levels.up others.up
      → IsWithinRounding times levels.down others.down → AreWithinRounding times (Some levels) (Some others)

-- a rule in the new unit: the level of ZERO alone is a number of units
abbrev pub rule_in_units : ℕ → Rule → Rule
rule_in_units times (rule.Zero r) = rule.Zero (times * r)
rule_in_units times other = other

-- a change of the unit changes no naming, and levels only within rounding
abbrev pub UnitsChangeNoNaming : Type 0
UnitsChangeNoNaming =
    (times : ℕ) (rules : List Rule) (cell other : Figures) → 1 ≤ times → All IsInRange rules
    → IsRescaled times cell other
    → AreWithinRounding times (level_of rules cell) (level_of (map (rule_in_units times) rules) other)

-- a record with its value in the new unit
abbrev pub row_in_units : ℕ → Row → Row
row_in_units times row = record { codes = row.codes; value = pos times *ℤ row.value; weight = row.weight }

-- where all values are in the new unit, so are the figures of each cell
abbrev pub RecordsAreRescaled : Type 0
RecordsAreRescaled =
    (times : ℕ) (trees : List Tree) (name : Name) (rows : List Row) (scale : ℕ) → 1 ≤ times
    → IsRescaled times (figures_in trees name rows scale)
    (figures_in trees name (map (row_in_units times) rows) scale)

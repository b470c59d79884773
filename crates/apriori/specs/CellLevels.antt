-- The protection levels of a cell: by the rules, by what is stated of it, and whether it is primary (handbook,
-- sensitive cells and protection levels; a priori statements: own).
use Rattle.std.specs.Prelude.{Bool, is_some, if◌then◌else◌, Option, None, Some, unwrap_or, option_map, ℤ, pos, ◌≤ℤ◌, int_lt}
use Rattle.sdc_base.specs.RuleLevels.{Figures, level_of, manual_of}
use Rattle.sdc_base.specs.declared.facts.Levels.{Levels}
use Rattle.sdc_base.specs.declared.cell.Cell.{Cell}
use Rattle.sdc_base.specs.declared.rule.Rules.{Rules}
use Rattle.primary_rules.specs.Ranges.{most_level}
use Rattle.apriori.specs.declared.prior.Status.{Status}
use Rattle.apriori.specs.declared.prior.Status.TheVariants.{Unsafe, Safe}
use Rattle.apriori.specs.declared.prior.Prior.{Prior}

-- levels of a primary cell of this truth: upwards from a unit to the greatest level, downwards from 0 to the truth
pub record AreOpen (truth : ℤ) (levels : Levels) : Type 0 where
  pub unit : pos 1 ≤ℤ levels.up
  pub at_most : levels.up ≤ℤ pos most_level
  pub from_zero : pos 0 ≤ℤ levels.down
  pub within : levels.down ≤ℤ truth

-- the levels of a cell are at most the greatest level
pub record HasLevelsInRange (cell : Cell) : Type 0 where
  pub up : cell.up ≤ℤ pos most_level
  pub down : cell.down ≤ℤ pos most_level

-- the levels with the greater upper one, the first where they are equal
abbrev pub wider_levels : Levels → Option Levels → Levels
wider_levels levels None = levels
wider_levels levels (Some others) = if int_lt levels.up others.up then others else levels

-- The levels that a cell has by the rules where it is primary: a cell that is declared unsafe has at least those of
-- MAN; one that is declared safe isn't primary; any other is where a rule names it.
abbrev pub rule_levels : Rules → Figures → Option Status → Option Levels
rule_levels rules cell (Some Unsafe) = Some (wider_levels (manual_of rules.man cell.truth) (level_of rules.list cell))
rule_levels rules cell (Some Safe) = None
rule_levels rules cell None = level_of rules.list cell

-- levels with the lower one at most the truth
abbrev pub cut_at : ℤ → Levels → Levels
cut_at truth levels = record { up = levels.up; down = if int_lt truth levels.down then truth else levels.down }

-- the levels that are stated of a primary cell, else those that it has by the rules
abbrev pub levels_in_force : ℤ → Option Levels → Levels → Levels
levels_in_force truth stated levels = unwrap_or (option_map (cut_at truth) stated) levels

-- the levels of a cell where it is primary
abbrev pub primary_levels : Rules → Figures → Prior → Option Levels
primary_levels rules cell prior =
    option_map (levels_in_force cell.truth prior.levels) (rule_levels rules cell prior.status)

-- a cell is primary where it has such levels
abbrev pub is_primary : Rules → Figures → Prior → Bool
is_primary rules cell prior = is_some (primary_levels rules cell prior)

-- a cell that isn't primary has the levels 0
abbrev pub levels_of : Rules → Figures → Prior → Levels
levels_of rules cell prior = unwrap_or (primary_levels rules cell prior) (record { up = pos 0; down = pos 0 })

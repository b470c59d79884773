-- Stricter rules name more cells, and want them more open (handbook, sensitivity rules; the order of rules: own).
use Rattle.std.specs.Prelude.{◌≤◌, ◌++◌, ℕ, IsTrue, List, ◌∷◌, All, Option, None, Some, ℤ, pos, ◌≤ℤ◌}
use Rattle.sdc_base.specs.Trees.{Tree}
use Rattle.sdc_base.specs.Records.{Name}
use Rattle.sdc_base.specs.declared.rows.Row.{Row}
use Rattle.sdc_base.specs.RuleLevels.{Figures, figures_in, is_sensitive_by, wanted_level, rounded_up, level_of, manual_of}
use Rattle.sdc_base.specs.declared.facts.Levels.{Levels}
use Rattle.sdc_base.specs.declared.rule.Rule.{Rule}
use Rattle.sdc_base.specs.declared.rule.Rule.TheVariants as rule
use Rattle.primary_rules.specs.Ranges.{IsInRange}

-- The second rule is of the first one's kind and at least as strict: no fewer records and no lower percentage of the
-- level; no fewer contributions and no greater share of the truth; no lower percentage; no lower percentage of the
-- largest and no greater one of the rest; or no fewer units.
abbrev pub IsStricter : Rule → Rule → Type 0
IsStricter (rule.Freq n r) (rule.Freq m s) = (n ≤ m) × (r ≤ s)
IsStricter (rule.Nk n k) (rule.Nk m l) = (n ≤ m) × (l ≤ k)
IsStricter (rule.Percent p) (rule.Percent q) = p ≤ q
IsStricter (rule.Pq p q) (rule.Pq s t) = (p ≤ s) × (t ≤ q)
IsStricter (rule.Zero r) (rule.Zero s) = r ≤ s
IsStricter one other = ⊥

-- figures of values from 0: the truth is from 0, and so is each sum over the largest, which more contributions don't
-- lower
pub record AreFromZero (cell : Figures) : Type 0 where
  pub truth : pos 0 ≤ℤ cell.truth
  pub largest : (n : ℕ) → pos 0 ≤ℤ cell.largest n
  pub more : (n m : ℕ) → n ≤ m → cell.largest n ≤ℤ cell.largest m

-- where no value is below 0, the figures of a cell over the records are such figures
abbrev pub ValuesFromZeroAreEnough : Type 0
ValuesFromZeroAreEnough =
    (trees : List Tree) (name : Name) (rows : List Row) (scale : ℕ) → All (λ row. pos 0 ≤ℤ row.value) rows
    → AreFromZero (figures_in trees name rows scale)

-- levels are there where these are, and no lower
pub data AreNoLower : Option Levels → Option Levels → Type 0 where
  from_none : (others : Option Levels) → AreNoLower None others
  from_some : (levels others : Levels) → levels.up ≤ℤ others.up → levels.down ≤ℤ others.down
      → AreNoLower (Some levels) (Some others)

-- a stricter rule names each cell that the other one names, and wants at least as much
abbrev pub StricterWantsMore : Type 0
StricterWantsMore =
    (one other : Rule) (cell : Figures) → IsInRange one → IsInRange other → AreFromZero cell → IsStricter one other
    → IsTrue (is_sensitive_by one cell) → IsTrue (is_sensitive_by other cell)
    × (rounded_up (wanted_level one cell) ≤ℤ rounded_up (wanted_level other cell))

-- a stricter rule in the place of another lowers no level
abbrev pub StricterLowersNone : Type 0
StricterLowersNone =
    (before behind : List Rule) (one other : Rule) (cell : Figures) → IsInRange one → IsInRange other → AreFromZero cell
    → IsStricter one other → AreNoLower (level_of (before ++ one ∷ behind) cell)
    (level_of (before ++ other ∷ behind) cell)

-- a further rule lowers no level
abbrev pub FurtherLowersNone : Type 0
FurtherLowersNone =
    (before behind : List Rule) (one : Rule) (cell : Figures)
    → AreNoLower (level_of (before ++ behind) cell) (level_of (before ++ one ∷ behind) cell)

-- a greater percentage lowers no level of a cell that is declared unsafe
abbrev pub MoreLowersNoManual : Type 0
MoreLowersNoManual =
    (percent more : ℕ) (truth : ℤ) → percent ≤ more → pos 0 ≤ℤ truth
    → ((manual_of percent truth).up ≤ℤ (manual_of more truth).up)
    × ((manual_of percent truth).down ≤ℤ (manual_of more truth).down)

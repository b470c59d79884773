-- The ranges of the numbers in primary rules, and of the levels that they make (own).
use Rattle.std.specs.Prelude.{ℕ, ◌≤◌, ◌^◌, All, ℤ, pos, ◌≤ℤ◌}
use Rattle.sdc_base.specs.declared.facts.Levels.{Levels}
use Rattle.sdc_base.specs.declared.rule.Rule.{Rule}
use Rattle.sdc_base.specs.declared.rule.Rule.TheVariants as rule
use Rattle.sdc_base.specs.declared.rule.Rules.{Rules}

-- the greatest frequency of a rule: that of all records
abbrev pub most_records : ℕ
most_records = 1000000

-- the most contributions that a dominance rule adds up
abbrev pub most_contributions : ℕ
most_contributions = 10

-- the greatest share of the truth, in percent
abbrev pub whole_share : ℕ
whole_share = 100

-- the greatest percentage of a level, and of the p-percent rule
abbrev pub most_percent : ℕ
most_percent = 1000

-- the greatest level of a cell that shows 0, in units
abbrev pub most_zero_level : ℕ
most_zero_level = 10 ^ 9

-- the greatest level
abbrev pub most_level : ℕ
most_level = 10 ^ 31

-- A rule's numbers are in their ranges: FREQ(n,r) with n from 1 to 1,000,000 records and r from 0 to 1,000 percent;
-- NK(n,k) with n from 1 to 10 contributions and k from 1 to 100 percent; P(p) with p from 1 to 1,000 percent; PQ(p,q)
-- with p and q from 1 to 1,000 percent; ZERO(r) with r from 1 to 10^9 units.
abbrev pub IsInRange : Rule → Type 0
IsInRange (rule.Freq n r) = (1 ≤ n) × (n ≤ most_records) × (r ≤ most_percent)
IsInRange (rule.Nk n k) = (1 ≤ n) × (n ≤ most_contributions) × (1 ≤ k) × (k ≤ whole_share)
IsInRange (rule.Percent p) = (1 ≤ p) × (p ≤ most_percent)
IsInRange (rule.Pq p q) = (1 ≤ p) × (p ≤ most_percent) × (1 ≤ q) × (q ≤ most_percent)
IsInRange (rule.Zero r) = (1 ≤ r) × (r ≤ most_zero_level)

-- all rules of a job are in their ranges, and so is the percentage of cells that are declared unsafe
pub record AreInRange (rules : Rules) : Type 0 where
  pub list : All IsInRange rules.list
  pub man : rules.man ≤ most_percent

-- an upper level is from a unit to the greatest
pub record IsUpper (level : ℤ) : Type 0 where
  pub unit : pos 1 ≤ℤ level
  pub at_most : level ≤ℤ pos most_level

-- levels of a cell of this truth: an upper one, and a lower one from 0 to the truth and to the upper one
pub record AreLevels (truth : ℤ) (levels : Levels) : Type 0 where
  pub up : IsUpper levels.up
  pub from_zero : pos 0 ≤ℤ levels.down
  pub within : levels.down ≤ℤ truth
  pub down : levels.down ≤ℤ levels.up

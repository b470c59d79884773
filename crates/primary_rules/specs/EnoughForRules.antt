-- What is told of a cell is enough for the rules (own).
use Rattle.std.specs.Prelude.{◌≡◌, ◌≤◌, ℕ, List}
use Rattle.sdc_base.specs.Trees.{Tree}
use Rattle.sdc_base.specs.Records.{Name}
use Rattle.sdc_base.specs.Sums.{truth, freq}
use Rattle.sdc_base.specs.Largest.{contributions}
use Rattle.sdc_base.specs.LargestKept.{KeepsLargest}
use Rattle.sdc_base.specs.RuleLevels.{Figures, keep_of, level_of}
use Rattle.sdc_base.specs.declared.rows.Row.{Row}
use Rattle.sdc_base.specs.declared.facts.CellFacts.{CellFacts}
use Rattle.sdc_base.specs.declared.rule.Rule.{Rule}

-- the facts of the cell of this name over the records: its truth, its frequency, and a list that tells its
-- contributions
pub record AreFactsOf (facts : CellFacts) (trees : List Tree) (name : Name) (rows : List Row) : Type 0 where
  pub truth : facts.truth ≡ truth trees name rows
  pub freq : facts.freq ≡ freq trees name rows
  pub tops : KeepsLargest facts.tops (contributions trees name rows)

-- two cells have the same truth, the same frequency and the same sums over up to so many largest contributions
pub record AgreeUpTo (kept : ℕ) (cell other : Figures) : Type 0 where
  pub truth : cell.truth ≡ other.truth
  pub freq : cell.freq ≡ other.freq
  pub largest : (n : ℕ) → n ≤ kept → cell.largest n ≡ other.largest n

-- the levels of a cell are settled by as many of its largest contributions as the rules look at
abbrev pub KeptAreEnough : Type 0
KeptAreEnough =
    (rules : List Rule) (cell other : Figures) → AgreeUpTo (keep_of rules) cell other
    → level_of rules cell ≡ level_of rules other

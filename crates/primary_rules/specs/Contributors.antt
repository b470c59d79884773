-- A further contributor that isn't the largest hides what the largest one contributes (handbook, p-percent and
-- prior-posterior rules; the condition: own).
use Rattle.std.specs.Prelude.{◌≤◌, ◌++◌, ◌∷◌, [], ℕ, IsTrue, List, All, fold, length, pos, ◌+ℤ◌, ◌*ℤ◌, ◌≤ℤ◌}
use Rattle.sdc_base.specs.Largest.{largest_sum}
use Rattle.sdc_base.specs.Shares.{weight_from}
use Rattle.sdc_base.specs.RuleLevels.{Figures, is_sensitive_by}
use Rattle.sdc_base.specs.declared.tops.Unit.{Unit as Contribution}
use Rattle.sdc_base.specs.declared.rule.Rule.{Rule}
use Rattle.sdc_base.specs.declared.rule.Rule.TheVariants as rule

-- the figures of a cell with these contributions
abbrev pub figures_of : List Contribution → ℕ → Figures
figures_of units scale =
    record {
      truth = fold (λ sum unit. sum +ℤ pos unit.weight *ℤ unit.value) (pos 0) units;
      freq = length units;
      largest = λ n. largest_sum scale n units;
    }

-- A further contribution with a value from 0, where those of at least its value weigh a whole one already, so that it
-- isn't the largest: the rule names the cell with it only if it names the cell without it.
abbrev pub IsNamedNoMore : Rule → Type 0
IsNamedNoMore one =
    (scale : ℕ) (units : List Contribution) (new : Contribution) → All (λ unit. pos 0 ≤ℤ unit.value) units
    → pos 0 ≤ℤ new.value → scale ≤ weight_from new.value units
    → IsTrue (is_sensitive_by one (figures_of (units ++ new ∷ []) scale))
    → IsTrue (is_sensitive_by one (figures_of units scale))

-- So it is with the p-percent rule and with the prior-posterior rule. (One that becomes the largest may well disclose
-- itself.)
abbrev pub FurtherIsNotNamed : Type 0
FurtherIsNotNamed = ((p : ℕ) → IsNamedNoMore (rule.Percent p)) × ((p q : ℕ) → IsNamedNoMore (rule.Pq p q))

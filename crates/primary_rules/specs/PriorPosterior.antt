-- The prior-posterior rule beside the p-percent rule (handbook, sensitivity rules).
use Rattle.std.specs.Prelude.{◌≡◌, ◌++◌, ◌∷◌, ℕ, List}
use Rattle.sdc_base.specs.RuleLevels.{Figures, is_sensitive_by, level_of}
use Rattle.sdc_base.specs.declared.rule.Rule.{Rule}
use Rattle.sdc_base.specs.declared.rule.Rule.TheVariants as rule

-- Where contributors know each contribution to within 100 percent, the prior-posterior rule is the p-percent rule: it
-- names the same cells, with the same levels, also among other rules.
pub record IsPercentOfHundred : Type 0 where
  pub named : (p : ℕ) (cell : Figures) → is_sensitive_by (rule.Pq p 100) cell ≡ is_sensitive_by (rule.Percent p) cell
  pub levels : (p : ℕ) (before behind : List Rule) (cell : Figures)
      → level_of (before ++ rule.Pq p 100 ∷ behind) cell ≡ level_of (before ++ rule.Percent p ∷ behind) cell

-- The prior-posterior rule of 100 percent is the p-percent rule.
use Rattle.std.proofs.Common.{◌≡◌, ℕ, ◌++◌, List, [], ◌∷◌, option_map, refl, ap}
use Rattle.sdc_base.specs.RuleLevels.{Figures, is_sensitive_by, wanted_level, rounded_up, greater_number, upper_of, levels_up_to}
use Rattle.sdc_base.specs.declared.rule.Rule.{Rule}
use Rattle.sdc_base.specs.declared.rule.Rule.TheVariants as rule
use Rattle.primary_rules.specs.PriorPosterior.{IsPercentOfHundred}

same_upper : (p : ℕ) (before behind : List Rule) (cell : Figures) → upper_of (before ++ rule.Pq p 100 ∷ behind) cell ≡ upper_of (before ++ rule.Percent p ∷ behind) cell
same_upper p [] behind cell = refl
same_upper p (one ∷ before) behind cell = rw (same_upper p before behind cell) refl

pub percent_of_hundred : IsPercentOfHundred
percent_of_hundred = record { named = λ p cell. refl; levels = λ p before behind cell. ap (λ up. option_map (levels_up_to cell.truth) up) (same_upper p before behind cell) }

-- Levels by the rules on cells that can be reckoned by hand (own).
use Rattle.std.specs.Prelude.{◌≡◌, ℕ, zero, suc, List, [], ◌∷◌, None, Some, ℤ, pos, ◌+ℤ◌}
use Rattle.sdc_base.specs.Sums.{truth, freq}
use Rattle.sdc_base.specs.RuleLevels.{Figures, level_of, manual_of}
use Rattle.sdc_base.specs.declared.rule.Rule.TheVariants as rule

-- the sum of so many numbers from the front
abbrev pub sum_of_first : ℕ → List ℤ → ℤ
sum_of_first zero numbers = pos 0
sum_of_first (suc n) [] = pos 0
sum_of_first (suc n) (number ∷ numbers) = number +ℤ sum_of_first n numbers

-- the figures of a cell with these contributions of weight 1
abbrev pub figures : ℕ → ℕ → ℕ → ℕ → ℕ → Figures
figures truth freq first second third =
    record { truth = pos truth; freq = freq; largest = λ n. sum_of_first n (pos first ∷ pos second ∷ pos third ∷ []) }

-- Levels by the rules: dominance with 8000 / 75 rounded up, less 100; the greatest level holds; exactly 75 percent and
-- exactly 10 percent name no cell; and a level of 0 percent is still a unit. A cell that shows 0 is named only where it
-- has records.
pub record RuleRows : Type 0 where
  pub dominance : level_of (rule.Nk 1 75 ∷ []) (figures 100 3 80 15 5) ≡ Some (record { up = pos 7; down = pos 7 })
  pub percent : level_of (rule.Percent 10 ∷ []) (figures 100 3 80 15 5) ≡ Some (record { up = pos 3; down = pos 3 })
  pub both : level_of (rule.Percent 10 ∷ rule.Nk 1 75 ∷ []) (figures 100 3 80 15 5)
      ≡ Some (record { up = pos 7; down = pos 7 })
  pub at_bound : level_of (rule.Nk 1 75 ∷ []) (figures 100 3 75 15 10) ≡ None
  pub at_percent : level_of (rule.Percent 10 ∷ []) (figures 100 3 80 12 8) ≡ None
  pub at_prior_posterior : level_of (rule.Pq 10 100 ∷ []) (figures 100 3 80 12 8) ≡ None
  pub prior_posterior : level_of (rule.Pq 11 100 ∷ []) (figures 100 3 80 12 8)
      ≡ Some (record { up = pos 1; down = pos 1 })
  pub half_known : level_of (rule.Pq 1 2 ∷ []) (figures 100 3 80 12 8) ≡ Some (record { up = pos 32; down = pos 32 })
  pub zero_shown : level_of (rule.Zero 5 ∷ []) (figures 0 3 0 0 0) ≡ Some (record { up = pos 5; down = pos 0 })
  pub no_contributors : level_of (rule.Zero 5 ∷ []) (figures 0 0 0 0 0) ≡ None
  pub frequency : level_of (rule.Freq 3 30 ∷ []) (figures 20 2 10 10 0) ≡ Some (record { up = pos 6; down = pos 6 })
  pub nothing : level_of (rule.Freq 3 30 ∷ []) (figures 0 1 0 0 0) ≡ Some (record { up = pos 1; down = pos 0 })
  pub unit : manual_of 0 (pos 5) ≡ record { up = pos 1; down = pos 1 }

-- The largest contributions, each taken for itself: what stands before it decides how much of it counts (own).
use Rattle.std.specs.Prelude.{◌≡◌, ℕ, ◌+◌, ◌-◌, min, List, [], ◌∷◌, ◌++◌, sum_by, ℤ, pos, ◌+ℤ◌, ◌*ℤ◌, int_lt, if◌then◌else◌}
use Rattle.sdc_base.specs.declared.tops.Unit.{Unit as Contribution}
use Rattle.sdc_base.specs.Largest.{ranking_of, first_steps}

-- the weight of those of at least this value
abbrev pub weight_from : ℤ → List Contribution → ℕ
weight_from value units = sum_by (λ unit. if int_lt unit.value value then 0 else unit.weight) units

-- the weight of those of greater value
abbrev pub weight_above : ℤ → List Contribution → ℕ
weight_above value units = sum_by (λ unit. if int_lt value unit.value then unit.weight else 0) units

-- each counts with the steps that are left by the earlier ones of at least its value and by the later ones of greater
-- value
abbrev pub shares_from : ℕ → List Contribution → List Contribution → ℤ
shares_from steps earlier [] = pos 0
shares_from steps earlier (unit ∷ later) = pos
    (min unit.weight (steps - (weight_from unit.value earlier + weight_above unit.value later))) *ℤ unit.value +ℤ
    shares_from steps (earlier ++ unit ∷ []) later

-- what all contributions come to over so many steps, each taken for itself
abbrev pub shares : ℕ → List Contribution → ℤ
shares steps units = shares_from steps [] units

-- both ways give the same
abbrev pub RankingIsFair : Type 0
RankingIsFair = (steps : ℕ) (units : List Contribution) → first_steps steps (ranking_of units) ≡ shares steps units

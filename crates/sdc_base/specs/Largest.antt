-- The largest contributions of a cell, by weight steps (handbook, magnitude tables; weight steps: own).
use Rattle.std.specs.Prelude.{ℕ, ◌-◌, ◌*◌, ◌≤◌, min, List, [], ◌∷◌, map, fold, All, ℤ, pos, ◌+ℤ◌, ◌*ℤ◌, int_lt, if◌then◌else◌}
use Rattle.sdc_base.specs.Trees.{Tree}
use Rattle.sdc_base.specs.Records.{Name}
use Rattle.sdc_base.specs.Sums.{rows_in}
use Rattle.sdc_base.specs.declared.rows.Row.{Row}
use Rattle.sdc_base.specs.declared.tops.Unit.{Unit as Contribution}

-- a contribution of this value and this weight in steps
abbrev pub contribution : ℤ → ℕ → Contribution
contribution value weight = record { value = value; weight = weight }

-- a new one, put behind all that have at least its value
abbrev pub with_contribution : List Contribution → Contribution → List Contribution
with_contribution [] new = new ∷ []
with_contribution (unit ∷ units) new = if int_lt unit.value new.value then new ∷ unit ∷ units
    else unit ∷ with_contribution units new

-- contributions by value downwards, of equal values the earlier first
abbrev pub ranking_of : List Contribution → List Contribution
ranking_of units = fold with_contribution [] units

-- value times weight over the first weight steps: a last one is taken in part, and where there are fewer steps all are
-- taken
abbrev pub first_steps : ℕ → List Contribution → ℤ
first_steps steps [] = pos 0
first_steps steps (unit ∷ units) = pos (min unit.weight steps) *ℤ unit.value +ℤ first_steps (steps - unit.weight) units

-- the sum over the n largest, where so many steps as the scale make one whole contribution
abbrev pub largest_sum : ℕ → ℕ → List Contribution → ℤ
largest_sum scale n units = first_steps (n * scale) (ranking_of units)

-- each weighs at least a whole one
abbrev pub AreHeavy : ℕ → List Contribution → Type 0
AreHeavy scale units = All (λ unit. scale ≤ unit.weight) units

-- what the records that fall in a cell contribute, in the order of the records
abbrev pub contributions : List Tree → Name → List Row → List Contribution
contributions trees name rows = map (λ row. contribution row.value row.weight) (rows_in trees name rows)

-- the sum over the n largest contributions of a cell
abbrev pub largest_in : List Tree → Name → List Row → ℕ → ℕ → ℤ
largest_in trees name rows scale n = largest_sum scale n (contributions trees name rows)

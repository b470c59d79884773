-- What the primary rules say of a cell: which rule names it, and how far it must then be open (handbook, sensitivity
-- rules and protection levels; rounding up to a unit, the least level and the lower level: own).
use Rattle.std.specs.Prelude.{ℕ, ◌*◌, max, nat_le, ◌&&◌, Bool, if◌then◌else◌, List, [], ◌∷◌, fold, Option, None, Some, option_map, ℤ, pos, neg_ℤ, ◌+ℤ◌, ◌*ℤ◌, ◌≤ℤ◌, int_lt}
use Rattle.std.specs.Int.{int_div_euclid}
use Rattle.std.specs.Ordering.{int_eq}
use Rattle.sdc_base.specs.Trees.{Tree}
use Rattle.sdc_base.specs.Records.{Name}
use Rattle.sdc_base.specs.Sums.{truth, freq}
use Rattle.sdc_base.specs.Largest.{largest_in, first_steps}
use Rattle.sdc_base.specs.Rules.{frequency_names}
use Rattle.sdc_base.specs.declared.rows.Row.{Row}
use Rattle.sdc_base.specs.declared.tops.Tops.{Tops}
use Rattle.sdc_base.specs.declared.facts.CellFacts.{CellFacts}
use Rattle.sdc_base.specs.declared.facts.Levels.{Levels}
use Rattle.sdc_base.specs.declared.rule.Rule.{Rule}
use Rattle.sdc_base.specs.declared.rule.Rule.TheVariants as rule

-- what a rule looks at in a cell: its truth, its frequency, and the sum over its n largest contributions, for each n
pub record Figures : Type 0 where
  pub truth : ℤ
  pub freq : ℕ
  pub largest : ℕ → ℤ

-- the sum over the n largest contributions that are kept
abbrev pub kept_largest : Tops → ℕ → ℤ
kept_largest tops n = first_steps (n * tops.scale) tops.list

-- the figures that are told of a cell
abbrev pub figures_of_facts : CellFacts → Figures
figures_of_facts facts = record { truth = facts.truth; freq = facts.freq; largest = kept_largest facts.tops }

-- the figures of a cell over the records
abbrev pub figures_in : List Tree → Name → List Row → ℕ → Figures
figures_in trees name rows scale =
    record { truth = truth trees name rows; freq = freq trees name rows; largest = largest_in trees name rows scale }

-- what the truth has beside the two largest contributions
abbrev pub rest_beside_two : Figures → ℤ
rest_beside_two cell = cell.truth +ℤ neg_ℤ (cell.largest 2)

-- The rule names the cell: too few records; the n largest above k percent of the truth; the rest below p percent of
-- the largest; q percent of the rest below p percent of the largest; or a truth of 0 over some records. All comparisons
-- are strict, so exactly k percent, or exactly p percent, name no cell.
abbrev pub is_sensitive_by : Rule → Figures → Bool
is_sensitive_by (rule.Freq n r) cell = frequency_names n cell.freq
is_sensitive_by (rule.Nk n k) cell = int_lt (pos k *ℤ cell.truth) (pos 100 *ℤ cell.largest n)
is_sensitive_by (rule.Percent p) cell = int_lt (pos 100 *ℤ rest_beside_two cell) (pos p *ℤ cell.largest 1)
is_sensitive_by (rule.Pq p q) cell = int_lt (pos q *ℤ rest_beside_two cell) (pos p *ℤ cell.largest 1)
is_sensitive_by (rule.Zero r) cell = nat_le 1 cell.freq && int_eq cell.truth (pos 0)

-- a fraction of whole numbers, its denominator above 0
pub record Fraction : Type 0 where
  pub over : ℤ
  pub under : ℕ

-- one number over another
abbrev pub fraction_of : ℤ → ℕ → Fraction
fraction_of over under = record { over = over; under = under }

-- a fraction less a whole number
abbrev pub fraction_less : Fraction → ℤ → Fraction
fraction_less q n = fraction_of (q.over +ℤ neg_ℤ (pos q.under *ℤ n)) q.under

-- How far the rule wants a cell that it names to be open upwards: r percent of the truth; what the truth lacks for the
-- n largest to be k percent of it; what the rest lacks for p percent of the largest, or for p / q of the largest; or
-- r units.
abbrev pub wanted_level : Rule → Figures → Fraction
wanted_level (rule.Freq n r) cell = fraction_of (pos r *ℤ cell.truth) 100
wanted_level (rule.Nk n k) cell = fraction_less (fraction_of (pos 100 *ℤ cell.largest n) k) cell.truth
wanted_level (rule.Percent p) cell = fraction_less (fraction_of (pos p *ℤ cell.largest 1) 100) (rest_beside_two cell)
wanted_level (rule.Pq p q) cell = fraction_less (fraction_of (pos p *ℤ cell.largest 1) q) (rest_beside_two cell)
wanted_level (rule.Zero r) cell = fraction_of (pos r) 1

-- the least whole number that is not below the fraction, and a unit at least
abbrev pub rounded_up : Fraction → ℤ
rounded_up q = let up = neg_ℤ (int_div_euclid (neg_ℤ q.over) (pos q.under)) in if int_lt up (pos 1) then pos 1 else up

-- what it is to be rounded up, said apart from any division
pub record IsRoundedUp (q : Fraction) (level : ℤ) : Type 0 where
  pub unit : pos 1 ≤ℤ level
  pub reaches : q.over ≤ℤ (pos q.under *ℤ level)
  pub least : (other : ℤ) → pos 1 ≤ℤ other → q.over ≤ℤ (pos q.under *ℤ other) → level ≤ℤ other

-- the greater of a number and one that may be there
abbrev pub greater_number : ℤ → Option ℤ → ℤ
greater_number n None = n
greater_number n (Some m) = if int_lt n m then m else n

-- the greatest upper level of the rules that name the cell, where one does
abbrev pub upper_of : List Rule → Figures → Option ℤ
upper_of [] cell = None
upper_of (one ∷ rules) cell = if is_sensitive_by one cell
    then Some (greater_number (rounded_up (wanted_level one cell)) (upper_of rules cell)) else upper_of rules cell

-- levels with this upper one: the lower one is the lesser of it and the truth
abbrev pub levels_up_to : ℤ → ℤ → Levels
levels_up_to truth up = record { up = up; down = if int_lt up truth then up else truth }

-- the levels of a cell by the rules, where one of them names it
abbrev pub level_of : List Rule → Figures → Option Levels
level_of rules cell = option_map (levels_up_to cell.truth) (upper_of rules cell)

-- the levels of a cell that is declared unsafe: so much percent of the truth
abbrev pub manual_of : ℕ → ℤ → Levels
manual_of percent truth = levels_up_to truth (rounded_up (fraction_of (pos percent *ℤ truth) 100))

-- how many of the largest contributions a rule looks at
abbrev pub looks_at : Rule → ℕ
looks_at (rule.Nk n k) = n
looks_at other = 2

-- how many the rules look at, at least two
abbrev pub keep_of : List Rule → ℕ
keep_of rules = fold (λ most one. max most (looks_at one)) 2 rules

-- Where rules name a cell, and which levels it then has, in words of their own (handbook, sensitivity rules; the words:
-- own).
use Rattle.std.specs.Prelude.{◌≡◌, ◌↔◌, ◌≤◌, ◌<◌, ◌⊎◌, false, IsTrue, List, All, Any, None, Some, ℤ, pos, ◌*ℤ◌, ◌≤ℤ◌, ◌<ℤ◌}
use Rattle.sdc_base.specs.RuleLevels.{Figures, Fraction, is_sensitive_by, rest_beside_two, wanted_level, rounded_up, IsRoundedUp, level_of}
use Rattle.sdc_base.specs.declared.facts.Levels.{Levels}
use Rattle.sdc_base.specs.declared.rule.Rule.{Rule}
use Rattle.sdc_base.specs.declared.rule.Rule.TheVariants as rule

-- The inequality under which a rule names a cell. Each is strict. Not: a cell that meets its bound exactly, or under
-- FREQ and ZERO one without records.
abbrev pub Discloses : Rule → Figures → Type 0
Discloses (rule.Freq n r) cell = (1 ≤ cell.freq) × (cell.freq < n)
Discloses (rule.Nk n k) cell = (pos k *ℤ cell.truth) <ℤ (pos 100 *ℤ cell.largest n)
Discloses (rule.Percent p) cell = (pos 100 *ℤ rest_beside_two cell) <ℤ (pos p *ℤ cell.largest 1)
Discloses (rule.Pq p q) cell = (pos q *ℤ rest_beside_two cell) <ℤ (pos p *ℤ cell.largest 1)
Discloses (rule.Zero r) cell = (1 ≤ cell.freq) × (cell.truth ≡ pos 0)

-- a rule names exactly the cells for which its inequality holds
abbrev pub NamesWhereDisclosing : Type 0
NamesWhereDisclosing = (one : Rule) (cell : Figures) → IsTrue (is_sensitive_by one cell) ↔ Discloses one cell

-- rounding up gives the least whole number, from one unit on, that reaches the quotient, and no other number is that
abbrev pub RoundingIsLeast : Type 0
RoundingIsLeast = (q : Fraction) (level : ℤ) → 1 ≤ q.under → (level ≡ rounded_up q) ↔ IsRoundedUp q level

-- a number is the lesser of two
abbrev pub IsLesser : ℤ → ℤ → ℤ → Type 0
IsLesser n a b = (n ≤ℤ a) × (n ≤ℤ b) × ((n ≡ a) ⊎ (n ≡ b))

-- The upper level is what one of the rules wants that name the cell, and none of them wants more; the lower level is
-- the lesser of the upper one and the truth.
pub record AreGreatest (rules : List Rule) (cell : Figures) (levels : Levels) : Type 0 where
  pub by_one : Any (λ one. IsTrue (is_sensitive_by one cell) × (levels.up ≡ rounded_up (wanted_level one cell))) rules
  pub most : All (λ one. IsTrue (is_sensitive_by one cell) → rounded_up (wanted_level one cell) ≤ℤ levels.up) rules
  pub down : IsLesser levels.down levels.up cell.truth

-- a cell has no levels exactly where no rule names it
abbrev pub NoneWhereNoneNames : Type 0
NoneWhereNoneNames =
    (rules : List Rule) (cell : Figures) → (level_of rules cell ≡ None)
    ↔ All (λ one. is_sensitive_by one cell ≡ false) rules

-- the levels of a cell are the greatest of the rules that name it
abbrev pub LevelsAreGreatest : Type 0
LevelsAreGreatest =
    (rules : List Rule) (cell : Figures) (levels : Levels) → level_of rules cell ≡ Some levels
    → AreGreatest rules cell levels

-- What one rule says of a cell (handbook, sensitivity rules; rounding up to a unit: own).
use Rattle.std.specs.Prelude.{if◌then◌else◌, Option, None, Some, ℤ}
use Rattle.sdc_base.specs.RuleLevels.{Figures, is_sensitive_by, wanted_level, rounded_up, greater_number}
use Rattle.sdc_base.specs.declared.rule.Rule.{Rule}

-- the upper level of a cell by one rule, where the rule names it
abbrev pub up_by : Rule → Figures → Option ℤ
up_by one cell = if is_sensitive_by one cell then Some (rounded_up (wanted_level one cell)) else None

-- the greater of two levels that may be there
abbrev pub greater_of : Option ℤ → Option ℤ → Option ℤ
greater_of None other = other
greater_of (Some n) other = Some (greater_number n other)

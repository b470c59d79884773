-- The small tables, reckoned.
use Rattle.std.proofs.Common.{refl}
use Rattle.sdc_base.specs.Examples.{FlatTable, WeightSteps, LastInPart, TwoLevels, SharedMargins, RelationRows, DepthRows}
use Rattle.sdc_base.specs.CubeExamples.{CubeRows}
use Rattle.sdc_base.specs.RuleExamples.{RuleRows}

pub flat_table : FlatTable
flat_table = record { cells = refl; sums = refl; counts = refl; none = refl; fewer = refl; named = refl; empty = refl }

pub weight_steps : WeightSteps
weight_steps = record { sum = refl; count = refl; largest = refl; reversed = refl }

pub last_in_part : LastInPart
last_in_part = record { sum = refl; largest = refl }

pub two_levels : TwoLevels
two_levels = record { walk = refl; under = refl }

pub shared_margins : SharedMargins
shared_margins = record { margin_first = refl; turned = refl }

pub relation_rows : RelationRows
relation_rows = record { two_way = refl; linked = refl; levels = refl; not_spanned = refl }

pub depth_rows : DepthRows
depth_rows = record { shared = refl; upper = refl; nine = refl; thirteen = refl; relations = refl }

pub rule_rows : RuleRows
rule_rows = record { dominance = refl; percent = refl; both = refl; at_bound = refl; at_percent = refl; at_prior_posterior = refl; prior_posterior = refl; half_known = refl; zero_shown = refl; no_contributors = refl; frequency = refl; nothing = refl; unit = refl }

pub cube_rows : CubeRows
cube_rows = record { of_code = refl; of_total = refl; inner = refl; outer = refl; order = refl }

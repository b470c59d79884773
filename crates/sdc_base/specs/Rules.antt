-- The frequency rule: which cells are sensitive by the number of their records (handbook, sensitivity rules).
use Rattle.std.specs.Prelude.{ℕ, ◌&&◌, nat_le, nat_lt, Bool, List, Option}
use Rattle.sdc_base.specs.Places.{first_place}
use Rattle.sdc_base.specs.Trees.{Tree}
use Rattle.sdc_base.specs.Records.{Name}
use Rattle.sdc_base.specs.Sums.{freq}
use Rattle.sdc_base.specs.declared.rows.Row.{Row}

-- the frequency rule with n names a cell of this frequency: it has a record, and fewer than n
abbrev pub frequency_names : ℕ → ℕ → Bool
frequency_names n freq = nat_le 1 freq && nat_lt freq n

-- the number of the first of these cells that the frequency rule with n names
abbrev pub first_named : ℕ → List Tree → List Row → List Name → Option ℕ
first_named n trees rows cells = first_place (λ name. frequency_names n (freq trees name rows)) cells

-- The sides of a truth, as texts name them (own).
use Rattle.std.specs.Prelude.{ℕ, List, codes}
use Rattle.sdc_base.specs.declared.side.Side.{Side}
use Rattle.sdc_base.specs.declared.side.Side.TheVariants as side

-- the word of a side
abbrev pub side_word : Side → List ℕ
side_word side.Above = codes "above"
side_word side.Below = codes "below"

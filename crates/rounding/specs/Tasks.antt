-- What a rounding is asked of, and what a rounding is seen as (own).
use Rattle.std.specs.Prelude.{◌≡◌, ◌^◌, List, All, length, ℤ, pos, ◌≤ℤ◌}
use Rattle.sdc_base.specs.declared.system.System.{System}
use Rattle.sdc_base.specs.Systems.{HoldOn, number_at}
use Rattle.sdc_base.specs.Truths.{IsTruth}

-- a base from 1 to 10^22, and a truth for each cell, on which the relations hold
pub record IsProper (system : System) (truths : List ℤ) (base : ℤ) : Type 0 where
  pub from_one : pos 1 ≤ℤ base
  pub to_most : base ≤ℤ pos (10 ^ 22)
  pub each : length truths ≡ system.cells
  pub within : All IsTruth truths
  pub hold : HoldOn (number_at truths) system.relations

-- values, one for each cell, with the system, the truths and the base that they are for
pub record RoundedValues : Type 0 where
  pub system : System
  pub truths : List ℤ
  pub base : ℤ
  pub values : List ℤ

-- what these make
abbrev pub rounded_values : System → List ℤ → ℤ → List ℤ → RoundedValues
rounded_values system truths base values = record { system = system; truths = truths; base = base; values = values }

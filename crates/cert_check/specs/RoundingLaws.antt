-- Numbers judged as a rounding (zero-restricted controlled rounding; own).
use Rattle.std.specs.Prelude.{◌≡◌, ◌↔◌, List, length, map, Ok, ℤ, pos, ◌≤ℤ◌}
use Rattle.sdc_base.specs.declared.cell.Cell.{Cell}
use Rattle.sdc_base.specs.declared.system.System.{System}
use Rattle.sdc_base.specs.Roundings.{IsRounding}
use Rattle.cert_check.specs.RoundedRelease.{values_fault}

-- numbers have no fault exactly where they are a rounding of the truths to the base
abbrev pub RoundingIsJudged : Type 0
RoundingIsJudged =
    (system : System) (cells : List Cell) (base : ℤ) (values : List ℤ)
    → pos 1 ≤ℤ base → length cells ≡ system.cells → length values ≡ system.cells
    → (values_fault system cells base values ≡ Ok tt) ↔ IsRounding system (map (λ cell. cell.truth) cells) base values

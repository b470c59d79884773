-- Balance: as much comes in at a point as goes out (network flows; own).
use Rattle.std.specs.Prelude.{◌≡◌, ℕ, ◌<◌, List, length, ℤ, pos, ◌+ℤ◌, ◌*ℤ◌}
use Rattle.sdc_base.specs.Systems.{Numbers}
use Rattle.sdc_base.specs.Totals.{sum_below}
use Rattle.signed_network.specs.declared.arcs.Arc.{Arc}
use Rattle.signed_network.specs.Arcs.{arc_at, brings_to}

-- what goes out at each of the first points comes in, where each cell's arc carries its number
abbrev pub IsBalanced : List Arc → ℕ → Numbers → Type 0
IsBalanced arcs points numbers =
    (point : ℕ) → point < points → sum_below (length arcs) (λ cell. numbers cell *ℤ brings_to (arc_at arcs cell) point)
    ≡ pos 0

-- the numbers after so much of the turns
abbrev pub numbers_after_turns : ℤ → Numbers → Numbers → Numbers
numbers_after_turns by numbers turns cell = numbers cell +ℤ by *ℤ turns cell

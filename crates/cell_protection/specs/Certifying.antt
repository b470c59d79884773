-- The certificate of a hidden set that protects (own).
use Rattle.std.specs.Prelude.{ℕ, Bool, List, [], ◌∷◌, length, filter}
use Rattle.std.specs.List.{range_with_len}
use Rattle.sdc_base.specs.HiddenSets.{is_hidden}
use Rattle.sdc_base.specs.declared.cell.Cell.{Cell}
use Rattle.sdc_base.specs.declared.method.Method.{Method}
use Rattle.sdc_base.specs.declared.side.Side.{Side}
use Rattle.sdc_base.specs.declared.system.System.{System}
use Rattle.sdc_base.specs.declared.trail.PlanStep.{PlanStep}
use Rattle.worlds.specs.ProtectFaults.{asked_of}
use Rattle.worlds.specs.Protection.{Protection}
use Rattle.worlds.specs.declared.refuted.Refuted.{Refuted}
use Rattle.worlds.specs.declared.world.World.{World}
use Rattle.certificate.specs.declared.certificate.Certificate.{Certificate}
use Rattle.certificate.specs.declared.certificate.WorldLine.{WorldLine}

-- the numbers of the hidden cells among so many, ascending
abbrev pub hidden_numbers : ℕ → List Bool → List ℕ
hidden_numbers count flags = filter (is_hidden flags) (range_with_len 0 count)

-- a world with the primary cell and the side for which it stands
abbrev pub world_line : ℕ × Side → World → WorldLine
world_line asked world = record { cell = asked.0; side = asked.1; world = world }

-- each world with the primary cell and the side for which it stands
abbrev pub world_lines : List (ℕ × Side) → List World → List WorldLine
world_lines [] worlds = []
world_lines (asked ∷ more) [] = []
world_lines (asked ∷ more) (world ∷ worlds) = world_line asked world ∷ world_lines more worlds

-- the certificate of a hidden set with its worlds, made by this method with these steps, repairs and needs
abbrev pub certificate_made : Method → System → List Cell → Protection → List PlanStep → List Refuted → List Refuted
    → Certificate
certificate_made method system cells protected steps repairs needs = record {
  method = method;
  cells = system.cells;
  relations = length system.relations;
  hidden = hidden_numbers system.cells protected.hidden.flags;
  steps = steps;
  repairs = repairs;
  needs = needs;
  worlds = world_lines (asked_of 0 cells) protected.worlds;
}

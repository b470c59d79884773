-- A hidden set that protects, as callers see it (own).
use Rattle.std.specs.Prelude.{◌≡◌, List, Ok}
use Rattle.sdc_base.specs.declared.cell.Cell.{Cell}
use Rattle.sdc_base.specs.declared.hidden.Hidden.{Hidden}
use Rattle.sdc_base.specs.declared.system.System.{System}
use Rattle.worlds.specs.declared.world.World.{World}
use Rattle.worlds.specs.ProtectFaults.{protect_fault, IsProtecting}

-- a system and its cells, a hidden set, and worlds for its primary cells
pub record Protection : Type 0 where
  pub system : System
  pub cells : List Cell
  pub hidden : Hidden
  pub worlds : List World

-- what these make
abbrev pub protection : System → List Cell → Hidden → List World → Protection
protection system cells hidden worlds = record { system = system; cells = cells; hidden = hidden; worlds = worlds }

-- the worlds have no fault, and the hidden set protects every primary cell to both sides
pub record IsSoundProtection (p : Protection) : Type 0 where
  pub checked : protect_fault p.system p.cells p.hidden.flags p.worlds ≡ Ok tt
  pub protecting : IsProtecting p.system p.cells p.hidden.flags

-- What guarding against contributors comes to (own).
use Rattle.std.specs.Prelude.{◌≡◌, ℕ, ◌==◌, Bool, true, false, List, [], ◌∷◌, filter, flat_map, Ok, Option}
use Rattle.sdc_base.specs.declared.side.Side.{Side}
use Rattle.sdc_base.specs.HiddenSets.{full_set}
use Rattle.worlds.specs.declared.world.World.{World}
use Rattle.worlds.specs.ProtectFaults.{asked_of}
use Rattle.certificate.specs.declared.certificate.WorldLine.{WorldLine}
use Rattle.repair.specs.HidingOrder.{Case}
use Rattle.repair.specs.Laws.{rank}
use Rattle.certificate.specs.declared.extra.Extra.{Extra}
use Rattle.attackers.specs.declared.extra.Guarded.{Guarded}
use Rattle.attackers.specs.declared.extra.Guarded.TheVariants.{Guards, CannotAgainst}
use Rattle.attackers.specs.KnownCells.{GuardsAll}
use Rattle.attackers.specs.AttackOrder.{attacks_of}
use Rattle.attackers.specs.ContributorTasks.{IsCannot}
use Rattle.attackers.specs.ExtraFaults.{rank_of, extra_fault}
use Rattle.attackers.specs.ExtraAcceptance.{IsGuarding}

-- the line is for this cell and side
abbrev pub is_for : ℕ × Side → WorldLine → Bool
is_for asked line = rank_of line == rank asked

-- the lines for what is asked, in its order
abbrev pub guards_in_order : List (ℕ × Side) → List WorldLine → List WorldLine
guards_in_order asked guards = flat_map (λ one. filter (is_for one) guards) asked

-- worlds for what is asked, one for each, as world lines
abbrev pub lines_of : List (ℕ × Side) → List World → List WorldLine
lines_of [] worlds = []
lines_of (asked ∷ more) [] = []
lines_of (asked ∷ more) (world ∷ worlds) =
    record { cell = asked.0; side = asked.1; world = world } ∷ lines_of more worlds

-- An extra beside a hidden set that worlds protect is accepted, what it says holds, and the full set guards against all
-- attacks.
pub record IsGuardedBy (c : Case) (soles : List (Option ℕ)) (flags : List Bool) (worlds : List World) (extra : Extra)
    : Type 0 where
  pub accepted : extra_fault c soles flags (lines_of (asked_of 0 c.cells) worlds) extra ≡ Ok tt
  pub guarding : IsGuarding c soles flags extra
  pub full_guards : GuardsAll c soles (full_set c.cells) (attacks_of c.cells soles)

-- what guarding that began with this set and these worlds comes to
abbrev pub IsGuarded : Case → List (Option ℕ) → List Bool → List World → Guarded → Type 0
IsGuarded c soles flags worlds (Guards extra) = IsGuardedBy c soles flags worlds extra
IsGuarded c soles flags worlds (CannotAgainst row cell side multipliers) =
    IsCannot c soles (attacks_of c.cells soles) (record { row = row; cell = cell; side = side }) multipliers

-- whether it is that the full set doesn't guard against an attack
abbrev pub is_cannot : Guarded → Bool
is_cannot (Guards extra) = false
is_cannot (CannotAgainst row cell side multipliers) = true

-- The first fault of extra cells beside a hidden set: the cells, then the needs, then the guards, then what is open (own).
use Rattle.std.specs.Prelude.{ℕ, ◌+◌, ◌==◌, ◌&&◌, nat_le, not, Bool, false, List, [], ◌∷◌, ◌++◌, slice_get, Option, None, Some, Result, Ok, Err}
use Rattle.std.specs.Option.{option_map_or}
use Rattle.sdc_base.specs.Steps.{◌>>=◌, refuse, map_fault}
use Rattle.sdc_base.specs.declared.cell.Cell.{Cell}
use Rattle.sdc_base.specs.Kinds.{is_primary_at}
use Rattle.sdc_base.specs.HiddenSets.{is_hidden, show, hide_cells}
use Rattle.worlds.specs.ProtectFaults.{line_number}
use Rattle.worlds.specs.RefutationFaults.{refutation_fault}
use Rattle.worlds.specs.WorldFaults.{world_fault}
use Rattle.certificate.specs.declared.certificate.WorldLine.{WorldLine}
use Rattle.repair.specs.HidingOrder.{Case, is_free_at}
use Rattle.repair.specs.Laws.{rank}
use Rattle.attackers.specs.declared.attack.Attack.{Attack}
use Rattle.certificate.specs.declared.extra.ExtraNeed.{ExtraNeed}
use Rattle.certificate.specs.declared.extra.Extra.{Extra}
use Rattle.attackers.specs.declared.faults.ExtraFault.{ExtraFault}
use Rattle.attackers.specs.declared.faults.ExtraFault.TheVariants as fault
use Rattle.attackers.specs.KnownCells.{without_known, is_attack, is_served}
use Rattle.attackers.specs.AttackOrder.{attacks_of}
use Rattle.attackers.specs.Extras.{attack_of}

-- the fault of a call; want of memory names none
abbrev pub extra_fault_of : ExtraFault → Option ExtraFault
extra_fault_of (fault.Cell k) = Some (fault.Cell k)
extra_fault_of (fault.NeedCell k) = Some (fault.NeedCell k)
extra_fault_of (fault.Need k why) = Some (fault.Need k why)
extra_fault_of (fault.GuardCell k) = Some (fault.GuardCell k)
extra_fault_of (fault.Guard k why) = Some (fault.Guard k why)
extra_fault_of (fault.Open row cell side) = Some (fault.Open row cell side)
extra_fault_of fault.Memory = None

-- a cell may be the next extra one: it isn't below the least that is left, is free, and isn't hidden
abbrev pub may_be_extra : List Cell → List Bool → ℕ → ℕ → Bool
may_be_extra cells flags least cell = nat_le least cell && (is_free_at cells cell && not (is_hidden flags cell))

-- the first fault of the extra cells, from this place on
abbrev pub cells_fault : List Cell → List Bool → ℕ → ℕ → List ℕ → Result (Unit {0}) ExtraFault
cells_fault cells flags k least [] = Ok tt
cells_fault cells flags k least (cell ∷ more) =
    refuse (fault.Cell (line_number k)) (not (may_be_extra cells flags least cell)) >>= λ _.
    cells_fault cells flags (k + 1) (cell + 1) more

-- a need is that of the extra cell, and names an attack
abbrev pub is_need_of : List Cell → List (Option ℕ) → ℕ → ExtraNeed → Bool
is_need_of cells soles subject need = (need.subject == subject) && is_attack cells soles (attack_of need)

-- there is an extra cell at a place, and the need is that of it
abbrev pub is_need_at : List Cell → List (Option ℕ) → List ℕ → ℕ → ExtraNeed → Bool
is_need_at cells soles subjects place need =
    option_map_or (λ subject. is_need_of cells soles subject need) (slice_get subjects place) false

-- the first need, from this place on, that isn't that of its cell; a missing or a further one is refused
abbrev pub need_cells_fault : List Cell → List (Option ℕ) → ℕ → List ℕ → List ExtraNeed → Result (Unit {0}) ExtraFault
need_cells_fault cells soles k [] [] = Ok tt
need_cells_fault cells soles k [] (need ∷ needs) = Err (fault.NeedCell (line_number k))
need_cells_fault cells soles k (subject ∷ subjects) [] = Err (fault.NeedCell (line_number k))
need_cells_fault cells soles k (subject ∷ subjects) (need ∷ needs) =
    refuse (fault.NeedCell (line_number k)) (not (is_need_of cells soles subject need)) >>= λ _.
    need_cells_fault cells soles (k + 1) subjects needs

-- the fault of one need: of its refutation for the set without its subject and without what its contributor knows
abbrev pub need_fault : Case → List (Option ℕ) → List Bool → ℕ → ExtraNeed → Result (Unit {0}) ExtraFault
need_fault c soles flags k need =
    map_fault (fault.Need (line_number k)) (refutation_fault c.system c.cells
    (without_known soles need.row (show flags need.subject)) need.cell need.side need.multipliers)

-- the first fault of the needs, from this place on
abbrev pub needs_fault : Case → List (Option ℕ) → List Bool → ℕ → List ExtraNeed → Result (Unit {0}) ExtraFault
needs_fault c soles flags k [] = Ok tt
needs_fault c soles flags k (need ∷ needs) =
    need_fault c soles flags k need >>= λ _. needs_fault c soles flags (k + 1) needs

-- where a guard's cell and side stand in the order of all
abbrev pub rank_of : WorldLine → ℕ
rank_of line = rank (line.cell, line.side)

-- a guard may be next: it is of a primary cell, and its cell and side don't stand before those of the one before it
abbrev pub may_be_guard : List Cell → ℕ → WorldLine → Bool
may_be_guard cells least line = is_primary_at cells line.cell && nat_le least (rank_of line)

-- the first guard, from this place on, that may not be
abbrev pub guard_cells_fault : List Cell → ℕ → ℕ → List WorldLine → Result (Unit {0}) ExtraFault
guard_cells_fault cells k least [] = Ok tt
guard_cells_fault cells k least (line ∷ lines) =
    refuse (fault.GuardCell k) (not (may_be_guard cells least line)) >>= λ _.
    guard_cells_fault cells (k + 1) (rank_of line) lines

-- the first fault of the guards' worlds, from this place on
abbrev pub guards_fault : Case → List Bool → ℕ → List WorldLine → Result (Unit {0}) ExtraFault
guards_fault c flags k [] = Ok tt
guards_fault c flags k (line ∷ lines) =
    map_fault (fault.Guard k) (world_fault c.system c.cells flags line.world) >>= λ _. guards_fault c flags (k + 1) lines

-- an attack against which no world serves
abbrev pub open_fault : Attack → ExtraFault
open_fault attack = fault.Open attack.row attack.cell attack.side

-- the first attack against which no world serves
abbrev pub attacks_fault : List Cell → List (Option ℕ) → List WorldLine → List Attack → Result (Unit {0}) ExtraFault
attacks_fault cells soles lines [] = Ok tt
attacks_fault cells soles lines (attack ∷ attacks) =
    refuse (open_fault attack) (not (is_served cells soles attack lines)) >>= λ _.
    attacks_fault cells soles lines attacks

-- the first fault of what the extra says of the set with its cells
abbrev pub guarding_fault : Case → List (Option ℕ) → List Bool → List WorldLine → Extra → Result (Unit {0}) ExtraFault
guarding_fault c soles flags worlds extra =
    needs_fault c soles flags 0 extra.needs >>= λ _.
    guard_cells_fault c.cells 0 0 extra.guards >>= λ _.
    guards_fault c flags 0 extra.guards >>= λ _.
    attacks_fault c.cells soles (worlds ++ extra.guards) (attacks_of c.cells soles)

-- the first fault of an extra beside a hidden set with these worlds
abbrev pub extra_fault : Case → List (Option ℕ) → List Bool → List WorldLine → Extra → Result (Unit {0}) ExtraFault
extra_fault c soles flags worlds extra =
    cells_fault c.cells flags 0 0 extra.cells >>= λ _.
    need_cells_fault c.cells soles 0 extra.cells extra.needs >>= λ _.
    guarding_fault c soles (hide_cells flags extra.cells) worlds extra

-- The repairs of a certificate, one after another, each against the set that the earlier ones made (own).
use Rattle.std.specs.Prelude.{ℕ, ◌+◌, ◌&&◌, not, Bool, false, List, [], ◌∷◌, slice_get, Result, Ok, pos}
use Rattle.std.specs.Option.{option_map_or}
use Rattle.std.specs.Ordering.{int_eq}
use Rattle.sdc_base.specs.Steps.{◌>>=◌, refuse, map_fault}
use Rattle.sdc_base.specs.HiddenSets.{is_hidden, hide}
use Rattle.sdc_base.specs.Kinds.{is_free}
use Rattle.sdc_base.specs.declared.cell.Cell.{Cell}
use Rattle.sdc_base.specs.declared.system.System.{System}
use Rattle.worlds.specs.declared.refuted.Refuted.{Refuted}
use Rattle.worlds.specs.ProtectFaults.{line_number}
use Rattle.worlds.specs.RefutationFaults.{refutation_fault}
use Rattle.repair.specs.HidingOrder.{coefficients_for}
use Rattle.repair.specs.Repairs.{cell_and_side}
use Rattle.cert_check.specs.declared.faults.CheckFault.{CheckFault}
use Rattle.cert_check.specs.declared.faults.CheckFault.TheVariants as fault

-- the cell may be the subject of a repair of this set: it is free, and shown
abbrev pub may_repair : List Cell → List Bool → ℕ → Bool
may_repair cells flags number =
    option_map_or (λ cell. is_free cell.kind) (slice_get cells number) false && not (is_hidden flags number)

-- the subject counts among the forms that the repair's multipliers add up
abbrev pub subject_counts : System → Refuted → Bool
subject_counts system repair =
    not (int_eq (coefficients_for system (cell_and_side repair) repair.multipliers repair.subject) (pos 0))

-- the fault of the repair with this number: of its subject, then of its refutation, then that its subject doesn't count
abbrev pub repair_fault : System → List Cell → List Bool → ℕ → Refuted → Result (Unit {0}) CheckFault
repair_fault system cells flags k repair =
    refuse (fault.RepairCell k) (not (may_repair cells flags repair.subject)) >>= λ _.
    map_fault (fault.Repair k) (refutation_fault system cells flags repair.cell repair.side repair.multipliers) >>= λ _.
    refuse (fault.RepairCell k) (not (subject_counts system repair))

-- the first fault of the repairs from this number on
abbrev pub repairs_fault : System → List Cell → List Bool → ℕ → List Refuted → Result (Unit {0}) CheckFault
repairs_fault system cells flags k [] = Ok tt
repairs_fault system cells flags k (repair ∷ repairs) =
    repair_fault system cells flags (line_number k) repair
    >>= λ _. repairs_fault system cells (hide flags repair.subject) (k + 1) repairs

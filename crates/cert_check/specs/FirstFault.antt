-- The first fault of a certificate for a case and a release (own).
use Rattle.std.specs.Prelude.{ℕ, Bool, List, if◌then◌else◌, Option, None, Some, Result}
use Rattle.sdc_base.specs.Steps.{◌>>=◌}
use Rattle.certificate.specs.declared.certificate.Certificate.{Certificate}
use Rattle.sdc_base.specs.Trails.{corners_of}
use Rattle.repair.specs.HidingOrder.{planned_set, hide_subjects}
use Rattle.cert_check.specs.declared.case.Case.{Case}
use Rattle.cert_check.specs.declared.faults.CheckFault.{CheckFault}
use Rattle.cert_check.specs.declared.faults.CheckFault.TheVariants as fault
use Rattle.cert_check.specs.Counts.{counts_fault}
use Rattle.cert_check.specs.Methods.{method_fault, rounds_cells}
use Rattle.cert_check.specs.HiddenSet.{hidden_set, permitted_fault}
use Rattle.cert_check.specs.ReleaseLines.{tables_fault}
use Rattle.cert_check.specs.TrailSteps.{steps_fault}
use Rattle.cert_check.specs.RepairList.{repairs_fault}
use Rattle.cert_check.specs.OutsidePlan.{outside_fault}
use Rattle.cert_check.specs.WorldList.{worlds_fault}
use Rattle.cert_check.specs.NeedList.{needs_fault}
use Rattle.cert_check.specs.RoundedRelease.{rounded_fault}

-- the fault of a call; want of memory names none
abbrev pub check_fault_of : CheckFault → Option CheckFault
check_fault_of fault.Counts = Some fault.Counts
check_fault_of fault.Method = Some fault.Method
check_fault_of (fault.PrimaryShown cell) = Some (fault.PrimaryShown cell)
check_fault_of (fault.FixedHidden cell) = Some (fault.FixedHidden cell)
check_fault_of (fault.Release table line) = Some (fault.Release table line)
check_fault_of (fault.Step k) = Some (fault.Step k)
check_fault_of (fault.RepairCell k) = Some (fault.RepairCell k)
check_fault_of (fault.Repair k why) = Some (fault.Repair k why)
check_fault_of (fault.Outside cell) = Some (fault.Outside cell)
check_fault_of (fault.WorldCell k) = Some (fault.WorldCell k)
check_fault_of (fault.World k why) = Some (fault.World k why)
check_fault_of (fault.NotReached cell side) = Some (fault.NotReached cell side)
check_fault_of (fault.NeedCell k) = Some (fault.NeedCell k)
check_fault_of (fault.Need k why) = Some (fault.Need k why)
check_fault_of (fault.Rounded cell) = Some (fault.Rounded cell)
check_fault_of (fault.Relation number) = Some (fault.Relation number)
check_fault_of fault.Memory = None

-- the cells that the plan and the repairs hide
abbrev pub open_set : Case → Certificate → List Bool
open_set case c = hide_subjects (planned_set case.cells.now (corners_of case.trail.now.steps)) c.repairs

-- the first fault of what hides cells: the steps, the repairs, then the hidden cells outside both
abbrev pub hiding_fault : Case → List Bool → Certificate → Result (Unit {0}) CheckFault
hiding_fault case flags c =
    steps_fault case.trail.now.steps c.steps >>= λ _.
    repairs_fault case.system.now case.cells.now (planned_set case.cells.now (corners_of case.trail.now.steps)) 0
    c.repairs >>= λ _.
    outside_fault (open_set case c) flags

-- the first fault of what a certificate shows of this hidden set: of what hides cells, then of the worlds, then of the
-- needs
abbrev pub shown_fault : Case → List Bool → Certificate → Result (Unit {0}) CheckFault
shown_fault case flags c =
    hiding_fault case flags c >>= λ _.
    worlds_fault case.system.now case.cells.now flags c.worlds >>= λ _.
    needs_fault case.system.now case.cells.now flags c.needs

-- the first fault of a suppressed release, for this hidden set
abbrev pub suppressed_fault : Case → List (List ℕ) → List Bool → Certificate → Result (Unit {0}) CheckFault
suppressed_fault case release flags c =
    permitted_fault case.cells.now flags >>= λ _.
    tables_fault case.book.now flags case.decimals 0 case.book.now.tables case.names.now release >>= λ _.
    shown_fault case flags c

-- the first fault of a certificate for a case and a release
abbrev pub acceptance_fault : Case → List (List ℕ) → Certificate → Result (Unit {0}) CheckFault
acceptance_fault case release c =
    counts_fault case.system.now c >>= λ _.
    method_fault case.method c >>= λ _.
    if rounds_cells case.method then rounded_fault case release
    else suppressed_fault case release (hidden_set case.system.now.cells c.hidden) c

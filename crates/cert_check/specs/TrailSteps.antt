-- Whether the steps of a certificate are those of the trail (own).
use Rattle.std.specs.Prelude.{◌==◌, ◌&&◌, Bool, List, Result}
use Rattle.sdc_base.specs.declared.trail.PlanStep.{PlanStep}
use Rattle.worlds.specs.WorldFaults.{refuse_at}
use Rattle.worlds.specs.ProtectFaults.{line_number}
use Rattle.cert_check.specs.FirstDifference.{first_difference, same_numbers}
use Rattle.cert_check.specs.declared.faults.CheckFault.{CheckFault}
use Rattle.cert_check.specs.declared.faults.CheckFault.TheVariants as fault

-- both steps are one: table, parents, cell and corners are the same
abbrev pub same_step : PlanStep → PlanStep → Bool
same_step one other =
    (one.table == other.table) && ((one.cell == other.cell)
    && (same_numbers one.parents other.parents && same_numbers one.corners other.corners))

-- the first step that isn't the trail's is refused
abbrev pub steps_fault : List PlanStep → List PlanStep → Result (Unit {0}) CheckFault
steps_fault trail steps = refuse_at (λ k. fault.Step (line_number k)) (first_difference same_step 0 steps trail)

-- Why guarding against contributors stopped, and what was done until then (own).
use Rattle.std.specs.Prelude.{◌≡◌, ℕ, Bool, List, [], Option}
use Rattle.interval_audit.specs.declared.answer.AskFault.{AskFault}
use Rattle.repair.specs.HidingOrder.{Case, show_all}
use Rattle.repair.specs.Repairs.{LastIsNotBehind}
use Rattle.repair.specs.WantOfMemory.{MemoryOr, with_fault}
use Rattle.attackers.specs.declared.attack.Attack.{Attack}
use Rattle.certificate.specs.declared.extra.ExtraNeed.{ExtraNeed}
use Rattle.attackers.specs.declared.extra.GuardStop.{GuardStop}
use Rattle.attackers.specs.Extras.{subjects_of, IsInTurn, EachExtra, IsForAttackAt}
use Rattle.sdc_base.specs.HiddenSets.{hide_cells}
use Rattle.attackers.specs.ContributorTasks.{IsAsked}
use Rattle.attackers.specs.Dropping.{AreDropped}

-- a row as it is handed out with a fault: the first under want of memory
abbrev pub row_with_fault : AskFault → ℕ → ℕ
row_with_fault fault row = with_fault fault 0 row

-- Guarding that began with this set stopped so: extra cells in turn, cells dropped of those that were open then, and a
-- question of it that has a fault. Where no cell is dropped yet, the question's attack doesn't stand before that of the
-- last extra cell.
pub record IsGuardStop (c : Case) (soles : List (Option ℕ)) (prices : List ℕ) (attacks : List Attack)
    (first : List Bool) (limit : ℕ) (fault : AskFault) (row : ℕ) (extras : List ExtraNeed) (dropped : List ℕ)
    : Type 0 where
  pub each : EachExtra (IsInTurn c soles prices attacks) first extras
  pub are_dropped : AreDropped c soles attacks first (hide_cells first (subjects_of extras)) dropped
  pub place : ℕ
  pub asked : IsAsked c soles attacks (show_all (hide_cells first (subjects_of extras)) dropped) limit fault row place
  pub onward : dropped ≡ [] → LastIsNotBehind (IsForAttackAt attacks) extras place

-- why guarding stopped; want of memory has no cause, and leaves no lists
abbrev pub StopsFor : Case → List (Option ℕ) → List ℕ → List Attack → List Bool → ℕ → AskFault → ℕ → List ExtraNeed
    → List ℕ → Type 0
StopsFor c soles prices attacks first limit fault row extras dropped =
    MemoryOr fault ((row ≡ 0) × (extras ≡ []) × (dropped ≡ []))
    (IsGuardStop c soles prices attacks first limit fault row extras dropped)

-- the same, as it is told
abbrev pub IsStopAsTold : Case → List (Option ℕ) → List ℕ → List Attack → List Bool → ℕ → GuardStop → Type 0
IsStopAsTold c soles prices attacks first limit stop =
    StopsFor c soles prices attacks first limit stop.fault stop.against.row stop.against.extras stop.against.dropped

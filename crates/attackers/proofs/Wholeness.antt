-- Guards and stops in whole units.
use Rattle.std.proofs.Common.{ℕ, List, [], ◌∷◌, Bool, All, Option, sym, subst, length}
use Rattle.std.proofs.lemmas.List.Elements.{All-nil, All-cons, All-weaker}
use Rattle.sdc_base.specs.Signs.{AreSigns}
use Rattle.worlds.specs.ProtectFaults.{asked_of}
use Rattle.interval_audit.specs.declared.answer.AskFault.{AskFault}
use Rattle.interval_audit.specs.WalkLimits.{HasNoWalk}
use Rattle.certificate.specs.declared.extra.ExtraNeed.{ExtraNeed}
use Rattle.repair.specs.HidingOrder.{Case}
use Rattle.sdc_base.specs.HiddenSets.{hide}
use Rattle.attackers.specs.declared.attack.Attack.{Attack}
use Rattle.attackers.specs.declared.extra.Guarded.{Guarded}
use Rattle.attackers.specs.declared.extra.Guarded.TheVariants as guards
use Rattle.attackers.specs.declared.extra.GuardStop.{GuardStop}
use Rattle.attackers.specs.declared.contributor_task.ContributorTask.{ContributorTask}
use Rattle.repair.specs.TriedCells.{IsNeedBelow}
use Rattle.attackers.specs.Dropping.{IsNeedFor}
use Rattle.attackers.specs.Extras.{IsInTurn, EachExtra}
use Rattle.attackers.specs.GuardStops.{IsGuardStop, StopsFor, IsStopAsTold}
use Rattle.attackers.specs.Narrowing.{IsOutcome}
use Rattle.attackers.specs.ContributorTasks.{case_of}
use Rattle.attackers.specs.WholeGuards.{IsWholeGuard, IsWholeNeed, IsWholeGuarded, IsWholeGuardStop}
use Rattle.repair.proofs.WantOfMemory.{by_fault}
use Rattle.repair.proofs.Wholeness.{given_whole, cause_whole}
use Rattle.attackers.proofs.GuardOrder.{All-in_order}

needs_whole : (c : Case) (soles : List (Option ℕ)) (attacks : List Attack) (flags larger signs : List Bool) (n : ℕ) (needs : List ExtraNeed) → AreSigns c.system.relations signs → All (IsNeedBelow (λ (need : ExtraNeed). need.subject) (IsNeedFor c soles attacks) flags larger n) needs → All IsWholeNeed needs
needs_whole c soles attacks flags larger signs n needs are all =
    All-weaker (IsNeedBelow (λ (need : ExtraNeed). need.subject) (IsNeedFor c soles attacks) flags larger n) IsWholeNeed
    (λ (need : ExtraNeed) is. given_whole c.system c.cells _ signs (need.cell, need.side) need.multipliers are is.refuted.gives) needs all

-- where the relations have signs what guarding against a list of attacks comes to is in whole units
pub outcome_whole : (task : ContributorTask) (first signs : List Bool) (found : Guarded) → AreSigns (case_of task).system.relations signs → IsOutcome task first found → IsWholeGuarded found
outcome_whole task first signs (guards.Guards extra) are is = (
  subst (All IsWholeGuard) (sym is.guards_are) (All-in_order IsWholeGuard (asked_of 0 task.cells.now) is.guards (is.holds.whole signs are)),
  needs_whole (case_of task) task.soles.now task.attacks.now is.flags is.larger signs (length task.cells.now) extra.needs are is.tried.are_needs,
)
outcome_whole task first signs (guards.CannotAgainst row cell side m) are is = is.whole signs are

extras_whole : (c : Case) (soles : List (Option ℕ)) (prices : List ℕ) (attacks : List Attack) (flags signs : List Bool) (extras : List ExtraNeed) → AreSigns c.system.relations signs → EachExtra (IsInTurn c soles prices attacks) flags extras → All IsWholeNeed extras
extras_whole c soles prices attacks flags signs [] are each = All-nil IsWholeNeed
extras_whole c soles prices attacks flags signs (extra ∷ extras) are each =
    All-cons IsWholeNeed extra extras
    (given_whole c.system c.cells _ signs (extra.cell, extra.side) extra.multipliers are each.0.gives)
    (extras_whole c soles prices attacks (hide flags extra.subject) signs extras are each.1)

stop_whole : (c : Case) (soles : List (Option ℕ)) (prices : List ℕ) (attacks : List Attack) (first signs : List Bool) (limit : ℕ) (fault : AskFault) (row : ℕ) (extras : List ExtraNeed) (dropped : List ℕ) → AreSigns c.system.relations signs → IsGuardStop c soles prices attacks first limit fault row extras dropped → HasNoWalk fault × All IsWholeNeed extras
stop_whole c soles prices attacks first signs limit fault row extras dropped are is = (
  cause_whole c.system c.cells _ signs (is.asked.attack.cell, is.asked.attack.side) limit fault are is.asked.cause,
  extras_whole c soles prices attacks first signs extras are is.each,
)

stops_whole : (c : Case) (soles : List (Option ℕ)) (prices : List ℕ) (attacks : List Attack) (first signs : List Bool) (limit : ℕ) (fault : AskFault) (row : ℕ) (extras : List ExtraNeed) (dropped : List ℕ) → AreSigns c.system.relations signs → StopsFor c soles prices attacks first limit fault row extras dropped → HasNoWalk fault × All IsWholeNeed extras
stops_whole c soles prices attacks first signs limit fault row extras dropped are is =
    by_fault (λ f. HasNoWalk f × All IsWholeNeed extras) fault
    (λ none. (tt, subst (All IsWholeNeed) (sym none.1) (All-nil IsWholeNeed)))
    (λ stop. stop_whole c soles prices attacks first signs limit fault row extras dropped are stop) is

-- where the relations have signs a stop has no walk, and its extra cells' reasons are in whole units
pub told_whole : (c : Case) (soles : List (Option ℕ)) (prices : List ℕ) (attacks : List Attack) (first signs : List Bool) (limit : ℕ) (stop : GuardStop) → AreSigns c.system.relations signs → IsStopAsTold c soles prices attacks first limit stop → IsWholeGuardStop stop
told_whole c soles prices attacks first signs limit stop are is =
    stops_whole c soles prices attacks first signs limit stop.fault stop.against.row stop.against.extras stop.against.dropped are is

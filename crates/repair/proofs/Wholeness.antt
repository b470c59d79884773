-- Verdicts and stops in whole units.
use Rattle.std.proofs.Common.{◌≡◌, ℕ, List, [], ◌∷◌, Bool, All, pos, sym, subst, Result, Ok, Err, IfOk, IfErr}
use Rattle.std.proofs.lemmas.List.Elements.{All-nil, All-cons, All-weaker}
use Rattle.sdc_base.specs.declared.cell.Cell.{Cell}
use Rattle.sdc_base.specs.declared.side.Side.{Side}
use Rattle.sdc_base.specs.declared.system.System.{System}
use Rattle.sdc_base.specs.Signs.{AreSigns}
use Rattle.worlds.specs.declared.multipliers.Multipliers.{Multipliers}
use Rattle.worlds.specs.declared.refuted.Refuted.{Refuted}
use Rattle.worlds.specs.declared.world.World.{World}
use Rattle.worlds.specs.ProtectFaults.{asked_of}
use Rattle.interval_audit.specs.declared.answer.AskFault.{AskFault}
use Rattle.interval_audit.specs.declared.answer.AskFault.TheVariants.{Work, Wide, Size, Memory}
use Rattle.interval_audit.specs.WalkLimits.{HasNoWalk}
use Rattle.repair.specs.declared.stopped.Stopped.{Stopped}
use Rattle.repair.specs.declared.verdict.Verdict.{Verdict}
use Rattle.repair.specs.declared.verdict.Verdict.TheVariants.{Protected, Cannot}
use Rattle.repair.specs.HidingOrder.{Case, hide_subjects}
use Rattle.sdc_base.specs.HiddenSets.{hide}
use Rattle.repair.specs.OnTheWay.{IsOnWay, AreAnswers}
use Rattle.repair.specs.LevelQuestions.{AreGiven, HasCause}
use Rattle.repair.specs.Needs.{IsNeed}
use Rattle.repair.specs.Repairs.{IsInOrder, EachRepair, cell_and_side}
use Rattle.repair.specs.Stops.{StopsFor}
use Rattle.repair.specs.Verdicts.{IsVerdict}
use Rattle.repair.proofs.WantOfMemory.{by_fault}
use Rattle.repair.specs.WholeVerdicts.{IsWholeWorld, IsWholeRefuted, IsWholeVerdict, IsWholeStop}

-- where the relations have signs multipliers of an answer are whole
pub given_whole : (system : System) (cells : List Cell) (flags signs : List Bool) (asked : ℕ × Side) (multipliers : Multipliers) → AreSigns system.relations signs → AreGiven system cells flags asked multipliers → multipliers.den ≡ pos 1
given_whole system cells flags signs asked multipliers are given = (given.is_read.3.whole signs are).1

worlds_whole : (c : Case) (Is : List Bool → Type 0) (signs : List Bool) (asked : List (ℕ × Side)) (worlds : List World) → AreSigns c.system.relations signs → AreAnswers c Is asked worlds → All IsWholeWorld worlds
worlds_whole c Is signs asked [] are given = All-nil IsWholeWorld
worlds_whole c Is signs [] (world ∷ worlds) are given = absurd given
worlds_whole c Is signs (q ∷ more) (world ∷ worlds) are given =
    All-cons IsWholeWorld world worlds ((given.0.is_read signs are).3.whole signs are) (worlds_whole c Is signs more worlds are given.1)

repairs_whole : (c : Case) (prices : List ℕ) (flags signs : List Bool) (repairs : List Refuted) → AreSigns c.system.relations signs → EachRepair (IsInOrder c prices) flags repairs → All IsWholeRefuted repairs
repairs_whole c prices flags signs [] are ordered = All-nil IsWholeRefuted
repairs_whole c prices flags signs (repair ∷ repairs) are ordered =
    All-cons IsWholeRefuted repair repairs
    (given_whole c.system c.cells flags signs (cell_and_side repair) repair.multipliers are ordered.0.gives)
    (repairs_whole c prices (hide flags repair.subject) signs repairs are ordered.1)

needs_whole : (c : Case) (flags larger signs : List Bool) (needs : List Refuted) → AreSigns c.system.relations signs → All (IsNeed c flags larger) needs → All IsWholeRefuted needs
needs_whole c flags larger signs needs are all =
    All-weaker (IsNeed c flags larger) IsWholeRefuted
    (λ (need : Refuted) is. given_whole c.system c.cells _ signs (cell_and_side need) need.multipliers are is.gives) needs all

-- where the relations have signs a verdict is in whole units
pub verdict_whole : (c : Case) (prices : List ℕ) (planned signs : List Bool) (verdict : Verdict) → AreSigns c.system.relations signs → IsVerdict c prices planned verdict → IsWholeVerdict verdict
verdict_whole c prices planned signs (Protected protected repairs needs) are is = (
  worlds_whole c (IsOnWay c planned repairs protected.hidden.flags) signs (asked_of 0 c.cells) protected.worlds are is.0.answers,
  repairs_whole c prices planned signs repairs are is.0.are_repairs.ordered,
  needs_whole c protected.hidden.flags _ signs needs are is.1.are_needs,
)
verdict_whole c prices planned signs (Cannot cell side multipliers) are is =
    given_whole c.system c.cells (hide_subjects planned is.repairs) signs (cell, side) multipliers are is.stopped.gives

-- and no walk is why there is none
pub cause_whole : (system : System) (cells : List Cell) (flags signs : List Bool) (asked : ℕ × Side) (limit : ℕ) (fault : AskFault) → AreSigns system.relations signs → HasCause system cells flags asked limit fault → HasNoWalk fault
cause_whole system cells flags signs asked limit (Work walk) are is = absurd (is.cause.3 signs are)
cause_whole system cells flags signs asked limit (Wide walk place) are is = absurd (is.cause.3 signs are)
cause_whole system cells flags signs asked limit (Size question hidden) are is = tt
cause_whole system cells flags signs asked limit Memory are is = tt

-- where the relations have signs a stop has no walk, and its repairs are in whole units
pub stops_whole : (c : Case) (prices : List ℕ) (planned signs : List Bool) (limit : ℕ) (fault : AskFault) (repairs : List Refuted) (shown : List ℕ) → AreSigns c.system.relations signs → StopsFor c prices planned limit fault repairs shown → HasNoWalk fault × All IsWholeRefuted repairs
stops_whole c prices planned signs limit fault repairs shown are is =
    by_fault (λ f. HasNoWalk f × All IsWholeRefuted repairs) fault
    (λ none. (tt, subst (λ list. All IsWholeRefuted list) (sym none.0) (All-nil IsWholeRefuted)))
    (λ stop. (
      cause_whole c.system c.cells _ signs stop.question.asked limit fault are stop.question.cause,
      repairs_whole c prices planned signs repairs are stop.are_repairs.ordered,
    )) is

pub where_whole : (c : Case) (prices : List ℕ) (planned : List Bool) (result : Result Verdict Stopped) → IfOk result (λ verdict. IsVerdict c prices planned verdict) → (signs : List Bool) → AreSigns c.system.relations signs → IfOk result IsWholeVerdict
where_whole c prices planned (Ok verdict) ok signs are = verdict_whole c prices planned signs verdict are ok
where_whole c prices planned (Err stopped) ok signs are = tt

pub where_whole_stop : (c : Case) (prices : List ℕ) (planned : List Bool) (limit : ℕ) (result : Result Verdict Stopped) → IfErr result (λ stopped. StopsFor c prices planned limit stopped.fault stopped.repairs stopped.shown) → (signs : List Bool) → AreSigns c.system.relations signs → IfErr result IsWholeStop
where_whole_stop c prices planned limit (Ok verdict) err signs are = tt
where_whole_stop c prices planned limit (Err stopped) err signs are = stops_whole c prices planned signs limit stopped.fault stopped.repairs stopped.shown are err

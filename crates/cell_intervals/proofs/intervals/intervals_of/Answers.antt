use Rattle.std.proofs.Common.{◌≡◌, All, Bool, IfErr, IfOk, List, ℕ, subst, sym, true}
use Rattle.sdc_base.specs.HiddenSets.{is_hidden}
use Rattle.sdc_base.specs.Signs.{AreSigns}
use Rattle.sdc_base.specs.declared.system.System.{System}
use Rattle.interval_audit.specs.WalkLimits.{HasNoWalk}
use Rattle.cell_intervals.specs.IntervalFaults.{HasSmallComponent, IsFaultOf}
use Rattle.cell_intervals.specs.Intervals.{AreIntervals, HasWholeEnds}
use Rattle.cell_intervals.proofs.intervals.intervals_of.Goals as goal

pub returns-in-Some-clause-intervals : goal.returns-in-Some-clause-intervals
returns-in-Some-clause-intervals c =
    subst (λ (own : System). AreIntervals own c.args.cells.now c.args.hidden.now.flags c.in-Some.found) c.in_ok-signed.ensures c.in-Some.ensures.intervals

pub returns-in-Some-clause-whole : goal.returns-in-Some-clause-whole
returns-in-Some-clause-whole c = λ signs are. absurd (c.in-Some.ensures.no_signs signs (subst (λ (own : System). AreSigns own.relations signs) (sym c.in_ok-signed.ensures) are))

pub returns-in-Some-clause-small : goal.returns-in-Some-clause-small
returns-in-Some-clause-small c =
    subst (λ (own : System). (cell : ℕ) → is_hidden c.args.hidden.now.flags cell ≡ true → HasSmallComponent own c.args.hidden.now.flags cell) c.in_ok-signed.ensures c.in-Some.ensures.small

pub returns-clause-intervals : goal.returns-clause-intervals
returns-clause-intervals c =
    subst (λ (own : System). IfOk c.asked_intervals.result (AreIntervals own c.args.cells.now c.args.hidden.now.flags)) c.in_ok-signed.ensures c.asked_intervals.ensures.intervals

pub returns-clause-whole : goal.returns-clause-whole
returns-clause-whole c =
    subst (λ (own : System). (signs : List Bool) → AreSigns own.relations signs → IfOk c.asked_intervals.result (All (HasWholeEnds own c.args.cells.now c.args.hidden.now.flags))) c.in_ok-signed.ensures c.asked_intervals.ensures.whole

pub returns-clause-small : goal.returns-clause-small
returns-clause-small c =
    subst (λ (own : System). IfOk c.asked_intervals.result (λ _. (cell : ℕ) → is_hidden c.args.hidden.now.flags cell ≡ true → HasSmallComponent own c.args.hidden.now.flags cell)) c.in_ok-signed.ensures c.asked_intervals.ensures.small

pub returns-clause-cause : goal.returns-clause-cause
returns-clause-cause c =
    subst (λ (own : System). IfErr c.asked_intervals.result (IsFaultOf own c.args.cells.now c.args.hidden.now.flags c.args.limit)) c.in_ok-signed.ensures c.asked_intervals.ensures.cause

pub returns-clause-signed : goal.returns-clause-signed
returns-clause-signed c =
    subst (λ (own : System). (signs : List Bool) → AreSigns own.relations signs → IfErr c.asked_intervals.result (λ fault. HasNoWalk fault)) c.in_ok-signed.ensures c.asked_intervals.ensures.signed

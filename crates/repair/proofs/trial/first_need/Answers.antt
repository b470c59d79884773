use Rattle.std.proofs.Common.{◌≡◌, ◌+◌, ◌∙◌, ℕ, List, ap, sym, subst, length, arith}
use Rattle.std.proofs.lemmas.Result.{err_from_is_err_and}
use Rattle.sdc_base.specs.declared.side.Side.{Side}
use Rattle.worlds.specs.ProtectFaults.{asked_of}
use Rattle.repair.specs.HidingOrder.{Case, protected_case, ProtectsBefore}
use Rattle.repair.specs.CellTrials.{ProtectsBeforeOr}
use Rattle.repair.proofs.AtHand.{kept_length}
use Rattle.repair.proofs.trial.first_need.Goals as goal

pub need_at-requires-clause-count : goal.need_at-requires-clause-count
need_at-requires-clause-count c =
    kept_length (protected_case c.args.attempt.now.task.now.system.now c.args.attempt.now.task.now.cells.now) (asked_of 0 c.args.attempt.now.task.now.cells.now) c.args.attempt.now.worlds.now c.requires.at_hand.kept
    ∙ ap (λ (l : List (ℕ × Side)). length l) (sym c.args.attempt.now.task.now.fits.in_order)

pub need_at-requires-clause-at_hand : goal.need_at-requires-clause-at_hand
need_at-requires-clause-at_hand c = record {
  kept = c.requires.at_hand.kept;
  reusable = c.places.invariant.reusable;
  last = c.places.invariant.last;
}

pub returns-in_err-need-clause-err : goal.returns-in_err-need-clause-err
returns-in_err-need-clause-err c =
    let p = err_from_is_err_and c.from_residual.result c.from_residual.ensures.1 in
    rw (p.1, p.2) (c.places.place, c.in_err-need.ensures.err)

pub returns-clause-ok : goal.returns-clause-ok
returns-clause-ok c =
    let task : Case = protected_case c.args.attempt.now.task.now.system.now c.args.attempt.now.task.now.cells.now in
    let last : c.places.place ≡ length c.args.attempt.now.task.now.questions.now = omega (arith, c.places-test.false, c.places.auto.place-end) in
    subst (ProtectsBefore task c.args.attempt.now.hidden.now.flags) last c.places.invariant.before

pub returns-in-Some-clause-answers : goal.returns-in-Some-clause-answers
returns-in-Some-clause-answers c = λ larger now before. c.in_ok-need.ensures.answers larger now (c.places.invariant.answers larger now before)

pub places-preserved : goal.places-preserved
places-preserved c =
    let task : Case = protected_case c.args.attempt.now.task.now.system.now c.args.attempt.now.task.now.cells.now in
    record {
      before = subst (ProtectsBeforeOr task c.args.attempt.now.hidden.now.flags c.args.attempt.now.cell (c.places.place + 1)) c.in_default.is c.in_ok-need.ensures.ok;
      answers = λ larger now before. c.in_ok-need.ensures.answers larger now (c.places.invariant.answers larger now before);
      reusable = c.in_ok-need.ensures.reusable;
      last = c.need_at.ensures.last;
    }

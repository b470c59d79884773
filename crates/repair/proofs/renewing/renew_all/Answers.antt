use Rattle.std.proofs.Common.{◌≡◌, ◌∙◌, ℕ, List, ap, sym, length, arith}
use Rattle.sdc_base.specs.declared.side.Side.{Side}
use Rattle.worlds.specs.ProtectFaults.{asked_of}
use Rattle.repair.specs.HidingOrder.{protected_case}
use Rattle.repair.proofs.AtHand.{kept_length, served_all}
use Rattle.repair.proofs.renewing.renew_all.Goals as goal

pub renew_question-requires-clause-count : goal.renew_question-requires-clause-count
renew_question-requires-clause-count c =
    kept_length (protected_case c.args.task.now.system.now c.args.task.now.cells.now) (asked_of 0 c.args.task.now.cells.now) c.places.worlds c.places.invariant.set.kept
    ∙ ap (λ (l : List (ℕ × Side)). length l) (sym c.args.task.now.fits.in_order)

pub returns-clause-served : goal.returns-clause-served
returns-clause-served c =
    let order : length c.args.task.now.questions.now ≡ length (asked_of 0 c.args.task.now.cells.now) = ap (λ (l : List (ℕ × Side)). length l) c.args.task.now.fits.in_order in
    served_all (protected_case c.args.task.now.system.now c.args.task.now.cells.now) c.args.hidden.now.flags c.places.worlds c.places.place (omega (arith, c.places-test.false, c.places.auto.place-end, order)) c.places.invariant.set.kept c.places.invariant.served

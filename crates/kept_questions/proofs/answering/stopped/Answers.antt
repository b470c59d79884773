use Rattle.std.proofs.Common.{◌≡◌, ◌*ℤ◌, ◌<ℤ◌, FitsSigned, rules, to_z, of_z}
use Rattle.std.specs.Int.{w128}
use Rattle.std.proofs.lemmas.Int.{to_z-of_z}
use Rattle.interval_audit.specs.Answers.{asked_move_in}
use Rattle.worlds.specs.WorldFaults.{IsGivenWorld}
use Rattle.kept_questions.proofs.Stopping.{stops}
use Rattle.kept_questions.proofs.answering.stopped.Goals as goal

pub returns : goal.returns
returns c =
    let moved = c.in_ok-moved.moved in
    let sum = c.in_ok-sum.sum in
    let num_fits : FitsSigned w128 moved = search rules in
    let den_fits : FitsSigned w128 c.args.world.den = search rules in
    let given : IsGivenWorld c.args.pattern.now.system.now c.args.pattern.now.cells.now c.args.pattern.now.hidden.now.flags c.args.world = search rules in
    let moved_is : moved ≡ asked_move_in c.args.question c.args.world = search rules in
    let same : sum *ℤ c.args.world.den ≡ c.args.multipliers.den *ℤ moved = search rules in
    let short : moved <ℤ (c.args.world.den *ℤ c.args.question.target) = search rules in
    let held : FitsSigned w128 (c.args.multipliers.den *ℤ c.args.question.target) = search rules in
    stops c.args.pattern.now.system.now c.args.pattern.now.cells.now c.args.pattern.now.hidden.now.flags c.args.question
    (record { num = to_z w128 (of_z w128 moved); den = to_z w128 (of_z w128 c.args.world.den) })
    c.args.world c.args.multipliers sum moved
    c.args.pattern.now.one_each.each_cell c.requires.asked given (to_z-of_z w128 c.args.world.den den_fits) (to_z-of_z w128 moved num_fits) moved_is
    c.in_ok-sum.ensures.given c.in_ok-sum.ensures.sum same short held

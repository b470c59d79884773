use Rattle.std.proofs.Common.{◌≡◌, ◌∙◌, refl, rules, FitsSigned, to_z, of_z, None}
use Rattle.std.specs.Int.{w128}
use Rattle.std.proofs.lemmas.Int.{to_z-of_z}
use Rattle.std.proofs.lemmas.Result.{err_from_is_err_and}
use Rattle.tableau.specs.Readings.{slacks_of}
use Rattle.interval_audit.specs.WalkStates.{state_of}
use Rattle.interval_audit.specs.Groups.{Group, group_of}
use Rattle.interval_audit.specs.Readings.{AreMultipliersOf}
use Rattle.interval_audit.proofs.Scaling.{read_listed}
use Rattle.interval_audit.proofs.Outcomes.{walk_memory}
use Rattle.interval_audit.proofs.QuestionAnswers.{read_bounded, does_stop, none_else, slacks_read, has_slacks}
use Rattle.interval_audit.proofs.finish.stop.Goals as goal

pub wide_at-wide-requires-clause-positive : goal.wide_at-wide-requires-clause-positive
wide_at-wide-requires-clause-positive c =
    let group : Group = group_of c.args.inquiry.now.of.now c.args.inquiry.now.question.cell in
    let read : AreMultipliersOf c.args.inquiry.now.pattern.system.now c.args.inquiry.now.pattern.cells.now group c.args.tableau.table.den c.requires.stuck.weights c.in_ok-multipliers.multipliers = c.in_ok-multipliers.ensures c.requires.stuck in
    read.lowest.positive

pub wide_at-wide-requires-clause-listed : goal.wide_at-wide-requires-clause-listed
wide_at-wide-requires-clause-listed c =
    let group : Group = group_of c.args.inquiry.now.of.now c.args.inquiry.now.question.cell in
    read_listed c.args.inquiry.now.pattern.system.now c.args.inquiry.now.pattern.cells.now group c.args.tableau.table.den c.requires.stuck.weights c.in_ok-multipliers.multipliers (c.in_ok-multipliers.ensures c.requires.stuck)

pub wide_at-wide-requires-clause-bounded : goal.wide_at-wide-requires-clause-bounded
wide_at-wide-requires-clause-bounded c =
    let group : Group = group_of c.args.inquiry.now.of.now c.args.inquiry.now.question.cell in
    read_bounded c.args.inquiry.now.pattern.system.now c.args.inquiry.now.pattern.cells.now c.args.inquiry.now.pattern.hidden.now.flags group c.args.inquiry.now.question (state_of c.args.tableau) c.in_ok-multipliers.multipliers c.args.inquiry.now.pattern.one_each.each_cell c.args.inquiry.now.group c.requires.problem c.requires.stuck (c.in_ok-multipliers.ensures c.requires.stuck)

pub returns-in_err-multipliers : goal.returns-in_err-multipliers
returns-in_err-multipliers c =
    let p = err_from_is_err_and c.from_residual.result c.from_residual.ensures.1 in
    rw (p.1, p.2) (walk_memory c.args.inquiry.now c.args.tableau)

pub returns-in_err-scratch : goal.returns-in_err-scratch
returns-in_err-scratch c =
    let p = err_from_is_err_and c.from_residual-in_err-scratch.result c.from_residual-in_err-scratch.ensures.1 in
    rw (p.1, p.2) (walk_memory c.args.inquiry.now c.args.tableau)

pub returns-in-Some : goal.returns-in-Some
returns-in-Some c =
    let group : Group = group_of c.args.inquiry.now.of.now c.args.inquiry.now.question.cell in
    let read = slacks_read c.args.inquiry.now.pattern.system.now c.args.inquiry.now.pattern.cells.now group c.args.tableau.table.den (slacks_of c.args.tableau.problem c.args.tableau.table) c.requires.stuck.weights c.in_ok-multipliers.multipliers (has_slacks c.args.inquiry.now.pattern.system.now c.args.inquiry.now.pattern.cells.now group c.args.inquiry.now.question (state_of c.args.tableau) c.requires.problem c.requires.stuck) (c.in_ok-multipliers.ensures c.requires.stuck) in
    record {
      right = tt;
      read = tt;
      cause = λ limit. (refl, c.requires.problem, (c.requires.blocked, c.in_ok-multipliers.multipliers, read, c.in-Some.ensures.wide), c.args.inquiry.now.within_most_members, c.requires.walked);
      within = λ limit most. most;
      short = λ limit. tt;
    }

pub returns : goal.returns
returns c =
    let group : Group = group_of c.args.inquiry.now.of.now c.args.inquiry.now.question.cell in
    let read = slacks_read c.args.inquiry.now.pattern.system.now c.args.inquiry.now.pattern.cells.now group c.args.tableau.table.den (slacks_of c.args.tableau.problem c.args.tableau.table) c.requires.stuck.weights c.in_ok-multipliers.multipliers (has_slacks c.args.inquiry.now.pattern.system.now c.args.inquiry.now.pattern.cells.now group c.args.inquiry.now.question (state_of c.args.tableau) c.requires.problem c.requires.stuck) (c.in_ok-multipliers.ensures c.requires.stuck) in
    let num : FitsSigned w128 c.args.num = c.ranges.num in
    let den : FitsSigned w128 c.args.world.den = search rules in
    let none : c.wide_at-wide.result ≡ None = none_else c.wide_at-wide.result (c.in_default.not-Some) in
    record {
      right =
          does_stop c.args.inquiry.now.pattern.system.now c.args.inquiry.now.pattern.cells.now c.args.inquiry.now.pattern.hidden.now.flags group c.args.inquiry.now.question (state_of c.args.tableau) c.args.world c.in_ok-multipliers.multipliers
          (record { num = to_z w128 (of_z w128 c.args.num); den = to_z w128 (of_z w128 c.args.world.den) })
          c.args.inquiry.now.pattern.one_each.each_cell c.args.inquiry.now.group c.requires.problem c.requires.stuck c.requires.world (c.in_ok-multipliers.ensures c.requires.stuck)
          (to_z-of_z w128 c.args.world.den den) (to_z-of_z w128 c.args.num num ∙ c.requires.num) (c.wide_at-wide.ensures.sum none) (c.wide_at-wide.ensures.product none);
      read = (c.requires.blocked, c.requires.world, read);
      cause = tt;
      within = tt;
      short = tt;
    }

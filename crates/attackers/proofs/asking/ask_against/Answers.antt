use Rattle.std.proofs.Common.{◌∙◌, ◌&&◌, not, true, List, Bool, length, ap, subst}
use Rattle.sdc_base.specs.HiddenSets.{is_hidden}
use Rattle.repair.specs.LevelQuestions.{HasCause, IsLevelAnswer}
use Rattle.repair.proofs.Order.{primary_by}
use Rattle.attackers.specs.KnownCells.{target_of}
use Rattle.attackers.specs.ContributorTasks.{case_of}
use Rattle.attackers.proofs.AskedCells.{attack_says}
use Rattle.worlds.proofs.TrueTests.{err_more}
use Rattle.repair.proofs.Concluding.{where_ok}
use Rattle.attackers.proofs.Knowing.{left_says, length-without}
use Rattle.attackers.proofs.Resisting.{answer_is}
use Rattle.attackers.proofs.asking.ask_against.Goals as goal

pub invariant_of-question : goal.invariant_of-question
invariant_of-question c =
    let task = c.args.task.now in
    let says = attack_says task.cells.now task.soles.now c.args.attack c.requires.is_attack in
    record {
      is_askable = record {
        one_each = record {
          each_cell = task.fits.one_each;
          each_flag = ap (λ (l : List Bool). length l) c.in_ok-left.ensures ∙ length-without task.soles.now c.args.attack.row c.args.flags.now ∙ c.requires.each;
        };
        modest = task.fits.modest;
        primary = primary_by task.cells.now c.args.attack.cell says.primary;
        hidden = ap (λ (f : List Bool). is_hidden f c.args.attack.cell) c.in_ok-left.ensures
            ∙ left_says task.soles.now c.args.attack.row c.args.flags.now c.args.attack.cell
            ∙ ap (λ b. is_hidden c.args.flags.now c.args.attack.cell && not b) says.unknown ∙ ap (λ b. b && true) c.requires.hidden;
        some_steps = task.fits.some_steps;
      };
    }

pub returns-clause-ok : goal.returns-clause-ok
returns-clause-ok c =
    where_ok c.ask_level.result c.ask_level.ensures.ok
    (λ answer is.
    answer_is (case_of c.args.task.now) c.args.task.now.soles.now c.args.flags.now c.args.attack answer
    (subst (λ (f : List Bool). IsLevelAnswer c.args.task.now.system.now c.args.task.now.cells.now f (target_of c.args.attack) answer) c.in_ok-left.ensures is))

pub returns-clause-err : goal.returns-clause-err
returns-clause-err c =
    err_more c.ask_level.result
    (λ fault cause. subst (λ (f : List Bool). HasCause c.args.task.now.system.now c.args.task.now.cells.now f (target_of c.args.attack) c.args.task.now.limit fault) c.in_ok-left.ensures cause)
    c.ask_level.ensures.err

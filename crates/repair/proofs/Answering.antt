-- What may be asked, and answers of kept questions.
use Rattle.std.proofs.Common.{◌≡◌, ℕ, List, Bool, length, Option, Some, None, refl}
use Rattle.std.specs.Option.{IfSome}
use Rattle.sdc_base.specs.HiddenSets.{IsPermitted}
use Rattle.sdc_base.specs.declared.cell.Kind.TheVariants.{Primary}
use Rattle.sdc_base.specs.declared.cell.Cell.{Cell}
use Rattle.sdc_base.specs.declared.side.Side.{Side}
use Rattle.sdc_base.specs.declared.system.System.{System}
use Rattle.sdc_base.specs.Signs.{HasNone}
use Rattle.worlds.specs.declared.multipliers.Multipliers.{Multipliers}
use Rattle.worlds.specs.declared.world.World.{World}
use Rattle.interval_audit.specs.declared.answer.Answer.TheVariants as answer
use Rattle.interval_audit.specs.declared.question.Question.{Question}
use Rattle.interval_audit.specs.Answers.{IsTrueAnswer}
use Rattle.kept_questions.specs.declared.kept_answer.KeptAnswer.{KeptAnswer}
use Rattle.kept_questions.specs.declared.kept_answer.KeptAnswer.TheVariants.{Reaches, Stops}
use Rattle.kept_questions.specs.KeptAnswers.{IsKeptStop}
use Rattle.repair.specs.HidingOrder.{IsOfKind, StandsAt}
use Rattle.repair.specs.KeptWorlds.{IsAskable}
use Rattle.repair.specs.LevelQuestions.{IsLevelQuestion, IsLevelAnswer}
use Rattle.repair.specs.declared.task.Task.{Task}
use Rattle.repair.proofs.Order.{asked_primary, primary_by}

-- what stands in the order of a task may be asked of a permitted set
pub askable_by : (task : Task) (flags : List Bool) (place : ℕ) (asked : ℕ × Side) → length flags ≡ task.system.now.cells → IsPermitted task.cells.now flags → StandsAt task.cells.now asked place → IsAskable task.system.now task.cells.now flags asked task.limit
askable_by task flags place asked each permitted stands =
    let is : IsOfKind task.cells.now asked.0 Primary = asked_primary task.cells.now place asked stands in
    record {
      one_each = record { each_cell = task.fits.one_each; each_flag = each };
      modest = task.fits.modest;
      primary = primary_by task.cells.now asked.0 is;
      hidden = permitted.primary_hidden asked.0 is.cell is.found is.is_kind;
      some_steps = task.fits.some_steps;
    }

-- what is kept answers a question about a level, where the relations have no signs
pub kept_answers : (system : System) (cells : List Cell) (flags : List Bool) (asked : ℕ × Side) (question : Question) (result : Option KeptAnswer) → IsLevelQuestion cells asked question → HasNone system.relations → ((world : World) → result ≡ Some (Reaches world) → IsTrueAnswer system cells flags question (answer.Reaches world)) → ((m : Multipliers) → result ≡ Some (Stops m) → IsKeptStop system cells flags question m) → IfSome result (λ one. IsLevelAnswer system cells flags asked one)
kept_answers system cells flags asked question None is none reaches stops = tt
kept_answers system cells flags asked question (Some (Reaches world)) is none reaches stops = record {
  set = flags;
  is_one = refl;
  question = question;
  is_asked = is;
  is_right = reaches world refl;
  is_read = λ signs are. absurd (none signs are);
}
kept_answers system cells flags asked question (Some (Stops m)) is none reaches stops =
    let own : IsKeptStop system cells flags question m = stops m refl in
    record { question = question; best = own.0; world = own.1; is_asked = is; is_right = own.2; is_read = own.3 }

-- What answers of kept questions say (handbook, feasibility interval; linear duality).
use Rattle.std.specs.Prelude.{Bool, List}
use Rattle.sdc_base.specs.declared.cell.Cell.{Cell}
use Rattle.sdc_base.specs.declared.fraction.Fraction.{Fraction}
use Rattle.sdc_base.specs.declared.system.System.{System}
use Rattle.worlds.specs.declared.multipliers.Multipliers.{Multipliers}
use Rattle.worlds.specs.declared.world.World.{World}
use Rattle.interval_audit.specs.Answers.{IsTrueAnswer, IsAnswerOf}
use Rattle.interval_audit.specs.declared.answer.Answer.TheVariants.{Stops}
use Rattle.interval_audit.specs.declared.question.Question.{Question}

-- these are the multipliers of the question's answer, which stops short
abbrev pub IsKeptStop : System → List Cell → List Bool → Question → Multipliers → Type 0
IsKeptStop system cells flags question multipliers =
    (best : Fraction) × (world : World) × IsTrueAnswer system cells flags question (Stops best world multipliers)
    × IsAnswerOf system cells flags question (Stops best world multipliers)

-- A cause in the component of a question is the question's cause.
use Rattle.std.specs.Prelude.{ℕ, List, Bool, Result, Ok, Err, IfErr}
use Rattle.sdc_base.specs.declared.cell.Cell.{Cell}
use Rattle.sdc_base.specs.declared.system.System.{System}
use Rattle.sdc_base.specs.Signs.{HasNone}
use Rattle.interval_audit.specs.declared.question.Question.{Question}
use Rattle.interval_audit.specs.declared.answer.Answer.{Answer}
use Rattle.interval_audit.specs.declared.answer.AskFault.{AskFault}
use Rattle.interval_audit.specs.declared.answer.AskFault.TheVariants as fault
use Rattle.interval_audit.specs.Causes.{IsCauseIn, IsCauseOf}
use Rattle.interval_audit.specs.Groups.{Group, IsComponentOf}

caused_in : (system : System) (cells : List Cell) (flags : List Bool) (group : Group) (question : Question) (limit : ℕ) (found : AskFault) → IsComponentOf system.relations flags question.cell group → HasNone system.relations → IsCauseIn system cells flags group question limit found → IsCauseOf system cells flags question limit found
caused_in system cells flags group question limit (fault.Work walk) own none is = (group, own, is, none)
caused_in system cells flags group question limit (fault.Wide walk place) own none is = (group, own, is, none)
caused_in system cells flags group question limit (fault.Size asked hidden) own none is = (group, own, is)
caused_in system cells flags group question limit fault.Memory own none is = tt

pub if_caused : (system : System) (cells : List Cell) (flags : List Bool) (group : Group) (question : Question) (limit : ℕ) (r : Result Answer AskFault) → IsComponentOf system.relations flags question.cell group → HasNone system.relations → IfErr r (λ found. IsCauseIn system cells flags group question limit found) → IfErr r (λ found. IsCauseOf system cells flags question limit found)
if_caused system cells flags group question limit (Ok answer) own none is = tt
if_caused system cells flags group question limit (Err found) own none is = caused_in system cells flags group question limit found own none is

-- Answers of flows as answers of questions (network flows).
use Rattle.std.specs.Prelude.{pos}
use Rattle.flow_worlds.specs.declared.answer.FlowAnswer.{FlowAnswer}
use Rattle.flow_worlds.specs.declared.answer.FlowAnswer.TheVariants as flow
use Rattle.interval_audit.specs.declared.answer.Answer.{Answer}
use Rattle.interval_audit.specs.declared.answer.Answer.TheVariants.{Reaches, Stops}

-- the same world and multipliers, and the best value over 1
abbrev pub answer_of_flow : FlowAnswer → Answer
answer_of_flow (flow.Reaches world) = Reaches world
answer_of_flow (flow.Stops best world multipliers) = Stops (record { num = best; den = pos 1 }) world multipliers

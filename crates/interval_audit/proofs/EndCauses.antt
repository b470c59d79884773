-- Why an interval has no ends.
use Rattle.std.proofs.Common.{◌^◌, ℕ, Bool, List, pos, arith, inl, refl}
use Rattle.std.proofs.lemmas.Int.{ints}
use Rattle.sdc_base.specs.declared.cell.Cell.{Cell}
use Rattle.sdc_base.specs.declared.side.Side.TheVariants.{Below}
use Rattle.sdc_base.specs.declared.system.System.{System}
use Rattle.interval_audit.specs.declared.question.Question.{Question}
use Rattle.interval_audit.specs.declared.answer.AskFault.TheVariants as fault
use Rattle.interval_audit.specs.Ends.{IsIntervalCause}

-- want of memory is a cause at any time
pub memory_wanted : (system : System) (cells : List Cell) (flags : List Bool) (cell limit : ℕ) → IsIntervalCause system cells flags cell limit fault.Memory
memory_wanted system cells flags cell limit =
    let question : Question = record { cell = cell; side = Below; target = pos (2 ^ 110); target_from_zero = omega (arith, ints); target_held = omega (arith, ints) } in
    inl (question, record { cell_is = refl; side_is = refl; target_is = refl }, tt)

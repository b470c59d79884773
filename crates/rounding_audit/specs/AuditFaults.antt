-- Why a rounded release has no audit: its values aren't those of one, or a question has no answer (own).
use Rattle.std.specs.Prelude.{◌≡◌, ◌≢◌, ◌<◌, ℕ, true, List, ℤ}
use Rattle.sdc_base.specs.declared.cell.Cell.{Cell}
use Rattle.sdc_base.specs.declared.system.System.{System}
use Rattle.sdc_base.specs.Kinds.{is_primary_at}
use Rattle.sdc_base.specs.Roundings.{IsRounding}
use Rattle.interval_audit.specs.declared.answer.AskFault.{AskFault}
use Rattle.interval_audit.specs.declared.answer.AskFault.TheVariants as ask
use Rattle.interval_audit.specs.Ends.{IsIntervalCause}
use Rattle.interval_audit.specs.WalkLimits.{HasNoWalk as HasNoQuestionWalk}
use Rattle.cell_intervals.specs.IntervalFaults.{HasBothEnds}
use Rattle.rounding_audit.specs.ReaderFaults.{IsReaderFault, truths_of}
use Rattle.rounding_audit.specs.Readers.{AreReaderCells, all_hidden}
use Rattle.rounding_audit.specs.declared.audit_fault.AuditFault.{AuditFault}
use Rattle.rounding_audit.specs.declared.audit_fault.AuditFault.TheVariants as audit
use Rattle.rounding_audit.specs.declared.reader_fault.ReaderFault.{ReaderFault}
use Rattle.rounding_audit.specs.declared.reader_fault.ReaderFault.TheVariants as reader

-- a fault of the values as one of the audit
abbrev pub reader_stop : ReaderFault → AuditFault
reader_stop reader.Memory = audit.Memory
reader_stop why = audit.Reader why

-- a question without an answer as a fault of the audit
abbrev pub question_stop : AskFault → AuditFault
question_stop ask.Memory = audit.Memory
question_stop why = audit.Question why

-- The fault is one of this primary cell's two questions over the cells with the reader's bounds, all cells hidden, and
-- those of all primary cells before it have ended with answers.
pub record IsQuestionFaultAt (system : System) (cells known : List Cell) (limit : ℕ) (why : AskFault)
    (number : ℕ) : Type 0 where
  pub primary : is_primary_at cells number ≡ true
  pub earlier : (other : ℕ) → other < number → is_primary_at cells other ≡ true
      → HasBothEnds system known (all_hidden system.cells) other
  pub cause : IsIntervalCause system known (all_hidden system.cells) number limit why

-- the fault is that of the first question without an answer; want of memory is free
abbrev pub IsQuestionFault : System → List Cell → List Cell → ℕ → AskFault → Type 0
IsQuestionFault system cells known limit ask.Memory = Unit {0}
IsQuestionFault system cells known limit (ask.Work walk) = (number : ℕ)
    × IsQuestionFaultAt system cells known limit (ask.Work walk) number
IsQuestionFault system cells known limit (ask.Wide walk place) = (number : ℕ)
    × IsQuestionFaultAt system cells known limit (ask.Wide walk place) number
IsQuestionFault system cells known limit (ask.Size asked hidden) = (number : ℕ)
    × IsQuestionFaultAt system cells known limit (ask.Size asked hidden) number

-- the values are a rounding, and this is the fault of the first question over the cells with the reader's bounds that
-- has no answer
pub record IsUndecidedBy (system : System) (cells : List Cell) (values : List ℤ) (base : ℤ) (limit : ℕ)
    (why : AskFault) : Type 0 where
  pub not_memory : why ≢ ask.Memory
  pub rounding : IsRounding system (truths_of cells) base values
  pub known : List Cell
  pub known_are : AreReaderCells cells values base known
  pub fault : IsQuestionFault system cells known limit why

-- why a rounded release has no audit; want of memory is free, and stands apart
abbrev pub IsAuditFault : System → List Cell → List ℤ → ℤ → ℕ → AuditFault → Type 0
IsAuditFault system cells values base limit (audit.Reader why) = (why ≢ reader.Memory)
    × IsReaderFault system cells values base why
IsAuditFault system cells values base limit (audit.Question why) = IsUndecidedBy system cells values base limit why
IsAuditFault system cells values base limit audit.Memory = Unit {0}

-- no walk of a question stopped short: the fault is of the values, that a component is too large, or want of memory
abbrev pub HasNoWalk : AuditFault → Type 0
HasNoWalk (audit.Reader why) = Unit {0}
HasNoWalk (audit.Question why) = HasNoQuestionWalk why
HasNoWalk audit.Memory = Unit {0}

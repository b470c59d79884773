-- Why there are no intervals of the hidden cells (own).
use Rattle.std.specs.Prelude.{◌≡◌, ◌≤◌, ◌<◌, ℕ, Bool, true, List, length}
use Rattle.sdc_base.specs.declared.cell.Cell.{Cell}
use Rattle.sdc_base.specs.declared.side.Side.TheVariants.{Above, Below}
use Rattle.sdc_base.specs.declared.system.System.{System}
use Rattle.sdc_base.specs.HiddenSets.{is_hidden}
use Rattle.interval_audit.specs.Groups.{Group, IsComponentOf, members, most_members}
use Rattle.interval_audit.specs.declared.answer.Answer.{Answer}
use Rattle.interval_audit.specs.declared.answer.AskFault.{AskFault}
use Rattle.interval_audit.specs.declared.answer.AskFault.TheVariants as fault
use Rattle.interval_audit.specs.Ends.{IsTrueEnd, IsEndAnswer, IsIntervalCause}

-- both questions about the cell have ended with answers: how far it lies below its truth, and how far above
pub record HasBothEnds (system : System) (cells : List Cell) (flags : List Bool) (cell : ℕ) : Type 0 where
  pub below : Answer
  pub above : Answer
  pub below_right : IsTrueEnd system cells flags cell Below below
  pub below_read : IsEndAnswer system cells flags cell Below below
  pub above_right : IsTrueEnd system cells flags cell Above above
  pub above_read : IsEndAnswer system cells flags cell Above above

-- the component of the cell has at most 4,000 hidden cells
pub record HasSmallComponent (system : System) (flags : List Bool) (cell : ℕ) : Type 0 where
  pub group : Group
  pub is_component : IsComponentOf system.relations flags cell group
  pub within_most_members : length (members group system.cells) ≤ most_members

-- the fault is one of this hidden cell's two questions, and those of all hidden cells before it have ended with answers
pub record IsFaultAt (system : System) (cells : List Cell) (flags : List Bool) (limit : ℕ) (fault : AskFault)
    (cell : ℕ) : Type 0 where
  pub hidden : is_hidden flags cell ≡ true
  pub earlier : (other : ℕ) → other < cell → is_hidden flags other ≡ true → HasBothEnds system cells flags other
  pub cause : IsIntervalCause system cells flags cell limit fault

-- why there are no intervals: the fault of the first question that has no answer; want of memory is free
abbrev pub IsFaultOf : System → List Cell → List Bool → ℕ → AskFault → Type 0
IsFaultOf system cells flags limit fault.Memory = Unit {0}
IsFaultOf system cells flags limit (fault.Work walk) = (cell : ℕ)
    × IsFaultAt system cells flags limit (fault.Work walk) cell
IsFaultOf system cells flags limit (fault.Wide walk place) = (cell : ℕ)
    × IsFaultAt system cells flags limit (fault.Wide walk place) cell
IsFaultOf system cells flags limit (fault.Size asked hidden) = (cell : ℕ)
    × IsFaultAt system cells flags limit (fault.Size asked hidden) cell

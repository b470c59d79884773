-- Which faults come with which components.
use Rattle.std.proofs.Common.{◌≡◌, ◌≢◌, ◌↔◌, ◌≤◌, ℕ, Bool, List, length, inl, inr, arith, refl, ap, subst}
use Rattle.sdc_base.specs.declared.cell.Cell.{Cell}
use Rattle.sdc_base.specs.declared.side.Side.{Side}
use Rattle.sdc_base.specs.declared.system.System.{System}
use Rattle.interval_audit.specs.declared.answer.AskFault.{AskFault}
use Rattle.interval_audit.specs.declared.answer.AskFault.TheVariants as fault
use Rattle.interval_audit.specs.declared.answer.Walk.{Walk}
use Rattle.interval_audit.specs.declared.answer.WidePlace.{WidePlace}
use Rattle.interval_audit.specs.declared.question.Question.{Question}
use Rattle.interval_audit.specs.Ends.{IsEndCause, IsEndQuestion, IsIntervalCause}
use Rattle.interval_audit.specs.Groups.{Group, IsComponentOf, members, most_members}
use Rattle.cell_intervals.specs.IntervalFaults.{HasSmallComponent}
use Rattle.cell_intervals.specs.Laws.{IsSize, SizeIsLarge}
use Rattle.interval_audit.proofs.SameGroups.{groups_alike}

-- a component of at most so many cells, of the cell that a question asks about
asked_small : (system : System) (flags : List Bool) (cell : ℕ) (side : Side) (question : Question) (group : Group) → IsEndQuestion cell side question → IsComponentOf system.relations flags question.cell group → length (members group system.cells) ≤ most_members → HasSmallComponent system flags cell
asked_small system flags cell side question group asks is few = record { group = group; is_component = subst (λ c. IsComponentOf system.relations flags c group) asks.cell_is is; within_most_members = few }

work_small : (system : System) (cells : List Cell) (flags : List Bool) (cell : ℕ) (side : Side) (limit : ℕ) (walk : Walk) → IsEndCause system cells flags cell side limit (fault.Work walk) → HasSmallComponent system flags cell
work_small system cells flags cell side limit walk cause = asked_small system flags cell side cause.0 cause.2.0 cause.1 cause.2.1 cause.2.2.4

wide_small : (system : System) (cells : List Cell) (flags : List Bool) (cell : ℕ) (side : Side) (limit : ℕ) (walk : Walk) (place : WidePlace) → IsEndCause system cells flags cell side limit (fault.Wide walk place) → HasSmallComponent system flags cell
wide_small system cells flags cell side limit walk place cause = asked_small system flags cell side cause.0 cause.2.0 cause.1 cause.2.1 cause.2.2.3

size_large : (system : System) (cells : List Cell) (flags : List Bool) (cell : ℕ) (side : Side) (limit : ℕ) (asked : Question) (hidden : ℕ) → IsEndCause system cells flags cell side limit (fault.Size asked hidden) → HasSmallComponent system flags cell → ⊥
size_large system cells flags cell side limit asked hidden cause small =
    let group : Group = cause.2.0 in
    let own : IsComponentOf system.relations flags cell group = subst (λ c. IsComponentOf system.relations flags c group) cause.1.cell_is cause.2.1 in
    let same : length (members small.group system.cells) ≡ length (members group system.cells) = ap (λ (g : Group). length (members g system.cells)) (groups_alike system.relations flags cell small.group group small.is_component own) in
    omega (arith, small.within_most_members, same, cause.2.2.1, cause.2.2.2)

either : (system : System) (cells : List Cell) (flags : List Bool) (limit cell : ℕ) (why : AskFault) (P : Type 0) → ((side : Side) → IsEndCause system cells flags cell side limit why → P) → IsIntervalCause system cells flags cell limit why → P
either system cells flags limit cell why P each (inl below) = each _ below
either system cells flags limit cell why P each (inr above) = each _ above.3

-- the fault of a cell's questions is that its component is too large exactly where it is
pub cause_is_large : (system : System) (cells : List Cell) (flags : List Bool) (limit cell : ℕ) (why : AskFault) → why ≢ fault.Memory → IsIntervalCause system cells flags cell limit why → IsSize why ↔ (¬ HasSmallComponent system flags cell)
cause_is_large system cells flags limit cell (fault.Work walk) some cause =
    ((λ is. absurd is), (λ large. large (either system cells flags limit cell (fault.Work walk) (HasSmallComponent system flags cell) (λ side own. work_small system cells flags cell side limit walk own) cause)))
cause_is_large system cells flags limit cell (fault.Wide walk place) some cause =
    ((λ is. absurd is), (λ large. large (either system cells flags limit cell (fault.Wide walk place) (HasSmallComponent system flags cell) (λ side own. wide_small system cells flags cell side limit walk place own) cause)))
cause_is_large system cells flags limit cell (fault.Size asked hidden) some cause =
    ((λ is small. either system cells flags limit cell (fault.Size asked hidden) ⊥ (λ side own. size_large system cells flags cell side limit asked hidden own small) cause), (λ large. tt))
cause_is_large system cells flags limit cell fault.Memory some cause = absurd (some refl)

pub size_is_large : SizeIsLarge
size_is_large system cells flags limit cell why some at = cause_is_large system cells flags limit cell why some at.cause

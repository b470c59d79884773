-- What holds where memory is wanting, and what with any other fault (own).
use Rattle.std.specs.Prelude.{List, []}
use Rattle.interval_audit.specs.declared.answer.AskFault.{AskFault}
use Rattle.interval_audit.specs.declared.answer.AskFault.TheVariants.{Work, Wide, Size, Memory}

-- the one holds under want of memory, the other with any other fault
abbrev pub MemoryOr : AskFault → Type 0 → Type 0 → Type 0
MemoryOr Memory Wanting Other = Wanting
MemoryOr (Work walk) Wanting Other = Other
MemoryOr (Wide walk place) Wanting Other = Other
MemoryOr (Size question hidden) Wanting Other = Other

-- it holds with this fault; want of memory says nothing
abbrev pub UnlessMemory : AskFault → Type 0 → Type 0
UnlessMemory fault Other = MemoryOr fault (Unit {0}) Other

-- what is handed out with a fault: the one under want of memory, else the other
abbrev pub with_fault : {X : Type 0} → AskFault → X → X → X
with_fault Memory none x = none
with_fault (Work walk) none x = x
with_fault (Wide walk place) none x = x
with_fault (Size question hidden) none x = x

-- a list as it is handed out with a fault: none under want of memory
abbrev pub list_with_fault : {X : Type 0} → AskFault → List X → List X
list_with_fault fault xs = with_fault fault [] xs

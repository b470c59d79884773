-- What holds where memory is wanting, and what with any other fault.
use Rattle.std.proofs.Common.{◌≡◌, ℕ, List, [], refl}
use Rattle.interval_audit.specs.declared.answer.AskFault.{AskFault}
use Rattle.interval_audit.specs.declared.answer.AskFault.TheVariants.{Work, Wide, Size, Memory}
use Rattle.repair.specs.WantOfMemory.{MemoryOr, UnlessMemory, list_with_fault}

-- what holds anyway
pub unless_memory : {P : Type 0} (fault : AskFault) → P → UnlessMemory fault P
unless_memory (Work walk) is = is
unless_memory (Wide walk place) is = is
unless_memory (Size question hidden) is = is
unless_memory Memory is = tt

-- under want of memory nothing needs to hold
pub under_memory : (P : Type 0) (fault : AskFault) → fault ≡ Memory → UnlessMemory fault P
under_memory P fault is = rw is tt

-- what follows from the one with any other fault
pub memory_more : {P Q : Type 0} (W : Type 0) (fault : AskFault) → (P → Q) → MemoryOr fault W P → MemoryOr fault W Q
memory_more W (Work walk) more is = more is
memory_more W (Wide walk place) more is = more is
memory_more W (Size question hidden) more is = more is
memory_more W Memory more is = is

-- what follows from both
pub by_fault : {W P : Type 0} (Q : AskFault → Type 0) (fault : AskFault) → (W → Q Memory) → (P → Q fault) → MemoryOr fault W P → Q fault
by_fault Q (Work walk) wanting other is = other is
by_fault Q (Wide walk place) wanting other is = other is
by_fault Q (Size question hidden) wanting other is = other is
by_fault Q Memory wanting other is = wanting is

-- a stop with two lists, as they are handed out
pub lists_told : {R : Type 0} (Stops : List R → List ℕ → Type 0) (fault : AskFault) (reasons : List R) (shown : List ℕ) → UnlessMemory fault (Stops reasons shown)
    → MemoryOr fault ((list_with_fault fault reasons ≡ []) × (list_with_fault fault shown ≡ [])) (Stops (list_with_fault fault reasons) (list_with_fault fault shown))
lists_told Stops (Work walk) reasons shown is = is
lists_told Stops (Wide walk place) reasons shown is = is
lists_told Stops (Size question hidden) reasons shown is = is
lists_told Stops Memory reasons shown is = (refl, refl)

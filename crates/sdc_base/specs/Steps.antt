-- Definitions by first fault: steps, each of which gives a value or a fault (own).
use Rattle.std.specs.Prelude.{Bool, if◌then◌else◌, Option, None, Some, Result, Ok, Err}

-- one step, and then the next with its value; the first fault is the fault of all
infixl 10 ◌>>=◌
abbrev pub ◌>>=◌ : {A B F : Type 0} → Result A F → (A → Result B F) → Result B F
(Ok x) >>= next = next x
(Err fault) >>= next = Err fault

-- the value, or this fault where there is none
abbrev pub or_fault : {A F : Type 0} → F → Option A → Result A F
or_fault fault None = Err fault
or_fault fault (Some x) = Ok x

-- this fault where it is so, else go on
abbrev pub refuse : {F : Type 0} → F → Bool → Result (Unit {0}) F
refuse fault wrong = if wrong then Err fault else Ok tt

-- the value seen by a view, or the same fault
abbrev pub map_ok : {A B F : Type 0} → (A → B) → Result A F → Result B F
map_ok view (Ok x) = Ok (view x)
map_ok view (Err fault) = Err fault

-- the same value, or the fault seen by a view, as a fault with the number of its line
abbrev pub map_fault : {A F G : Type 0} → (F → G) → Result A F → Result A G
map_fault view (Ok x) = Ok x
map_fault view (Err fault) = Err (view fault)

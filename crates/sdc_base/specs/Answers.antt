-- What a call answers, against a definition that gives a value or the first fault; want of memory is the one free
-- answer (own).
use Rattle.std.specs.Prelude.{◌≡◌, Option, None, Some, Result, Ok, Err}

-- the definition gives this fault; want of memory (None) says nothing
abbrev pub Fails : {Y F : Type 0} → Option F → Result Y F → Type 0
Fails None meant = Unit {0}
Fails (Some fault) meant = meant ≡ Err fault

-- The answer, its value seen by a view, is what the definition gives, want of memory aside.
-- `fault_of` reads the fault off an error, with its place where it has one, and gives None for want of memory.
abbrev pub Gives : {X Y E F : Type 0} → (E → Option F) → (X → Y) → Result X E → Result Y F → Type 0
Gives fault_of view (Ok x) meant = meant ≡ Ok (view x)
Gives fault_of view (Err e) meant = Fails (fault_of e) meant

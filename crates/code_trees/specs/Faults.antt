-- Which codes make a tree, and which is the first that doesn't fit (own).
use Rattle.std.specs.Prelude.{◌≡◌, ℕ, ◌+◌, ◌==◌, nat_le, List, [], ◌∷◌, ◌++◌, length, if◌then◌else◌, Option, None, Some, Result, Ok, Err}
use Rattle.std.specs.List.{list_any}
use Rattle.std.specs.Str.{bytes_eq}
use Rattle.sdc_base.specs.Trees.{Tree}
use Rattle.code_trees.specs.declared.tree_fault.TreeFault.{TreeFault}
use Rattle.code_trees.specs.declared.tree_fault.TreeFault.TheVariants as fault

-- the fault of a code, as entry n, after these codes, of which the first is the total: it is the total, stands already,
-- or is the 5,001st
abbrev pub code_fault : List (List ℕ) → List ℕ → ℕ → Option TreeFault
code_fault [] code n = None
code_fault (total ∷ earlier) code n =
    if bytes_eq code total then Some (fault.IsTotal n)
    else if list_any (bytes_eq code) earlier then Some (fault.Twice n)
    else if nat_le 5000 (length earlier) then Some (fault.TooMany n)
    else None

-- the one fault, or else the other
abbrev pub or_else : Option TreeFault → Option TreeFault → Option TreeFault
or_else None other = other
or_else (Some one) other = Some one

-- the first fault of codes, which are numbered from n and come after those before
abbrev pub first_code_fault : ℕ → List (List ℕ) → List (List ℕ) → Option TreeFault
first_code_fault n before [] = None
first_code_fault n before (code ∷ codes) = or_else (code_fault before code n)
    (first_code_fault (n + 1) (before ++ code ∷ []) codes)

-- a value, unless there is a fault
abbrev pub tree_unless : Option TreeFault → Tree → Result Tree TreeFault
tree_unless None tree = Ok tree
tree_unless (Some one) tree = Err one

-- the fault that an answer names; want of memory is none
abbrev pub tree_fault_of : TreeFault → Option TreeFault
tree_fault_of fault.Memory = None
tree_fault_of one = Some one

-- What a step refused is the fault, unless memory ran out.
abbrev pub Names : TreeFault → Option TreeFault → Type 0
Names fault.Memory told = Unit {0}
Names one told = told ≡ Some one

-- What a step answered is the fault, or that there is none, unless memory ran out.
abbrev pub AnswersFault : {X : Type 0} → Result X TreeFault → Option TreeFault → Type 0
AnswersFault (Ok x) told = told ≡ None
AnswersFault (Err one) told = Names one told

-- what a code alone can be refused for
abbrev pub IsCodeFault : TreeFault → Type 0
IsCodeFault (fault.IsTotal n) = Unit {0}
IsCodeFault (fault.Twice n) = Unit {0}
IsCodeFault (fault.TooMany n) = Unit {0}
IsCodeFault fault.Memory = Unit {0}
IsCodeFault other = ⊥

-- the fault of a code that stands at this place already
abbrev pub known_fault : ℕ → ℕ → TreeFault
known_fault place n = if place == 0 then fault.IsTotal n else fault.Twice n

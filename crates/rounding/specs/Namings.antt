-- For each cell the relations that name it (own).
use Rattle.std.specs.Prelude.{◌≡◌, ◌≢◌, ℕ, ◌<◌, ◌+◌, List, [], length, slice_get, slice_index, slice_index_or, Some, pos}
use Rattle.sdc_base.specs.declared.relation.Relation.{Relation}
use Rattle.sdc_base.specs.declared.system.System.{System}
use Rattle.sdc_base.specs.Forms.{count_of}

-- a number isn't in a list
abbrev pub IsNotIn : List ℕ → ℕ → Type 0
IsNotIn numbers number = (place : ℕ) → place < length numbers → slice_index numbers place ≢ number

-- numbers in ascending order, all below this one
pub record Ascends (below : ℕ) (numbers : List ℕ) : Type 0 where
  pub ascending : (one other : ℕ) → one < other → other < length numbers
      → slice_index numbers one < slice_index numbers other
  pub within : (place : ℕ) → place < length numbers → slice_index numbers place < below

-- the numbers of relations, ascending; a relation that isn't among them doesn't count the cell
pub record IsNamingOf (relations : List Relation) (cell : ℕ) (numbers : List ℕ) : Type 0 where
  pub ascends : Ascends (length relations) numbers
  pub each_counting : (number : ℕ) (r : Relation) → slice_get relations number ≡ Some r → IsNotIn numbers number
      → count_of r cell ≡ pos 0

-- such numbers for each cell
pub record IsNaming (system : System) (naming : List (List ℕ)) : Type 0 where
  pub each : length naming ≡ system.cells
  pub listed : (cell : ℕ) → cell < system.cells → IsNamingOf system.relations cell (slice_index_or naming cell [])

-- only relations below this number have been noted at cells
abbrev pub AreNoted : ℕ → List (List ℕ) → Type 0
AreNoted below naming = (cell : ℕ) → Ascends below (slice_index_or naming cell [])

-- the relation with this number is noted at further cells, and what was noted stays
pub record IsNotedMore (number : ℕ) (before after : List (List ℕ)) : Type 0 where
  pub each : length after ≡ length before
  pub ascends : AreNoted (number + 1) after
  pub stays : (cell other : ℕ) → IsNotIn (slice_index_or after cell []) other
      → IsNotIn (slice_index_or before cell []) other

-- it is noted at every cell that it counts
abbrev pub IsNotedWhole : ℕ → Relation → List (List ℕ) → Type 0
IsNotedWhole number r naming = (cell : ℕ) → IsNotIn (slice_index_or naming cell []) number → count_of r cell ≡ pos 0

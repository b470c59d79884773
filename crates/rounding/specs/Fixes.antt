-- Cells fixed one after another at a neighbour of their truth, and the numbers that this leaves the cells (own).
use Rattle.std.specs.Prelude.{◌≡◌, ℕ, ◌<◌, ◌^◌, [], Bool, true, false, List, All, length, drop, fold, slice_get, slice_index, slice_set, Some, ℤ, pos, neg_ℤ, ◌-ℤ◌, ◌≤ℤ◌, int_lt, if◌then◌else◌}
use Rattle.sdc_base.specs.declared.relation.Relation.{Relation}
use Rattle.sdc_base.specs.declared.system.System.{System}
use Rattle.sdc_base.specs.Systems.{NamesCells, number_at}
use Rattle.sdc_base.specs.Roundings.{IsRounding}
use Rattle.rounding.specs.Neighbours.{is_multiple, neighbour}
use Rattle.rounding.specs.Choices.{by_choices}
use Rattle.sdc_base.specs.Forms.{count_of}
use Rattle.rounding.specs.Extremes.{spans_none}
use Rattle.rounding.specs.Namings.{IsNamingOf}
use Rattle.rounding.specs.Sums.{AreSmall}

-- a cell, and whether it is fixed at the upper neighbour of its truth or at the lower one
abbrev pub Fix : Type 0
Fix = ℕ × Bool

-- the numbers after one more cell is fixed
abbrev pub with_fix : ℤ → List ℤ → List ℤ → Fix → List ℤ
with_fix base truths numbers fix = slice_set numbers fix.0 (neighbour base (number_at truths fix.0) fix.1)

-- A number for each cell: a fixed cell where it is fixed, a multiple as it is, and the others to one side. So these are
-- the least numbers that are left, for down, and the greatest, for up.
abbrev pub by_fixes : Bool → ℤ → List ℤ → List Fix → List ℤ
by_fixes side base truths fixes = fold (with_fix base truths) (by_choices side base truths []) fixes

-- fixed cells, with what they are cells of
pub record FixedCells : Type 0 where
  pub system : System
  pub truths : List ℤ
  pub base : ℤ
  pub fixes : List Fix

-- what these make
abbrev pub fixed_cells : System → List ℤ → ℤ → List Fix → FixedCells
fixed_cells system truths base fixes = record { system = system; truths = truths; base = base; fixes = fixes }

-- values are a rounding of the cells
abbrev pub IsRoundingOf : FixedCells → List ℤ → Type 0
IsRoundingOf b values = IsRounding b.system b.truths b.base values

-- the least numbers that are left
abbrev pub least_left : FixedCells → List ℤ
least_left b = by_fixes false b.base b.truths b.fixes

-- the least number, for down, or the greatest, for up, that is left a cell
abbrev pub number_left : Bool → FixedCells → ℕ → ℤ
number_left side b = number_at (by_fixes side b.base b.truths b.fixes)

-- a cell that is no multiple and isn't fixed
pub record IsFree (b : FixedCells) (cell : ℕ) : Type 0 where
  pub inside : cell < length b.truths
  pub unrounded : is_multiple b.base (number_at b.truths cell) ≡ false
  pub low : number_left false b cell ≡ neighbour b.base (number_at b.truths cell) false
  pub high : number_left true b cell ≡ neighbour b.base (number_at b.truths cell) true

-- whether the numbers left allow a cell this neighbour of its truth
abbrev pub allows : FixedCells → ℕ → Bool → Bool
allows b cell up =
    if up then int_lt (number_at b.truths cell) (number_left true b cell)
    else int_lt (number_left false b cell) (number_at b.truths cell)

-- values between the numbers left
abbrev pub IsWithin : FixedCells → List ℤ → Type 0
IsWithin b values =
    (cell : ℕ) → (number_left false b cell ≤ℤ number_at values cell)
    × (number_at values cell ≤ℤ number_left true b cell)

-- no rounding is between the numbers left
abbrev pub NoneWithin : FixedCells → Type 0
NoneWithin b = (values : List ℤ) → IsRounding b.system b.truths b.base values → IsWithin b values → ⊥

-- whether a relation's form can be 0 on the numbers left
abbrev pub can_hold : FixedCells → Relation → Bool
can_hold b r = spans_none (number_left false b) (number_left true b) r

-- every relation can hold on the numbers left
abbrev pub AllCanHold : FixedCells → Type 0
AllCanHold b = (number : ℕ) (r : Relation) → slice_get b.system.relations number ≡ Some r → can_hold b r ≡ true

-- none of these fixes is of a cell that a relation counts
abbrev pub FixesNone : Relation → List Fix → Type 0
FixesNone r fixes = All (λ fix. count_of r fix.0 ≡ pos 0) fixes

-- each relation can hold whose cells weren't fixed from this place on
abbrev pub HoldFrom : ℕ → FixedCells → Type 0
HoldFrom from b =
    (number : ℕ) (r : Relation) → slice_get b.system.relations number ≡ Some r → FixesNone r (drop from b.fixes)
    → can_hold b r ≡ true

-- the same of the relations with these numbers
abbrev pub HoldOf : List ℕ → ℕ → FixedCells → Type 0
HoldOf numbers from b =
    (place : ℕ) (r : Relation) → place < length numbers
    → slice_get b.system.relations (slice_index numbers place) ≡ Some r → FixesNone r (drop from b.fixes)
    → can_hold b r ≡ true

-- what a change of one cell's number needs: the relations that name it, a number near, and small sums
pub record IsSettable (relations : List Relation) (named : List ℕ) (numbers : List ℤ) (cell : ℕ) (to : ℤ)
    (first second : List ℤ) : Type 0 where
  pub naming : IsNamingOf relations cell named
  pub names : All (NamesCells (length numbers)) relations
  pub inside : cell < length numbers
  pub low : neg_ℤ (pos (2 ^ 74)) ≤ℤ (to -ℤ number_at numbers cell)
  pub high : (to -ℤ number_at numbers cell) ≤ℤ pos (2 ^ 74)
  pub first_each : length first ≡ length relations
  pub second_each : length second ≡ length relations
  pub first_small : AreSmall first
  pub second_small : AreSmall second

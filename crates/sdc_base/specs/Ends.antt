-- The ends of cells: which relations count a cell, and with which sign (network flows; own).
use Rattle.std.specs.Prelude.{◌≡◌, ◌≢◌, ℕ, ◌<◌, ◌==◌, List, slice_index_or, Option, None, Some, ℤ, pos, ◌+ℤ◌, if◌then◌else◌}
use Rattle.sdc_base.specs.declared.relation.Relation.{Relation}
use Rattle.sdc_base.specs.declared.ends.End.{End}
use Rattle.sdc_base.specs.declared.ends.Ends.{Ends}
use Rattle.sdc_base.specs.declared.ends.Ends.TheVariants.{Free, One, Two}
use Rattle.sdc_base.specs.Signs.{times_counted, number_with_sign}

-- how often the relation with this number counts a cell by this end
abbrev pub by_end : End → ℕ → ℤ
by_end end number = if end.relation == number then number_with_sign end.plus (pos 1) else pos 0

-- how often it counts a cell with these ends
abbrev pub by_ends : Ends → ℕ → ℤ
by_ends Free number = pos 0
by_ends (One one) number = by_end one number
by_ends (Two one other) number = by_end one number +ℤ by_end other number

-- two ends are those of two relations
abbrev pub AreApart : Ends → Type 0
AreApart (Two one other) = one.relation ≢ other.relation
AreApart fewer = Unit {0}

-- they are those of relations with numbers below this one
abbrev pub AreKnown : ℕ → Ends → Type 0
AreKnown count (Two one other) = (one.relation < count) × (other.relation < count)
AreKnown count fewer = Unit {0}

-- a cell's ends
abbrev pub ends_at : List Ends → ℕ → Ends
ends_at ends cell = slice_index_or ends cell Free

-- with an end more; none where its relation has an end there already, and where there are two
abbrev pub with_end : Ends → End → Option Ends
with_end Free end = Some (One end)
with_end (One one) end = if one.relation == end.relation then None else Some (Two one end)
with_end (Two one other) end = None

-- the ends of each cell, for all relations
pub record AreEnds (relations : List Relation) (ends : List Ends) : Type 0 where
  pub apart : (cell : ℕ) → AreApart (ends_at ends cell)
  pub all : (cell number : ℕ) → by_ends (ends_at ends cell) number ≡ times_counted relations number cell

-- the ends of each cell, for the relations before this one, and for this one as far as it is read
pub record IsCounting (relations : List Relation) (number : ℕ) (own : ℕ → ℤ) (ends : List Ends) : Type 0 where
  pub apart : (cell : ℕ) → AreApart (ends_at ends cell)
  pub before : (cell other : ℕ) → other < number
      → by_ends (ends_at ends cell) other ≡ times_counted relations other cell
  pub this : (cell : ℕ) → by_ends (ends_at ends cell) number ≡ own cell
  pub after : (cell other : ℕ) → number < other → by_ends (ends_at ends cell) other ≡ pos 0

-- Whole multiples of cells, and the forms of relations as such, each taken a whole number of times (linear duality).
use Rattle.std.specs.Prelude.{ℕ, ◌==◌, List, [], ◌∷◌, map, flat_map, slice_get, ℤ, pos, neg_ℤ, if◌then◌else◌}
use Rattle.std.specs.Option.{option_map_or}
use Rattle.sdc_base.specs.Totals.{sum_of}
use Rattle.sdc_base.specs.declared.relation.Relation.{Relation}

-- a number of something, and a whole number for it: a cell with a multiple of it, or a relation with a multiplier
abbrev pub Term : Type 0
Term = ℕ × ℤ

-- a relation's form, total less parts, so many times
abbrev pub form_times : ℤ → Relation → List Term
form_times times r = (r.total, times) ∷ map (λ part. (part, neg_ℤ times)) r.parts

-- the forms of relations, each as many times as its multiplier says
abbrev pub weighted_forms : List Relation → List Term → List Term
weighted_forms relations multipliers =
    flat_map (λ m. option_map_or (form_times m.1) (slice_get relations m.0) []) multipliers

-- a cell's coefficient: its multiples, added up
abbrev pub coefficient : List Term → ℕ → ℤ
coefficient terms cell = sum_of (λ term. if term.0 == cell then term.1 else pos 0) terms

-- how often a relation's form counts a cell: the total once, less once for each time that it is a part
abbrev pub count_of : Relation → ℕ → ℤ
count_of r = coefficient (form_times (pos 1) r)

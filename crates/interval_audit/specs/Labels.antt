-- The rows of a question, each by a label that says what it keeps (linear programming; the order own).
use Rattle.std.specs.Prelude.{ℕ, ◌||◌, Bool, false, List, [], ◌∷◌, ◌++◌, length, filter, slice_get, is_some, ℤ, pos, neg_ℤ, ◌-ℤ◌, if◌then◌else◌, ◌≡◌}
use Rattle.std.specs.List.{flat_map, list_any, range_with_len, zip}
use Rattle.std.specs.Option.{option_map_or}
use Rattle.sdc_base.specs.declared.cell.Cell.{Cell}
use Rattle.sdc_base.specs.declared.relation.Relation.{Relation}
use Rattle.sdc_base.specs.Forms.{Term, form_times, coefficient}
use Rattle.sdc_base.specs.Refutations.{rise}
use Rattle.sdc_base.specs.Systems.{Numbers}
use Rattle.interval_audit.specs.Groups.{Group, members}
use Rattle.sdc_base.specs.declared.system.System.{System}

-- what a row keeps: a cell goes up at most as far as its upper bound, or down at most as far as its lower one; a
-- relation's form is at most 0, or its negated form is
pub data Label : Type 0 where
  CapAbove : (cell : ℕ) → Label
  CapBelow : (cell : ℕ) → Label
  Form : (number : ℕ) → Label
  Negated : (number : ℕ) → Label

-- the caps of a cell: above where there is an upper bound, and below
abbrev pub caps_for : List Cell → ℕ → List Label
caps_for cells number =
    if option_map_or (λ cell. is_some cell.high) (slice_get cells number) false
    then CapAbove number ∷ CapBelow number ∷ [] else CapBelow number ∷ []

-- a cell of the group stands in the relation
abbrev pub is_met : Group → Relation → Bool
is_met group r = group r.total || list_any group r.parts

-- the relations in which a cell of the group stands, ascending
abbrev pub met_relations : Group → List Relation → List ℕ
met_relations group relations =
    filter (λ number. option_map_or (is_met group) (slice_get relations number) false)
    (range_with_len 0 (length relations))

-- a statement holds of the group of which these are the members, and these the relations in which one of them stands
abbrev pub OfGroupWith : System → List ℕ → List ℕ → (Group → Type 0) → Type 0
OfGroupWith system list met statement =
    (group : Group) → list ≡ members group system.cells → met ≡ met_relations group system.relations
    → statement group

-- a relation's form, and its negated form
abbrev pub forms_for : ℕ → List Label
forms_for number = Form number ∷ Negated number ∷ []

-- the rows in their order: the caps of each cell of the group, then the forms of each relation that is met
abbrev pub labels : List Relation → List Cell → Group → ℕ → List Label
labels relations cells group n =
    flat_map (caps_for cells) (members group n) ++ flat_map forms_for (met_relations group relations)

-- a relation's form so many times, as multiples of cells
abbrev pub form_at : List Relation → ℤ → ℕ → List Term
form_at relations times number = option_map_or (form_times times) (slice_get relations number) []

-- how far the cell with this number can rise
abbrev pub rise_at : List Cell → Numbers
rise_at cells number = option_map_or rise (slice_get cells number) (pos 0)

-- how far a cell can fall
abbrev pub fall : Cell → ℤ
fall cell = cell.truth -ℤ cell.low

-- how far the cell with this number can fall
abbrev pub fall_at : List Cell → Numbers
fall_at cells number = option_map_or fall (slice_get cells number) (pos 0)

-- what a weight at a row counts as a multiplier of a relation: at its negated form so much, at its form as much less
abbrev pub terms_of_label : ℤ → Label → List Term
terms_of_label weight (CapAbove cell) = []
terms_of_label weight (CapBelow cell) = []
terms_of_label weight (Form number) = (number, neg_ℤ weight) ∷ []
terms_of_label weight (Negated number) = (number, weight) ∷ []

-- what weights of rows count as multipliers of relations
abbrev pub relation_terms : List ℤ → List Label → List Term
relation_terms weights rows = flat_map (λ w. terms_of_label w.0 w.1) (zip weights rows)

-- the multiplier of a relation: the weight at its negated form, less that at its form
abbrev pub multiplier : List ℤ → List Label → Numbers
multiplier weights rows = coefficient (relation_terms weights rows)

-- The linear problem of a question (linear programming; the order of columns and rows own).
use Rattle.std.specs.Prelude.{ℕ, ◌*◌, List, [], ◌∷◌, length, map, is_some, if◌then◌else◌, ℤ, pos, negsuc}
use Rattle.std.specs.List.{flat_map}
use Rattle.sdc_base.specs.declared.cell.Cell.{Cell}
use Rattle.sdc_base.specs.declared.side.Side.{Side}
use Rattle.sdc_base.specs.declared.system.System.{System}
use Rattle.sdc_base.specs.declared.relation.Relation.{Relation}
use Rattle.sdc_base.specs.Forms.{Term, form_times}
use Rattle.sdc_base.specs.Refutations.{rise}
use Rattle.sdc_base.specs.Worlds.{amount_toward}
use Rattle.tableau.specs.declared.problem.LinRow.{LinRow}
use Rattle.tableau.specs.declared.problem.Problem.{Problem}
use Rattle.interval_audit.specs.declared.question.Question.{Question}
use Rattle.interval_audit.specs.Groups.{Group, members}
use Rattle.interval_audit.specs.Columns.{up_column, down_column, entries_of}
use Rattle.interval_audit.specs.Labels.{Label, CapAbove, CapBelow, Form, Negated, forms_for, labels, met_relations, form_at, rise_at, fall, fall_at}

-- a row's entries, and its bound
abbrev pub row : List Term → ℤ → LinRow
row entries bound = record { entries = entries; bound = bound }

-- the rows of a cell's caps at its two columns: above where there is an upper bound, and below
abbrev pub cap_rows : ℕ → ℕ → Cell → List LinRow
cap_rows up down cell =
    if is_some cell.high then row ((up, pos 1) ∷ []) (rise cell) ∷ row ((down, pos 1) ∷ []) (fall cell) ∷ []
    else row ((down, pos 1) ∷ []) (fall cell) ∷ []

-- the two rows of a relation: its form, and its negated form, at most 0
abbrev pub form_rows : Group → ℕ → Relation → List LinRow
form_rows group n r =
    row (entries_of group n (form_times (pos 1) r)) (pos 0) ∷ row (entries_of group n (form_times (negsuc 0) r)) (pos 0)
    ∷ []

-- the row with a label
abbrev pub row_of : System → List Cell → Group → Label → LinRow
row_of system cells group (CapAbove cell) = row ((up_column group cell, pos 1) ∷ []) (rise_at cells cell)
row_of system cells group (CapBelow cell) = row ((down_column group cell, pos 1) ∷ []) (fall_at cells cell)
row_of system cells group (Form number) = row (entries_of group system.cells (form_at system.relations (pos 1) number))
    (pos 0)
row_of system cells group (Negated number) = row
    (entries_of group system.cells (form_at system.relations (negsuc 0) number)) (pos 0)

-- the asked cell's move to a side, as a multiple of cells
abbrev pub asked_move : ℕ → Side → List Term
asked_move asked side = (asked, amount_toward side (pos 1)) ∷ []

-- the rows of the relations that are met
abbrev pub met_rows : System → List Cell → Group → List LinRow
met_rows system cells group =
    map (row_of system cells group) (flat_map forms_for (met_relations group system.relations))

-- the rows of a question's problem
abbrev pub rows_of : System → List Cell → Group → List LinRow
rows_of system cells group = map (row_of system cells group) (labels system.relations cells group system.cells)

-- the problem of a question: raise the asked cell's move to its side, up to the target
abbrev pub problem_of : System → List Cell → Group → Question → Problem
problem_of system cells group question = record {
  columns = 2 * length (members group system.cells);
  rows = rows_of system cells group;
  objective = entries_of group system.cells (asked_move question.cell question.side);
  target = question.target;
}

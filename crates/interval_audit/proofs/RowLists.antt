-- Rows put together one cell and one relation at a time.
use Rattle.std.proofs.Common.{◌≡◌, ℕ, ◌+◌, ◌*◌, ◌<◌, Bool, true, false, List, [], ◌∷◌, ◌++◌, map, length, take, get_or, Some, is_some, slice_get, ℤ, pos, negsuc, ap, sym, ◌∙◌, refl, append_assoc, All, if◌then◌else◌}
use Rattle.std.specs.List.{flat_map}
use Rattle.std.specs.Option.{option_map_or}
use Rattle.std.proofs.lemmas.Grind.{flat_map-append}
use Rattle.std.proofs.lemmas.List.{take_more, append-nil, map-append}
use Rattle.sdc_base.specs.declared.cell.Cell.{Cell}
use Rattle.sdc_base.specs.declared.relation.Relation.{Relation}
use Rattle.sdc_base.specs.declared.system.System.{System}
use Rattle.sdc_base.specs.Forms.{Term, form_times}
use Rattle.tableau.specs.declared.problem.Problem.{Problem}
use Rattle.sdc_base.specs.Refutations.{rise}
use Rattle.tableau.specs.declared.problem.LinRow.{LinRow}
use Rattle.interval_audit.specs.Groups.{Group, members}
use Rattle.interval_audit.specs.Columns.{rank, entries_of}
use Rattle.interval_audit.specs.Labels.{Label, CapAbove, CapBelow, caps_for, forms_for, fall, is_met, met_relations}
use Rattle.interval_audit.specs.Problems.{row, cap_rows, row_of, rows_of}
use Rattle.interval_audit.proofs.Ranks.{All-members}

-- rows with those of one number more
pub next_rows : (before now more : List LinRow) (rows : Label → LinRow) (labelled : ℕ → List Label) (list : List ℕ) (place d : ℕ) → place < length list → now ≡ before ++ map rows (flat_map labelled (take place list)) → more ≡ now ++ map rows (labelled (get_or list place d))
    → more ≡ before ++ map rows (flat_map labelled (take (place + 1) list))
next_rows before now more rows labelled list place d inside is next =
    let n : ℕ = get_or list place d in
    let split : flat_map labelled (take (place + 1) list) ≡ flat_map labelled (take place list) ++ labelled n =
    ap (flat_map labelled) (take_more list place d inside) ∙ flat_map-append labelled (take place list) (n ∷ []) ∙ ap (λ e. flat_map labelled (take place list) ++ e) (append-nil (labelled n)) in
    next ∙ ap (λ xs. xs ++ map rows (labelled n)) is ∙ append_assoc before (map rows (flat_map labelled (take place list))) (map rows (labelled n))
    ∙ ap (λ xs. before ++ xs) (sym (map-append rows (flat_map labelled (take place list)) (labelled n)) ∙ ap (map rows) (sym split))

-- a cell's caps by its place among the members
pub caps_rows : (system : System) (cells : List Cell) (group : Group) (number place : ℕ) (cell : Cell) → slice_get cells number ≡ Some cell → rank group number ≡ place → map (row_of system cells group) (caps_for cells number) ≡ cap_rows (2 * place) (2 * place + 1) cell
caps_rows system cells group number place cell found ranked =
    ap (λ o. map (row_of system cells group) (if option_map_or (λ (one : Cell). is_some one.high) o false then CapAbove number ∷ CapBelow number ∷ [] else CapBelow number ∷ [])) found
    ∙ either (is_some cell.high)
    ∙ ap (λ o. if is_some cell.high then row ((2 * rank group number, pos 1) ∷ []) (option_map_or rise o (pos 0)) ∷ row ((2 * rank group number + 1, pos 1) ∷ []) (option_map_or fall o (pos 0)) ∷ [] else row ((2 * rank group number + 1, pos 1) ∷ []) (option_map_or fall o (pos 0)) ∷ []) found
    ∙ ap (λ r. cap_rows (2 * r) (2 * r + 1) cell) ranked
  where
    either : (b : Bool) → map (row_of system cells group) (if b then CapAbove number ∷ CapBelow number ∷ [] else CapBelow number ∷ []) ≡ (if b then row_of system cells group (CapAbove number) ∷ row_of system cells group (CapBelow number) ∷ [] else row_of system cells group (CapBelow number) ∷ [])
    either true = refl
    either false = refl

-- a relation's forms by the relation
pub forms_rows : (system : System) (cells : List Cell) (group : Group) (number : ℕ) (r : Relation) → slice_get system.relations number ≡ Some r
    → map (row_of system cells group) (forms_for number) ≡ row (entries_of group system.cells (form_times (pos 1) r)) (pos 0) ∷ row (entries_of group system.cells (form_times (negsuc 0) r)) (pos 0) ∷ []
forms_rows system cells group number r found =
    ap (λ o. row (entries_of group system.cells (option_map_or (form_times (pos 1)) o [])) (pos 0) ∷ row (entries_of group system.cells (option_map_or (form_times (negsuc 0)) o [])) (pos 0) ∷ []) found

-- members are below n
pub members_below : (group : Group) (n : ℕ) → All (λ c. c < n) (members group n)
members_below group n = All-members group (λ c. c < n) n (λ c below is. below)

-- a relation that is met is one of the relations
pub met_below : (group : Group) (relations : List Relation) → All (λ number. number < length relations) (met_relations group relations)
met_below group relations = members_below (λ number. option_map_or (is_met group) (slice_get relations number) false) (length relations)

-- a problem by its parts
abbrev pub problem : ℕ → List LinRow → List Term → ℤ → Problem
problem columns rows objective target = record { columns = columns; rows = rows; objective = objective; target = target }

pub same_problem : (a b : ℕ) (r s : List LinRow) (o p : List Term) (t u : ℤ) → a ≡ b → r ≡ s → o ≡ p → t ≡ u → problem a r o t ≡ problem b s p u
same_problem a b r s o p t u one two three four = rw (one, two, three, four) refl

-- the rows of a question, put together
pub whole_rows : (system : System) (cells : List Cell) (group : Group) (list : List ℕ) (none caps all : List LinRow) → list ≡ members group system.cells → none ≡ [] → caps ≡ none ++ map (row_of system cells group) (flat_map (caps_for cells) list) → all ≡ caps ++ map (row_of system cells group) (flat_map forms_for (met_relations group system.relations))
    → all ≡ rows_of system cells group
whole_rows system cells group list none caps all is empty first second =
    second ∙ ap (λ xs. xs ++ map (row_of system cells group) (flat_map forms_for (met_relations group system.relations))) (first ∙ ap (λ xs. xs ++ map (row_of system cells group) (flat_map (caps_for cells) list)) empty ∙ ap (λ xs. map (row_of system cells group) (flat_map (caps_for cells) xs)) is)
    ∙ sym (map-append (row_of system cells group) (flat_map (caps_for cells) (members group system.cells)) (flat_map forms_for (met_relations group system.relations)))

-- The points of a question's problem are the worlds.
use Rattle.std.proofs.Common.{◌≡◌, ℕ, ◌*◌, ◌<◌, Bool, true, false, List, [], ◌∷◌, length, Option, Some, is_some, slice_get, slice_index_or, All, ℤ, pos, negsuc, ◌+ℤ◌, ◌-ℤ◌, ◌*ℤ◌, ◌≤ℤ◌, arith, refl, ap, sym, ◌∙◌, subst, if◌then◌else◌}
use Rattle.std.specs.List.{flat_map}
use Rattle.std.specs.Option.{option_map_or, ForSome}
use Rattle.std.proofs.Math.IntN.{*ℤ_comm}
use Rattle.std.proofs.lemmas.Int.{ints}
use Rattle.std.proofs.lemmas.List.Elements.{All-head, All-tail}
use Rattle.std.proofs.lemmas.Option.{slice_get_within, slice_get-get_or}
use Rattle.sdc_base.specs.declared.cell.Cell.{Cell}
use Rattle.sdc_base.specs.declared.relation.Relation.{Relation}
use Rattle.sdc_base.specs.declared.system.System.{System}
use Rattle.sdc_base.specs.HiddenSets.{is_hidden}
use Rattle.sdc_base.specs.Refutations.{rise}
use Rattle.sdc_base.specs.Systems.{Numbers, form}
use Rattle.sdc_base.specs.Worlds.{IsWithinBounds}
use Rattle.sdc_base.proofs.WholeNumbers.{times_up}
use Rattle.sdc_base.proofs.WeakDual.{lessened}
use Rattle.tableau.specs.declared.problem.LinRow.{LinRow}
use Rattle.interval_audit.specs.Points.{comes_to}
use Rattle.interval_audit.specs.Groups.{Group, members}
use Rattle.interval_audit.specs.Columns.{rank, up_column, down_column, moves_of}
use Rattle.interval_audit.specs.Labels.{Label, CapAbove, CapBelow, Form, Negated, caps_for, forms_for, is_met, met_relations, labels, rise_at, fall, fall_at}
use Rattle.interval_audit.specs.Problems.{row_of}
use Rattle.interval_audit.specs.QuestionLaws.{PointsAreWorlds}
use Rattle.interval_audit.proofs.Ranks.{rank-less}
use Rattle.interval_audit.proofs.Members.{All-left, All-right, All-unmap, All-flat_at}
use Rattle.interval_audit.proofs.Moves.{form_comes_to, objective_comes_to, cap_comes_to, moves_in, moves_out, unmet_holds}

-- a row is at most its bound on amounts
abbrev pub Keeps : System → List Cell → Group → ℤ → Numbers → Label → Type 0
Keeps system cells group den amounts label = comes_to amounts (row_of system cells group label).entries ≤ℤ (den *ℤ (row_of system cells group label).bound)

-- the test by which a relation is met
abbrev pub meets : Group → List Relation → ℕ → Bool
meets group relations number = option_map_or (is_met group) (slice_get relations number) false

-- where all rows are kept, so are those of each member's caps and each met relation's forms
caps_kept : (system : System) (cells : List Cell) (group : Group) (den : ℤ) (amounts : Numbers) (c : ℕ) → c < system.cells → group c ≡ true → All (Keeps system cells group den amounts) (labels system.relations cells group system.cells) → All (Keeps system cells group den amounts) (caps_for cells c)
caps_kept system cells group den amounts c below is all =
    All-flat_at (Keeps system cells group den amounts) (caps_for cells) group system.cells c below is
    (All-left (Keeps system cells group den amounts) (flat_map (caps_for cells) (members group system.cells)) (flat_map forms_for (met_relations group system.relations)) all)

forms_kept : (system : System) (cells : List Cell) (group : Group) (den : ℤ) (amounts : Numbers) (number : ℕ) → number < length system.relations → meets group system.relations number ≡ true → All (Keeps system cells group den amounts) (labels system.relations cells group system.cells) → All (Keeps system cells group den amounts) (forms_for number)
forms_kept system cells group den amounts number below is all =
    All-flat_at (Keeps system cells group den amounts) forms_for (meets group system.relations) (length system.relations) number below is
    (All-right (Keeps system cells group den amounts) (flat_map (caps_for cells) (members group system.cells)) (flat_map forms_for (met_relations group system.relations)) all)

-- the cap below of a cell, and the one above where there is an upper bound
cap_below : (system : System) (cells : List Cell) (group : Group) (den : ℤ) (amounts : Numbers) (c : ℕ) → All (Keeps system cells group den amounts) (caps_for cells c) → amounts (down_column group c) ≤ℤ (den *ℤ fall_at cells c)
cap_below system cells group den amounts c all =
    let K : Label → Type 0 = Keeps system cells group den amounts in
    let own : K (CapBelow c) =
    elim (option_map_or (λ (cell : Cell). is_some cell.high) (slice_get cells c) false) as (λ b. All K (if b then CapAbove c ∷ CapBelow c ∷ [] else CapBelow c ∷ []) → K (CapBelow c)) [
      | true ↦ λ both. All-head K (CapBelow c) [] (All-tail K (CapAbove c) (CapBelow c ∷ []) both)
      | false ↦ λ one. All-head K (CapBelow c) [] one
    ] all in
    subst (λ v. v ≤ℤ (den *ℤ fall_at cells c)) (cap_comes_to amounts (down_column group c)) own

cap_above : (system : System) (cells : List Cell) (group : Group) (den : ℤ) (amounts : Numbers) (c : ℕ) → option_map_or (λ (cell : Cell). is_some cell.high) (slice_get cells c) false ≡ true → All (Keeps system cells group den amounts) (caps_for cells c) → amounts (up_column group c) ≤ℤ (den *ℤ rise_at cells c)
cap_above system cells group den amounts c bounded all =
    let K : Label → Type 0 = Keeps system cells group den amounts in
    let both : All K (CapAbove c ∷ CapBelow c ∷ []) = subst (λ b. All K (if b then CapAbove c ∷ CapBelow c ∷ [] else CapBelow c ∷ [])) bounded all in
    let own : K (CapAbove c) = All-head K (CapAbove c) (CapBelow c ∷ []) both in
    subst (λ v. v ≤ℤ (den *ℤ rise_at cells c)) (cap_comes_to amounts (up_column group c)) own

-- ---- from a point to a world

-- the moves of a cell are within its bounds
within_in : (cell : Cell) (high : Option ℤ) (den ups downs : ℤ) → pos 0 ≤ℤ ups → pos 0 ≤ℤ downs → downs ≤ℤ (den *ℤ (cell.truth -ℤ cell.low)) → ((bound : ℤ) → high ≡ Some bound → ups ≤ℤ (den *ℤ (bound -ℤ cell.truth)))
    → ((den *ℤ cell.low) ≤ℤ (den *ℤ cell.truth +ℤ (ups -ℤ downs))) × ForSome high (λ bound. (den *ℤ cell.truth +ℤ (ups -ℤ downs)) ≤ℤ (den *ℤ bound))
within_in cell high den ups downs one other low up_to =
    (omega (arith, ints, one, low, lessened den cell.low cell.truth), λ bound is. omega (arith, ints, other, up_to bound is, lessened den cell.truth bound))

within_out : (cell : Cell) (den : ℤ) → pos 1 ≤ℤ den → IsWithinBounds cell den (pos 0)
within_out cell den positive = record {
  from_low = omega (arith, ints, times_up den cell.low cell.truth (omega (arith, ints, positive)) cell.low_within);
  to_high = λ bound is. omega (arith, ints, times_up den cell.truth bound (omega (arith, ints, positive)) (cell.high_beyond bound is));
}

bounds_at : (system : System) (cells : List Cell) (group : Group) (den : ℤ) (amounts : Numbers) → length cells ≡ system.cells → pos 1 ≤ℤ den
    → ((column : ℕ) → column < 2 * length (members group system.cells) → pos 0 ≤ℤ amounts column)
    → All (Keeps system cells group den amounts) (labels system.relations cells group system.cells)
    → (number : ℕ) (cell : Cell) → slice_get cells number ≡ Some cell → IsWithinBounds cell den (moves_of group amounts number)
bounds_at system cells group den amounts each positive from_zero all number cell found = by (group number) refl
  where
    inside : number < system.cells
    inside = omega (arith, slice_get_within cells number cell found, each)

    by : (b : Bool) → group number ≡ b → IsWithinBounds cell den (moves_of group amounts number)
    by false is = subst (IsWithinBounds cell den) (sym (moves_out group amounts number is)) (within_out cell den positive)
    by true is =
        let caps : All (Keeps system cells group den amounts) (caps_for cells number) = caps_kept system cells group den amounts number inside is all in
        let below : rank group number < rank group system.cells = rank-less group number system.cells is inside in
        let low : amounts (down_column group number) ≤ℤ (den *ℤ (cell.truth -ℤ cell.low)) = subst (λ o. amounts (down_column group number) ≤ℤ (den *ℤ option_map_or fall o (pos 0))) found (cap_below system cells group den amounts number caps) in
        let up_to : (bound : ℤ) → cell.high ≡ Some bound → amounts (up_column group number) ≤ℤ (den *ℤ (bound -ℤ cell.truth)) = (λ bound has.
        let bounded : option_map_or (λ (one : Cell). is_some one.high) (slice_get cells number) false ≡ true = ap (λ o. option_map_or (λ (one : Cell). is_some one.high) o false) found ∙ ap is_some has in
        let risen : rise_at cells number ≡ bound -ℤ cell.truth = ap (λ o. option_map_or rise o (pos 0)) found ∙ ap (λ h. option_map_or (λ high. high -ℤ cell.truth) h (pos 0)) has in
        subst (λ v. amounts (up_column group number) ≤ℤ (den *ℤ v)) risen (cap_above system cells group den amounts number bounded caps)) in
        let both = within_in cell cell.high den (amounts (up_column group number)) (amounts (down_column group number)) (from_zero (up_column group number) (omega (arith, below))) (from_zero (down_column group number) (omega (arith, below))) low up_to in
        subst (IsWithinBounds cell den) (sym (moves_in group amounts number is)) (record { from_low = both.0; to_high = both.1 })

-- a relation holds on the moves
pub holds_at : (system : System) (cells : List Cell) (group : Group) (den : ℤ) (amounts : Numbers)
    → All (Keeps system cells group den amounts) (labels system.relations cells group system.cells)
    → (number : ℕ) (r : Relation) → slice_get system.relations number ≡ Some r → form (moves_of group amounts) r ≡ pos 0
holds_at system cells group den amounts all number r found = by (is_met group r) refl
  where
    K : Label → Type 0
    K = Keeps system cells group den amounts

    by : (b : Bool) → is_met group r ≡ b → form (moves_of group amounts) r ≡ pos 0
    by false is = unmet_holds group amounts r is
    by true is =
        let test : meets group system.relations number ≡ true = ap (λ o. option_map_or (is_met group) o false) found ∙ is in
        let both : All K (forms_for number) = forms_kept system cells group den amounts number (slice_get_within system.relations number r found) test all in
        let one : K (Form number) = All-head K (Form number) (Negated number ∷ []) both in
        let other : K (Negated number) = All-head K (Negated number) [] (All-tail K (Form number) (Negated number ∷ []) both) in
        omega (arith, ints, one, other, form_comes_to system group amounts (pos 1) number r found, form_comes_to system group amounts (negsuc 0) number r found, *ℤ_comm den (pos 0))

pub points_are_worlds : PointsAreWorlds
points_are_worlds system cells flags group question den amounts each is point =
    let all : All (Keeps system cells group den amounts) (labels system.relations cells group system.cells) =
    All-unmap (λ (row : LinRow). comes_to amounts row.entries ≤ℤ (den *ℤ row.bound)) (row_of system cells group) (labels system.relations cells group system.cells) point.within in (
      record {
        positive = point.positive;
        shown_stay = λ cell inside shown. moves_out group amounts cell (out cell shown);
        relations_hold = λ k d inside. holds_at system cells group den amounts all k (slice_index_or system.relations k d) (slice_get-get_or system.relations k d inside);
        bounds_hold = bounds_at system cells group den amounts each point.positive point.from_zero all;
      },
      sym (objective_comes_to group system.cells question.cell question.side amounts is.asked_known),
    )
  where
    out : (cell : ℕ) → is_hidden flags cell ≡ false → group cell ≡ false
    out cell shown =
        elim (group cell) as (λ b. group cell ≡ b → b ≡ false) [
          | true ↦ λ own. absurd (let no : true ≡ false = sym (is.hidden cell own) ∙ shown in cc)
          | false ↦ λ own. refl
        ] refl

-- Lists of cells' moves and multipliers of relations that show each other to be the best (linear duality, complementary
-- slackness; the lists own).
use Rattle.std.specs.Prelude.{◌≡◌, ℕ, zero, suc, ◌+◌, ◌<◌, ◌≤◌, ◌==◌, Bool, true, false, List, length, slice_get, Some, is_some, ℤ, pos, neg_ℤ, ◌+ℤ◌, ◌-ℤ◌, ◌*ℤ◌, ◌<ℤ◌, ◌≤ℤ◌, if◌then◌else◌}
use Rattle.std.specs.Option.{option_map_or}
use Rattle.sdc_base.specs.declared.cell.Cell.{Cell}
use Rattle.sdc_base.specs.declared.system.System.{System}
use Rattle.sdc_base.specs.Forms.{coefficient}
use Rattle.sdc_base.specs.Patterns.{IsPattern}
use Rattle.sdc_base.specs.HiddenSets.{is_hidden}
use Rattle.sdc_base.specs.Systems.{Numbers}
use Rattle.sdc_base.specs.Totals.{sum_of}
use Rattle.sdc_base.specs.Worlds.{amount_toward}
use Rattle.tableau.specs.Amounts.{value_of}
use Rattle.tableau.specs.OptimalPairs.{IsNotBelowZeros}
use Rattle.worlds.specs.declared.multipliers.Multipliers.{Multipliers}
use Rattle.interval_audit.specs.declared.question.Question.{Question}
use Rattle.interval_audit.specs.FewerHidden.{StopsWith}
use Rattle.interval_audit.specs.Groups.{Group, IsComponentOf, members, most_members}
use Rattle.interval_audit.specs.Labels.{Label, CapAbove, CapBelow, Form, Negated, labels, met_relations, form_at, rise_at, fall_at}
use Rattle.interval_audit.specs.Problems.{asked_move}
use Rattle.interval_audit.specs.Readings.{HasLowestTerms}

-- the rows of a component's cells and relations, by their labels
abbrev pub labels_of : System → List Cell → Group → List Label
labels_of system cells group = labels system.relations cells group system.cells

-- how long the lists are: a value, then a small amount for each row, and one for the target
abbrev pub places : System → List Cell → Group → ℕ
places system cells group = suc (length (labels_of system cells group) + 1)

-- how far the row with a label lets its move go
abbrev pub bound_of : List Cell → Label → ℤ
bound_of cells (CapAbove cell) = rise_at cells cell
bound_of cells (CapBelow cell) = fall_at cells cell
bound_of cells (Form number) = pos 0
bound_of cells (Negated number) = pos 0

-- as a list: with the k-th row's own small amount
abbrev pub limit : List Cell → ℕ → Label → ℕ → ℤ
limit cells k label zero = bound_of cells label
limit cells k label (suc s) = if k == s then pos 1 else pos 0

-- a relation's form on lists of the cells' moves
abbrev pub form_list : System → (ℕ → ℕ → ℤ) → ℕ → ℕ → ℤ
form_list system moves number i = value_of (λ cell. moves cell i) (form_at system.relations (pos 1) number)

-- how far the moves go toward the bound of the row with a label
abbrev pub toward : System → (ℕ → ℕ → ℤ) → Label → ℕ → ℤ
toward system moves (CapAbove cell) i = moves cell i
toward system moves (CapBelow cell) i = neg_ℤ (moves cell i)
toward system moves (Form number) i = form_list system moves number i
toward system moves (Negated number) i = neg_ℤ (form_list system moves number i)

-- what the asked cell's move to its side, q times, and the relations, each as many times as its multiplier says, leave
-- at a cell
abbrev pub left_over : System → Group → Question → ℤ → Numbers → ℕ → ℤ
left_over system group question q multipliers cell =
    q *ℤ coefficient (asked_move question.cell question.side) cell
    +ℤ sum_of (λ number. multipliers number *ℤ coefficient (form_at system.relations (pos 1) number) cell)
    (met_relations group system.relations)

-- how much the row with a label is pressed against its bound: a cap of a hidden cell by what is left over at the cell,
-- a form by its multiplier
abbrev pub pressure : System → List Bool → Group → Question → ℤ → Numbers → Label → ℤ
pressure system flags group question q multipliers (CapAbove cell) =
    if is_hidden flags cell then left_over system group question q multipliers cell else pos 0
pressure system flags group question q multipliers (CapBelow cell) =
    if is_hidden flags cell then neg_ℤ (left_over system group question q multipliers cell) else pos 0
pressure system flags group question q multipliers (Form number) = neg_ℤ (multipliers number)
pressure system flags group question q multipliers (Negated number) = multipliers number

-- Lists of the cells' moves over d, and multipliers of relations over q: a cell that isn't hidden doesn't move, nor does
-- one outside of the component; each move and each form lies between its bounds with their small amounts, and stands at a bound against which it is
-- pressed; nothing is left over above 0 at a hidden cell without an upper bound; and the asked cell doesn't come to the
-- target.
pub record IsMovePair (system : System) (cells : List Cell) (flags : List Bool) (group : Group) (question : Question)
    (d q : ℤ) (moves : ℕ → ℕ → ℤ) (multipliers : Numbers) : Type 0 where
  pub d_above : pos 1 ≤ℤ d
  pub q_above : pos 1 ≤ℤ q
  pub left : (cell i : ℕ) → is_hidden flags cell ≡ false → moves cell i ≡ pos 0
  pub outside : (cell i : ℕ) → group cell ≡ false → moves cell i ≡ pos 0
  pub within : (k : ℕ) (label : Label) → slice_get (labels_of system cells group) k ≡ Some label →
      IsNotBelowZeros (places system cells group) (λ i. d *ℤ limit cells k label i -ℤ toward system moves label i)
  pub stands : (k i : ℕ) (label : Label) → slice_get (labels_of system cells group) k ≡ Some label →
      i < places system cells group → pos 1 ≤ℤ pressure system flags group question q multipliers label →
      toward system moves label i ≡ d *ℤ limit cells k label i
  pub unbounded : (cell : ℕ) → group cell ≡ true → is_hidden flags cell ≡ true →
      option_map_or (λ found. is_some found.high) (slice_get cells cell) false ≡ false →
      left_over system group question q multipliers cell ≤ℤ pos 0
  pub below : amount_toward question.side (moves question.cell 0) <ℤ (d *ℤ question.target)

-- the multipliers of such a pair are those of the question's answer where these cells are hidden
abbrev pub MovePairStops : Type 0
MovePairStops =
    (system : System) (cells : List Cell) (larger flags : List Bool) (question : Question) (group : Group) (d q : ℤ)
    (moves : ℕ → ℕ → ℤ) (by_relation : Numbers) (multipliers : Multipliers) →
    IsPattern system cells flags → is_hidden flags question.cell ≡ true →
    ((cell : ℕ) → is_hidden flags cell ≡ true → is_hidden larger cell ≡ true) →
    IsComponentOf system.relations larger question.cell group →
    length (members group system.cells) ≤ most_members →
    IsMovePair system cells flags group question d q moves by_relation →
    HasLowestTerms multipliers q by_relation (met_relations group system.relations) →
    StopsWith system cells flags question multipliers

-- The rows' slacks and weights, by lists of moves and multipliers.
use Rattle.std.proofs.Common.{◌≡◌, ℕ, zero, suc, ◌+◌, ◌<◌, ◌==◌, Bool, true, false, List, [], ◌∷◌, ◌++◌, length, map, get_or, slice_get, Some, ℤ, pos, neg_ℤ, ◌-ℤ◌, ◌*ℤ◌, ◌≤ℤ◌, int_lt, arith, refl, ap, sym, ◌∙◌, subst, if◌then◌else◌}
use Rattle.std.proofs.Math.IntN.{*ℤ_comm}
use Rattle.std.proofs.lemmas.Int.{ints}
use Rattle.std.proofs.lemmas.List.Elements.{All-get_or}
use Rattle.std.proofs.lemmas.Option.{slice_get_within, get_or_from_slice_get}
use Rattle.sdc_base.specs.declared.cell.Cell.{Cell}
use Rattle.sdc_base.specs.declared.system.System.{System}
use Rattle.sdc_base.specs.Systems.{Numbers}
use Rattle.sdc_base.specs.Worlds.{amount_toward}
use Rattle.tableau.specs.declared.problem.LinRow.{LinRow}
use Rattle.tableau.specs.OptimalPairs.{IsNotBelowZeros}
use Rattle.tableau.specs.Problems as problems
use Rattle.tableau.proofs.Exchanges.{times_none}
use Rattle.interval_audit.specs.declared.question.Question.{Question}
use Rattle.interval_audit.specs.Groups.{Group}
use Rattle.interval_audit.specs.Labels.{Label, CapAbove, CapBelow, Form, Negated}
use Rattle.interval_audit.specs.MovePairs.{IsMovePair, labels_of, limit, places, pressure, toward}
use Rattle.interval_audit.specs.Points.{comes_to}
use Rattle.interval_audit.specs.Problems.{problem_of, row_of}
use Rattle.interval_audit.proofs.LexSigns.{not_below_same}
use Rattle.interval_audit.proofs.Moves.{objective_comes_to}
use Rattle.interval_audit.proofs.MoveRows.{column_list, come, come_is, idle, idle_turned, limit_above, limit_not_below, moves_back}
use Rattle.interval_audit.proofs.Weights.{IsLabel, labels_are}

-- ---- each row

pub each_row : {X A : Type 0} (P : ℕ → A → ℤ → Type 0) (F : X → A) (w : X → ℤ) (last d : A) (xs : List X) → ((k : ℕ) (x : X) → slice_get xs k ≡ Some x → P k (F x) (w x)) → P (length xs) last (pos 0) → (k : ℕ) → k < length xs + 1 →
    P k (get_or (map F xs ++ last ∷ []) k d) (get_or (map w xs) k (pos 0))
each_row P F w last d [] each end zero below = end
each_row P F w last d [] each end (suc k) below = absurd (omega arith)
each_row P F w last d (x ∷ xs) each end zero below = each 0 x refl
each_row P F w last d (x ∷ xs) each end (suc k) below = each_row (λ k. P (suc k)) F w last d xs (λ k. each (suc k)) end k (omega arith)

-- a row's bound as a list
abbrev pub row_limit : LinRow → ℕ → ℕ → ℤ
row_limit row k zero = row.bound
row_limit row k (suc s) = if k == s then pos 1 else pos 0

-- a weight by a pressure
abbrev pub weight_of : ℤ → ℤ
weight_of p = if int_lt (pos 0) p then p else pos 0

abbrev pub free : ℤ → (ℕ → ℕ → ℤ) → ℕ → LinRow → ℕ → ℤ
free d x k row i = d *ℤ row_limit row k i -ℤ comes_to (λ v. x v i) row.entries

pub record RowFits (size : ℕ) (d : ℤ) (x : ℕ → ℕ → ℤ) (k : ℕ) (row : LinRow) (w : ℤ) : Type 0 where
  pub weight_above : pos 0 ≤ℤ w
  pub slack_above : IsNotBelowZeros size (free d x k row)
  pub stands : (i : ℕ) → i < size → w *ℤ free d x k row i ≡ pos 0

limit_is : (system : System) (cells : List Cell) (group : Group) (label : Label) (k i : ℕ) → row_limit (row_of system cells group label) k i ≡ limit cells k label i
limit_is system cells group (CapAbove c) k zero = refl
limit_is system cells group (CapBelow c) k zero = refl
limit_is system cells group (Form r) k zero = refl
limit_is system cells group (Negated r) k zero = refl
limit_is system cells group label k (suc s) = refl

pub label_is : (system : System) (cells : List Cell) (group : Group) (k : ℕ) (label : Label) → slice_get (labels_of system cells group) k ≡ Some label → IsLabel system cells group label
label_is system cells group k label found =
    let all : List Label = labels_of system cells group in
    let L : Label → Type 0 = IsLabel system cells group in
    subst L (get_or_from_slice_get all k label label found) (All-get_or L all k label (slice_get_within all k label found) (labels_are system cells group))

pub weight_above : (p : ℤ) → pos 0 ≤ℤ weight_of p
weight_above p =
    elim (int_lt (pos 0) p) as (λ b. int_lt (pos 0) p ≡ b → pos 0 ≤ℤ (if b then p else pos 0)) [
      | true ↦ λ is. grind (arith, ints)
      | false ↦ λ is. omega (arith, ints)
    ] refl

pub weight_stands : (p z : ℤ) → (pos 1 ≤ℤ p → z ≡ pos 0) → weight_of p *ℤ z ≡ pos 0
weight_stands p z none =
    elim (int_lt (pos 0) p) as (λ b. int_lt (pos 0) p ≡ b → (if b then p else pos 0) *ℤ z ≡ pos 0) [
      | true ↦ λ is. let more : pos 1 ≤ℤ p = grind (arith, ints) in ap (λ t. p *ℤ t) (none more) ∙ times_none p
      | false ↦ λ is. *ℤ_comm (pos 0) z ∙ times_none z
    ] refl

pub not_idle : (system : System) (cells : List Cell) (flags : List Bool) (group : Group) (question : Question) (d q : ℤ) (moves : ℕ → ℕ → ℤ) (l : Numbers) (k : ℕ) (label : Label) → IsMovePair system cells flags group question d q moves l →
    slice_get (labels_of system cells group) k ≡ Some label → pos 1 ≤ℤ pressure system flags group question q l label → idle (places system cells group) moves label ≡ false
not_idle system cells flags group question d q moves l k label pair found pressed =
    let size : ℕ = places system cells group in
    let inside : k < length (labels_of system cells group) = slice_get_within (labels_of system cells group) k label found in
    elim (idle size moves label) as (λ b. idle size moves label ≡ b → b ≡ false) [
      | true ↦ λ is. absurd (limit_not_below cells size d k label pair.d_above (omega (arith, inside))
          (not_below_same size (λ i. neg_ℤ (toward system moves label i)) (λ i. neg_ℤ (d *ℤ limit cells k label i)) (λ i within. ap neg_ℤ (pair.stands k i label found within pressed)) (idle_turned system size moves label is)))
      | false ↦ λ _. refl
    ] refl

label_fits : (system : System) (cells : List Cell) (flags : List Bool) (group : Group) (question : Question) (d q : ℤ) (moves : ℕ → ℕ → ℤ) (l : Numbers) (k : ℕ) (label : Label) → IsMovePair system cells flags group question d q moves l →
    slice_get (labels_of system cells group) k ≡ Some label →
    RowFits (places system cells group) d (column_list group system.cells (places system cells group) moves) k (row_of system cells group label) (weight_of (pressure system flags group question q l label))
label_fits system cells flags group question d q moves l k label pair found =
    let size : ℕ = places system cells group in
    let x : ℕ → ℕ → ℤ = column_list group system.cells size moves in
    let row : LinRow = row_of system cells group label in
    let p : ℤ = pressure system flags group question q l label in
    let comes : (b : Bool) → idle size moves label ≡ b → (i : ℕ) → free d x k row i ≡ d *ℤ limit cells k label i -ℤ (if b then pos 0 else toward system moves label i) = λ b is i.
    ap (λ z. d *ℤ z -ℤ comes_to (λ v. x v i) row.entries) (limit_is system cells group label k i)
    ∙ ap (λ z. d *ℤ limit cells k label i -ℤ z) (come_is system cells group moves label i pair.outside (label_is system cells group k label found) ∙ ap (λ b. if b then pos 0 else toward system moves label i) is) in
    record {
      weight_above = weight_above p;
      slack_above = elim (idle size moves label) as (λ b. idle size moves label ≡ b → IsNotBelowZeros size (free d x k row)) [
        | true ↦ λ is i inside before. omega (arith, ints, comes true is i, limit_above cells d k label i pair.d_above)
        | false ↦ λ is. not_below_same size (λ i. d *ℤ limit cells k label i -ℤ toward system moves label i) (free d x k row) (λ i _. sym (comes false is i)) (pair.within k label found)
      ] refl;
      stands = λ i inside. weight_stands p (free d x k row i)
          (λ pressed. comes false (not_idle system cells flags group question d q moves l k label pair found pressed) i ∙ omega (arith, ints, pair.stands k i label found inside pressed));
    }

pub asked_value : (system : System) (cells : List Cell) (flags : List Bool) (group : Group) (question : Question) (d q : ℤ) (moves : ℕ → ℕ → ℤ) (l : Numbers) → IsMovePair system cells flags group question d q moves l → question.cell < system.cells →
    come system cells group moves (problem_of system cells group question).objective 0 ≡ amount_toward question.side (moves question.cell 0)
asked_value system cells flags group question d q moves l pair known =
    let size : ℕ = places system cells group in
    objective_comes_to group system.cells question.cell question.side (λ v. column_list group system.cells size moves v 0) known
    ∙ ap (amount_toward question.side) (moves_back group system.cells size moves question.cell 0 (pair.outside question.cell 0) known)

target_fits : (system : System) (cells : List Cell) (flags : List Bool) (group : Group) (question : Question) (d q : ℤ) (moves : ℕ → ℕ → ℤ) (l : Numbers) (k : ℕ) → IsMovePair system cells flags group question d q moves l → question.cell < system.cells →
    RowFits (places system cells group) d (column_list group system.cells (places system cells group) moves) k (problems.target_row (problem_of system cells group question)) (pos 0)
target_fits system cells flags group question d q moves l k pair known =
    let size : ℕ = places system cells group in
    let x : ℕ → ℕ → ℤ = column_list group system.cells size moves in
    let row : LinRow = problems.target_row (problem_of system cells group question) in
    let first : pos 1 ≤ℤ free d x k row 0 = omega (arith, ints, asked_value system cells flags group question d q moves l pair known, pair.below) in
    record {
      weight_above = omega (arith, ints);
      slack_above = above size (free d x k row) first;
      stands = λ i inside. *ℤ_comm (pos 0) (free d x k row i) ∙ times_none (free d x k row i);
    }
  where
    above : (size : ℕ) (g : ℕ → ℤ) → pos 1 ≤ℤ g 0 → IsNotBelowZeros size g
    above size g first zero inside before = omega (arith, ints)
    above size g first (suc i) inside before = absurd (omega (arith, ints, before 0 (omega arith)))

-- the weight of the k-th row
abbrev pub weight_at : System → List Cell → List Bool → Group → Question → ℤ → Numbers → ℕ → ℤ
weight_at system cells flags group question q l k = get_or (map (λ label. weight_of (pressure system flags group question q l label)) (labels_of system cells group)) k (pos 0)

pub row_fits : (system : System) (cells : List Cell) (flags : List Bool) (group : Group) (question : Question) (d q : ℤ) (moves : ℕ → ℕ → ℤ) (l : Numbers) (k : ℕ) → IsMovePair system cells flags group question d q moves l → question.cell < system.cells → k < length (labels_of system cells group) + 1 →
    RowFits (places system cells group) d (column_list group system.cells (places system cells group) moves) k (problems.row_at (problem_of system cells group question) k) (weight_at system cells flags group question q l k)
row_fits system cells flags group question d q moves l k pair known below =
    let size : ℕ = places system cells group in
    let all : List Label = labels_of system cells group in
    each_row (RowFits size d (column_list group system.cells size moves)) (row_of system cells group) (λ label. weight_of (pressure system flags group question q l label)) (problems.target_row (problem_of system cells group question)) problems.no_row all
    (λ k label found. label_fits system cells flags group question d q moves l k label pair found)
    (target_fits system cells flags group question d q moves l (length all) pair known) k below

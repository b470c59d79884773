-- Rows that fit, one after another.
use Rattle.std.proofs.Common.{◌≡◌, ℕ, zero, suc, ◌+◌, ◌<◌, Bool, true, false, List, [], ◌∷◌, ◌++◌, length, take, get_or, slice_get, Some, None, is_some, ℤ, pos, ◌-ℤ◌, ◌*ℤ◌, ◌≤ℤ◌, arith, refl, ap, sym, ◌∙◌, subst, if◌then◌else◌}
use Rattle.std.specs.List.{flat_map}
use Rattle.std.specs.Option.{option_map_or}
use Rattle.std.proofs.lemmas.Int.{ints}
use Rattle.std.proofs.lemmas.Grind.{flat_map-append}
use Rattle.std.proofs.lemmas.List.{take_more, append-nil}
use Rattle.sdc_base.specs.declared.cell.Cell.{Cell}
use Rattle.sdc_base.specs.Forms.{Term, coefficient}
use Rattle.tableau.specs.OptimalPairs.{IsNotBelowZeros}
use Rattle.interval_audit.specs.Labels.{Label, CapAbove, CapBelow, caps_for}
use Rattle.interval_audit.specs.MovePairs.{bound_of, limit, toward}
use Rattle.kept_questions.specs.Checks.{LabelFits, LabelsFit, pressure_of}
use Rattle.kept_questions.specs.TermLists.{bound_at, moves_in}
use Rattle.kept_questions.specs.declared.labels.Checked.{Checked}
use Rattle.kept_questions.proofs.SideSums.{not_below_same}

-- more rows behind
pub labels_behind : (checked : Checked) (k : ℕ) (xs ys : List Label) → LabelsFit checked k xs → LabelsFit checked (k + length xs) ys → LabelsFit checked k (xs ++ ys)
labels_behind checked k [] ys all more = subst (λ n. LabelsFit checked n ys) (let e : k + 0 ≡ k = omega arith in e) more
labels_behind checked k (x ∷ xs) ys all more = (all.0, labels_behind checked (suc k) xs ys all.1 (subst (λ n. LabelsFit checked n ys) (let e : k + length (x ∷ xs) ≡ suc k + length xs = omega arith in e) more))

flat_next : {X : Type 0} (f : X → List Label) (xs : List X) (k : ℕ) (d : X) → k < length xs → flat_map f (take (k + 1) xs) ≡ flat_map f (take k xs) ++ f (get_or xs k d)
flat_next f xs k d inside = ap (flat_map f) (take_more xs k d inside) ∙ flat_map-append f (take k xs) (get_or xs k d ∷ []) ∙ ap (λ (ls : List Label). flat_map f (take k xs) ++ ls) (append-nil (f (get_or xs k d)))

-- the rows of one more
pub labels_next : {X : Type 0} (checked : Checked) (first place : ℕ) (f : X → List Label) (xs : List X) (k : ℕ) (d : X) → k < length xs → LabelsFit checked first (flat_map f (take k xs)) →
    place ≡ first + length (flat_map f (take k xs)) → LabelsFit checked place (f (get_or xs k d)) → LabelsFit checked first (flat_map f (take (k + 1) xs))
labels_next checked first place f xs k d inside all is more =
    subst (λ (ls : List Label). LabelsFit checked first ls) (sym (flat_next f xs k d inside))
    (labels_behind checked first (flat_map f (take k xs)) (f (get_or xs k d)) all (subst (λ n. LabelsFit checked n (f (get_or xs k d))) is more))

length_app : (xs ys : List Label) → length (xs ++ ys) ≡ length xs + length ys
length_app [] ys = omega arith
length_app (x ∷ xs) ys = omega (arith, length_app xs ys)

pub places_next : {X : Type 0} (first place next : ℕ) (f : X → List Label) (xs : List X) (k : ℕ) (d : X) → k < length xs → place ≡ first + length (flat_map f (take k xs)) → next ≡ place + length (f (get_or xs k d)) →
    next ≡ first + length (flat_map f (take (k + 1) xs))
places_next first place next f xs k d inside is next_is =
    omega (arith, is, next_is, ap length (flat_next f xs k d inside), length_app (flat_map f (take k xs)) (f (get_or xs k d)))

-- ---- one row

limit_same : (cells : List Cell) (k : ℕ) (label : Label) (i : ℕ) → bound_at (bound_of cells label) k i ≡ limit cells k label i
limit_same cells k label zero = refl
limit_same cells k label (suc s) = refl

-- what a check of a side says of the row with a label
pub side_fits : (checked : Checked) (k : ℕ) (label : Label) (den bound times pressure : ℤ) (own : ℕ) (list : List Term) → den ≡ checked.den → own ≡ k → bound ≡ bound_of checked.cells.now label → pressure ≡ pressure_of checked label →
    ((i : ℕ) → times *ℤ coefficient list i ≡ toward checked.system.now (moves_in checked.lists.now) label i) →
    ((size : ℕ) → IsNotBelowZeros size (λ i. den *ℤ bound_at bound own i -ℤ times *ℤ coefficient list i)) →
    (pos 1 ≤ℤ pressure → (i : ℕ) → times *ℤ coefficient list i ≡ den *ℤ bound_at bound own i) → LabelFits checked k label
side_fits checked k label den bound times pressure own list den_is own_is bound_is pressure_is same within stands =
    let far : (i : ℕ) → den *ℤ bound_at bound own i ≡ checked.den *ℤ limit checked.cells.now k label i = λ i.
    ap (λ z. z *ℤ bound_at bound own i) den_is ∙ ap (λ z. checked.den *ℤ bound_at z own i) bound_is ∙ ap (λ n. checked.den *ℤ bound_at (bound_of checked.cells.now label) n i) own_is
    ∙ ap (λ z. checked.den *ℤ z) (limit_same checked.cells.now k label i) in
    record {
      within = λ size. not_below_same size (λ i. den *ℤ bound_at bound own i -ℤ times *ℤ coefficient list i) (λ i. checked.den *ℤ limit checked.cells.now k label i -ℤ toward checked.system.now (moves_in checked.lists.now) label i)
          (λ i. omega (arith, ints, far i, same i)) (within size);
      stands = λ up i. sym (same i) ∙ stands (subst (λ z. pos 1 ≤ℤ z) (sym pressure_is) up) i ∙ far i;
    }

-- ---- the caps of a cell

pub caps_both : (cells : List Cell) (number : ℕ) (cell : Cell) (high : ℤ) → slice_get cells number ≡ Some cell → cell.high ≡ Some high → caps_for cells number ≡ CapAbove number ∷ CapBelow number ∷ []
caps_both cells number cell high found is =
    let test : option_map_or (λ (c : Cell). is_some c.high) (slice_get cells number) false ≡ true = ap (λ o. option_map_or (λ (c : Cell). is_some c.high) o false) found ∙ ap is_some is in
    ap (λ (b : Bool). if b then CapAbove number ∷ CapBelow number ∷ [] else CapBelow number ∷ []) test

pub cap_alone : (cells : List Cell) (number : ℕ) (cell : Cell) → slice_get cells number ≡ Some cell → cell.high ≡ None → caps_for cells number ≡ CapBelow number ∷ []
cap_alone cells number cell found is =
    let test : option_map_or (λ (c : Cell). is_some c.high) (slice_get cells number) false ≡ false = ap (λ o. option_map_or (λ (c : Cell). is_some c.high) o false) found ∙ ap is_some is in
    ap (λ (b : Bool). if b then CapAbove number ∷ CapBelow number ∷ [] else CapBelow number ∷ []) test

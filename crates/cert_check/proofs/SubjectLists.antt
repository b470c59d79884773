-- The hidden cells that aren't primary, one cell more at a time.
use Rattle.std.proofs.Common.{◌≡◌, ℕ, zero, suc, ◌+◌, ◌<◌, ◌&&◌, not, Bool, true, false, List, [], ◌∷◌, ◌++◌, length, drop, get_or, All, slice_get, Some, arith, refl, ap, sym, ◌∙◌, subst, if◌then◌else◌}
use Rattle.std.proofs.lemmas.List.{drop_more}
use Rattle.std.proofs.lemmas.List.Elements.{All-nil, All-head, All-tail, All-cons}
use Rattle.sdc_base.specs.declared.cell.Cell.{Cell}
use Rattle.sdc_base.specs.declared.side.Side.{Side}
use Rattle.sdc_base.specs.declared.side.Side.TheVariants.{Above, Below}
use Rattle.sdc_base.specs.HiddenSets.{is_hidden}
use Rattle.worlds.specs.ProtectFaults.{asked_of}
use Rattle.sdc_base.specs.Kinds.{is_primary}
use Rattle.repair.specs.Needs.{others_hidden}

cut : (flags : List Bool) (number : ℕ) (cell : Cell) (cells : List Cell) → others_hidden flags number (cell ∷ cells) ≡ others_hidden flags number (cell ∷ []) ++ others_hidden flags (number + 1) cells
cut flags number cell cells =
    elim (is_hidden flags number && not (is_primary cell.kind)) as (λ b. (if b then number ∷ others_hidden flags (number + 1) cells else others_hidden flags (number + 1) cells) ≡ (if b then number ∷ others_hidden flags (number + 1) [] else others_hidden flags (number + 1) []) ++ others_hidden flags (number + 1) cells) [
      | true ↦ refl
      | false ↦ refl
    ]

pub others_next : (flags : List Bool) (cells : List Cell) (i : ℕ) (cell : Cell) → i < length cells → cell ≡ get_or cells i cell → others_hidden flags i (drop i cells) ≡ others_hidden flags i (cell ∷ []) ++ others_hidden flags (i + 1) (drop (i + 1) cells)
others_next flags cells i cell within is =
    ap (λ (l : List Cell). others_hidden flags i l) (drop_more cells i cell within ∙ ap (λ c. c ∷ drop (i + 1) cells) (sym is))
    ∙ cut flags i cell (drop (i + 1) cells)

-- a subject is one of the cells, and hidden
pub record IsSubject (flags : List Bool) (least most subject : ℕ) : Type 0 where
  pub below : subject < most
  pub hidden : is_hidden flags subject ≡ true

both : (a b : Bool) → (a && b) ≡ true → a ≡ true
both true b is = refl
both false b is = absurd cc

subjects_are : (flags : List Bool) (number most : ℕ) (cells : List Cell) → number + length cells ≡ most → All (IsSubject flags 0 most) (others_hidden flags number cells)
subjects_are flags number most [] size = All-nil (IsSubject flags 0 most)
subjects_are flags number most (cell ∷ cells) size =
    let later : All (IsSubject flags 0 most) (others_hidden flags (number + 1) cells) = subjects_are flags (number + 1) most cells (omega (arith, size)) in
    elim (is_hidden flags number && not (is_primary cell.kind)) as (λ b. (is_hidden flags number && not (is_primary cell.kind)) ≡ b → All (IsSubject flags 0 most) (if b then number ∷ others_hidden flags (number + 1) cells else others_hidden flags (number + 1) cells)) [
      | true ↦ λ is. All-cons (IsSubject flags 0 most) number (others_hidden flags (number + 1) cells) (record { below = omega (arith, size); hidden = both (is_hidden flags number) (not (is_primary cell.kind)) is }) later
      | false ↦ λ is. later
    ] refl

at_place : {A : Type 0} (P : A → Type 0) (xs : List A) (i : ℕ) (x : A) → slice_get xs i ≡ Some x → All P xs → P x
at_place P [] i x found all = absurd cc
at_place P (z ∷ xs) zero x found all = let same : z ≡ x = cc in subst P same (All-head P z xs all)
at_place P (z ∷ xs) (suc i) x found all = at_place P xs i x found (All-tail P z xs all)

-- the subject at a place is a hidden cell
pub subject_is : (flags : List Bool) (cells : List Cell) (i subject : ℕ) → slice_get (others_hidden flags 0 cells) i ≡ Some subject → IsSubject flags 0 (length cells) subject
subject_is flags cells i subject found = at_place (IsSubject flags 0 (length cells)) (others_hidden flags 0 cells) i subject found (subjects_are flags 0 (length cells) cells (omega arith))

asked_from : (number most : ℕ) (cells : List Cell) → number + length cells ≡ most → All (λ (one : ℕ × Side). one.0 < most) (asked_of number cells)
asked_from number most [] size = All-nil (λ (one : ℕ × Side). one.0 < most)
asked_from number most (cell ∷ cells) size =
    let P : ℕ × Side → Type 0 = λ one. one.0 < most in
    let later : All P (asked_of (number + 1) cells) = asked_from (number + 1) most cells (omega (arith, size)) in
    elim (is_primary cell.kind) as (λ b. All P (if b then (number, Above) ∷ (number, Below) ∷ asked_of (number + 1) cells else asked_of (number + 1) cells)) [
      | true ↦ All-cons P (number, Above) ((number, Below) ∷ asked_of (number + 1) cells) (omega (arith, size)) (All-cons P (number, Below) (asked_of (number + 1) cells) (omega (arith, size)) later)
      | false ↦ later
    ]

-- what is asked is a cell
pub asked_are_cells : (cells : List Cell) → All (λ (one : ℕ × Side). one.0 < length cells) (asked_of 0 cells)
asked_are_cells cells = asked_from 0 (length cells) cells (omega arith)

all_weaker : {A : Type 0} (P Q : A → Type 0) (xs : List A) → ((x : A) → P x → Q x) → All P xs → All Q xs
all_weaker P Q [] more all = All-nil Q
all_weaker P Q (x ∷ xs) more all = All-cons Q x xs (more x (All-head P x xs all)) (all_weaker P Q xs more (All-tail P x xs all))

-- the subjects are cells
pub subjects_below : (flags : List Bool) (cells : List Cell) → All (λ subject. subject < length cells) (others_hidden flags 0 cells)
subjects_below flags cells = all_weaker (IsSubject flags 0 (length cells)) (λ subject. subject < length cells) (others_hidden flags 0 cells) (λ subject is. is.below) (subjects_are flags 0 (length cells) cells (omega arith))

-- Hidden sets that grow, cell by cell.
use Rattle.std.proofs.Common.{◌≡◌, ◌≢◌, ℕ, zero, suc, ◌<◌, ◌⊎◌, inl, inr, ◌==◌, Bool, true, false, List, [], ◌∷◌, ◌++◌, length, length-set, fold, map, slice_get, Some, All, refl, ap, sym, ◌∙◌, subst, arith}
use Rattle.std.proofs.lemmas.List.{get_or-set_same, get_or-set_other, length-map}
use Rattle.std.proofs.lemmas.List.Elements.{All-head, All-tail}
use Rattle.std.proofs.lemmas.List.Sums.{fold_push}
use Rattle.std.proofs.lemmas.Bool.Decides.{Decides-eqb, nat_tests}
use Rattle.std.proofs.lemmas.Option.{slice_get_within}
use Rattle.sdc_base.specs.Kinds.{is_primary}
use Rattle.sdc_base.specs.declared.cell.Cell.{Cell}
use Rattle.sdc_base.specs.declared.cell.Kind.{Kind}
use Rattle.sdc_base.specs.declared.cell.Kind.TheVariants.{Primary, Free, Fixed}
use Rattle.sdc_base.specs.HiddenSets.{is_hidden, may_hide, full_set, IsPermitted, hide}
use Rattle.worlds.specs.declared.refuted.Refuted.{Refuted}
use Rattle.sdc_base.specs.HiddenSets.{MayHide, hide}
use Rattle.repair.specs.HidingOrder.{IsOfKind, hide_subjects, planned_set}
use Rattle.repair.specs.KeptWorlds.{shown_count}

-- all that is hidden in the one set is hidden in the other
pub record IsWithin (flags more : List Bool) : Type 0 where
  pub hides : (cell : ℕ) → is_hidden flags cell ≡ true → is_hidden more cell ≡ true

pub clash : {P : Type 0} (b : Bool) → b ≡ true → b ≡ false → P
clash b one other = absurd (let bad : true ≡ false = sym one ∙ other in cc)

pub by_test : (b : Bool) (P : Type 0) → (b ≡ true → P) → (b ≡ false → P) → P
by_test true P yes_case no_case = yes_case refl
by_test false P yes_case no_case = no_case refl

pub same_or_other : (a b : ℕ) → (a ≡ b) ⊎ (a ≢ b)
same_or_other a b = by_test (a == b) ((a ≡ b) ⊎ (a ≢ b)) (λ is. inl ((Decides-eqb a b).0 is)) (λ is. inr (grind (arith, nat_tests, is)))

pub hidden_here : (flags : List Bool) (cell : ℕ) → cell < length flags → is_hidden (hide flags cell) cell ≡ true
hidden_here flags cell within = get_or-set_same flags cell true false within

pub hidden_other : (flags : List Bool) (cell k : ℕ) → k ≢ cell → is_hidden (hide flags cell) k ≡ is_hidden flags k
hidden_other flags cell k other = get_or-set_other flags cell k true false other

pub within_itself : (flags : List Bool) → IsWithin flags flags
within_itself flags = record { hides = λ k is. is }

pub within_both : (one two three : List Bool) → IsWithin one two → IsWithin two three → IsWithin one three
within_both one two three first second = record { hides = λ k is. second.hides k (first.hides k is) }

pub within_hide : (flags : List Bool) (cell : ℕ) → cell < length flags → IsWithin flags (hide flags cell)
within_hide flags cell inside = record {
  hides = λ k is. elim (same_or_other k cell) [
    | inl same ↦ ap (is_hidden (hide flags cell)) same ∙ hidden_here flags cell inside
    | inr other ↦ hidden_other flags cell k other ∙ is
  ];
}

-- what is shown in the larger set is shown in the smaller
pub shown_within : (flags more : List Bool) (k : ℕ) → IsWithin flags more → is_hidden more k ≡ false → is_hidden flags k ≡ false
shown_within flags more k within shown = by_test (is_hidden flags k) (is_hidden flags k ≡ false) (λ is. clash (is_hidden more k) (within.hides k is) shown) (λ is. is)

-- hiding a shown cell leaves one shown cell less
pub fewer_shown : (flags : List Bool) (cell : ℕ) → cell < length flags → is_hidden flags cell ≡ false → shown_count (hide flags cell) < shown_count flags
fewer_shown [] cell within shown = absurd (omega (arith, within))
fewer_shown (true ∷ flags) zero within shown = absurd cc
fewer_shown (false ∷ flags) zero within shown = omega arith
fewer_shown (true ∷ flags) (suc cell) within shown = fewer_shown flags cell (omega (arith, within)) shown
fewer_shown (false ∷ flags) (suc cell) within shown = omega (arith, fewer_shown flags cell (omega (arith, within)) shown)

-- one repair more
pub repaired_more : (planned : List Bool) (repairs : List Refuted) (repair : Refuted) → hide_subjects planned (repairs ++ repair ∷ []) ≡ hide (hide_subjects planned repairs) repair.subject
repaired_more planned repairs repair = fold_push (λ (flags : List Bool) (one : Refuted). hide flags one.subject) planned repairs repair

-- a flag for each cell, told by the cell
pub hidden_map : (tells : Cell → Bool) (cells : List Cell) (number : ℕ) (cell : Cell) → slice_get cells number ≡ Some cell → is_hidden (map tells cells) number ≡ tells cell
hidden_map tells [] number cell found = absurd (let within : number < 0 = slice_get_within {A = Cell} [] number cell found in omega (arith, within))
hidden_map tells (one ∷ cells) zero cell found = let same : one ≡ cell = cc in ap tells same
hidden_map tells (one ∷ cells) (suc number) cell found = hidden_map tells cells number cell found

pub hidden_none : (tells : Cell → Bool) (cells : List Cell) (number : ℕ) → is_hidden (map tells cells) number ≡ true → (cell : Cell) × (slice_get cells number ≡ Some cell) × (tells cell ≡ true)
hidden_none tells [] number is = absurd cc
hidden_none tells (one ∷ cells) zero is = (one, refl, is)
hidden_none tells (one ∷ cells) (suc number) is = hidden_none tells cells number is

-- a permitted set is within the full set
not_fixed_may : (kind : Kind) (hidden : Bool) → (kind ≡ Fixed → hidden ≡ false) → hidden ≡ true → may_hide kind ≡ true
not_fixed_may Primary hidden fixed is = refl
not_fixed_may Free hidden fixed is = refl
not_fixed_may Fixed hidden fixed is = clash hidden is (fixed refl)

pub within_full : (cells : List Cell) (flags : List Bool) → length flags ≡ length cells → IsPermitted cells flags → ((number : ℕ) → is_hidden flags number ≡ true → (cell : Cell) × (slice_get cells number ≡ Some cell)) → IsWithin flags (full_set cells)
within_full cells flags each permitted there = record {
  hides = λ k is.
      let found : (cell : Cell) × (slice_get cells k ≡ Some cell) = there k is in
      hidden_map (λ cell. may_hide cell.kind) cells k found.0 found.1 ∙ not_fixed_may found.0.kind (is_hidden flags k) (permitted.fixed_shown k found.0 found.1) is;
}

-- two cells with one number are one
pub one_cell : (cells : List Cell) (number : ℕ) (a b : Cell) → slice_get cells number ≡ Some a → slice_get cells number ≡ Some b → a ≡ b
one_cell cells number a b first second = let same : Some a ≡ Some b = sym first ∙ second in cc

-- a free cell may be hidden
pub free_may : (cells : List Cell) (number : ℕ) → IsOfKind cells number Free → MayHide cells number
free_may cells number is = record { cell = is.cell; found = is.found; may = ap may_hide is.is_kind }

-- a set stays permitted where a cell that may be hidden is hidden too
pub permitted_more : (cells : List Cell) (flags : List Bool) (cell : ℕ) → cell < length flags → MayHide cells cell → IsPermitted cells flags → IsPermitted cells (hide flags cell)
permitted_more cells flags cell inside may permitted = record {
  primary_hidden = λ k one found primary. (within_hide flags cell inside).hides k (permitted.primary_hidden k one found primary);
  fixed_shown = λ k one found fixed. elim (same_or_other k cell) [
    | inl same ↦ absurd (
        let here : slice_get cells cell ≡ Some one = subst (λ n. slice_get cells n ≡ Some one) same found in
        let alike : one ≡ may.cell = one_cell cells cell one may.cell here may.found in
        let bad : false ≡ true = sym (ap may_hide fixed) ∙ ap (λ (c : Cell). may_hide c.kind) alike ∙ may.may in cc)
    | inr other ↦ hidden_other flags cell k other ∙ permitted.fixed_shown k one found fixed
  ];
}

-- ---- the planned set

pub length-hidden : (flags : List Bool) (cells : List ℕ) → length (fold hide flags cells) ≡ length flags
length-hidden flags [] = refl
length-hidden flags (cell ∷ cells) = length-hidden (hide flags cell) cells ∙ length-set flags cell true

all_permitted : (cells : List Cell) (flags : List Bool) (corners : List ℕ) → length flags ≡ length cells → All (MayHide cells) corners → IsPermitted cells flags → IsPermitted cells (fold hide flags corners)
all_permitted cells flags [] each may permitted = permitted
all_permitted cells flags (corner ∷ corners) each may permitted =
    let here : MayHide cells corner = All-head (MayHide cells) corner corners may in
    let inside : corner < length flags = omega (arith, each, slice_get_within cells corner here.cell here.found) in
    all_permitted cells (hide flags corner) corners (length-set flags corner true ∙ each) (All-tail (MayHide cells) corner corners may) (permitted_more cells flags corner inside here permitted)

pub planned_length : (cells : List Cell) (corners : List ℕ) → length (planned_set cells corners) ≡ length cells
planned_length cells corners = length-hidden (map (λ cell. is_primary cell.kind) cells) corners ∙ length-map cells (λ (cell : Cell). is_primary cell.kind)

pub planned_permitted : (cells : List Cell) (corners : List ℕ) → All (MayHide cells) corners → IsPermitted cells (planned_set cells corners)
planned_permitted cells corners may =
    all_permitted cells (map (λ cell. is_primary cell.kind) cells) corners (length-map cells (λ (cell : Cell). is_primary cell.kind)) may (record {
      primary_hidden = λ k one found is. hidden_map (λ cell. is_primary cell.kind) cells k one found ∙ ap is_primary is;
      fixed_shown = λ k one found is. hidden_map (λ cell. is_primary cell.kind) cells k one found ∙ ap is_primary is;
    })

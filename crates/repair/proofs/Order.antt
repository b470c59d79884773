-- The order of questions.
use Rattle.std.proofs.Common.{◌≡◌, ℕ, zero, suc, ◌+◌, ◌<◌, true, false, List, [], ◌∷◌, ◌++◌, length, drop, get_or, All, None, Some, slice_get, ◌^◌, ℤ, pos, ◌≤ℤ◌, refl, ap, sym, ◌∙◌, subst, arith, if◌then◌else◌}
use Rattle.std.specs.Option.{option_map_or}
use Rattle.std.proofs.lemmas.Int.{ints}
use Rattle.std.proofs.lemmas.List.{drop_more}
use Rattle.std.proofs.lemmas.List.Elements.{All-get_or}
use Rattle.std.proofs.lemmas.Option.{slice_get_within, get_or_from_slice_get}
use Rattle.sdc_base.specs.Kinds.{is_primary, is_primary_at}
use Rattle.sdc_base.specs.declared.cell.Cell.{Cell}
use Rattle.sdc_base.specs.declared.cell.Kind.{Kind}
use Rattle.sdc_base.specs.declared.cell.Kind.TheVariants.{Primary, Free, Fixed}
use Rattle.sdc_base.specs.declared.side.Side.{Side}
use Rattle.sdc_base.specs.declared.side.Side.TheVariants.{Above, Below}
use Rattle.sdc_base.specs.Worlds.{level, level_at}
use Rattle.worlds.specs.ProtectFaults.{asked_of}
use Rattle.repair.specs.HidingOrder.{IsOfKind}
use Rattle.repair.specs.KeptWorlds.{HasModestLevels}

cut : (number : ℕ) (cell : Cell) (cells : List Cell) → asked_of number (cell ∷ cells) ≡ asked_of number (cell ∷ []) ++ asked_of (number + 1) cells
cut number cell cells =
    elim (is_primary cell.kind) as (λ b. (if b then (number, Above) ∷ (number, Below) ∷ asked_of (number + 1) cells else asked_of (number + 1) cells) ≡ (if b then (number, Above) ∷ (number, Below) ∷ asked_of (number + 1) [] else asked_of (number + 1) []) ++ asked_of (number + 1) cells) [
      | true ↦ refl
      | false ↦ refl
    ]

-- what is asked of one cell more
pub asked_next : (cells : List Cell) (i : ℕ) (cell : Cell) → i < length cells → cell ≡ get_or cells i cell → asked_of i (drop i cells) ≡ asked_of i (cell ∷ []) ++ asked_of (i + 1) (drop (i + 1) cells)
asked_next cells i cell within is =
    ap (λ (l : List Cell). asked_of i l) (drop_more cells i cell within ∙ ap (λ c. c ∷ drop (i + 1) cells) (sym is))
    ∙ cut i cell (drop (i + 1) cells)

-- ---- what is asked is primary

pub primary_is : (kind : Kind) → is_primary kind ≡ true → kind ≡ Primary
primary_is Primary is = refl
primary_is Free is = absurd cc
primary_is Fixed is = absurd cc

-- a cell that is primary by the test
pub primary_here : (cells : List Cell) (number : ℕ) → is_primary_at cells number ≡ true → IsOfKind cells number Primary
primary_here cells number is =
    elim (slice_get cells number) as (λ o. slice_get cells number ≡ o → option_map_or (λ (one : Cell). is_primary one.kind) o false ≡ true → IsOfKind cells number Primary) [
      | None ↦ λ found test. absurd cc
      | Some cell ↦ λ found test. record { cell = cell; found = found; is_kind = primary_is cell.kind test }
    ] refl is

-- the test of a primary cell
pub primary_by : (cells : List Cell) (number : ℕ) → IsOfKind cells number Primary → is_primary_at cells number ≡ true
primary_by cells number is = ap (λ o. option_map_or (λ (one : Cell). is_primary one.kind) o false) is.found ∙ ap is_primary is.is_kind

-- a question is of a primary cell, of those from this number on
abbrev pub IsAskedFrom : ℕ → List Cell → ℕ × Side → Type 0
IsAskedFrom number cells asked = (i : ℕ) × (asked.0 ≡ number + i) × IsOfKind cells i Primary

later : (number : ℕ) (cell : Cell) (cells : List Cell) (asked : ℕ × Side) → IsAskedFrom (number + 1) cells asked → IsAskedFrom number (cell ∷ cells) asked
later number cell cells asked is = (suc is.0, omega (arith, is.1), record { cell = is.2.cell; found = is.2.found; is_kind = is.2.is_kind })

asked_here : (number : ℕ) (cell : Cell) (cells : List Cell) (place : ℕ) (asked : ℕ × Side) → is_primary cell.kind ≡ true → ((k : ℕ) → slice_get (asked_of (number + 1) cells) k ≡ Some asked → IsAskedFrom (number + 1) cells asked) → slice_get ((number, Above) ∷ (number, Below) ∷ asked_of (number + 1) cells) place ≡ Some asked → IsAskedFrom number (cell ∷ cells) asked
asked_here number cell cells zero asked is rest found =
    let same : (number, Above) ≡ asked = cc in
    (0, (ap (λ (q : ℕ × Side). q.0) (sym same) ∙ omega arith), record { cell = cell; found = refl; is_kind = primary_is cell.kind is })
asked_here number cell cells (suc zero) asked is rest found =
    let same : (number, Below) ≡ asked = cc in
    (0, (ap (λ (q : ℕ × Side). q.0) (sym same) ∙ omega arith), record { cell = cell; found = refl; is_kind = primary_is cell.kind is })
asked_here number cell cells (suc (suc place)) asked is rest found = later number cell cells asked (rest place found)

pub asked_from : (number : ℕ) (cells : List Cell) (place : ℕ) (asked : ℕ × Side) → slice_get (asked_of number cells) place ≡ Some asked → IsAskedFrom number cells asked
asked_from number [] place asked found = absurd cc
asked_from number (cell ∷ cells) place asked found =
    elim (is_primary cell.kind) as (λ b. is_primary cell.kind ≡ b → slice_get (if b then (number, Above) ∷ (number, Below) ∷ asked_of (number + 1) cells else asked_of (number + 1) cells) place ≡ Some asked → IsAskedFrom number (cell ∷ cells) asked) [
      | true ↦ λ is there. asked_here number cell cells place asked is (λ k at. asked_from (number + 1) cells k asked at) there
      | false ↦ λ is there. later number cell cells asked (asked_from (number + 1) cells place asked there)
    ] refl found

pub asked_primary : (cells : List Cell) (place : ℕ) (asked : ℕ × Side) → slice_get (asked_of 0 cells) place ≡ Some asked → IsOfKind cells asked.0 Primary
asked_primary cells place asked found =
    let is : IsAskedFrom 0 cells asked = asked_from 0 cells place asked found in
    let same : is.0 ≡ asked.0 = omega (arith, is.1) in
    subst (λ n. IsOfKind cells n Primary) same is.2

-- ---- levels

-- a level of a primary cell is one that can be asked about
pub record IsModest (target : ℤ) : Type 0 where
  pub from_zero : pos 0 ≤ℤ target
  pub at_most : target ≤ℤ pos (2 ^ 110)

level_of_side : (side : Side) (cell : Cell) → cell.kind ≡ Primary → HasModestLevels cell → IsModest (level side cell)
level_of_side Above cell primary modest = record { from_zero = omega (arith, ints, cell.primary primary); at_most = modest.up }
level_of_side Below cell primary modest = record { from_zero = cell.down_from_zero; at_most = modest.down }

pub modest_level : (cells : List Cell) (asked : ℕ × Side) → IsOfKind cells asked.0 Primary → All HasModestLevels cells → IsModest (level_at cells asked.1 asked.0)
modest_level cells asked is all =
    let own : HasModestLevels is.cell = subst HasModestLevels (get_or_from_slice_get cells asked.0 is.cell is.cell is.found) (All-get_or HasModestLevels cells asked.0 is.cell (slice_get_within cells asked.0 is.cell is.found) all) in
    let read : level_at cells asked.1 asked.0 ≡ level asked.1 is.cell = ap (λ o. option_map_or (level asked.1) o (pos 0)) is.found in
    subst IsModest (sym read) (level_of_side asked.1 is.cell is.is_kind own)

-- what is asked is a cell
pub asked_inside : (cells : List Cell) (place : ℕ) (asked : ℕ × Side) → slice_get (asked_of 0 cells) place ≡ Some asked → asked.0 < length cells
asked_inside cells place asked stands =
    let is : IsOfKind cells asked.0 Primary = asked_primary cells place asked stands in
    slice_get_within cells asked.0 is.cell is.found

-- Which cells are open to be hidden, and in which order questions are asked (own).
use Rattle.std.specs.Prelude.{◌≡◌, ℕ, ◌<◌, ◌≤◌, ◌⊎◌, ◌&&◌, not, Bool, true, false, List, [], ◌∷◌, fold, take, All, slice_get, slice_index, Some, ℤ, pos}
use Rattle.std.specs.Ordering.{int_eq}
use Rattle.std.specs.Option.{option_map_or}
use Rattle.sdc_base.specs.Kinds.{is_free}
use Rattle.sdc_base.specs.declared.cell.Cell.{Cell}
use Rattle.sdc_base.specs.declared.cell.Kind.{Kind}
use Rattle.sdc_base.specs.declared.side.Side.{Side}
use Rattle.sdc_base.specs.declared.system.System.{System}
use Rattle.sdc_base.specs.Systems.{Numbers}
use Rattle.sdc_base.specs.Forms.{coefficient}
use Rattle.sdc_base.specs.HiddenSets.{is_hidden, primary_set, hide, show, hide_cells}
use Rattle.sdc_base.specs.Worlds.{Protects}
use Rattle.cost_rule.specs.declared.kind.CostKind.{CostKind}
use Rattle.cost_rule.specs.Costs.{price_of}
use Rattle.linked_tables.specs.declared.mark.Mark.{Mark}
use Rattle.worlds.specs.declared.refuted.Refuted.{Refuted}
use Rattle.worlds.specs.declared.multipliers.Multipliers.{Multipliers}
use Rattle.worlds.specs.ProtectFaults.{asked_of}
use Rattle.worlds.specs.RefutationFaults.{terms_added}

-- What is to be protected: the cells of a system.
pub record Case : Type 0 where
  pub system : System
  pub cells : List Cell

-- what these make
abbrev pub protected_case : System → List Cell → Case
protected_case system cells = record { system = system; cells = cells }

-- the price of each cell, by its own or by the facts of its mark
abbrev pub prices_of : CostKind → List Cell → List Mark → List ℕ
prices_of cost [] marks = []
prices_of cost (cell ∷ cells) [] = []
prices_of cost (cell ∷ cells) (mark ∷ marks) = price_of cost cell.price mark.facts ∷ prices_of cost cells marks

-- there is a cell of this kind with this number
pub record IsOfKind (cells : List Cell) (number : ℕ) (kind : Kind) : Type 0 where
  pub cell : Cell
  pub found : slice_get cells number ≡ Some cell
  pub is_kind : cell.kind ≡ kind

-- the cell with this number is free
abbrev pub is_free_at : List Cell → ℕ → Bool
is_free_at cells number = option_map_or (λ cell. is_free cell.kind) (slice_get cells number) false

-- ---- hidden sets

-- the set with which repairing begins: the primary cells and the corners
abbrev pub planned_set : List Cell → List ℕ → List Bool
planned_set cells corners = hide_cells (primary_set cells) corners

-- the set with the subjects of repairs hidden too
abbrev pub hide_subjects : List Bool → List Refuted → List Bool
hide_subjects flags repairs = fold (λ hidden repair. hide hidden repair.subject) flags repairs

-- the set with these cells shown
abbrev pub show_all : List Bool → List ℕ → List Bool
show_all flags cells = fold show flags cells

-- all that is hidden in the one set is hidden in the other
abbrev pub IsSubset : List Bool → List Bool → Type 0
IsSubset flags larger = (cell : ℕ) → is_hidden flags cell ≡ true → is_hidden larger cell ≡ true

-- ---- the order of questions

-- the question stands at this place of the order, primary cells ascending and above before below
abbrev pub StandsAt : List Cell → ℕ × Side → ℕ → Type 0
StandsAt cells asked place = slice_get (asked_of 0 cells) place ≡ Some asked

-- the set protects every cell and side whose question stands before this place
abbrev pub ProtectsBefore : Case → List Bool → ℕ → Type 0
ProtectsBefore c flags place =
    All (λ asked. Protects c.system c.cells flags asked.0 asked.1) (take place (asked_of 0 c.cells))

-- the question is the first in the order that the set doesn't protect
pub record IsFirstUnprotected (c : Case) (flags : List Bool) (asked : ℕ × Side) : Type 0 where
  pub place : ℕ
  pub stands : StandsAt c.cells asked place
  pub before : ProtectsBefore c flags place
  pub unprotected : ¬ Protects c.system c.cells flags asked.0 asked.1

-- the set protects every primary cell to both sides
abbrev pub ProtectsAll : Case → List Bool → Type 0
ProtectsAll c flags = All (λ asked. Protects c.system c.cells flags asked.0 asked.1) (asked_of 0 c.cells)

-- ---- cells that a refutation rests on

-- how often a cell counts among the forms that multipliers add up against another
abbrev pub coefficients_for : System → ℕ × Side → Multipliers → Numbers
coefficients_for system asked multipliers = coefficient (terms_added system asked.0 asked.1 multipliers)

-- whether hiding the cell would break a refutation: it is free, shown, and counts
abbrev pub breaks : Bool → ℤ → Cell → Bool
breaks hidden count cell = is_free cell.kind && (not hidden && not (int_eq count (pos 0)))

-- the same of the cell with this number
abbrev pub breaks_at : List Cell → List Bool → Numbers → ℕ → Bool
breaks_at cells flags counts number =
    option_map_or (breaks (is_hidden flags number) (counts number)) (slice_get cells number) false

-- no cell that could still be hidden would break the refutation of a question by multipliers
abbrev pub NoneBreaks : Case → List Bool → ℕ × Side → Multipliers → Type 0
NoneBreaks c flags asked multipliers =
    (number : ℕ) → breaks_at c.cells flags (coefficients_for c.system asked multipliers) number ≡ false

-- the one comes before the other: it has the lower price, or the same price and no higher number
abbrev pub ComesFirst : List ℕ → ℕ → ℕ → Type 0
ComesFirst prices one other =
    (slice_index prices one < slice_index prices other)
    ⊎ ((slice_index prices one ≡ slice_index prices other) × (one ≤ other))

-- the cell would break a refutation, and comes before all others that would
pub record IsCheapest (cells : List Cell) (prices : List ℕ) (flags : List Bool) (counts : Numbers)
    (number : ℕ) : Type 0 where
  pub breaking : breaks_at cells flags counts number ≡ true
  pub first : (other : ℕ) → breaks_at cells flags counts other ≡ true → ComesFirst prices number other

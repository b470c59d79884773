-- The intervals of the hidden cells, listed one by one.
use Rattle.std.proofs.Common.{◌≡◌, ℕ, ◌+◌, ◌-◌, ◌<◌, Bool, true, false, List, [], ◌∷◌, ◌++◌, filter, if◌then◌else◌, inl, inr, map, arith, ap, sym, subst, ◌∙◌}
use Rattle.std.specs.List.{range_with_len}
use Rattle.std.proofs.lemmas.List.{map-append}
use Rattle.std.proofs.Math.Nat.{eq-or-lt_of_le}
use Rattle.sdc_base.specs.declared.cell.Cell.{Cell}
use Rattle.sdc_base.specs.declared.system.System.{System}
use Rattle.interval_audit.specs.declared.answer.AskFault.{AskFault}
use Rattle.interval_audit.specs.declared.answer.AskFault.TheVariants as fault
use Rattle.interval_audit.specs.Ends.{IsIntervalCause}
use Rattle.interval_audit.specs.Groups.{IsComponentOf}
use Rattle.cell_intervals.specs.declared.interval.CellInterval.{CellInterval}
use Rattle.cell_intervals.specs.IntervalFaults.{HasBothEnds, HasSmallComponent, IsFaultOf}
use Rattle.sdc_base.specs.HiddenSets.{is_hidden}
use Rattle.sdc_base.proofs.GrowingLists.{filter-front, range-next}

-- one cell on: it stands at the end of the list where it is hidden
next_either : (flags : List Bool) (n : ℕ) (done all : List ℕ) (cell : ℕ) → cell < n → done ++ filter (is_hidden flags) (range_with_len cell (n - cell)) ≡ all
    → (if is_hidden flags cell then done ++ cell ∷ [] else done) ++ filter (is_hidden flags) (range_with_len (cell + 1) (n - (cell + 1))) ≡ all
next_either flags n done all cell within is =
    filter-front (is_hidden flags) done cell (range_with_len (cell + 1) (n - (cell + 1)))
    ∙ ap (λ numbers. done ++ filter (is_hidden flags) numbers) (sym (range-next cell n within))
    ∙ is

pub next_hidden : (flags : List Bool) (n : ℕ) (done all : List ℕ) (cell : ℕ) → cell < n → is_hidden flags cell ≡ true → done ++ filter (is_hidden flags) (range_with_len cell (n - cell)) ≡ all
    → (done ++ cell ∷ []) ++ filter (is_hidden flags) (range_with_len (cell + 1) (n - (cell + 1))) ≡ all
next_hidden flags n done all cell within hidden is =
    subst (λ (b : Bool). (if b then done ++ cell ∷ [] else done) ++ filter (is_hidden flags) (range_with_len (cell + 1) (n - (cell + 1))) ≡ all) hidden (next_either flags n done all cell within is)

pub next_shown : (flags : List Bool) (n : ℕ) (done all : List ℕ) (cell : ℕ) → cell < n → is_hidden flags cell ≡ false → done ++ filter (is_hidden flags) (range_with_len cell (n - cell)) ≡ all
    → done ++ filter (is_hidden flags) (range_with_len (cell + 1) (n - (cell + 1))) ≡ all
next_shown flags n done all cell within shown is =
    subst (λ (b : Bool). (if b then done ++ cell ∷ [] else done) ++ filter (is_hidden flags) (range_with_len (cell + 1) (n - (cell + 1))) ≡ all) shown (next_either flags n done all cell within is)

-- the numbers of one interval more
pub numbers_more : (intervals : List CellInterval) (one : CellInterval) (cell : ℕ) (grown : List CellInterval) → grown ≡ intervals ++ one ∷ [] → one.cell ≡ cell → map (λ (interval : CellInterval). interval.cell) grown ≡ map (λ (interval : CellInterval). interval.cell) intervals ++ cell ∷ []
numbers_more intervals one cell grown is number =
    let numbers : List CellInterval → List ℕ = map (λ (interval : CellInterval). interval.cell) in
    ap numbers is ∙ map-append (λ (interval : CellInterval). interval.cell) intervals (one ∷ []) ∙ ap (λ n. numbers intervals ++ n ∷ []) number

-- what holds of each hidden cell below one, and of that one
pub below_next : (P : ℕ → Type 0) (flags : List Bool) (cell : ℕ) → ((other : ℕ) → other < cell → is_hidden flags other ≡ true → P other) → (is_hidden flags cell ≡ true → P cell) → (other : ℕ) → other < cell + 1 → is_hidden flags other ≡ true → P other
below_next P flags cell before own other below hidden =
    elim (eq-or-lt_of_le {n = other} {m = cell} (omega (arith, below))) as (λ _. P other) [
      | inl same ↦ subst P (sym same) (own (subst (λ c. is_hidden flags c ≡ true) same hidden))
      | inr less ↦ before other less hidden
    ]

-- the fault of a cell's interval, where those of all hidden cells before it are known
pub fault_at : (system : System) (cells : List Cell) (flags : List Bool) (limit cell : ℕ) (why : AskFault) → is_hidden flags cell ≡ true → ((other : ℕ) → other < cell → is_hidden flags other ≡ true → HasBothEnds system cells flags other)
    → IsIntervalCause system cells flags cell limit why → IsFaultOf system cells flags limit why
fault_at system cells flags limit cell (fault.Work walk) hidden earlier cause = (cell, record { hidden = hidden; earlier = earlier; cause = cause })
fault_at system cells flags limit cell (fault.Wide walk place) hidden earlier cause = (cell, record { hidden = hidden; earlier = earlier; cause = cause })
fault_at system cells flags limit cell (fault.Size asked size) hidden earlier cause = (cell, record { hidden = hidden; earlier = earlier; cause = cause })
fault_at system cells flags limit cell fault.Memory hidden earlier cause = tt

-- a cell with both ends has a component that is small enough
pub small_where_ended : (system : System) (cells : List Cell) (flags : List Bool) (cell : ℕ) → HasBothEnds system cells flags cell → HasSmallComponent system flags cell
small_where_ended system cells flags cell ends =
    let read = ends.below_read in
    record {
      group = read.2.0;
      is_component = subst (λ c. IsComponentOf system.relations flags c read.2.0) read.1.cell_is read.2.1;
      within_most_members = read.2.2;
    }

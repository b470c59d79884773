-- Ranges that ascend, and the one of a cell among them.
use Rattle.std.proofs.Common.{◌≡◌, ℕ, zero, suc, ◌+◌, ◌<◌, ◌≤◌, ◌==◌, Bool, true, false, cond, filter, map, List, [], ◌∷◌, drop, slice_get, None, Some, refl, ap, sym, subst, ◌∙◌, arith}
use Rattle.std.proofs.lemmas.List.{drop_more}
use Rattle.std.proofs.lemmas.Option.{get_or_from_slice_get, slice_get_within}
use Rattle.std.specs.List.{range_with_len}
use Rattle.cell_listing.specs.IntervalListings.{AscendFrom, IsNext, range_of}
use Rattle.cell_listing.specs.declared.cell_range.CellRange.{CellRange}

other : (m n : ℕ) → n < m → (m == n) ≡ false
other m n less = grind arith

pub lower : (least more : ℕ) (ranges : List CellRange) → least ≤ more → AscendFrom more ranges → AscendFrom least ranges
lower least more [] less are = tt
lower least more (range ∷ ranges) less are = (omega (arith, less, are.0), are.1)

-- no range of a cell before them
pub none_before : (number : ℕ) (ranges : List CellRange) → AscendFrom (number + 1) ranges → range_of ranges number ≡ None
none_before number [] are = refl
none_before number (range ∷ ranges) are = rw (other range.cell number (omega (arith, are.0))) (none_before number ranges (lower (number + 1) (range.cell + 1) ranges (omega (arith, are.0)) are.1))

-- what stands from a place on
pub from_place : (ranges : List CellRange) (place : ℕ) (range : CellRange) → slice_get ranges place ≡ Some range → drop place ranges ≡ range ∷ drop (place + 1) ranges
from_place ranges place range here =
    drop_more ranges place range (slice_get_within ranges place range here)
    ∙ ap (λ (first : CellRange). first ∷ drop (place + 1) ranges) (get_or_from_slice_get ranges place range range here)

-- the range at the next place is that of another cell: this one has none
pub none_here : (ranges : List CellRange) (place number : ℕ) (range : CellRange) → IsNext ranges place number → slice_get ranges place ≡ Some range → (range.cell ≡ number → ⊥) → range_of ranges number ≡ None
none_here ranges place number range next here apart =
    let at = from_place ranges place range here in
    let are : AscendFrom number (range ∷ drop (place + 1) ranges) = subst (λ (rest : List CellRange). AscendFrom number rest) at next.ahead in
    next.same number (omega arith)
    ∙ none_before number (drop place ranges) (subst (λ (rest : List CellRange). AscendFrom (number + 1) rest) (sym at) (omega (arith, are.0, apart), are.1))

-- ranges of the numbers, from one on, that pass a test ascend
pub ascend_of : (test : ℕ → Bool) (first count : ℕ) (ranges : List CellRange) → map (λ (range : CellRange). range.cell) ranges ≡ filter test (range_with_len first count) → AscendFrom first ranges
ascend_of test first count [] is = tt
ascend_of test first zero (range ∷ ranges) is = absurd cc
ascend_of test first (suc count) (range ∷ ranges) is =
    elim (test first) as (λ (b : Bool). range.cell ∷ map (λ (one : CellRange). one.cell) ranges ≡ cond b (first ∷ filter test (range_with_len (first + 1) count)) (filter test (range_with_len (first + 1) count)) → AscendFrom first (range ∷ ranges)) [
      | true ↦ λ g.
          let own : range.cell ≡ first = cc in
          let others : map (λ (one : CellRange). one.cell) ranges ≡ filter test (range_with_len (first + 1) count) = cc in
          (omega (arith, own), subst (λ (n : ℕ). AscendFrom (n + 1) ranges) (sym own) (ascend_of test (first + 1) count ranges others))
      | false ↦ λ g. lower first (first + 1) (range ∷ ranges) (omega arith) (ascend_of test (first + 1) count (range ∷ ranges) g)
    ] is

-- at the start all of them are ahead
pub first_next : (ranges : List CellRange) → AscendFrom 0 ranges → IsNext ranges 0 0
first_next ranges are = record { ahead = are; same = λ cell from. refl }

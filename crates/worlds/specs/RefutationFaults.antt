-- The bound sum of multipliers, or the first fault on the way to it, and the first fault of a refutation (own).
use Rattle.std.specs.Prelude.{◌≡◌, ℕ, ◌+◌, ◌<◌, ◌≤◌, ◌&&◌, not, is_some, Bool, List, [], ◌∷◌, ◌++◌, length, replicate, Result, Ok, ℤ, pos, ◌≤ℤ◌, ◌+ℤ◌, ◌*ℤ◌, int_lt, FitsSigned}
use Rattle.std.specs.Int.{w128}
use Rattle.sdc_base.specs.Steps.{◌>>=◌, refuse}
use Rattle.sdc_base.specs.declared.cell.Cell.{Cell}
use Rattle.sdc_base.specs.declared.side.Side.{Side}
use Rattle.sdc_base.specs.declared.system.System.{System}
use Rattle.sdc_base.specs.Totals.{sum_below}
use Rattle.sdc_base.specs.Forms.{Term, coefficient}
use Rattle.sdc_base.specs.HiddenSets.{is_hidden}
use Rattle.sdc_base.specs.Systems.{Numbers, number_at}
use Rattle.sdc_base.specs.Worlds.{level_at}
use Rattle.sdc_base.specs.Refutations.{refuting_terms, share, share_at, AreBounded, IsRefutation}
use Rattle.worlds.specs.declared.faults.RefutationFault.{RefutationFault}
use Rattle.worlds.specs.declared.faults.RefutationFault.TheVariants as fault
use Rattle.worlds.specs.declared.multipliers.Multipliers.{Multipliers}
use Rattle.worlds.specs.NumberLists.{IsListed, first_misplaced}
use Rattle.worlds.specs.WorldFaults.{refuse_at}
use Rattle.worlds.specs.BoundedNumbers.{within_128_bits, numbers_with_terms}

-- a cell's share of the bound sum; a hidden one with a coefficient above 0 must have an upper bound
abbrev pub share_or_fault : Bool → ℕ → ℤ → Cell → Result ℤ RefutationFault
share_or_fault hidden number k cell =
    refuse (fault.Unbounded number) (hidden && (int_lt (pos 0) k && not (is_some cell.high))) >>= λ _.
    within_128_bits number (share hidden k cell)

-- a sum with the share of one cell more, or the first fault
abbrev pub added_share : Bool → ℕ → ℤ → Cell → ℤ → Result ℤ RefutationFault
added_share hidden number k cell sum =
    share_or_fault hidden number k cell >>= λ part. within_128_bits number (sum +ℤ part)

-- the sum and the shares of the cells from this number on, added up, or the first fault
abbrev pub summed_from : List Bool → Numbers → ℕ → ℤ → List Cell → Result ℤ RefutationFault
summed_from flags coefficients number sum [] = Ok sum
summed_from flags coefficients number sum (cell ∷ cells) =
    added_share (is_hidden flags number) number (coefficients number) cell sum >>= λ next.
    summed_from flags coefficients (number + 1) next cells

-- the bound sum of multipliers for a cell and a side, or the first fault
abbrev pub sum_of_bounds : System → List Cell → List Bool → ℕ → Side → Multipliers → Result ℤ RefutationFault
sum_of_bounds system cells flags asked side multipliers =
    refuse fault.Den (int_lt multipliers.den (pos 1)) >>= λ _.
    refuse_at fault.Order (first_misplaced (length system.relations) 0 0 multipliers.by_relation) >>= λ _.
    numbers_with_terms (replicate system.cells (pos 0))
    (refuting_terms system.relations asked side multipliers.den multipliers.by_relation) >>= λ coefficients.
    summed_from flags (number_at coefficients) 0 (pos 0) cells

-- the fault is a number wider than 128 bits at some cell
abbrev pub IsWideFault : RefutationFault → Type 0
IsWideFault found = (cell : ℕ) × (found ≡ fault.Wide cell)

-- the first fault of a refutation of the cell's level to the side
abbrev pub refutation_fault : System → List Cell → List Bool → ℕ → Side → Multipliers
    → Result (Unit {0}) RefutationFault
refutation_fault system cells flags asked side multipliers =
    sum_of_bounds system cells flags asked side multipliers >>= λ sum.
    within_128_bits asked (multipliers.den *ℤ level_at cells side asked) >>= λ most.
    refuse fault.NotBelow (not (int_lt sum most))

-- the asked cell and the weighted forms, added up
abbrev pub terms_added : System → ℕ → Side → Multipliers → List Term
terms_added system asked side multipliers =
    refuting_terms system.relations asked side multipliers.den multipliers.by_relation

-- of listed multipliers with a denominator of 1 or more, where each hidden cell with a coefficient above 0 has an upper
-- bound, the fault is a number wider than 128 bits
abbrev pub IsWideWhereBounded : System → List Cell → List Bool → ℕ → Side → Multipliers → RefutationFault → Type 0
IsWideWhereBounded system cells flags asked side multipliers found =
    pos 1 ≤ℤ multipliers.den → IsListed (length system.relations) multipliers.by_relation
    → AreBounded cells flags (coefficient (terms_added system asked side multipliers)) → IsWideFault found

-- No number on the way to the bound sum is wider than 128 bits: no coefficient as it grows, no share, and no sum of the
-- shares of the first cells.
pub record IsHeldSum (cells : List Cell) (flags : List Bool) (terms : List Term) : Type 0 where
  pub coefficients_held : (done : List Term) (term : Term) (rest : List Term) → terms ≡ done ++ term ∷ rest
      → FitsSigned w128 (coefficient (done ++ term ∷ []) term.0)
  pub shares_held : (number : ℕ) → number < length cells
      → FitsSigned w128 (share_at cells flags (coefficient terms) number)
  pub sums_held : (number : ℕ) → number ≤ length cells
      → FitsSigned w128 (sum_below number (share_at cells flags (coefficient terms)))

-- What is given has a bound sum: the denominator is 1 or more, the multipliers are listed, each hidden cell with a
-- coefficient above 0 has an upper bound, and no number on the way is wider than 128 bits.
pub record IsGivenSum (system : System) (cells : List Cell) (flags : List Bool) (asked : ℕ) (side : Side)
    (multipliers : Multipliers) : Type 0 where
  pub positive : pos 1 ≤ℤ multipliers.den
  pub listed : IsListed (length system.relations) multipliers.by_relation
  pub bounded : AreBounded cells flags (coefficient (terms_added system asked side multipliers))
  pub sum_held : IsHeldSum cells flags (terms_added system asked side multipliers)

-- what is given is a refutation of the cell's level to the side, and no number on the way is wider than 128 bits
pub record IsGivenRefutation (system : System) (cells : List Cell) (flags : List Bool) (asked : ℕ) (side : Side)
    (multipliers : Multipliers) : Type 0 where
  pub listed : IsListed (length system.relations) multipliers.by_relation
  pub is_refutation : IsRefutation system cells flags asked side (level_at cells side asked) multipliers.den
      multipliers.by_relation
  pub sum_held : IsHeldSum cells flags (terms_added system asked side multipliers)
  pub product_held : FitsSigned w128 (multipliers.den *ℤ level_at cells side asked)

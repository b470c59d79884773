-- Lists of numbers at places (own).
use Rattle.std.specs.Prelude.{◌≡◌, ℕ, zero, suc, ◌+◌, ◌==◌, ◌&&◌, not, nat_lt, Bool, true, List, [], ◌∷◌, slice_index_or, ℤ, pos, ◌+ℤ◌, ◌*ℤ◌, if◌then◌else◌}
use Rattle.std.specs.Ordering.{int_eq}
use Rattle.sdc_base.specs.Forms.{Term, coefficient}

-- at each place so many times a list was added
abbrev pub AddsTimes : List Term → List Term → ℤ → List Term → Type 0
AddsTimes before after times list = (place : ℕ) →
    coefficient after place ≡ coefficient before place +ℤ times *ℤ coefficient list place

-- whether the places ascend, the first from this one on
abbrev pub ascends : ℕ → List Term → Bool
ascends least [] = true
ascends least (term ∷ terms) = not (nat_lt term.0 least) && ascends (term.0 + 1) terms

-- the first number that isn't 0, or 0 where there is none
abbrev pub first_number : List Term → ℤ
first_number [] = pos 0
first_number (term ∷ terms) = if int_eq term.1 (pos 0) then first_number terms else term.1

-- the list at a number; the empty one beyond the end
abbrev pub list_at : List (List Term) → ℕ → List Term
list_at lists cell = slice_index_or lists cell []

-- how far the cells move, as lists say
abbrev pub moves_in : List (List Term) → ℕ → ℕ → ℤ
moves_in lists cell place = coefficient (list_at lists cell) place

-- a bound as a list: with 1 at its own place
abbrev pub bound_at : ℤ → ℕ → ℕ → ℤ
bound_at bound own zero = bound
bound_at bound own (suc s) = if own == s then pos 1 else pos 0

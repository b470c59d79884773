-- Numbers of cells held in 128 bits, and multiples of cells added to them in their order (own).
use Rattle.std.specs.Prelude.{ℕ, ◌^◌, ◌&&◌, Bool, List, [], ◌∷◌, slice_set, Result, Ok, Err, if◌then◌else◌, ℤ, pos, neg_ℤ, ◌+ℤ◌, int_lt, int_le}
use Rattle.sdc_base.specs.Steps.{◌>>=◌}
use Rattle.sdc_base.specs.Forms.{Term}
use Rattle.sdc_base.specs.Systems.{number_at}
use Rattle.worlds.specs.declared.faults.RefutationFault.{RefutationFault}
use Rattle.worlds.specs.declared.faults.RefutationFault.TheVariants as fault

-- whether a whole number is one of 128 bits
abbrev pub fits_128_bits : ℤ → Bool
fits_128_bits n = int_le (neg_ℤ (pos (2 ^ 127))) n && int_lt n (pos (2 ^ 127))

-- a number of 128 bits, or the cell where it would be wider
abbrev pub within_128_bits : ℕ → ℤ → Result ℤ RefutationFault
within_128_bits cell n = if fits_128_bits n then Ok n else Err (fault.Wide cell)

-- The multiples added to the numbers of the cells in their order: the numbers behind the last one, or the first cell
-- whose number would be wider than 128 bits.
abbrev pub numbers_with_terms : List ℤ → List Term → Result (List ℤ) RefutationFault
numbers_with_terms numbers [] = Ok numbers
numbers_with_terms numbers (term ∷ terms) = within_128_bits term.0 (number_at numbers term.0 +ℤ term.1)
    >>= λ sum. numbers_with_terms (slice_set numbers term.0 sum) terms

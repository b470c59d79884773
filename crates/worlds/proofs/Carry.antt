-- Carries between the parts of a wide number.
use Rattle.std.proofs.Common.{◌≡◌, ◌^◌, ◌-◌, arith, ℤ, pos, negsuc, ◌+ℤ◌}
use Rattle.std.proofs.lemmas.Int.{ints}
use Rattle.worlds.specs.WideNumbers.{wide_number}

pub carried_down : (low carry x low' carry' : ℤ) → low' ≡ ((low +ℤ pos (2 ^ 127 - 1)) +ℤ pos 1) +ℤ x → carry' ≡ carry +ℤ negsuc 0 → wide_number low' carry' ≡ wide_number low carry +ℤ x
carried_down low carry x low' carry' e f = omega (arith, ints)

pub carried_up : (low carry x low' carry' : ℤ) → low' ≡ ((low +ℤ negsuc (2 ^ 127 - 2)) +ℤ negsuc 0) +ℤ x → carry' ≡ carry +ℤ pos 1 → wide_number low' carry' ≡ wide_number low carry +ℤ x
carried_up low carry x low' carry' e f = omega (arith, ints)

-- A whole number in two parts, a low one and a carry of 2^127 (own).
use Rattle.std.specs.Prelude.{◌^◌, ℤ, pos, ◌+ℤ◌, ◌*ℤ◌}

-- the low part and as many times 2^127 as the carry says
abbrev pub wide_number : ℤ → ℤ → ℤ
wide_number low carry = low +ℤ pos (2 ^ 127) *ℤ carry

-- Numbers of an office's file as whole units of 10^-d, and the text of a number of units (own).
use Rattle.std.specs.Prelude.{decimal, ℕ, ◌+◌, ◌-◌, ◌^◌, ◌/◌, ◌%◌, Bool, true, false, not, ◌==◌, ◌&&◌, nat_lt, if◌then◌else◌, List, [], ◌∷◌, ◌++◌, length, replicate, Option, None, Some, option_map, Result, Ok, Err, ℤ, pos}
use Rattle.std.specs.Char.{is_ascii_digit}
use Rattle.std.specs.List.{before_first, after_first}
use Rattle.std.specs.Str.Parse.{digits_value}
use Rattle.sdc_base.specs.declared.number_fault.NumberFault.{NumberFault}
use Rattle.sdc_base.specs.declared.number_fault.NumberFault.TheVariants.{NotADigit, Empty, TooManyDecimals, TooWide}

-- a byte is the point
abbrev pub is_point : ℕ → Bool
is_point b = b == 46

-- the place, from 0, of the first byte that is neither a digit nor the first point; a later point is no digit
abbrev pub place_of_stray_byte : Bool → List ℕ → Option ℕ
place_of_stray_byte seen [] = None
place_of_stray_byte seen (b ∷ bytes) =
    if is_ascii_digit b then option_map (λ k. k + 1) (place_of_stray_byte seen bytes)
    else if is_point b && not seen then option_map (λ k. k + 1) (place_of_stray_byte true bytes)
    else Some 0

-- the digits before the point
abbrev pub whole_digits : List ℕ → List ℕ
whole_digits bytes = before_first is_point bytes

-- the digits after the point
abbrev pub fraction : List ℕ → List ℕ
fraction bytes = after_first is_point bytes

-- the first number that is too wide
abbrev pub too_wide : ℕ
too_wide = 10 ^ 37

-- the number, unless it is too wide
abbrev pub number_within : ℕ → Option ℕ
number_within n = if nat_lt n too_wide then Some n else None

-- that many units, and the refusal where the number is too wide
abbrev pub unless_wide : Option ℕ → Result ℤ NumberFault
unless_wide None = Err TooWide
unless_wide (Some n) = Ok (pos n)

-- the units of the digits before and after the point: decimals that aren't there are zeros
abbrev pub units_of_parts : List ℕ → List ℕ → ℕ → Result ℤ NumberFault
units_of_parts front back decimals =
    if length (front ++ back) == 0 then Err Empty
    else if nat_lt decimals (length back) then Err TooManyDecimals
    else unless_wide (number_within (digits_value 10 ((front ++ back) ++ replicate (decimals - length back) 48)))

-- the refusal of a stray byte stands before all others
abbrev pub unless_stray : Option ℕ → Result ℤ NumberFault → Result ℤ NumberFault
unless_stray None read = read
unless_stray (Some place) read = Err (NotADigit place)

-- The number of units that the bytes write, or the first refusal.
-- The refusals in their order: a byte that is no digit, no digit at all, too many decimals, 10^37 or more.
abbrev pub read_units : List ℕ → ℕ → Result ℤ NumberFault
read_units bytes decimals =
    unless_stray (place_of_stray_byte false bytes) (units_of_parts (whole_digits bytes) (fraction bytes) decimals)

-- the digits of a number, with zeros in front up to so many
abbrev pub padded_digits : ℕ → ℕ → List ℕ
padded_digits places n = replicate (places - length (decimal n)) 48 ++ decimal n

-- the text of a number of units: the whole part, and above 0 decimals a point and exactly so many digits
abbrev pub units_text : ℕ → ℕ → List ℕ
units_text n decimals =
    if decimals == 0 then decimal n else decimal (n / 10 ^ decimals) ++ 46 ∷ padded_digits decimals (n % 10 ^ decimals)

-- Tokens that the files of an office share: quotes, ends of keywords, whole numbers and file names (own).
use Rattle.std.specs.Prelude.{ℕ, ◌==◌, ◌&&◌, nat_le, nat_lt, Bool, not, List, [], ◌∷◌, ◌++◌, length, if◌then◌else◌, Option, None, Some}
use Rattle.std.specs.List.{list_all}
use Rattle.std.specs.Str.{all_ascii_digits}
use Rattle.std.specs.Str.Parse.{digits_value}

-- a byte is the double quote
abbrev pub is_quote : ℕ → Bool
is_quote b = b == 34

-- a text between double quotes
abbrev pub in_quotes : List ℕ → List ℕ
in_quotes text = 34 ∷ text ++ 34 ∷ []

-- a byte is >, which ends a keyword
abbrev pub is_close : ℕ → Bool
is_close b = b == 62

-- a whole number: one digit or more
abbrev pub is_number : List ℕ → Bool
is_number digits = not (length digits == 0) && all_ascii_digits digits

-- the number that the digits write, where it is from `low` to `high`; leading zeros are accepted
abbrev pub number_in : ℕ → ℕ → List ℕ → Option ℕ
number_in low high digits =
    if is_number digits && (nat_le low (digits_value 10 digits) && nat_le (digits_value 10 digits) high)
    then Some (digits_value 10 digits) else None

-- printable ASCII, the space with it, but no double quote
abbrev pub is_name_byte : ℕ → Bool
is_name_byte b = nat_lt 31 b && nat_lt b 127 && not (is_quote b)

-- a file name has 1 to 255 such bytes
abbrev pub is_file_name : List ℕ → Bool
is_file_name name = nat_lt 0 (length name) && nat_lt (length name) 256 && list_all is_name_byte name

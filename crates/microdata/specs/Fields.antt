-- The fields of a record, and the numbers in them (tau-ARGUS user manual, fixed-format microdata; limits and first
-- fault own).
use Rattle.std.specs.Prelude.{ℕ, ◌-◌, ◌^◌, ◌==◌, ◌||◌, nat_lt, Bool, false, if◌then◌else◌, List, [], ◌∷◌, length, take, drop, Option, None, Some, Result, Ok, Err, ℤ, pos, negsuc}
use Rattle.std.specs.List.{list_any}
use Rattle.std.specs.Str.{bytes_eq}
use Rattle.sdc_base.specs.Blanks.{trim}
use Rattle.sdc_base.specs.Numbers.{read_units}
use Rattle.sdc_base.specs.Steps.{◌>>=◌, refuse}
use Rattle.sdc_base.specs.declared.number_fault.NumberFault.{NumberFault}
use Rattle.microdata.specs.declared.faults.RowWhy.{RowWhy}
use Rattle.microdata.specs.declared.faults.RowWhy.TheVariants.{Negative, BadNumber, LightWeight}
use Rattle.microdata.specs.declared.layout.NumberField.{NumberField}

-- the bytes of a field, which begins at this position, counted from 1, and has so many, without blanks at both ends
abbrev pub field : ℕ → ℕ → List ℕ → List ℕ
field first width line = trim (take width (drop (first - 1) line))

-- the bytes begin with a minus
abbrev pub is_negative : List ℕ → Bool
is_negative [] = false
is_negative (b ∷ bytes) = b == 45

-- a number below a limit; whatever else was read is no number
abbrev pub number_below : ℕ → Result ℤ NumberFault → Result ℕ RowWhy
number_below limit (Err fault) = Err BadNumber
number_below limit (Ok (pos n)) = if nat_lt n limit then Ok n else Err BadNumber
number_below limit (Ok (negsuc n)) = Err BadNumber

-- the number in a text, in units of so many decimals, below a limit
abbrev pub number_in : ℕ → ℕ → List ℕ → Result ℕ RowWhy
number_in limit decimals text = number_below limit (read_units text decimals)

-- the number of a field, in its units, below a limit
abbrev pub number_of : ℕ → NumberField → List ℕ → Result ℕ RowWhy
number_of limit number line = number_in limit number.decimals (field number.first number.width line)

-- there is no response in a text: it is blank or a missing code
abbrev pub has_no_response_in : NumberField → List ℕ → Bool
has_no_response_in response text = (length text == 0) || list_any (bytes_eq text) response.missing

-- there is no response: its field is blank or has a missing code
abbrev pub has_no_response : NumberField → List ℕ → Bool
has_no_response response line = has_no_response_in response (field response.first response.width line)

-- the response in a text, in units: not negative, and below 10^15
unfoldable pub value_in : NumberField → List ℕ → Result ℕ RowWhy
value_in response text = do
  sign ← refuse Negative (is_negative text)
  number_in (10 ^ 15) response.decimals text

-- the response in its field
abbrev pub value_of : NumberField → List ℕ → Result ℕ RowWhy
value_of response line = value_in response (field response.first response.width line)

-- one, in steps of the weight
abbrev pub scale_of : Option NumberField → ℕ
scale_of None = 1
scale_of (Some weight) = 10 ^ weight.decimals

-- the weight in steps: at least one, and below 10^8; 1 where records have none
unfoldable pub weight_of : Option NumberField → List ℕ → Result ℕ RowWhy
weight_of None line = Ok 1
weight_of (Some weight) line = do
  steps ← number_of (10 ^ 8) weight line
  heavy ← refuse LightWeight (nat_lt steps (10 ^ weight.decimals))
  Ok steps

-- Where the fields of a job's records stand, by its metadata (own).
use Rattle.std.specs.Prelude.{ℕ, ◌+◌, ◌-◌, max, List, [], ◌∷◌, fold, slice_get, Option, None, Some, option_map}
use Rattle.std.specs.Option.{option_map_or}
use Rattle.rda_meta.specs.declared.meta.Variable.{Variable}
use Rattle.job_lang.specs.declared.bound.Bound.{Bound}
use Rattle.microdata.specs.declared.layout.Field.{Field}
use Rattle.microdata.specs.declared.layout.Layout.{Layout}
use Rattle.microdata.specs.declared.layout.NumberField.{NumberField}

-- a variable with its place, where there is one, before others
abbrev pub with_variable : ℕ → Option Variable → List (ℕ × Variable) → List (ℕ × Variable)
with_variable place None rest = rest
with_variable place (Some variable) rest = (place, variable) ∷ rest

-- the variables at these places of the metadata, each with its place
abbrev pub variables_at : List Variable → List ℕ → List (ℕ × Variable)
variables_at variables [] = []
variables_at variables (place ∷ places) = with_variable place (slice_get variables place)
    (variables_at variables places)

-- the field of a variable that is a number
abbrev pub number_field : Variable → NumberField
number_field variable =
    record { first = variable.first; width = variable.width; decimals = variable.decimals; missing = variable.missing }

-- a number in the first byte, where there is no variable; no bound job has such a place
abbrev pub no_number : NumberField
no_number = record { first = 1; width = 1; decimals = 0; missing = [] }

-- the number at a place of the metadata
abbrev pub number_at : List Variable → ℕ → NumberField
number_at variables place = option_map_or number_field (slice_get variables place) no_number

-- the last position of a field that begins at this position and has so many bytes
abbrev pub last_position : ℕ → ℕ → ℕ
last_position first width = first + width - 1

-- the greater of a position and a field's last one
abbrev pub up_to_field : ℕ → Field → ℕ
up_to_field last field = max last (last_position field.first field.width)

-- the greater of a position and the last one of a number that may be there
abbrev pub up_to_number : ℕ → Option NumberField → ℕ
up_to_number last None = last
up_to_number last (Some number) = max last (last_position number.first number.width)

-- the greatest last position of all fields
abbrev pub needed_for : List Field → NumberField → Option NumberField → ℕ
needed_for fields response weight = up_to_number (up_to_number (fold up_to_field 0 fields) (Some response)) weight

-- the weight of a record, where the job has weights
abbrev pub weight_in : List Variable → Bound → Option NumberField
weight_in variables bound = option_map (number_at variables) bound.weight

-- the layout of a job's records, with the fields of its spanning variables
abbrev pub layout_of : List Variable → Bound → List Field → Layout
layout_of variables bound fields = record {
  spanning = fields;
  response = number_at variables bound.response;
  weight = weight_in variables bound;
  needed = needed_for fields (number_at variables bound.response) (weight_in variables bound);
}

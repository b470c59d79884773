-- What one record adds to those before it, or its first fault (tau-ARGUS user manual, fixed-format microdata; limits
-- and first fault own).
use Rattle.std.specs.Prelude.{ℕ, ◌+◌, nat_lt, nat_le, if◌then◌else◌, List, [], ◌∷◌, ◌++◌, length, map, Result, Ok, pos}
use Rattle.sdc_base.specs.Steps.{◌>>=◌, refuse}
use Rattle.microdata.specs.declared.faults.RowWhy.{RowWhy}
use Rattle.microdata.specs.declared.faults.RowWhy.TheVariants.{TooLong, TooMany, Short}
use Rattle.microdata.specs.declared.layout.Layout.{Layout}
use Rattle.microdata.specs.declared.layout.Measures.{Measures}
use Rattle.microdata.specs.declared.record.Variable.{Variable}
use Rattle.microdata.specs.declared.record.ReaderProgress.{ReaderProgress}
use Rattle.microdata.specs.Faults.{at_record}
use Rattle.microdata.specs.Fields.{field, has_no_response, value_of, weight_of}
use Rattle.microdata.specs.KeptRows.{KeptRow}
use Rattle.microdata.specs.SeenCodes.{with_code, seen_first}

-- a variable with the code of one more record, and where that stands
unfoldable pub variable_says : Variable → List ℕ → Result (Variable × ℕ) RowWhy
variable_says variable line = do
  taken ← with_code variable.field.source variable.seen (field variable.field.first variable.field.width line)
  Ok (record { field = variable.field; seen = taken.0 }, taken.1)

-- the variables in their order, each with the code of one more record, and where these stand
unfoldable pub variables_say : List Variable → List ℕ → Result (List Variable × List ℕ) RowWhy
variables_say [] line = Ok ([], [])
variables_say (variable ∷ variables) line = do
  one ← variable_says variable line
  rest ← variables_say variables line
  Ok (one.0 ∷ rest.0, one.1 ∷ rest.1)

-- one record more, which is skipped
abbrev pub with_skipped : ReaderProgress → ReaderProgress
with_skipped so_far =
    record {
      variables = so_far.variables;
      rows = so_far.rows;
      number = so_far.number + 1;
      skipped = so_far.skipped + 1;
    }

-- one record more, with these variables and this row
abbrev pub with_row : ReaderProgress → List Variable → KeptRow → ReaderProgress
with_row so_far variables row =
    record {
      variables = variables;
      rows = so_far.rows ++ row ∷ [];
      number = so_far.number + 1;
      skipped = so_far.skipped;
    }

-- a record with a response: the response, the weight, and the codes in the order of the variables
unfoldable pub response_says : Measures → ReaderProgress → List ℕ → Result ReaderProgress RowWhy
response_says measures so_far line = do
  value ← value_of measures.response line
  weight ← weight_of measures.weight line
  taken ← variables_say so_far.variables line
  Ok (with_row so_far taken.0 (record {
    number = so_far.number + 1;
    places = taken.1;
    value = pos value;
    weight = weight;
  }))

-- a record: at most 1,000 bytes, the 1,000,000th at most, and as long as its fields want; without a response it is
-- skipped
unfoldable pub record_says : Measures → ReaderProgress → List ℕ → Result ReaderProgress RowWhy
record_says measures so_far line = do
  long ← refuse TooLong (nat_lt 1000 (length line))
  many ← refuse TooMany (nat_le 1000000 so_far.number)
  short ← refuse Short (nat_lt (length line) measures.needed)
  if has_no_response measures.response line then Ok (with_skipped so_far) else response_says measures so_far line

-- A line: a record where it has a byte, and else nothing. Not: a line of blanks as nothing, which is a record.
abbrev pub line_says : Measures → ReaderProgress → List ℕ → Result ReaderProgress (ℕ × RowWhy)
line_says measures so_far [] = Ok so_far
line_says measures so_far (b ∷ line) = at_record (so_far.number + 1) (record_says measures so_far (b ∷ line))

-- the lines in their order, each after those before it
unfoldable pub lines_say : Measures → ReaderProgress → List (List ℕ) → Result ReaderProgress (ℕ × RowWhy)
lines_say measures so_far [] = Ok so_far
lines_say measures so_far (line ∷ lines) = do
  next ← line_says measures so_far line
  lines_say measures next lines

-- before the first record
abbrev pub no_records : Layout → ReaderProgress
no_records layout = record {
  variables = map (λ field. record { field = field; seen = seen_first field.source }) layout.spanning;
  rows = [];
  number = 0;
  skipped = 0;
}

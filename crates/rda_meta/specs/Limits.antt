-- The limits of metadata that were read, for what reads on (tau-ARGUS user manual; ranges own).
use Rattle.std.specs.Prelude.{◌≡◌, ℕ, ◌+◌, ◌<◌, ◌≤◌, true, List, length, map, filter, slice_get, sum, Option, Some, All}
use Rattle.std.specs.List.{IsDistinct}
use Rattle.std.specs.Option.{ForSome}
use Rattle.std.specs.Str.{bytes_eq}
use Rattle.sdc_base.specs.Tokens.{is_file_name}
use Rattle.rda_meta.specs.Arguments.{is_lead}
use Rattle.rda_meta.specs.declared.meta.Shape.{Shape}
use Rattle.rda_meta.specs.declared.meta.Shape.TheVariants as shape
use Rattle.rda_meta.specs.declared.meta.Variable.{Variable}
use Rattle.rda_meta.specs.declared.meta.Meta.{Meta}

-- one to nine levels of a byte or more make up the width; a hierarchy file has a file's name, and its lead string is 1
-- to 8 bytes
abbrev pub IsShaped : ℕ → Shape → Type 0
IsShaped width shape.Flat = Unit {0}
IsShaped width (shape.Levels widths) = (0 < length widths) × (length widths ≤ 9) × All (λ level. 0 < level) widths
    × (sum widths ≡ width)
IsShaped width (shape.Listed file lead) = (is_file_name file ≡ true) × (is_lead lead ≡ true)

-- a variable within its limits: its field ends at position 1,000 at the latest
pub record IsVariable (v : Variable) : Type 0 where
  pub first_from_one : 0 < v.first
  pub width_from_one : 0 < v.width
  pub narrow : v.width ≤ 255
  pub inside : v.first + v.width ≤ 1001
  pub at_most_2_missing : length v.missing ≤ 2
  pub at_most_9_decimals : v.decimals ≤ 9
  pub weight_at_most_4_decimals : v.weight ≡ true → v.decimals ≤ 4
  pub weight_numeric : v.weight ≡ true → v.numeric ≡ true
  pub list : ForSome v.codes (λ file. is_file_name file ≡ true)
  pub shaped : IsShaped v.width v.shape

-- the variables that are weights
abbrev pub weights : List Variable → List Variable
weights variables = filter (λ v. v.weight) variables

-- metadata within their limits: at most 64 variables, each of a name of its own, and at most one of them a weight
pub record IsMeta (meta : Meta) : Type 0 where
  pub at_most_64_variables : length meta.variables ≤ 64
  pub distinct : IsDistinct bytes_eq (map (λ v. v.name) meta.variables)
  pub one_weight : length (weights meta.variables) ≤ 1
  pub each : (place : ℕ) (v : Variable) → slice_get meta.variables place ≡ Some v → IsVariable v

-- Which layouts are read by: where their fields stand, and which codes they list (own).
use Rattle.std.specs.Prelude.{ℕ, ◌+◌, ◌<◌, ◌≤◌, All, ◌∷◌, length, Option, None, Some}
use Rattle.std.specs.List.{IsDistinct}
use Rattle.std.specs.Str.{bytes_eq}
use Rattle.microdata.specs.declared.layout.Field.{Field}
use Rattle.microdata.specs.declared.layout.Layout.{Layout}
use Rattle.microdata.specs.declared.layout.Measures.{Measures}
use Rattle.microdata.specs.declared.layout.NumberField.{NumberField}
use Rattle.microdata.specs.declared.layout.Source.{Source}
use Rattle.microdata.specs.declared.layout.Source.TheVariants as source

-- a field begins at a position from 1, has at least one byte, and ends where records have bytes
pub record IsWithin (needed first width : ℕ) : Type 0 where
  pub from_one : 1 ≤ first
  pub width_from_one : 1 ≤ width
  pub inside : first + width ≤ needed + 1

-- levels have 1 to 9 widths above 0; listed codes are distinct, at most 5,000, and none is the total
abbrev pub IsSource : Source → Type 0
IsSource (source.Listed tree) = Unit {0}
IsSource (source.Levels widths total) = (0 < length widths) × (length widths ≤ 9) × All (λ width. 0 < width) widths
IsSource (source.Flat codes total) = IsDistinct bytes_eq (total ∷ codes) × (length codes ≤ 5000)

-- a field that stands within a record, with codes that can be read by
pub record IsField (needed : ℕ) (field : Field) : Type 0 where
  pub within : IsWithin needed field.first field.width
  pub codes : IsSource field.source

-- a number that stands within a record and has at most so many decimals
pub record IsNumber (needed most : ℕ) (number : NumberField) : Type 0 where
  pub within : IsWithin needed number.first number.width
  pub decimals : number.decimals ≤ most

-- a weight has at most four decimals
abbrev pub IsWeight : ℕ → Option NumberField → Type 0
IsWeight needed None = Unit {0}
IsWeight needed (Some weight) = IsNumber needed 4 weight

-- the numbers of a record can be read by these
pub record AreMeasures (measures : Measures) : Type 0 where
  pub needed : measures.needed ≤ 1000
  pub response : IsNumber measures.needed 9 measures.response
  pub weight : IsWeight measures.needed measures.weight

-- what the numbers of a record are read by
abbrev pub measures_of : Layout → Measures
measures_of layout = record { response = layout.response; weight = layout.weight; needed = layout.needed }

-- a layout that records can be read by
pub record IsLayout (layout : Layout) : Type 0 where
  pub at_most_8_spanning : length layout.spanning ≤ 8
  pub measures : AreMeasures (measures_of layout)
  pub fields : All (IsField layout.needed) layout.spanning

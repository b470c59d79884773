-- What a field is that metadata place in a record (own).
use Rattle.std.specs.Prelude.{◌≡◌, ℕ, ◌+◌, ◌≤◌, List, length}
use Rattle.std.specs.List.{AllByRecursion}
use Rattle.job_inputs.specs.declared.described.DescribedJob.{DescribedJob}
use Rattle.microdata.specs.Layouts.{IsSource}
use Rattle.microdata.specs.declared.layout.Field.{Field}

-- it begins at a position from 1, has at least one byte, and ends at position 1,000 at the latest
pub record IsPlaced (first width : ℕ) : Type 0 where
  pub from_one : 1 ≤ first
  pub width_from_one : 1 ≤ width
  pub inside : first + width ≤ 1001

-- a field of a spanning variable, with codes that can be read by
pub record IsPlacedField (field : Field) : Type 0 where
  pub placed : IsPlaced field.first field.width
  pub codes : IsSource field.source

-- the fields of a job's spanning variables: one for each, in its place
pub record AreFieldsOf (described : DescribedJob) (fields : List Field) : Type 0 where
  pub placed : AllByRecursion IsPlacedField fields
  pub as_many : length fields ≡ length described.bound.spanning

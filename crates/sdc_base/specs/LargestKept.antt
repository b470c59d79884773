-- What a short list of contributions tells of all that were offered to it (own).
use Rattle.std.specs.Prelude.{◌≡◌, List, take, IsPermutation}
use Rattle.sdc_base.specs.declared.tops.Unit.{Unit as Contribution}
use Rattle.sdc_base.specs.declared.tops.Tops.{Tops}
use Rattle.sdc_base.specs.Largest.{ranking_of}

-- It holds the first of the ranked ones, as many as it keeps, whatever the order of those of one value. Not: the first
-- that were offered.
pub record KeepsLargest (tops : Tops) (units : List Contribution) : Type 0 where
  pub order : List Contribution
  pub same : IsPermutation units order
  pub kept : tops.list ≡ take tops.keep (ranking_of order)

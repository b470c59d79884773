-- What the records that were read are within: places in their trees, and the limits of their numbers (limits own).
use Rattle.std.specs.Prelude.{◌≡◌, ℕ, ◌^◌, ◌<◌, ◌≤◌, List, [], ◌∷◌, length, Ok, pos, ◌≤ℤ◌, ◌<ℤ◌}
use Rattle.std.specs.List.{AllByRecursion}
use Rattle.sdc_base.specs.Trees.{Tree}
use Rattle.sdc_base.specs.declared.rows.Row.{Row}
use Rattle.microdata.specs.Fields.{scale_of}
use Rattle.microdata.specs.Microdata.{records_of}
use Rattle.microdata.specs.declared.layout.Layout.{Layout}
use Rattle.microdata.specs.declared.records.Records.{Records}

-- one place for each tree, and it is in it
abbrev pub AreInTrees : List Tree → List ℕ → Type 0
AreInTrees [] [] = Unit {0}
AreInTrees (tree ∷ trees) (place ∷ places) = (place < length tree) × AreInTrees trees places
AreInTrees [] (place ∷ places) = ⊥
AreInTrees (tree ∷ trees) [] = ⊥

-- a record: its places are in the trees, its value is from 0 and below 10^15, and its weight at least one and below
-- 10^8
pub record IsRow (scale : ℕ) (trees : List Tree) (row : Row) : Type 0 where
  pub places : AreInTrees trees row.codes
  pub from_zero : pos 0 ≤ℤ row.value
  pub below : row.value <ℤ pos (10 ^ 15)
  pub heavy : scale ≤ row.weight
  pub light : row.weight < 10 ^ 8

-- at most a million records, each within its limits, and a tree for each spanning variable
pub record AreWithinLimits (layout : Layout) (records : Records) : Type 0 where
  pub trees : length records.trees ≡ length layout.spanning
  pub at_most_1000000 : length records.rows ≤ 1000000
  pub rows : AllByRecursion (IsRow (scale_of layout.weight) records.trees) records.rows

-- whatever is read is within its limits
abbrev pub ReadIsWithinLimits : Type 0
ReadIsWithinLimits =
    (layout : Layout) (bytes : List ℕ) (records : Records) → records_of layout bytes ≡ Ok records
    → AreWithinLimits layout records

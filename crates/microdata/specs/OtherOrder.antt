-- What is read of the same records in another order (own).
use Rattle.std.specs.Prelude.{◌≡◌, ℕ, List, Ok}
use Rattle.std.specs.List.Sorted.{IsPermutation}
use Rattle.sdc_base.specs.Lines.{lines}
use Rattle.microdata.specs.Layouts.{IsLayout}
use Rattle.microdata.specs.Microdata.{records_of}
use Rattle.microdata.specs.declared.layout.Layout.{Layout}
use Rattle.microdata.specs.declared.records.Records.{Records}

-- the trees are the same, the rows are the same ones in some order, and as many records were skipped
pub record AreSameButForOrder (records others : Records) : Type 0 where
  pub trees : others.trees ≡ records.trees
  pub rows : IsPermutation records.rows others.rows
  pub skipped : others.skipped ≡ records.skipped

-- where the lines of a text are those of another in some order, what is read of both is the same but for the order of
-- the rows
abbrev pub OrderChangesNoTree : Type 0
OrderChangesNoTree =
    (layout : Layout) (bytes other : List ℕ) (records others : Records) → IsLayout layout
    → IsPermutation (lines bytes) (lines other)
    → records_of layout bytes ≡ Ok records → records_of layout other ≡ Ok others → AreSameButForOrder records others

-- Laws of microdata, in the words of their rules (own).
use Rattle.std.specs.Prelude.{◌≡◌, ℕ, List, ◌++◌, Err}
use Rattle.microdata.specs.Feeding.{fed_of}
use Rattle.microdata.specs.Microdata.{records_of}
use Rattle.microdata.specs.declared.faults.RowWhy.{RowWhy}
use Rattle.microdata.specs.declared.layout.Layout.{Layout}

-- a fault that is found before all bytes are there is the fault of all of them, whatever follows
abbrev pub FaultsStand : Type 0
FaultsStand =
    (layout : Layout) (bytes more : List ℕ) (fault : ℕ × RowWhy) → fed_of layout bytes ≡ Err fault
    → (fed_of layout (bytes ++ more) ≡ Err fault) × (records_of layout (bytes ++ more) ≡ Err fault)

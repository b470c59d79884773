-- What every reader of a rounded release finds, by the names of cells (zero-restricted controlled rounding; own).
use Rattle.std.specs.Prelude.{◌≡◌, ◌≢◌, ◌<◌, ℕ, true, List, [], length, slice_set, Some, ℤ, pos}
use Rattle.std.specs.Option.{unwrap_or}
use Rattle.sdc_base.specs.Cells.{is_named}
use Rattle.sdc_base.specs.Records.{Name}
use Rattle.sdc_base.specs.Relations.{codes_below, is_spanned}
use Rattle.sdc_base.specs.Roundings.{IsAdjacent}
use Rattle.sdc_base.specs.Totals.{sum_of}
use Rattle.job_inputs.specs.Cells.{cells, truth_in}
use Rattle.job_inputs.specs.declared.inputs.Inputs.{Inputs}
use Rattle.job_run.specs.Releases.{value_in}
use Rattle.job_run.specs.Roundings.{IsRoundingFor}

-- every cell shows a multiple of the base, less than one base from its truth over the records
abbrev pub CellsShowAdjacent : Type 0
CellsShowAdjacent =
    (inputs : Inputs) (base : ℤ) (values : List ℤ) (name : Name) → IsRoundingFor inputs base values
    → is_named (cells inputs) name ≡ true
    → (value : ℤ) × (value_in inputs values name ≡ Some value) × IsAdjacent base (truth_in inputs name) value

-- the number that is shown for the cell with this name; 0 where no table has it
abbrev pub number_shown : Inputs → List ℤ → Name → ℤ
number_shown inputs values name = unwrap_or (value_in inputs values name) (pos 0)

-- A cell of a table that spans a variable and goes below the cell's code, with codes right below that one, shows the sum
-- of what the cells with one of these in its place show.
abbrev pub ShownMarginsAddUp : Type 0
ShownMarginsAddUp =
    (inputs : Inputs) (base : ℤ) (values : List ℤ) (name : Name) (variable : ℕ) → IsRoundingFor inputs base values
    → is_named (cells inputs) name ≡ true → variable < length inputs.records.trees
    → is_spanned inputs.records.trees inputs.described.bound.tables name variable ≡ true
    → codes_below inputs.records.trees name variable ≢ []
    → number_shown inputs values name ≡ sum_of (λ code. number_shown inputs values (slice_set name variable code))
    (codes_below inputs.records.trees name variable)

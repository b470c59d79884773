-- The faults of microdata with the numbers of their records, as the errors of calls name them (own); want of memory
-- names none.
use Rattle.std.specs.Prelude.{ℕ, Option, None, Some, Result}
use Rattle.sdc_base.specs.Steps.{map_fault}
use Rattle.plain_text.specs.Stops.{stop_error}
use Rattle.plain_text.specs.declared.stop.Stop.{Stop}
use Rattle.microdata.specs.declared.faults.RowWhy.{RowWhy}
use Rattle.microdata.specs.declared.faults.RowError.{RowError}
use Rattle.microdata.specs.declared.faults.RowError.TheVariants as row_error

-- the fault for which microdata aren't read, behind the number of its record
abbrev pub row_fault_of : RowError → Option (ℕ × RowWhy)
row_fault_of row_error.Memory = None
row_fault_of (row_error.At number why) = Some (number, why)

-- what a record gives, its fault behind the record's number
abbrev pub at_record : {A : Type 0} → ℕ → Result A RowWhy → Result A (ℕ × RowWhy)
at_record number given = map_fault (λ why. (number, why)) given

-- the error of the record with this number
abbrev pub error_of : ℕ → Stop RowWhy → RowError
error_of number = stop_error (row_error.At number) row_error.Memory

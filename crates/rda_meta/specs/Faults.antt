-- The faults of metadata with their lines, as the errors of calls name them (own); want of memory names none.
use Rattle.std.specs.Prelude.{ℕ, Option, None, Some, Result}
use Rattle.sdc_base.specs.Steps.{map_fault}
use Rattle.plain_text.specs.Stops.{stop_error}
use Rattle.plain_text.specs.declared.stop.Stop.{Stop}
use Rattle.rda_meta.specs.declared.faults.MetaWhy.{MetaWhy}
use Rattle.rda_meta.specs.declared.faults.MetaError.{MetaError}
use Rattle.rda_meta.specs.declared.faults.MetaError.TheVariants as meta_error

-- the fault for which metadata aren't read, behind the number of its line
abbrev pub meta_fault_of : MetaError → Option (ℕ × MetaWhy)
meta_fault_of meta_error.Memory = None
meta_fault_of (meta_error.At line why) = Some (line, why)

-- what a line gives, its fault behind the line's number
abbrev pub at_line : {A : Type 0} → ℕ → Result A MetaWhy → Result A (ℕ × MetaWhy)
at_line line given = map_fault (λ why. (line, why)) given

-- the error of the line with this number
abbrev pub error_of : ℕ → Stop MetaWhy → MetaError
error_of line = stop_error (meta_error.At line) meta_error.Memory

-- Why a reader or a writer stops, as contracts see it (own); want of memory names no fault.
use Rattle.std.specs.Prelude.{Option, None, Some}
use Rattle.plain_text.specs.declared.stop.Stop.{Stop}
use Rattle.plain_text.specs.declared.stop.Stop.TheVariants as stop

-- the fault for which it stops
abbrev pub why_of : {F : Type 0} → Stop F → Option F
why_of (stop.Fault fault) = Some fault
why_of stop.Memory = None

-- the error of a stop, where the error of each fault and that of want of memory are given
abbrev pub stop_error : {F E : Type 0} → (F → E) → E → Stop F → E
stop_error of_fault of_memory (stop.Fault fault) = of_fault fault
stop_error of_fault of_memory stop.Memory = of_memory

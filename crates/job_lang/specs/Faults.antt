-- The faults of a job with their lines, as the errors of calls name them (own); want of memory names none.
use Rattle.std.specs.Prelude.{ℕ, Option, None, Some, Result}
use Rattle.sdc_base.specs.Steps.{map_fault}
use Rattle.plain_text.specs.Stops.{stop_error}
use Rattle.plain_text.specs.declared.stop.Stop.{Stop}
use Rattle.job_lang.specs.declared.faults.JobWhy.{JobWhy}
use Rattle.job_lang.specs.declared.faults.JobError.{JobError}
use Rattle.job_lang.specs.declared.faults.JobError.TheVariants as job_error

-- the fault of a call that takes no memory
abbrev pub fault_itself : JobWhy → Option JobWhy
fault_itself why = Some why

-- the fault for which a job isn't read or bound, behind the number of its line
abbrev pub job_fault_of : JobError → Option (ℕ × JobWhy)
job_fault_of job_error.Memory = None
job_fault_of (job_error.At line why) = Some (line, why)

-- what a line gives, its fault behind the line's number
abbrev pub at_line : {A : Type 0} → ℕ → Result A JobWhy → Result A (ℕ × JobWhy)
at_line line given = map_fault (λ why. (line, why)) given

-- the error of the line with this number
abbrev pub error_of : ℕ → Stop JobWhy → JobError
error_of line = stop_error (job_error.At line) job_error.Memory

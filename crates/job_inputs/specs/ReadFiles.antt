-- A file that a run reads, whole, or its own fault; and faults of its contents as those of the run (own).
use Rattle.std.specs.Prelude.{ℕ, ◌^◌, List, length, nat_lt, if◌then◌else◌, Option, None, Some, Result, Ok, Err}
use Rattle.office_io.specs.Files.{Files}
use Rattle.rda_meta.specs.declared.faults.MetaWhy.{MetaWhy}
use Rattle.job_lang.specs.declared.faults.JobWhy.{JobWhy}
use Rattle.microdata.specs.declared.faults.RowWhy.{RowWhy}
use Rattle.job_inputs.specs.declared.file_ref.FileRef.{FileRef}
use Rattle.job_inputs.specs.declared.file_ref.FileRef.TheVariants as file
use Rattle.job_inputs.specs.declared.faults.Fault.{Fault}
use Rattle.job_inputs.specs.declared.faults.Fault.TheVariants as fault

-- the greatest input file, in bytes
abbrev pub limit : ℕ
limit = 2 ^ 28

-- the greatest file that was put, in bytes
abbrev pub output_limit : ℕ
output_limit = 2 ^ 60

-- the greatest file of each kind, in bytes
abbrev pub limit_of : FileRef → ℕ
limit_of file.Certificate = output_limit
limit_of file.Contributors = output_limit
limit_of (file.Table t) = output_limit
limit_of other = limit

-- the bytes of a file that may be held, or its own fault: Absent, then TooLong
abbrev pub whole_file : FileRef → Option (List ℕ) → Result (List ℕ) Fault
whole_file f None = Err (fault.Absent f)
whole_file f (Some bytes) = if nat_lt (limit_of f) (length bytes) then Err (fault.TooLong f) else Ok bytes

-- the bytes of a named file, or its own fault
abbrev pub bytes_of_file : Files → List ℕ → FileRef → Result (List ℕ) Fault
bytes_of_file files name f = whole_file f (files name)

-- what is wrong with a job, as a fault of the run
abbrev pub job_fault : ℕ × JobWhy → Fault
job_fault at = fault.Job at.0 at.1

-- what is wrong with metadata
abbrev pub meta_fault : ℕ × MetaWhy → Fault
meta_fault at = fault.Meta at.0 at.1

-- what is wrong with a record
abbrev pub row_fault : ℕ × RowWhy → Fault
row_fault at = fault.Row at.0 at.1

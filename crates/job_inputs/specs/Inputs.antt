-- What the input files of a run hold, or the first fault of one of them (own).
use Rattle.std.specs.Prelude.{ℕ, List, length, nat_lt, if◌then◌else◌, take, Option, None, Some, Result, Ok, Err}
use Rattle.sdc_base.specs.Steps.{◌>>=◌, map_fault, refuse}
use Rattle.office_io.specs.Files.{Files}
use Rattle.rda_meta.specs.Metadata.{meta_of}
use Rattle.job_lang.specs.Jobs.{job_of}
use Rattle.job_lang.specs.Binding.{bound_of}
use Rattle.job_lang.specs.declared.faults.JobWhy.TheVariants.{BadValue}
use Rattle.job_lang.specs.declared.job.Job.{Job}
use Rattle.microdata.specs.Feeding.{fed_of}
use Rattle.microdata.specs.Microdata.{records_of}
use Rattle.microdata.specs.declared.faults.RowWhy.{RowWhy}
use Rattle.microdata.specs.declared.layout.Layout.{Layout}
use Rattle.microdata.specs.declared.records.Records.{Records}
use Rattle.job_inputs.specs.Layouts.{layout_of}
use Rattle.job_inputs.specs.Purposes.{is_unfit}
use Rattle.job_inputs.specs.declared.purpose.Purpose.{Purpose}
use Rattle.job_inputs.specs.declared.described.DescribedJob.{DescribedJob}
use Rattle.job_inputs.specs.declared.inputs.Inputs.{Inputs}
use Rattle.job_inputs.specs.declared.file_ref.FileRef.TheVariants as file
use Rattle.job_inputs.specs.declared.faults.Fault.{Fault}
use Rattle.job_inputs.specs.declared.faults.Fault.TheVariants as fault
use Rattle.job_inputs.specs.ReadFiles.{bytes_of_file, job_fault, limit, meta_fault, row_fault}
use Rattle.job_inputs.specs.CodeSources.{spanning_fields}

-- ---- job and metadata

-- the job that bytes state, for this purpose, or the first fault: that of a line, or that its method is unfit
unfoldable pub job_for : Purpose → List ℕ → Result Job Fault
job_for purpose bytes = do
  job ← map_fault job_fault (job_of bytes)
  fit ← refuse (fault.Job 0 BadValue) (is_unfit purpose job.method)
  Ok job

-- The job, its metadata, and the job's variables looked up in these, or the first fault: the job's file, what it says
-- for this purpose, the metadata's file, what they say, and then what of the job they don't have.
unfoldable pub described_of : Purpose → Files → List ℕ → Result DescribedJob Fault
described_of purpose files name = do
  bytes ← bytes_of_file files name file.Job
  job ← job_for purpose bytes
  text ← bytes_of_file files job.meta file.Metadata
  meta ← map_fault meta_fault (meta_of text)
  bound ← map_fault job_fault (bound_of job meta)
  Ok (record { job = job; meta = meta; bound = bound })

-- ---- microdata

-- a fault that the first bytes of a file have, whatever follows them, or that the file is too long
abbrev pub long_file_fault : Result (Unit {0}) (ℕ × RowWhy) → Result Records Fault
long_file_fault (Ok fine) = Err (fault.TooLong file.Microdata)
long_file_fault (Err at) = Err (row_fault at)

-- the records that bytes are, or their first fault: of a file that is too long, a fault of its first 2^28 bytes comes
-- before
abbrev pub records_of_bytes : Layout → List ℕ → Result Records Fault
records_of_bytes layout bytes =
    if nat_lt limit (length bytes) then long_file_fault (fed_of layout (take limit bytes))
    else map_fault row_fault (records_of layout bytes)

-- the records of a file, where there is one
abbrev pub records_in : Layout → Option (List ℕ) → Result Records Fault
records_in layout None = Err (fault.Absent file.Microdata)
records_in layout (Some bytes) = records_of_bytes layout bytes

-- the records of the named file, or what is wrong with it
abbrev pub look_at_records : Files → List ℕ → Layout → Result Records Fault
look_at_records files name layout = records_in layout (files name)

-- ---- all inputs

-- All that the input files of a job hold, or the first fault: the job and its metadata, for each spanning variable in
-- the order of the metadata its code list and then its hierarchy, and the microdata.
unfoldable pub inputs_of : Purpose → Files → List ℕ → Result Inputs Fault
inputs_of purpose files name = do
  described ← described_of purpose files name
  fields ← spanning_fields files described
  records ← look_at_records files described.job.micro (layout_of described.meta.variables described.bound fields)
  Ok (record { described = described; records = records })

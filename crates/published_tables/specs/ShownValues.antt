-- Which numbers the rounded tables of a job show, and the base to which they are to be rounded (zero-restricted
-- controlled rounding; own).
use Rattle.std.specs.Prelude.{ℕ, List, map, Result, ℤ}
use Rattle.sdc_base.specs.Steps.{map_fault}
use Rattle.release_writer.specs.ReleaseReading.{rounded_read}
use Rattle.cert_check.specs.RoundedRelease.{at_line}
use Rattle.cert_check.specs.declared.faults.CheckFault.{CheckFault}
use Rattle.job_inputs.specs.Bases.{method_base}
use Rattle.job_inputs.specs.Tables.{names_of}
use Rattle.job_inputs.specs.declared.settled.ClassifiedJob.{ClassifiedJob}

-- the numbers whose texts the tables of a job are, or the first line that the texts of none have
abbrev pub values_read : ClassifiedJob → List (List ℕ) → Result (List ℤ) CheckFault
values_read job tables =
    map_fault at_line (rounded_read job.book (map names_of job.described.job.tables) job.described.bound.decimals tables)

-- the base of a job, in units
abbrev pub base_of_job : ClassifiedJob → ℤ
base_of_job job = method_base job.described.job.method job.described.bound.decimals

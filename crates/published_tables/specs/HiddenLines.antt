-- Which cells the tables of a job hide, or their first fault (handbook, secondary suppression; fixed cells: own).
use Rattle.std.specs.Prelude.{ℕ, Bool, List, map, Result, Ok}
use Rattle.sdc_base.specs.Steps.{◌>>=◌, map_fault}
use Rattle.sdc_base.specs.declared.cell.Cell.{Cell}
use Rattle.release_writer.specs.ReleaseReading.{hidden_read}
use Rattle.worlds.specs.ProtectFaults.{fixed_hidden}
use Rattle.worlds.specs.WorldFaults.{refuse_at}
use Rattle.cert_check.specs.RoundedRelease.{at_line}
use Rattle.cert_check.specs.declared.faults.CheckFault.{CheckFault}
use Rattle.cert_check.specs.declared.faults.CheckFault.TheVariants as fault
use Rattle.job_inputs.specs.Tables.{names_of}
use Rattle.job_inputs.specs.declared.settled.ClassifiedJob.{ClassifiedJob}

-- the hidden set, by a flag for each cell, whose texts the tables of a job are, or the first line that the texts of
-- none have
abbrev pub lines_read : ClassifiedJob → List (List ℕ) → Result (List Bool) CheckFault
lines_read job tables =
    map_fault at_line (hidden_read job.book (map names_of job.described.job.tables) job.described.bound.decimals tables)

-- the first fixed cell that is hidden
abbrev pub fixed_fault : List Cell → List Bool → Result (Unit {0}) CheckFault
fixed_fault cells flags = refuse_at fault.FixedHidden (fixed_hidden flags 0 cells)

-- The hidden set whose texts the tables of a job are, or the first fault of the tables: the first bad line, or else the
-- first fixed cell that is hidden. Not: a primary cell that is shown.
unfoldable pub flags_in : ClassifiedJob → List (List ℕ) → Result (List Bool) CheckFault
flags_in job tables = do
  flags ← lines_read job tables
  fine ← fixed_fault job.cells flags
  Ok flags

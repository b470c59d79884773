-- What holds of a job that was read with its metadata and its records (own).
use Rattle.std.specs.Prelude.{◌≡◌, ℕ, ◌≤◌, List, length}
use Rattle.std.specs.List.{AllByRecursion}
use Rattle.sdc_base.specs.Trees.{Tree, IsCodeTree}
use Rattle.sdc_base.specs.declared.rows.Row.{Row}
use Rattle.rda_meta.specs.Limits.{IsMeta}
use Rattle.job_lang.specs.BoundLimits.{IsBound}
use Rattle.job_lang.specs.JobLimits.{IsJob}
use Rattle.job_lang.specs.Binding.{places_of}
use Rattle.job_lang.specs.declared.bound.Bound.{Bound}
use Rattle.job_lang.specs.declared.job.Job.{Job}
use Rattle.rda_meta.specs.declared.meta.Variable.{Variable}
use Rattle.microdata.specs.Leaves.{AreLeaves}
use Rattle.microdata.specs.Ranges.{AreWithinLimits, IsRow}
use Rattle.microdata.specs.declared.layout.Layout.{Layout}
use Rattle.microdata.specs.declared.records.Records.{Records}
use Rattle.job_inputs.specs.declared.described.DescribedJob.{DescribedJob}
use Rattle.job_inputs.specs.declared.inputs.Inputs.{Inputs}

-- the job, the metadata and the places of the job's variables are within their limits
pub record IsSoundJob (described : DescribedJob) : Type 0 where
  pub job : IsJob described.job
  pub meta : IsMeta described.meta
  pub bound : IsBound described.job described.meta.variables described.bound
  pub places : described.bound ≡ places_of described.job described.meta.variables

-- the places of a job's variables are within their limits, and where the metadata have them
pub record IsBoundTo (job : Job) (variables : List Variable) (bound : Bound) : Type 0 where
  pub within : IsBound job variables bound
  pub places : bound ≡ places_of job variables

-- at most a million records, each of these trees and within its limits
pub record AreRows (trees : List Tree) (scale : ℕ) (rows : List Row) : Type 0 where
  pub at_most_1000000 : length rows ≤ 1000000
  pub each : AllByRecursion (IsRow scale trees) rows

-- no record has a code with others below it in its tree
abbrev pub AreAtLeaves : Records → Type 0
AreAtLeaves records = AllByRecursion (λ row. AreLeaves records.trees row.codes) records.rows

-- records by a layout: within its limits, of code trees, and their codes have none below them
pub record AreRecordsOf (layout : Layout) (records : Records) : Type 0 where
  pub within : AreWithinLimits layout records
  pub trees : AllByRecursion IsCodeTree records.trees
  pub leaves : AreAtLeaves records

-- The records have a code tree for each spanning variable, there are at most a million, each is within its limits, and
-- their codes have none below them.
pub record AreRecords (spanning scale : ℕ) (records : Records) : Type 0 where
  pub as_many : length records.trees ≡ spanning
  pub trees : AllByRecursion IsCodeTree records.trees
  pub rows : AreRows records.trees scale records.rows
  pub leaves : AreAtLeaves records

-- all that was read is within its limits
pub record AreSound (inputs : Inputs) : Type 0 where
  pub described : IsSoundJob inputs.described
  pub records : AreRecords (length inputs.described.bound.spanning) inputs.described.bound.scale inputs.records

-- What the release of settled inputs is judged by (own).
use Rattle.std.specs.Prelude.{◌≡◌, map}
use Rattle.modular_plan.specs.Methods.{passes_of}
use Rattle.cert_check.specs.declared.case.Case.{Case}
use Rattle.modular_plan.specs.Plans.{trail_of, IsSameButHidden}
use Rattle.relations.specs.Holding.{IsSystemOf}
use Rattle.job_inputs.specs.Bases.{method_base}
use Rattle.job_inputs.specs.ClassifiedJobs.{SettledInputs, IsSettledOf}
use Rattle.job_inputs.specs.Tables.{names_of}
use Rattle.job_inputs.specs.declared.settled.ClassifiedJob.{ClassifiedJob}

-- The case of settled inputs: their tables with the truths of their cells, whichever cells are marked as hidden, the
-- system of the relations between these, the cells, and the trail, the base, the names and the decimals that the job
-- makes.
pub record IsCaseOf (settled : SettledInputs) (case : Case) : Type 0 where
  pub job : ClassifiedJob
  pub job_is : IsSettledOf settled job
  pub book : IsSameButHidden job.book case.book.now
  pub system : IsSystemOf job.book case.system.now
  pub cells : case.cells.now ≡ job.cells
  pub trail : case.trail.now.steps ≡ trail_of job.book job.cells job.described.job.cost
      (passes_of job.described.job.method)
  pub method : case.method ≡ job.described.job.method
  pub base : case.base ≡ method_base job.described.job.method job.described.bound.decimals
  pub names : case.names.now ≡ map names_of job.described.job.tables
  pub decimals : case.decimals ≡ job.described.bound.decimals

use Rattle.std.proofs.Common.{ℕ, List, Result, Ok, Err}
use Rattle.std.specs.Result.{IfOk}
use Rattle.sdc_base.specs.Answers.{Gives}
use Rattle.job_lang.specs.declared.job.Job.{Job}
use Rattle.job_lang.specs.declared.faults.JobError.{JobError}
use Rattle.job_lang.specs.Faults.{job_fault_of}
use Rattle.job_lang.specs.Jobs.{job_of}
use Rattle.job_lang.specs.JobLimits.{IsJob}
use Rattle.job_lang.proofs.JobHolds.{job_known}
use Rattle.sdc_base.specs.Lines.{lines}
use Rattle.job_lang.specs.Statements.{lines_say, empty_draft}
use Rattle.job_lang.proofs.Known.{known}
use Rattle.job_lang.proofs.DraftHolds.{IsDraft, lines_known}
use Rattle.job_lang.proofs.reading.read_job.Goals as goal

pub closed_job-requires : goal.closed_job-requires
closed_job-requires c = (known IsDraft (lines_say 0 empty_draft (lines c.args.bytes.now)) _ (lines_known (lines c.args.bytes.now)) c.in_ok-draft.ensures).few

within : (result : Result Job JobError) (bytes : List ℕ) → Gives job_fault_of (λ job. job) result (job_of bytes) → IfOk result IsJob
within (Ok job) bytes h = known IsJob (job_of bytes) job (job_known bytes) h
within (Err e) bytes h = tt

pub returns-clause-within : goal.returns-clause-within
unfolding job_of
returns-clause-within c = within c.closed_job.result c.args.bytes.now (rw c.in_ok-draft.ensures c.closed_job.ensures)

-- How many files a release has (own).
use Rattle.std.specs.Prelude.{ℕ, ◌+◌, length, Option, None, Some}
use Rattle.job_lang.specs.declared.job.Job.{Job}
use Rattle.job_lang.specs.declared.job.OutputLine.{OutputLine}

-- one for contributors, where the job names it
abbrev pub contributors_count : Option OutputLine → ℕ
contributors_count None = 0
contributors_count (Some line) = 1

-- the certificate, the contributors' file where the job names one, and the tables
abbrev pub file_count : Job → ℕ
file_count job = 1 + (contributors_count job.contributors + length job.tables)

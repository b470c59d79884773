-- The job that a text states, or its first fault with its line (tau-ARGUS user manual; first fault own).
use Rattle.std.specs.Prelude.{ℕ, ◌==◌, List, length, Result, Ok}
use Rattle.sdc_base.specs.Lines.{lines}
use Rattle.sdc_base.specs.Steps.{◌>>=◌, refuse}
use Rattle.job_lang.specs.declared.faults.JobWhy.{JobWhy}
use Rattle.job_lang.specs.declared.faults.JobWhy.TheVariants.{Missing}
use Rattle.job_lang.specs.declared.faults.Command.TheVariants as command
use Rattle.job_lang.specs.declared.job.Job.{Job}
use Rattle.job_lang.specs.declared.statement.Keyword.TheVariants as keyword
use Rattle.job_lang.specs.declared.statement.Draft.{Draft}
use Rattle.job_lang.specs.Statements.{lines_say, empty_draft}
use Rattle.job_lang.specs.ClosingLooks.{statement_by, file_line, rules_line, method_of, cost_of, work_of, usual_steps, usual_nodes, priors_in, depths_in}
use Rattle.job_lang.specs.MissingCommands.{needed_value, outputs_from}
use Rattle.job_lang.specs.FilesApart.{no_stray, no_same_name}
use Rattle.job_lang.specs.SpannedDepths.{no_outside}
use Rattle.job_lang.specs.RoundedContributors.{no_rounded_contributors}

-- The job of all that was said: each command that must be there, in the order of the table, and the others with their
-- defaults.
unfoldable pub job_made : Draft → Result Job (ℕ × JobWhy)
job_made draft = do
  micro ← needed_value command.OpenMicrodata (file_line (statement_by keyword.OpenMicrodata draft.said))
  meta ← needed_value command.OpenMetadata (file_line (statement_by keyword.OpenMetadata draft.said))
  some ← refuse (0, Missing command.SpecifyTable) (length draft.tables == 0)
  rules ← needed_value command.SafetyRule (rules_line (statement_by keyword.SafetyRule draft.said))
  method ← needed_value command.Suppress (method_of (statement_by keyword.Suppress draft.said))
  outputs ← outputs_from (length draft.tables) 0 draft.said
  certificate ← needed_value command.Certificate (file_line (statement_by keyword.Certificate draft.said))
  Ok (record {
    micro = micro.file;
    meta = meta.file;
    tables = draft.tables;
    rules = rules.rules;
    rules_line = rules.line;
    priors = priors_in draft.said;
    cost = cost_of (statement_by keyword.Cost draft.said);
    steps = work_of usual_steps (statement_by keyword.Steps draft.said);
    nodes = work_of usual_nodes (statement_by keyword.Nodes draft.said);
    method = method;
    outputs = outputs;
    certificate = certificate.file;
    certificate_line = certificate.line;
    contributors = file_line (statement_by keyword.Contributors draft.said);
    depths = depths_in draft.said;
  })

-- the closing looks at what the lines say, and the job
unfoldable pub closed_job : Draft → Result Job (ℕ × JobWhy)
closed_job draft = do
  fit ← no_rounded_contributors draft.said
  placed ← no_stray (length draft.tables) draft.said
  spanned ← no_outside draft.tables draft.said
  apart ← no_same_name draft.said draft.said
  job_made draft

-- the job that a text states, or its first fault with its line
unfoldable pub job_of : List ℕ → Result Job (ℕ × JobWhy)
job_of bytes = do
  draft ← lines_say 0 empty_draft (lines bytes)
  closed_job draft

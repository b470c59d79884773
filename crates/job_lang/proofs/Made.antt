-- How a job is made of what the lines say.
use Rattle.std.proofs.Common.{◌≡◌, ℕ, List, length, Some, Ok}
use Rattle.std.specs.Prelude.{◌==◌}
use Rattle.sdc_base.specs.Lines.{lines}
use Rattle.sdc_base.specs.Steps.{refuse}
use Rattle.sdc_base.specs.declared.method.Method.{Method}
use Rattle.sdc_base.proofs.StepLemmas.{bind_ok}
use Rattle.job_lang.specs.declared.faults.JobWhy.TheVariants.{Missing}
use Rattle.job_lang.specs.declared.faults.Command.TheVariants as command
use Rattle.job_lang.specs.declared.job.Job.{Job}
use Rattle.job_lang.specs.declared.job.OutputLine.{OutputLine}
use Rattle.job_lang.specs.declared.looked_up.RulesLine.{RulesLine}
use Rattle.job_lang.specs.declared.statement.Keyword.TheVariants as keyword
use Rattle.job_lang.specs.declared.statement.Draft.{Draft}
use Rattle.job_lang.specs.Statements.{lines_say, empty_draft}
use Rattle.job_lang.specs.ClosingLooks.{statement_by, file_line, rules_line, method_of, cost_of, work_of, usual_steps, usual_nodes, priors_in, depths_in}
use Rattle.job_lang.specs.MissingCommands.{needed_value, outputs_from}
use Rattle.job_lang.specs.FilesApart.{no_stray, no_same_name}
use Rattle.job_lang.specs.SpannedDepths.{no_outside}
use Rattle.job_lang.specs.RoundedContributors.{no_rounded_contributors}
use Rattle.job_lang.specs.Jobs.{job_made, closed_job, job_of}
use Rattle.job_lang.proofs.Known.{was_some, same_value}

-- the job of these parts
abbrev pub job_with : Draft → OutputLine → OutputLine → RulesLine → Method → List OutputLine → OutputLine → Job
job_with draft micro meta rules method outputs certificate = record {
  micro = micro.file;
  meta = meta.file;
  tables = draft.tables;
  rules = rules.rules;
  rules_line = rules.line;
  priors = priors_in draft.said;
  cost = cost_of (statement_by keyword.Cost draft.said);
  steps = work_of usual_steps (statement_by keyword.Steps draft.said);
  nodes = work_of usual_nodes (statement_by keyword.Nodes draft.said);
  method = method;
  outputs = outputs;
  certificate = certificate.file;
  certificate_line = certificate.line;
  contributors = file_line (statement_by keyword.Contributors draft.said);
  depths = depths_in draft.said;
}

pub record IsMade (draft : Draft) (job : Job) : Type 0 where
  pub micro : OutputLine
  pub meta : OutputLine
  pub rules : RulesLine
  pub method : Method
  pub outputs : List OutputLine
  pub certificate : OutputLine
  pub is_micro : file_line (statement_by keyword.OpenMicrodata draft.said) ≡ Some micro
  pub is_meta : file_line (statement_by keyword.OpenMetadata draft.said) ≡ Some meta
  pub is_rules : rules_line (statement_by keyword.SafetyRule draft.said) ≡ Some rules
  pub is_method : method_of (statement_by keyword.Suppress draft.said) ≡ Some method
  pub are_outputs : outputs_from (length draft.tables) 0 draft.said ≡ Ok outputs
  pub is_certificate : file_line (statement_by keyword.Certificate draft.said) ≡ Some certificate
  pub whole : job_with draft micro meta rules method outputs certificate ≡ job

pub made : (draft : Draft) (job : Job) → job_made draft ≡ Ok job → IsMade draft job
unfolding job_made
made draft job h =
    let a = bind_ok (needed_value command.OpenMicrodata (file_line (statement_by keyword.OpenMicrodata draft.said))) _ job h in
    let b = bind_ok (needed_value command.OpenMetadata (file_line (statement_by keyword.OpenMetadata draft.said))) _ job a.2 in
    let d = bind_ok (refuse (0, Missing command.SpecifyTable) (length draft.tables == 0)) _ job b.2 in
    let e = bind_ok (needed_value command.SafetyRule (rules_line (statement_by keyword.SafetyRule draft.said))) _ job d.2 in
    let f = bind_ok (needed_value command.Suppress (method_of (statement_by keyword.Suppress draft.said))) _ job e.2 in
    let g = bind_ok (outputs_from (length draft.tables) 0 draft.said) _ job f.2 in
    let i = bind_ok (needed_value command.Certificate (file_line (statement_by keyword.Certificate draft.said))) _ job g.2 in
    let whole = same_value (job_with draft a.0 b.0 e.0 f.0 g.0 i.0) job i.2 in
    record {
      micro = a.0;
      meta = b.0;
      rules = e.0;
      method = f.0;
      outputs = g.0;
      certificate = i.0;
      is_micro = was_some (0, Missing command.OpenMicrodata) (file_line (statement_by keyword.OpenMicrodata draft.said)) a.0 a.1;
      is_meta = was_some (0, Missing command.OpenMetadata) (file_line (statement_by keyword.OpenMetadata draft.said)) b.0 b.1;
      is_rules = was_some (0, Missing command.SafetyRule) (rules_line (statement_by keyword.SafetyRule draft.said)) e.0 e.1;
      is_method = was_some (0, Missing command.Suppress) (method_of (statement_by keyword.Suppress draft.said)) f.0 f.1;
      are_outputs = g.1;
      is_certificate = was_some (0, Missing command.Certificate) (file_line (statement_by keyword.Certificate draft.said)) i.0 i.1;
      whole = whole;
    }

-- what the lines of a text say, and the job that is made of it
pub record IsRead (bytes : List ℕ) (job : Job) : Type 0 where
  pub draft : Draft
  pub says : lines_say 0 empty_draft (lines bytes) ≡ Ok draft
  pub fit : no_rounded_contributors draft.said ≡ Ok tt
  pub placed : no_stray (length draft.tables) draft.said ≡ Ok tt
  pub spanned : no_outside draft.tables draft.said ≡ Ok tt
  pub apart : no_same_name draft.said draft.said ≡ Ok tt
  pub is_made : IsMade draft job

pub read : (bytes : List ℕ) (job : Job) → job_of bytes ≡ Ok job → IsRead bytes job
unfolding job_of closed_job
read bytes job h =
    let a = bind_ok (lines_say 0 empty_draft (lines bytes)) _ job h in
    let e = bind_ok (no_rounded_contributors a.0.said) _ job a.2 in
    let b = bind_ok (no_stray (length a.0.tables) a.0.said) _ job e.2 in
    let f = bind_ok (no_outside a.0.tables a.0.said) _ job b.2 in
    let d = bind_ok (no_same_name a.0.said a.0.said) _ job f.2 in
    record { draft = a.0; says = a.1; fit = e.1; placed = b.1; spanned = f.1; apart = d.1; is_made = made a.0 job d.2 }

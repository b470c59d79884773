-- The job of a demonstration hides cells.
use Rattle.std.proofs.Common.{◌≡◌, ◌∙◌, ℕ, List, [], ◌∷◌, codes, false, Result, Ok, None, refl, ap, sym}
use Rattle.cost_rule.specs.declared.kind.CostKind.TheVariants as kind
use Rattle.sdc_base.specs.Steps.{map_fault, refuse}
use Rattle.sdc_base.specs.declared.method.Method.TheVariants as method
use Rattle.sdc_base.specs.declared.rule.Rule.TheVariants as rule
use Rattle.sdc_base.proofs.StepLemmas.{bind_ok}
use Rattle.office_io.specs.Files.{Files}
use Rattle.demo_files.specs.DemoFiles.{demo_files, job_name, job_text}
use Rattle.job_lang.specs.declared.job.Job.{Job}
use Rattle.job_lang.specs.Jobs.{job_made, closed_job, job_of}
use Rattle.job_lang.specs.LineTokens.{behind_mark, quoted_at, number_at, digits_at, end_of_tokens, closing_token}
use Rattle.job_lang.specs.Keywords.{keyword_of, word_in}
use Rattle.job_lang.specs.RuleTexts.{rules_in}
use Rattle.job_lang.specs.RuleClauses.{one_number, frequency_clause, clause_in, clauses_in, percent_clause}
use Rattle.job_lang.specs.TableTexts.{names_up_to, quoted_part, table_argument}
use Rattle.job_lang.specs.Arguments.{file_at, only_file, output_argument, cost_of, cost_argument, argument_of}
use Rattle.job_lang.specs.MethodTexts.{modular_method, method_argument}
use Rattle.job_lang.specs.Statements.{with_table, with_statement, with_said, command_line, text_says, lines_say}
use Rattle.job_lang.specs.MissingCommands.{outputs_from}
use Rattle.job_lang.specs.FilesApart.{no_stray, no_same_name}
use Rattle.job_lang.specs.SpannedDepths.{no_outside}
use Rattle.job_lang.specs.RoundedContributors.{no_rounded_contributors}
use Rattle.apriori.specs.Settling.{settle_of}
use Rattle.linked_tables.specs.Tables.{book_with_depths}
use Rattle.rda_meta.specs.Metadata.{meta_of}
use Rattle.job_lang.specs.Binding.{bound_of}
use Rattle.job_lang.specs.declared.faults.JobWhy.TheVariants.{BadValue}
use Rattle.job_inputs.specs.Cells.{figures, cells_fault, prior_fault}
use Rattle.job_inputs.specs.Layouts.{layout_of}
use Rattle.job_inputs.specs.PriorStatements.{priors_of}
use Rattle.job_inputs.specs.declared.faults.Fault.TheVariants as fault
use Rattle.job_inputs.specs.Inputs.{job_for, described_of, look_at_records, inputs_of}
use Rattle.job_inputs.specs.CodeSources.{fields_of, spanning_variables}
use Rattle.job_inputs.specs.ReadFiles.{bytes_of_file, job_fault, meta_fault}
use Rattle.job_inputs.specs.Purposes.{is_unfit}
use Rattle.job_inputs.specs.ClassifiedJobs.{SettledInputs, overwrites_job, settled_of}
use Rattle.job_inputs.specs.declared.described.DescribedJob.{DescribedJob}
use Rattle.job_inputs.specs.declared.file_ref.FileRef.TheVariants as file
use Rattle.job_inputs.specs.declared.inputs.Inputs.{Inputs}
use Rattle.job_inputs.specs.declared.purpose.Purpose.{Purpose}
use Rattle.job_inputs.specs.declared.purpose.Purpose.TheVariants as purpose
use Rattle.job_run.specs.Roundings.{base_in_units, job_base}

ok-is : {A F : Type 0} {a b : A} → ◌≡◌ {A = Result A F} (Ok a) (Ok b) → a ≡ b
ok-is {A} {F} {a} {b} is = let same : a ≡ b = cc in same

-- what the job's text states
abbrev demo_job : Job
demo_job = record {
  micro = codes "demo.asc";
  meta = codes "demo.rda";
  tables = record { line = 3; variables = codes "Region" ∷ codes "Industry" ∷ []; response = codes "Value" } ∷ record { line = 4; variables = codes "Region" ∷ codes "Size" ∷ []; response = codes "Value" } ∷ [];
  rules = record { list = rule.Freq 3 30 ∷ rule.Percent 10 ∷ []; man = 20; weighted = false };
  rules_line = 5;
  priors = [];
  cost = kind.Value;
  steps = 100000;
  nodes = 1000000;
  method = method.Modular;
  outputs = record { line = 9; file = codes "industry.csv" } ∷ record { line = 10; file = codes "size.csv" } ∷ [];
  certificate = codes "demo.cert";
  certificate_line = 11;
  contributors = None;
  depths = [];
}

job-is : job_of job_text ≡ Ok demo_job
unfolding behind_mark quoted_at number_at digits_at end_of_tokens closing_token keyword_of word_in one_number frequency_clause clause_in clauses_in percent_clause rules_in names_up_to quoted_part table_argument file_at only_file output_argument modular_method method_argument cost_of cost_argument argument_of with_table with_statement with_said command_line text_says lines_say no_stray no_outside no_same_name no_rounded_contributors outputs_from job_made closed_job job_of
job-is = refl

-- the folder holds that text
held : (seed records : ℕ) → bytes_of_file (demo_files seed records) job_name file.Job ≡ Ok job_text
held seed records = refl

-- ---- how inputs come to their job

inputs-described : (purpose : Purpose) (files : Files) (name : List ℕ) (inputs : Inputs) → inputs_of purpose files name ≡ Ok inputs → described_of purpose files name ≡ Ok inputs.described
unfolding inputs_of
inputs-described purpose files name inputs is =
    let described = bind_ok (described_of purpose files name) _ inputs is in
    let fields = bind_ok (fields_of files (spanning_variables described.0)) _ inputs described.2 in
    let rows = bind_ok (look_at_records files described.0.job.micro (layout_of described.0.meta.variables described.0.bound fields.0)) _ inputs fields.2 in
    let same : record { described = described.0; records = rows.0 } ≡ inputs = ok-is rows.2 in
    described.1 ∙ ap Ok (ap (λ (one : Inputs). one.described) same)

described-job : (purpose : Purpose) (files : Files) (name : List ℕ) (described : DescribedJob) → described_of purpose files name ≡ Ok described
    → (bytes : List ℕ) × (bytes_of_file files name file.Job ≡ Ok bytes) × (job_for purpose bytes ≡ Ok described.job)
unfolding described_of
described-job purpose files name described is =
    let bytes = bind_ok (bytes_of_file files name file.Job) _ described is in
    let job = bind_ok (job_for purpose bytes.0) _ described bytes.2 in
    let text = bind_ok (bytes_of_file files job.0.meta file.Metadata) _ described job.2 in
    let meta = bind_ok (map_fault meta_fault (meta_of text.0)) _ described text.2 in
    let bound = bind_ok (map_fault job_fault (bound_of job.0 meta.0)) _ described meta.2 in
    let same : record { job = job.0; meta = meta.0; bound = bound.0 } ≡ described = ok-is bound.2 in
    (bytes.0, bytes.1, job.1 ∙ ap Ok (ap (λ (one : DescribedJob). one.job) same))

settled-inputs : (purpose : Purpose) (files : Files) (name : List ℕ) (settled : SettledInputs) → settled_of purpose files name ≡ Ok settled → inputs_of purpose files name ≡ Ok settled.inputs
unfolding settled_of
settled-inputs purpose files name settled is =
    let inputs = bind_ok (inputs_of purpose files name) _ settled is in
    let linked = bind_ok (map_fault cells_fault (book_with_depths inputs.0.records.trees inputs.0.described.bound.tables)) _ settled inputs.2 in
    let priors = bind_ok (priors_of files inputs.0) _ settled linked.2 in
    let cells = bind_ok (map_fault prior_fault (settle_of inputs.0.described.job.rules (figures inputs.0) priors.0)) _ settled priors.2 in
    let fine = bind_ok (refuse fault.OutName (overwrites_job name inputs.0.described.job)) _ settled cells.2 in
    let same : record { inputs = inputs.0; priors = priors.0; cells = cells.0 } ≡ settled = ok-is fine.2 in
    inputs.1 ∙ ap Ok (ap (λ (one : SettledInputs). one.inputs) same)

for-release : (bytes : List ℕ) (job : Job) → job_for purpose.Release bytes ≡ Ok job → map_fault job_fault (job_of bytes) ≡ Ok job
unfolding job_for
for-release bytes job is =
    let read = bind_ok (map_fault job_fault (job_of bytes)) _ job is in
    let fit = bind_ok (refuse (fault.Job 0 BadValue) (is_unfit purpose.Release read.0.method)) (λ fit. Ok read.0) job read.2 in
    read.1 ∙ ap Ok (ok-is fit.2)

-- the files of a demonstration hold its job
demo-reads : (seed records : ℕ) (settled : SettledInputs) → settled_of purpose.Release (demo_files seed records) job_name ≡ Ok settled → demo_job ≡ settled.inputs.described.job
demo-reads seed records settled is =
    let described = settled.inputs.described in
    let read = described-job purpose.Release (demo_files seed records) job_name described (inputs-described purpose.Release (demo_files seed records) job_name settled.inputs (settled-inputs purpose.Release (demo_files seed records) job_name settled is)) in
    let bytes : job_text ≡ read.0 = ok-is (sym (held seed records) ∙ read.1) in
    let job : Ok demo_job ≡ Ok described.job = sym (ap (map_fault job_fault) job-is) ∙ ap (λ (text : List ℕ). map_fault job_fault (job_of text)) bytes ∙ for-release read.0 described.job read.2 in
    ok-is job

-- it names no file for contributors
pub demo-names-none : (seed records : ℕ) (settled : SettledInputs) → settled_of purpose.Release (demo_files seed records) job_name ≡ Ok settled → settled.inputs.described.job.contributors ≡ None
demo-names-none seed records settled is = ap (λ (one : Job). one.contributors) (sym (demo-reads seed records settled is))

-- and it hides
pub demo-hides : (seed records : ℕ) (settled : SettledInputs) → settled_of purpose.Release (demo_files seed records) job_name ≡ Ok settled → job_base settled.inputs.described ≡ None
demo-hides seed records settled is =
    ap (λ (one : Job). base_in_units one.method settled.inputs.described.bound.decimals) (sym (demo-reads seed records settled is))

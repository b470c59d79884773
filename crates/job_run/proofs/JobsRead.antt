-- What of a job was read, where its settled inputs were.
use Rattle.std.proofs.Common.{◌≡◌, ℕ, List, Result, Ok, Err, ap, sym, subst, ◌∙◌}
use Rattle.sdc_base.proofs.StepLemmas.{bind_ok}
use Rattle.sdc_base.specs.Steps.{map_fault, refuse}
use Rattle.job_lang.specs.Binding.{bound_of, places_of, unless_fault}
use Rattle.job_lang.specs.BindingFaults.{earliest_fault}
use Rattle.job_lang.specs.Jobs.{job_of}
use Rattle.job_lang.specs.declared.faults.JobWhy.TheVariants.{BadValue}
use Rattle.job_lang.specs.declared.bound.Bound.{Bound}
use Rattle.job_lang.specs.declared.job.Job.{Job}
use Rattle.linked_tables.specs.Tables.{book_with_depths}
use Rattle.office_io.specs.Files.{Files}
use Rattle.rda_meta.specs.Metadata.{meta_of}
use Rattle.rda_meta.specs.declared.meta.Meta.{Meta}
use Rattle.job_inputs.specs.Cells.{cells_fault}
use Rattle.job_inputs.specs.CodeSources.{spanning_fields}
use Rattle.job_inputs.specs.Inputs.{inputs_of, described_of, job_for, look_at_records}
use Rattle.job_inputs.specs.Layouts.{layout_of}
use Rattle.job_inputs.specs.PriorStatements.{priors_of}
use Rattle.job_inputs.specs.Purposes.{is_unfit}
use Rattle.job_inputs.specs.ReadFiles.{bytes_of_file, job_fault, meta_fault}
use Rattle.job_inputs.specs.ClassifiedJobs.{SettledInputs, settled_of, settled_cells, overwrites_job}
use Rattle.job_inputs.specs.declared.described.DescribedJob.{DescribedJob}
use Rattle.job_inputs.specs.declared.faults.Fault.TheVariants as fault
use Rattle.job_inputs.specs.declared.file_ref.FileRef.TheVariants as file
use Rattle.job_inputs.specs.declared.inputs.Inputs.{Inputs}
use Rattle.job_inputs.specs.declared.purpose.Purpose.TheVariants as purpose

-- what settled inputs are made of was read
pub inputs-read : (files : Files) (name : List ℕ) (settled : SettledInputs) → settled_of purpose.Release files name ≡ Ok settled → inputs_of purpose.Release files name ≡ Ok settled.inputs
unfolding settled_of
inputs-read files name settled h =
    let inputs = bind_ok (inputs_of purpose.Release files name) _ settled h in
    let linked = bind_ok (map_fault cells_fault (book_with_depths inputs.0.records.trees inputs.0.described.bound.tables)) _ settled inputs.2 in
    let priors = bind_ok (priors_of files inputs.0) _ settled linked.2 in
    let cells = bind_ok (settled_cells inputs.0 priors.0) _ settled priors.2 in
    let fine = bind_ok (refuse fault.OutName (overwrites_job name inputs.0.described.job)) _ settled cells.2 in
    let same : record { inputs = inputs.0; priors = priors.0; cells = cells.0 } ≡ settled = cc in
    inputs.1 ∙ ap (λ (s : SettledInputs). Ok s.inputs) same

pub described-read : (files : Files) (name : List ℕ) (inputs : Inputs) → inputs_of purpose.Release files name ≡ Ok inputs → described_of purpose.Release files name ≡ Ok inputs.described
unfolding inputs_of
described-read files name inputs h =
    let described = bind_ok (described_of purpose.Release files name) _ inputs h in
    let fields = bind_ok (spanning_fields files described.0) _ inputs described.2 in
    let records = bind_ok (look_at_records files described.0.job.micro (layout_of described.0.meta.variables described.0.bound fields.0)) _ inputs fields.2 in
    let same : record { described = described.0; records = records.0 } ≡ inputs = cc in
    described.1 ∙ ap (λ (one : Inputs). Ok one.described) same

pub no-fault : {A F G : Type 0} (view : F → G) (r : Result A F) (x : A) → map_fault view r ≡ Ok x → r ≡ Ok x
no-fault view (Ok y) x h = let same : y ≡ x = cc in ap Ok same
no-fault view (Err e) x h = absurd cc

pub job-stated : (bytes : List ℕ) (job : Job) → job_for purpose.Release bytes ≡ Ok job → job_of bytes ≡ Ok job
unfolding job_for
job-stated bytes job h =
    let stated = bind_ok (map_fault job_fault (job_of bytes)) _ job h in
    let fit = bind_ok (refuse (fault.Job 0 BadValue) (is_unfit purpose.Release stated.0.method)) (λ (u : Unit {0}). Ok stated.0) job stated.2 in
    let same : stated.0 ≡ job = cc in
    no-fault job_fault (job_of bytes) stated.0 stated.1 ∙ ap Ok same

pub job-read : (files : Files) (name : List ℕ) (described : DescribedJob) → described_of purpose.Release files name ≡ Ok described → (bytes : List ℕ) × (job_of bytes ≡ Ok described.job)
unfolding described_of
job-read files name described h =
    let bytes = bind_ok (bytes_of_file files name file.Job) _ described h in
    let job = bind_ok (job_for purpose.Release bytes.0) _ described bytes.2 in
    let text = bind_ok (bytes_of_file files job.0.meta file.Metadata) _ described job.2 in
    let meta = bind_ok (map_fault meta_fault (meta_of text.0)) _ described text.2 in
    let bound = bind_ok (map_fault job_fault (bound_of job.0 meta.0)) _ described meta.2 in
    let same : record { job = job.0; meta = meta.0; bound = bound.0 } ≡ described = cc in
    (bytes.0, job-stated bytes.0 job.0 job.1 ∙ ap (λ (one : DescribedJob). Ok one.job) same)

pub bound-read : (files : Files) (name : List ℕ) (described : DescribedJob) → described_of purpose.Release files name ≡ Ok described → bound_of described.job described.meta ≡ Ok described.bound
unfolding described_of
bound-read files name described h =
    let bytes = bind_ok (bytes_of_file files name file.Job) _ described h in
    let job = bind_ok (job_for purpose.Release bytes.0) _ described bytes.2 in
    let text = bind_ok (bytes_of_file files job.0.meta file.Metadata) _ described job.2 in
    let meta = bind_ok (map_fault meta_fault (meta_of text.0)) _ described text.2 in
    let bound = bind_ok (map_fault job_fault (bound_of job.0 meta.0)) _ described meta.2 in
    let same : record { job = job.0; meta = meta.0; bound = bound.0 } ≡ described = cc in
    subst (λ (one : DescribedJob). bound_of one.job one.meta ≡ Ok one.bound) same (no-fault job_fault (bound_of job.0 meta.0) bound.0 bound.1)

pub places-are : (job : Job) (meta : Meta) (bound : Bound) → bound_of job meta ≡ Ok bound → bound ≡ places_of job meta.variables
unfolding bound_of
places-are job meta bound h =
    let fine = bind_ok (unless_fault (earliest_fault job meta.variables)) _ bound h in
    let same : places_of job meta.variables ≡ bound = cc in
    sym same

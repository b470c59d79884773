-- All inputs of a job, step by step.
use Rattle.std.proofs.Common.{◌≡◌, ℕ, List, Option, Ok, refl}
use Rattle.sdc_base.specs.Answers.{Fails}
use Rattle.office_io.specs.Files.{Files}
use Rattle.microdata.specs.declared.layout.Field.{Field}
use Rattle.microdata.specs.declared.layout.Layout.{Layout}
use Rattle.microdata.specs.declared.records.Records.{Records}
use Rattle.job_inputs.proofs.Refusing.{fails-on}
use Rattle.job_inputs.specs.Inputs.{described_of, look_at_records, inputs_of}
use Rattle.job_inputs.specs.CodeSources.{fields_of, spanning_variables}
use Rattle.job_inputs.specs.Layouts.{layout_of}
use Rattle.job_inputs.specs.declared.described.DescribedJob.{DescribedJob}
use Rattle.job_inputs.specs.declared.faults.Fault.{Fault}
use Rattle.job_inputs.specs.declared.purpose.Purpose.{Purpose}

pub described-stops-all : (purpose : Purpose) (files : Files) (name : List ℕ) (o : Option Fault) → Fails o (described_of purpose files name) → Fails o (inputs_of purpose files name)
unfolding inputs_of
described-stops-all purpose files name o h = fails-on o (described_of purpose files name) _ h

pub fields-stop-all : (purpose : Purpose) (files : Files) (name : List ℕ) (described : DescribedJob) (o : Option Fault) → described_of purpose files name ≡ Ok described → Fails o (fields_of files (spanning_variables described)) → Fails o (inputs_of purpose files name)
unfolding inputs_of
fields-stop-all purpose files name described o read h = rw read (fails-on o (fields_of files (spanning_variables described)) _ h)

pub records-stop-all : (purpose : Purpose) (files : Files) (name : List ℕ) (described : DescribedJob) (fields : List Field) (layout : Layout) (o : Option Fault) → described_of purpose files name ≡ Ok described → fields_of files (spanning_variables described) ≡ Ok fields
    → layout ≡ layout_of described.meta.variables described.bound fields → Fails o (look_at_records files described.job.micro layout) → Fails o (inputs_of purpose files name)
unfolding inputs_of
records-stop-all purpose files name described fields layout o read laid is h = rw (read, laid, ← is) (fails-on o (look_at_records files described.job.micro layout) _ h)

pub inputs-are : (purpose : Purpose) (files : Files) (name : List ℕ) (described : DescribedJob) (fields : List Field) (layout : Layout) (records : Records) → described_of purpose files name ≡ Ok described → fields_of files (spanning_variables described) ≡ Ok fields
    → layout ≡ layout_of described.meta.variables described.bound fields → look_at_records files described.job.micro layout ≡ Ok records → inputs_of purpose files name ≡ Ok (record { described = described; records = records })
unfolding inputs_of
inputs-are purpose files name described fields layout records read laid is found = rw (read, laid, ← is, found) refl

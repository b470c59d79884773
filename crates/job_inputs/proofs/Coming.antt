-- To which file a run came.
use Rattle.std.proofs.Common.{◌≡◌, ℕ, List, Some, Result, Ok, Err, IsOk, refl, ap, sym, ◌∙◌}
use Rattle.sdc_base.specs.Steps.{map_fault}
use Rattle.sdc_base.specs.Trees.{Tree}
use Rattle.sdc_base.specs.declared.dimension.Dimension.{Dimension}
use Rattle.linked_tables.specs.Tables.{book_with_depths}
use Rattle.office_io.specs.Files.{Files}
use Rattle.rda_meta.specs.declared.meta.Shape.{Shape}
use Rattle.rda_meta.specs.declared.meta.Shape.TheVariants as shape
use Rattle.rda_meta.specs.declared.meta.Variable.{Variable}
use Rattle.microdata.specs.declared.layout.Field.{Field}
use Rattle.job_inputs.specs.Inputs.{described_of, inputs_of}
use Rattle.job_inputs.specs.CodeSources.{codes_in, fields_of, spanning_variables}
use Rattle.job_inputs.specs.Cells.{cells_fault}
use Rattle.job_inputs.specs.declared.inputs.Inputs.{Inputs}
use Rattle.job_inputs.specs.Looks.{IsFile, IsListedIn, IsHierarchyOf, IsCodeListOf, FieldComesTo, FieldsComeTo, ComesFirstTo, StatementsComeTo, InputsComeTo}
use Rattle.job_inputs.specs.declared.described.DescribedJob.{DescribedJob}
use Rattle.job_inputs.specs.declared.file_ref.FileRef.{FileRef}
use Rattle.job_inputs.specs.declared.file_ref.FileRef.TheVariants as file
use Rattle.job_inputs.specs.declared.purpose.Purpose.{Purpose}

was-ok : {A E F : Type 0} (f : E → F) (r : Result A E) (x : A) → map_fault f r ≡ Ok x → IsOk r
was-ok f (Ok y) x h = refl
was-ok f (Err e) x h = absurd cc

-- the hierarchy file of a variable is the one on its line of the metadata
pub listed-comes : (place : ℕ) (name lead : List ℕ) (s : Shape) (f : FileRef) (held : List ℕ) → s ≡ shape.Listed name lead → IsFile (file.Hierarchy place) name f held → IsHierarchyOf place s f held
listed-comes place name lead s f held is comes = rw is (record { is_file = comes.is_file; listed = comes.is_name })

-- so is the code list
pub list-comes : (place : ℕ) (v : Variable) (name : List ℕ) (f : FileRef) (held : List ℕ) → v.codes ≡ Some name → IsFile (file.CodeList place) name f held → IsCodeListOf place v f held
list-comes place v name f held is comes = record { is_file = comes.is_file; is_name = is ∙ ap Some (sym comes.is_name) }

pub comes-to-list : (files : Files) (place : ℕ) (variable : Variable) (f : FileRef) (held : List ℕ) → f ≡ file.CodeList place → variable.codes ≡ Some held → FieldComesTo files place variable f held
comes-to-list files place variable f held is named = rw is (refl, named)

pub comes-to-hierarchy : (files : Files) (place : ℕ) (variable : Variable) (f : FileRef) (held : List ℕ) (codes : List (List ℕ)) → codes_in files place variable.total variable.codes ≡ Ok codes
    → f ≡ file.Hierarchy place → IsListedIn held variable.shape → FieldComesTo files place variable f held
comes-to-hierarchy files place variable f held codes read is listed = rw is (refl, rw read refl, listed)

pub first-comes : (purpose : Purpose) (files : Files) (name : List ℕ) (f : FileRef) (held : List ℕ) → ComesFirstTo purpose files name f held → InputsComeTo purpose files name f held
first-comes purpose files name file.Job held h = h
first-comes purpose files name file.Metadata held h = h
first-comes purpose files name (file.CodeList at) held h = absurd h
first-comes purpose files name (file.Hierarchy at) held h = absurd h
first-comes purpose files name file.Microdata held h = absurd h
first-comes purpose files name (file.Apriori t) held h = absurd h
first-comes purpose files name file.Certificate held h = absurd h
first-comes purpose files name file.Contributors held h = absurd h
first-comes purpose files name (file.Table t) held h = absurd h
first-comes purpose files name file.Out held h = absurd h

pub fields-come-to : (purpose : Purpose) (files : Files) (name : List ℕ) (described : DescribedJob) (f : FileRef) (held : List ℕ) → described_of purpose files name ≡ Ok described → FieldsComeTo files (spanning_variables described) f held → InputsComeTo purpose files name f held
fields-come-to purpose files name described file.Job held read h = absurd h.comes
fields-come-to purpose files name described file.Metadata held read h = absurd h.comes
fields-come-to purpose files name described (file.CodeList at) held read h = (described, read, h)
fields-come-to purpose files name described (file.Hierarchy at) held read h = (described, read, h)
fields-come-to purpose files name described file.Microdata held read h = absurd h.comes
fields-come-to purpose files name described (file.Apriori t) held read h = absurd h.comes
fields-come-to purpose files name described file.Certificate held read h = absurd h.comes
fields-come-to purpose files name described file.Contributors held read h = absurd h.comes
fields-come-to purpose files name described (file.Table t) held read h = absurd h.comes
fields-come-to purpose files name described file.Out held read h = absurd h.comes

pub microdata-comes : (purpose : Purpose) (files : Files) (name : List ℕ) (described : DescribedJob) (fields : List Field) (f : FileRef) (held : List ℕ) → described_of purpose files name ≡ Ok described → fields_of files (spanning_variables described) ≡ Ok fields
    → IsFile file.Microdata described.job.micro f held → InputsComeTo purpose files name f held
microdata-comes purpose files name described fields f held read laid comes = rw comes.is_file (described, read, rw laid refl, comes.is_name)

pub statements-come : (purpose : Purpose) (files : Files) (name : List ℕ) (inputs : Inputs) (given : List Tree × List (List Dimension)) (f : FileRef) (t : ℕ) (held : List ℕ) → f ≡ file.Apriori t → inputs_of purpose files name ≡ Ok inputs
    → map_fault cells_fault (book_with_depths inputs.records.trees inputs.described.bound.tables) ≡ Ok given → StatementsComeTo files inputs t held → InputsComeTo purpose files name f held
statements-come purpose files name inputs given f t held is read linked comes = rw is (inputs, read, was-ok cells_fault (book_with_depths inputs.records.trees inputs.described.bound.tables) given linked, comes)

-- The settled inputs of a job with its tables, step by step.
use Rattle.std.proofs.Common.{◌≡◌, ℕ, Bool, true, false, List, Option, Result, Ok, Err, IsOkAnd, refl, ap, sym, subst, ◌∙◌}
use Rattle.sdc_base.specs.Answers.{Fails}
use Rattle.sdc_base.specs.Steps.{refuse}
use Rattle.office_io.specs.Files.{Files}
use Rattle.job_inputs.proofs.Refusing.{fails-on}
use Rattle.job_inputs.specs.Looks.{InputsComeTo}
use Rattle.job_inputs.specs.ClassifiedJobs.{SettledInputs, settled_of}
use Rattle.job_inputs.specs.Tables.{tables_of, TablesComeTo, ComesToTables}
use Rattle.job_inputs.specs.declared.described.DescribedJob.{DescribedJob}
use Rattle.job_inputs.specs.declared.faults.Fault.{Fault}
use Rattle.job_inputs.specs.declared.faults.Fault.TheVariants as fault
use Rattle.job_inputs.specs.declared.file_ref.FileRef.{FileRef}
use Rattle.job_inputs.specs.declared.file_ref.FileRef.TheVariants as file
use Rattle.job_inputs.specs.declared.purpose.Purpose.{Purpose}
use Rattle.published_tables.specs.OutNames.{overwrites}
use Rattle.published_tables.specs.TablesOnShelf.{shelved_for, ComesFor}

-- a value that has a property, where there is one
pub ok_and : {A F : Type 0} (P : A → Type 0) (o : Result A F) → IsOkAnd o P → (x : A) × (o ≡ Ok x) × P x
ok_and P (Ok x) h = (x, refl, h)
ok_and P (Err f) h = absurd h

-- ---- what the told files come to

-- what stops the inputs stops all
pub settled_fails : (purpose : Purpose) (files : Files) (name out : List ℕ) (o : Option Fault) → Fails o (settled_of purpose files name) → Fails o (shelved_for purpose files name out)
unfolding shelved_for
settled_fails purpose files name out o h = fails-on o (settled_of purpose files name) _ h

-- and so does a put that would overwrite a file of the job
pub out_fails : (purpose : Purpose) (files : Files) (name out : List ℕ) (settled : SettledInputs) (reason : Fault) → settled_of purpose files name ≡ Ok settled → refuse fault.OutName (overwrites name out settled.inputs.described) ≡ Err reason → shelved_for purpose files name out ≡ Err reason
unfolding shelved_for
out_fails purpose files name out settled reason read wrong = rw (read, wrong) refl

-- and a fault of the tables' files
pub tables_fail : (purpose : Purpose) (files : Files) (name out : List ℕ) (settled : SettledInputs) (o : Option Fault) → settled_of purpose files name ≡ Ok settled → refuse fault.OutName (overwrites name out settled.inputs.described) ≡ Ok tt
    → Fails o (tables_of files settled.inputs.described.job) → Fails o (shelved_for purpose files name out)
unfolding shelved_for
tables_fail purpose files name out settled o read fine h = rw (read, fine) (fails-on o (tables_of files settled.inputs.described.job) _ h)

-- inputs and tables are all that there is
pub shelved_is : (purpose : Purpose) (files : Files) (name out : List ℕ) (settled : SettledInputs) (tables : List (List ℕ)) → settled_of purpose files name ≡ Ok settled → refuse fault.OutName (overwrites name out settled.inputs.described) ≡ Ok tt
    → tables_of files settled.inputs.described.job ≡ Ok tables → shelved_for purpose files name out ≡ Ok (record { settled = settled; tables = tables })
unfolding shelved_for
shelved_is purpose files name out settled tables read fine are = rw (read, fine, are) refl

-- the name of the file to be put is looked at alike for the job that was read and for the told one
pub out_same : (name out : List ℕ) (one other : DescribedJob) (looked : Result (Unit {0}) Fault) → looked ≡ refuse fault.OutName (overwrites name out one) → one ≡ other → refuse fault.OutName (overwrites name out other) ≡ looked
out_same name out one other looked is same = sym (is ∙ ap (λ (d : DescribedJob). refuse fault.OutName (overwrites name out d)) same)

-- ---- to which file the run came

not_refused : (reason : Fault) (b : Bool) → refuse reason b ≡ Ok tt → b ≡ false
not_refused reason true h = absurd cc
not_refused reason false h = refl

-- a file of the inputs is one of all
pub input_comes : (purpose : Purpose) (files : Files) (name out : List ℕ) (f : FileRef) (held : List ℕ) → InputsComeTo purpose files name f held → ComesFor purpose files name out f held
input_comes purpose files name out file.Job held h = h
input_comes purpose files name out file.Metadata held h = h
input_comes purpose files name out (file.CodeList at) held h = h
input_comes purpose files name out (file.Hierarchy at) held h = h
input_comes purpose files name out file.Microdata held h = h
input_comes purpose files name out (file.Apriori t) held h = h
input_comes purpose files name out file.Certificate held h = h
input_comes purpose files name out file.Contributors held h = h
input_comes purpose files name out (file.Table t) held h = absurd h
input_comes purpose files name out file.Out held h = h

table_at : (purpose : Purpose) (files : Files) (name out : List ℕ) (settled : SettledInputs) (t : ℕ) (f : FileRef) (held : List ℕ) → settled_of purpose files name ≡ Ok settled → refuse fault.OutName (overwrites name out settled.inputs.described) ≡ Ok tt
    → f ≡ file.Table t → TablesComeTo files settled.inputs.described.job t held → ComesFor purpose files name out f held
table_at purpose files name out settled t f held read fine is comes =
    rw is (record { settled = settled; read = read; overwrites_none = not_refused fault.OutName (overwrites name out settled.inputs.described) fine; comes = comes })

-- and so is a table, where the inputs and the name of the file to be put have no fault
pub table_comes : (purpose : Purpose) (files : Files) (name out : List ℕ) (settled : SettledInputs) (described : DescribedJob) (f : FileRef) (held : List ℕ) → settled_of purpose files name ≡ Ok settled → refuse fault.OutName (overwrites name out settled.inputs.described) ≡ Ok tt
    → described ≡ settled.inputs.described → ComesToTables files described.job f held → ComesFor purpose files name out f held
table_comes purpose files name out settled described f held read fine is comes =
    table_at purpose files name out settled comes.0 f held read fine comes.1 (subst (λ (d : DescribedJob). TablesComeTo files d.job comes.0 held) is comes.2)

-- The tables that stand under the names of a job, one after another.
use Rattle.std.proofs.Common.{◌≡◌, ℕ, zero, suc, ◌+◌, List, [], ◌∷◌, ◌++◌, take, Option, None, Some, Result, Ok, Err, refl, ap, sym, subst, ◌∙◌, arith, add-one}
use Rattle.std.specs.Prelude.{slice_get}
use Rattle.sdc_base.specs.Answers.{Fails}
use Rattle.sdc_base.specs.Steps.{◌>>=◌}
use Rattle.sdc_base.proofs.StepLemmas.{bind_ok}
use Rattle.job_lang.specs.declared.job.Job.{Job}
use Rattle.job_lang.specs.declared.job.OutputLine.{OutputLine}
use Rattle.office_io.specs.Files.{Files}
use Rattle.job_inputs.specs.ReadFiles.{bytes_of_file}
use Rattle.job_inputs.specs.Tables.{tables_from, tables_of, TablesComeTo}
use Rattle.job_inputs.specs.declared.faults.Fault.{Fault}
use Rattle.job_inputs.specs.declared.file_ref.FileRef.TheVariants as file

both : (a : Result (List ℕ) Fault) (rest : Result (List (List ℕ)) Fault) (x : List ℕ) (xs : List (List ℕ)) → a ≡ Ok x → rest ≡ Ok xs → (a >>= (λ bytes. rest >>= (λ tables. Ok (bytes ∷ tables)))) ≡ Ok (x ∷ xs)
both a rest x xs one more = rw (one, more) refl

stopped-later : (a : Result (List ℕ) Fault) (rest : Result (List (List ℕ)) Fault) (x : List ℕ) (f : Fault) → a ≡ Ok x → rest ≡ Err f → (a >>= (λ bytes. rest >>= (λ tables. Ok (bytes ∷ tables)))) ≡ Err f
stopped-later a rest x f one more = rw (one, more) refl

one-more : (files : Files) (from t : ℕ) (outputs : List OutputLine) (output : OutputLine) (tables : List (List ℕ)) (bytes : List ℕ) → slice_get outputs t ≡ Some output
    → tables_from files from (take t outputs) ≡ Ok tables → bytes_of_file files output.file (file.Table (from + t)) ≡ Ok bytes → tables_from files from (take (suc t) outputs) ≡ Ok (tables ++ bytes ∷ [])
unfolding tables_from
one-more files from t [] output tables bytes is before next = absurd cc
one-more files from zero (first ∷ outputs) output tables bytes is before next =
    let same : first ≡ output = cc in
    let none : [] ≡ tables = cc in
    let here : from + 0 ≡ from = omega arith in
    let read = subst (λ (k : ℕ). bytes_of_file files first.file (file.Table k) ≡ Ok bytes) here (subst (λ (o : OutputLine). bytes_of_file files o.file (file.Table (from + 0)) ≡ Ok bytes) (sym same) next) in
    rw (read, ← none) refl
one-more files from (suc t) (first ∷ outputs) output tables bytes is before next =
    let here : from + suc t ≡ (from + 1) + t = omega arith in
    let a = bind_ok (bytes_of_file files first.file (file.Table from)) _ tables before in
    let b = bind_ok (tables_from files (from + 1) (take t outputs)) _ tables a.2 in
    let made : a.0 ∷ b.0 ≡ tables = cc in
    both (bytes_of_file files first.file (file.Table from)) (tables_from files (from + 1) (take (suc t) outputs)) a.0 (b.0 ++ bytes ∷ []) a.1
    (one-more files (from + 1) t outputs output b.0 bytes is b.1 (subst (λ (k : ℕ). bytes_of_file files output.file (file.Table k) ≡ Ok bytes) here next))
    ∙ ap (λ (xs : List (List ℕ)). Ok (xs ++ bytes ∷ [])) made

one-stops : (files : Files) (from t : ℕ) (outputs : List OutputLine) (output : OutputLine) (tables : List (List ℕ)) (f : Fault) → slice_get outputs t ≡ Some output
    → tables_from files from (take t outputs) ≡ Ok tables → bytes_of_file files output.file (file.Table (from + t)) ≡ Err f → tables_from files from outputs ≡ Err f
unfolding tables_from
one-stops files from t [] output tables f is before stops = absurd cc
one-stops files from zero (first ∷ outputs) output tables f is before stops =
    let same : first ≡ output = cc in
    let here : from + 0 ≡ from = omega arith in
    let read = subst (λ (k : ℕ). bytes_of_file files first.file (file.Table k) ≡ Err f) here (subst (λ (o : OutputLine). bytes_of_file files o.file (file.Table (from + 0)) ≡ Err f) (sym same) stops) in
    rw read refl
one-stops files from (suc t) (first ∷ outputs) output tables f is before stops =
    let here : from + suc t ≡ (from + 1) + t = omega arith in
    let a = bind_ok (bytes_of_file files first.file (file.Table from)) _ tables before in
    let b = bind_ok (tables_from files (from + 1) (take t outputs)) _ tables a.2 in
    stopped-later (bytes_of_file files first.file (file.Table from)) (tables_from files (from + 1) outputs) a.0 f a.1
    (one-stops files (from + 1) t outputs output b.0 f is b.1 (subst (λ (k : ℕ). bytes_of_file files output.file (file.Table k) ≡ Err f) here stops))

-- before the first output nothing is read
pub tables-none : (files : Files) (outputs : List OutputLine) (tables : List (List ℕ)) → tables ≡ [] → tables_from files 0 (take 0 outputs) ≡ Ok tables
unfolding tables_from
tables-none files outputs tables none = ap Ok (sym none)

-- the table of one output more
pub tables-more : (files : Files) (outputs : List OutputLine) (t : ℕ) (output : OutputLine) (tables : List (List ℕ)) (bytes : List ℕ) → slice_get outputs t ≡ Some output
    → tables_from files 0 (take t outputs) ≡ Ok tables → bytes_of_file files output.file (file.Table t) ≡ Ok bytes → tables_from files 0 (take (t + 1) outputs) ≡ Ok (tables ++ bytes ∷ [])
tables-more files outputs t output tables bytes is before next =
    let here : 0 + t ≡ t = omega arith in
    rw add-one (one-more files 0 t outputs output tables bytes is before (rw here next))

-- what stops one table stops all
pub tables-stop : (files : Files) (job : Job) (t : ℕ) (output : OutputLine) (tables : List (List ℕ)) (o : Option Fault) → slice_get job.outputs t ≡ Some output
    → tables_from files 0 (take t job.outputs) ≡ Ok tables → Fails o (bytes_of_file files output.file (file.Table t)) → Fails o (tables_of files job)
tables-stop files job t output tables None is before stops = tt
tables-stop files job t output tables (Some f) is before stops =
    let here : 0 + t ≡ t = omega arith in
    one-stops files 0 t job.outputs output tables f is before (rw here stops)

-- a table is looked at where those before it have no fault
pub tables-come : (files : Files) (job : Job) (t : ℕ) (output : OutputLine) (tables : List (List ℕ)) (held : List ℕ) → slice_get job.outputs t ≡ Some output
    → tables_from files 0 (take t job.outputs) ≡ Ok tables → held ≡ output.file → TablesComeTo files job t held
tables-come files job t output tables held is before named = record { output = output; stands = is; before = rw before refl; names = named }

-- The fields of variables, one after another.
use Rattle.std.proofs.Common.{◌≡◌, ℕ, zero, suc, ◌+◌, ◌<◌, Bool, List, [], ◌∷◌, ◌++◌, length, take, drop, Option, None, Some, Result, Ok, Err, refl, ap, sym, ◌∙◌, arith, add-one}
use Rattle.std.specs.Prelude.{slice_get, slice_index_or}
use Rattle.std.specs.List.{AllByRecursion}
use Rattle.sdc_base.specs.Answers.{Fails}
use Rattle.sdc_base.specs.Steps.{◌>>=◌}
use Rattle.sdc_base.proofs.StepLemmas.{bind_ok}
use Rattle.office_io.specs.Files.{Files}
use Rattle.rda_meta.specs.declared.meta.Variable.{Variable}
use Rattle.job_lang.specs.BoundLimits.{IsNumericAt}
use Rattle.microdata.specs.declared.layout.Field.{Field}
use Rattle.microdata.specs.declared.layout.Source.{Source}
use Rattle.job_inputs.proofs.Placing.{get-within}
use Rattle.job_inputs.specs.Layouts.{with_variable, variables_at}
use Rattle.job_inputs.proofs.Refusing.{fails-on}
use Rattle.job_inputs.specs.CodeSources.{codes_in, source_of, field_of, fields_of}
use Rattle.job_inputs.specs.Looks.{FieldComesTo, FieldsComeTo}
use Rattle.job_inputs.specs.declared.file_ref.FileRef.{FileRef}
use Rattle.job_inputs.specs.declared.faults.Fault.{Fault}

-- a place that a bound job has is one of the metadata
pub known : (numeric : Bool) (variables : List Variable) (places : List ℕ) (i : ℕ) → AllByRecursion (IsNumericAt numeric variables) places → i < length places → slice_index_or places i 0 < length variables
known numeric variables [] i all inside = absurd (omega (arith, inside))
known numeric variables (place ∷ places) zero all inside = get-within variables place all.0.0 all.0.1
known numeric variables (place ∷ places) (suc i) all inside = known numeric variables places i all.1 (omega (arith, inside))

with-front : (place : ℕ) (o : Option Variable) (xs ys : List (ℕ × Variable)) → with_variable place o (xs ++ ys) ≡ with_variable place o xs ++ ys
with-front place None xs ys = refl
with-front place (Some v) xs ys = refl

-- the variables, cut at one of them
pub variables-cut : (variables : List Variable) (places : List ℕ) (i : ℕ) (v : Variable) → i < length places → slice_get variables (slice_index_or places i 0) ≡ Some v
    → variables_at variables places ≡ variables_at variables (take i places) ++ (slice_index_or places i 0, v) ∷ variables_at variables (drop (suc i) places)
variables-cut variables [] i v inside is = absurd (omega (arith, inside))
variables-cut variables (place ∷ places) zero v inside is = rw is refl
variables-cut variables (place ∷ places) (suc i) v inside is =
    let rest = variables-cut variables places i v (omega (arith, inside)) is in
    ap (with_variable place (slice_get variables place)) rest ∙ with-front place (slice_get variables place) (variables_at variables (take i places)) ((slice_index_or places i 0, v) ∷ variables_at variables (drop (suc i) places))

-- one variable more
pub variables-more : (variables : List Variable) (places : List ℕ) (i : ℕ) (v : Variable) → i < length places → slice_get variables (slice_index_or places i 0) ≡ Some v
    → variables_at variables (take (suc i) places) ≡ variables_at variables (take i places) ++ (slice_index_or places i 0, v) ∷ []
variables-more variables [] i v inside is = absurd (omega (arith, inside))
variables-more variables (place ∷ places) zero v inside is = rw is refl
variables-more variables (place ∷ places) (suc i) v inside is =
    let rest = variables-more variables places i v (omega (arith, inside)) is in
    ap (with_variable place (slice_get variables place)) rest ∙ with-front place (slice_get variables place) (variables_at variables (take i places)) ((slice_index_or places i 0, v) ∷ [])

-- a step and the next, both with values
both : (a : Result Field Fault) (rest : Result (List Field) Fault) (x : Field) (xs : List Field) → a ≡ Ok x → rest ≡ Ok xs → (a >>= (λ field. rest >>= (λ fields. Ok (field ∷ fields)))) ≡ Ok (x ∷ xs)
both a rest x xs one more = rw (one, more) refl

one-more : (files : Files) (before : List (ℕ × Variable)) (fields : List Field) (one : ℕ × Variable) (field : Field) → fields_of files before ≡ Ok fields → field_of files one.0 one.1 ≡ Ok field
    → fields_of files (before ++ one ∷ []) ≡ Ok (fields ++ field ∷ [])
unfolding fields_of
one-more files [] fields one field read next = let none : [] ≡ fields = cc in rw (next, ← none) refl
one-more files (first ∷ before) fields one field read next =
    let a = bind_ok (field_of files first.0 first.1) _ fields read in
    let b = bind_ok (fields_of files before) _ fields a.2 in
    let made : a.0 ∷ b.0 ≡ fields = cc in
    both (field_of files first.0 first.1) (fields_of files (before ++ one ∷ [])) a.0 (b.0 ++ field ∷ []) a.1 (one-more files before b.0 one field b.1 next) ∙ ap (λ (xs : List Field). Ok (xs ++ field ∷ [])) made

stopped-later : (a : Result Field Fault) (rest : Result (List Field) Fault) (x : Field) (fault : Fault) → a ≡ Ok x → rest ≡ Err fault → (a >>= (λ field. rest >>= (λ fields. Ok (field ∷ fields)))) ≡ Err fault
stopped-later a rest x fault one more = rw (one, more) refl

one-stops : (files : Files) (before : List (ℕ × Variable)) (fields : List Field) (one : ℕ × Variable) (behind : List (ℕ × Variable)) (fault : Fault) → fields_of files before ≡ Ok fields → field_of files one.0 one.1 ≡ Err fault
    → fields_of files (before ++ one ∷ behind) ≡ Err fault
unfolding fields_of
one-stops files [] fields one behind fault read stops = rw stops refl
one-stops files (first ∷ before) fields one behind fault read stops =
    let a = bind_ok (field_of files first.0 first.1) _ fields read in
    let b = bind_ok (fields_of files before) _ fields a.2 in
    stopped-later (field_of files first.0 first.1) (fields_of files (before ++ one ∷ behind)) a.0 fault a.1 (one-stops files before b.0 one behind fault b.1 stops)

-- the field of one variable more
pub fields-more : (files : Files) (variables : List Variable) (places : List ℕ) (i : ℕ) (v : Variable) (fields : List Field) (field : Field) → i < length places → slice_get variables (slice_index_or places i 0) ≡ Some v
    → fields_of files (variables_at variables (take i places)) ≡ Ok fields → field_of files (slice_index_or places i 0) v ≡ Ok field
    → fields_of files (variables_at variables (take (i + 1) places)) ≡ Ok (fields ++ field ∷ [])
fields-more files variables places i v fields field inside is read next =
    rw (add-one, variables-more variables places i v inside is) (one-more files (variables_at variables (take i places)) fields (slice_index_or places i 0, v) field read next)

-- what stops one variable stops all
pub fields-stop : (files : Files) (variables : List Variable) (places : List ℕ) (i : ℕ) (v : Variable) (fields : List Field) (o : Option Fault) → i < length places → slice_get variables (slice_index_or places i 0) ≡ Some v
    → fields_of files (variables_at variables (take i places)) ≡ Ok fields → Fails o (field_of files (slice_index_or places i 0) v)
    → Fails o (fields_of files (variables_at variables places))
fields-stop files variables places i v fields None inside is read stops = tt
fields-stop files variables places i v fields (Some fault) inside is read stops =
    rw (variables-cut variables places i v inside is) (one-stops files (variables_at variables (take i places)) fields (slice_index_or places i 0, v) (variables_at variables (drop (suc i) places)) fault read stops)

-- the file of one variable is one of all
pub fields-come : (files : Files) (variables : List Variable) (places : List ℕ) (i : ℕ) (v : Variable) (fields : List Field) (f : FileRef) (held : List ℕ) → i < length places → slice_get variables (slice_index_or places i 0) ≡ Some v
    → fields_of files (variables_at variables (take i places)) ≡ Ok fields → FieldComesTo files (slice_index_or places i 0) v f held
    → FieldsComeTo files (variables_at variables places) f held
fields-come files variables places i v fields f held inside is read comes = record {
  before = variables_at variables (take i places);
  one = (slice_index_or places i 0, v);
  behind = variables_at variables (drop (suc i) places);
  stands = variables-cut variables places i v inside is;
  no_fault_before = rw read refl;
  comes = comes;
}

pub fields-none : (files : Files) (variables : List Variable) (places : List ℕ) (fields : List Field) → fields ≡ [] → fields_of files (variables_at variables (take 0 places)) ≡ Ok fields
unfolding fields_of
fields-none files variables places fields none = ap Ok (sym none)

pub all-more : {X : Type 0} (P : X → Type 0) (xs : List X) (x : X) → AllByRecursion P xs → P x → AllByRecursion P (xs ++ x ∷ [])
all-more P [] x all h = (h, tt)
all-more P (y ∷ ys) x all h = (all.0, all-more P ys x all.1 h)

pub one-longer : {X : Type 0} (xs : List X) (x : X) (n : ℕ) → length xs ≡ n → length (xs ++ x ∷ []) ≡ n + 1
one-longer [] x n h = omega (arith, h)
one-longer (y ∷ ys) x n h = omega (arith, one-longer ys x (length ys) refl, h)

-- ---- one variable's files

-- what stops its code list stops its field
pub list-stops : (files : Files) (place : ℕ) (v : Variable) (o : Option Fault) → Fails o (codes_in files place v.total v.codes) → Fails o (field_of files place v)
unfolding field_of
list-stops files place v o h = fails-on o (codes_in files place v.total v.codes) _ h

-- and so does what stops the source of its codes
pub source-stops : (files : Files) (place : ℕ) (v : Variable) (codes : List (List ℕ)) (o : Option Fault) → codes_in files place v.total v.codes ≡ Ok codes → Fails o (source_of files place v codes v.shape) → Fails o (field_of files place v)
unfolding field_of
source-stops files place v codes o read h = rw read (fails-on o (source_of files place v codes v.shape) _ h)

-- its field, once its codes and their source are read
pub field-is : (files : Files) (place : ℕ) (v : Variable) (codes : List (List ℕ)) (source : Source) → codes_in files place v.total v.codes ≡ Ok codes → source_of files place v codes v.shape ≡ Ok source
    → field_of files place v ≡ Ok (record { first = v.first; width = v.width; source = source })
unfolding field_of
field-is files place v codes source read found = rw (read, found) refl

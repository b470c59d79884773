-- Files that agree but for what a job puts give the same inputs.
use Rattle.std.proofs.Common.{◌≡◌, ◌≢◌, ℕ, zero, suc, ◌+◌, ◌==◌, ◌||◌, Bool, true, false, if◌then◌else◌, List, [], ◌∷◌, ◌++◌, map, slice_get, Option, None, Some, Result, Ok, length, refl, ap, sym, subst, ◌∙◌, arith}
use Rattle.std.specs.List.{AllByRecursion, list_any}
use Rattle.std.specs.Str.{bytes_eq}
use Rattle.std.proofs.lemmas.Slice.Eq.{bytes_eq-Decides}
use Rattle.sdc_base.proofs.StepLemmas.{bind_ok, bind_same}
use Rattle.sdc_base.specs.Steps.{◌>>=◌, map_fault, refuse}
use Rattle.apriori.specs.declared.prior.Prior.{Prior}
use Rattle.job_lang.specs.Binding.{bound_of, places_from, places_of}
use Rattle.job_lang.specs.BindingFaults.{is_spanning}
use Rattle.job_lang.specs.FileLaws.{PutsAreNotRead, PutsAreNotNamed, codes_named, files_of, reads_of, tree_named, contributors_files, puts_of as names_put}
use Rattle.job_lang.specs.declared.bound.Bound.{Bound}
use Rattle.job_lang.specs.declared.job.Job.{Job}
use Rattle.job_lang.specs.declared.job.OutputLine.{OutputLine}
use Rattle.job_lang.specs.declared.job.PriorLine.{PriorLine}
use Rattle.job_lang.specs.declared.job.TableLine.{TableLine}
use Rattle.linked_tables.specs.Tables.{book_with_depths}
use Rattle.microdata.specs.declared.records.Records.{Records}
use Rattle.office_io.specs.Files.{Files}
use Rattle.rda_meta.specs.Metadata.{meta_of}
use Rattle.rda_meta.specs.declared.meta.Shape.{Shape}
use Rattle.rda_meta.specs.declared.meta.Shape.TheVariants as shape
use Rattle.rda_meta.specs.declared.meta.Variable.{Variable}
use Rattle.job_inputs.proofs.Describing.{described-is}
use Rattle.job_inputs.proofs.Laying.{inputs-are}
use Rattle.job_inputs.proofs.Settling.{settled-is}
use Rattle.job_inputs.specs.Cells.{cells_fault}
use Rattle.job_inputs.specs.CodeSources.{codes_in, field_of, fields_of, listed_codes, listed_tree, source_of, spanning_fields, spanning_variables}
use Rattle.job_inputs.specs.Inputs.{described_of, inputs_of, job_for, look_at_records, records_in}
use Rattle.job_inputs.specs.Layouts.{layout_of, variables_at}
use Rattle.job_inputs.specs.PriorStatements.{prior_line, priors_of, with_bytes, with_file, with_files}
use Rattle.job_inputs.specs.ReadFiles.{bytes_of_file, job_fault, meta_fault, whole_file}
use Rattle.job_inputs.specs.ClassifiedJobs.{SettledInputs, is_contributors_file, overwrites_job, settled_cells, settled_of}
use Rattle.job_inputs.specs.declared.described.DescribedJob.{DescribedJob}
use Rattle.job_inputs.specs.declared.faults.Fault.{Fault}
use Rattle.job_inputs.specs.declared.faults.Fault.TheVariants as fault
use Rattle.job_inputs.specs.declared.file_ref.FileRef.{FileRef}
use Rattle.job_inputs.specs.declared.file_ref.FileRef.TheVariants as file
use Rattle.job_inputs.specs.declared.inputs.Inputs.{Inputs}
use Rattle.job_inputs.specs.declared.purpose.Purpose.TheVariants as purpose
use Rattle.job_run.proofs.SecondRuns.{apart-name, neither}
use Rattle.job_run.specs.SecondRuns.{is_put_by}
use Rattle.job_run.proofs.JobsRead.{bound-read, described-read, job-read, places-are}

-- none of these names is that one
abbrev pub NoneIs : List (List ℕ) → List ℕ → Type 0
NoneIs puts other = AllByRecursion (λ (put : List ℕ). put ≢ other) puts

-- none of these names is among those
abbrev pub NoneAmong : List (List ℕ) → List (List ℕ) → Type 0
NoneAmong puts others = AllByRecursion (λ (put : List ℕ). AllByRecursion (λ (read : List ℕ). put ≢ read) others) puts

none-put : (names : List (List ℕ)) (other : List ℕ) → NoneIs names other → list_any (λ file. bytes_eq file other) names ≡ false
none-put [] other none = refl
none-put (name ∷ names) other none =
    elim (bytes_eq name other) as (λ b. bytes_eq name other ≡ b → (b || list_any (λ file. bytes_eq file other) names) ≡ false) [
      | true ↦ λ is. absurd (none.0 ((bytes_eq-Decides name other).0 is))
      | false ↦ λ _. none-put names other none.1
    ] refl

-- the first of those, and the others
first-none : (puts : List (List ℕ)) (other : List ℕ) (others : List (List ℕ)) → NoneAmong puts (other ∷ others) → NoneIs puts other
first-none [] other others none = tt
first-none (put ∷ puts) other others none = (none.0.0, first-none puts other others none.1)

later-none : (puts : List (List ℕ)) (other : List ℕ) (others : List (List ℕ)) → NoneAmong puts (other ∷ others) → NoneAmong puts others
later-none [] other others none = tt
later-none (put ∷ puts) other others none = (none.0.1, later-none puts other others none.1)

split-all : (P : List ℕ → Type 0) (front back : List (List ℕ)) → AllByRecursion P (front ++ back) → AllByRecursion P front × AllByRecursion P back
split-all P [] back all = (tt, all)
split-all P (x ∷ front) back all = let rest = split-all P front back all.1 in ((all.0, rest.0), rest.1)

front-none : (puts front back : List (List ℕ)) → NoneAmong puts (front ++ back) → NoneAmong puts front
front-none [] front back none = tt
front-none (put ∷ puts) front back none = ((split-all (λ (read : List ℕ). put ≢ read) front back none.0).0, front-none puts front back none.1)

back-none : (puts front back : List (List ℕ)) → NoneAmong puts (front ++ back) → NoneAmong puts back
back-none [] front back none = tt
back-none (put ∷ puts) front back none = ((split-all (λ (read : List ℕ). put ≢ read) front back none.0).1, back-none puts front back none.1)

-- ---- files that agree under each name that isn't put

abbrev Agree : List (List ℕ) → Files → Files → Type 0
Agree puts held files = (other : List ℕ) → NoneIs puts other → held other ≡ files other

file-same : (f : FileRef) (held files : Files) (name : List ℕ) → held name ≡ files name → bytes_of_file held name f ≡ bytes_of_file files name f
file-same f held files name same = ap (whole_file f) same

-- ---- a priori files

prior-unput : (puts : List (List ℕ)) (t : ℕ) (lines : List PriorLine) (line : PriorLine) → NoneAmong puts (map (λ (p : PriorLine). p.file) lines) → prior_line t lines ≡ Some line → NoneIs puts line.file
prior-unput puts t [] line none is = absurd cc
prior-unput puts t (first ∷ lines) line none is =
    elim (first.table == t) as (λ b. (if b then Some first else prior_line t lines) ≡ Some line → NoneIs puts line.file) [
      | true ↦ λ here. (let same : first ≡ line = cc in subst (λ (p : PriorLine). NoneIs puts p.file) same (first-none puts first.file (map (λ (p : PriorLine). p.file) lines) none))
      | false ↦ λ here. prior-unput puts t lines line (later-none puts first.file (map (λ (p : PriorLine). p.file) lines) none) here
    ] is

with-file-same : (held files : Files) (inputs : Inputs) (t : ℕ) (o : Option PriorLine) (stated : List Prior) → ((line : PriorLine) → o ≡ Some line → held line.file ≡ files line.file) → with_file held inputs t o stated ≡ with_file files inputs t o stated
unfolding with_file
with-file-same held files inputs t None stated same = refl
with-file-same held files inputs t (Some line) stated same =
    ap (λ (r : Result (List ℕ) Fault). r >>= λ bytes. with_bytes inputs t line stated bytes) (file-same (file.Apriori t) held files line.file (same line refl))

with-files-same : (held files : Files) (inputs : Inputs) (n : ℕ) → ((line : PriorLine) (t : ℕ) → prior_line t inputs.described.job.priors ≡ Some line → held line.file ≡ files line.file) → with_files held inputs n ≡ with_files files inputs n
unfolding with_files
with-files-same held files inputs zero same = refl
with-files-same held files inputs (suc t) same =
    ap (λ (r : Result (List Prior) Fault). r >>= λ stated. with_file held inputs t (prior_line t inputs.described.job.priors) stated) (with-files-same held files inputs t same)
    ∙ bind_same (with_files files inputs t) (with_file held inputs t (prior_line t inputs.described.job.priors)) (with_file files inputs t (prior_line t inputs.described.job.priors))
    (λ stated. with-file-same held files inputs t (prior_line t inputs.described.job.priors) stated (λ line is. same line t is))

-- ---- the files of a variable

codes-same : (held files : Files) (place : ℕ) (total : List ℕ) (o : Option (List ℕ)) → ((name : List ℕ) → o ≡ Some name → held name ≡ files name) → codes_in held place total o ≡ codes_in files place total o
unfolding codes_in
codes-same held files place total None same = refl
codes-same held files place total (Some name) same = rw (same name refl) refl

source-same : (held files : Files) (place : ℕ) (variable : Variable) (codes : List (List ℕ)) (s : Shape) → ((name lead : List ℕ) → s ≡ shape.Listed name lead → held name ≡ files name) → source_of held place variable codes s ≡ source_of files place variable codes s
unfolding source_of listed_tree
source-same held files place variable codes shape.Flat same = refl
source-same held files place variable codes (shape.Levels widths) same = refl
source-same held files place variable codes (shape.Listed name lead) same = rw (same name lead refl) refl

field-same : (held files : Files) (place : ℕ) (variable : Variable) → ((name : List ℕ) → variable.codes ≡ Some name → held name ≡ files name) → ((name lead : List ℕ) → variable.shape ≡ shape.Listed name lead → held name ≡ files name)
    → field_of held place variable ≡ field_of files place variable
unfolding field_of
field-same held files place variable codes trees =
    rw (codes-same held files place variable.total variable.codes codes)
    (bind_same (listed_codes files place variable) _ _ (λ list. rw (source-same held files place variable list variable.shape trees) refl))

codes-unput : (puts : List (List ℕ)) (o : Option (List ℕ)) (name : List ℕ) → NoneAmong puts (codes_named o) → o ≡ Some name → NoneIs puts name
codes-unput puts None name none is = absurd cc
codes-unput puts (Some own) name none is = let same : own ≡ name = cc in subst (NoneIs puts) same (first-none puts own [] none)

tree-unput : (puts : List (List ℕ)) (s : Shape) (name lead : List ℕ) → NoneAmong puts (tree_named s) → s ≡ shape.Listed name lead → NoneIs puts name
tree-unput puts shape.Flat name lead none is = absurd cc
tree-unput puts (shape.Levels widths) name lead none is = absurd cc
tree-unput puts (shape.Listed own front) name lead none is = let same : own ≡ name = cc in subst (NoneIs puts) same (first-none puts own [] none)

-- the variables that span tables among these, the first of which has this place
abbrev spanning_from : List TableLine → List Variable → ℕ → List Variable → List (ℕ × Variable)
spanning_from tables variables k rest = variables_at variables (places_from k (λ (v : Variable). is_spanning tables v.name) rest)

-- a variable behind those of this list stands one place further
next-place : (variables rest : List Variable) (k : ℕ) (v : Variable) → ((i : ℕ) → slice_get variables (k + i) ≡ slice_get (v ∷ rest) i) → (i : ℕ) → slice_get variables (k + 1 + i) ≡ slice_get rest i
next-place variables rest k v at i = let here : k + 1 + i ≡ k + suc i = omega arith in ap (slice_get variables) here ∙ at (suc i)

fields-same : (puts : List (List ℕ)) (held files : Files) (tables : List TableLine) (variables : List Variable) (k : ℕ) (rest : List Variable) → Agree puts held files → NoneAmong puts (files_of tables rest) → ((i : ℕ) → slice_get variables (k + i) ≡ slice_get rest i)
    → fields_of held (spanning_from tables variables k rest) ≡ fields_of files (spanning_from tables variables k rest)
unfolding fields_of
fields-same puts held files tables variables k [] agree none at = refl
fields-same puts held files tables variables k (v ∷ rest) agree none at =
    elim (is_spanning tables v.name) as (λ b.
    NoneAmong puts ((if b then codes_named v.codes ++ tree_named v.shape else []) ++ files_of tables rest)
    → fields_of held (variables_at variables (if b then k ∷ places_from (k + 1) (λ (one : Variable). is_spanning tables one.name) rest else places_from (k + 1) (λ (one : Variable). is_spanning tables one.name) rest))
    ≡ fields_of files (variables_at variables (if b then k ∷ places_from (k + 1) (λ (one : Variable). is_spanning tables one.name) rest else places_from (k + 1) (λ (one : Variable). is_spanning tables one.name) rest))) [
      | true ↦ λ apart.
          (let own = front-none puts (codes_named v.codes ++ tree_named v.shape) (files_of tables rest) apart in
          let behind = back-none puts (codes_named v.codes ++ tree_named v.shape) (files_of tables rest) apart in
          let later = fields-same puts held files tables variables (k + 1) rest agree behind (next-place variables rest k v at) in
          let here : k + 0 ≡ k = omega arith in
          let stands : slice_get variables k ≡ Some v = ap (slice_get variables) (sym here) ∙ at 0 in
          let one = field-same held files k v (λ name is. agree name (codes-unput puts v.codes name (front-none puts (codes_named v.codes) (tree_named v.shape) own) is))
          (λ name lead is. agree name (tree-unput puts v.shape name lead (back-none puts (codes_named v.codes) (tree_named v.shape) own) is)) in
          rw (stands, one, later) refl)
      | false ↦ λ apart. fields-same puts held files tables variables (k + 1) rest agree apart (next-place variables rest k v at)
    ] none

-- ---- the name of the job

outputs-unput : (outputs : List OutputLine) (name : List ℕ) → list_any (λ (o : OutputLine). bytes_eq o.file name) outputs ≡ false → NoneIs (map (λ (o : OutputLine). o.file) outputs) name
outputs-unput [] name none = tt
outputs-unput (output ∷ outputs) name none =
    let both = neither (bytes_eq output.file name) (list_any (λ (o : OutputLine). bytes_eq o.file name) outputs) none in
    ((λ same. apart-name output.file name both.0 (sym same)), outputs-unput outputs name both.1)

-- nor has the contributors' file, where there is one
contributors-unput : (line : Option OutputLine) (name : List ℕ) (others : List (List ℕ)) → is_contributors_file name line ≡ false → NoneIs others name → NoneIs (contributors_files line ++ others) name
contributors-unput None name others none rest = rest
contributors-unput (Some output) name others none rest = ((λ same. apart-name output.file name none (sym same)), rest)

-- a job that would not overwrite its own file puts none of its name
name-unput : (job : Job) (name : List ℕ) → refuse {F = Fault} fault.OutName (overwrites_job name job) ≡ Ok tt → NoneIs (names_put job) name
name-unput job name fine =
    let outputs : Bool = list_any (λ (o : OutputLine). bytes_eq o.file name) job.outputs in
    let none = kept (overwrites_job name job) fine in
    let first = neither (bytes_eq job.certificate name || is_contributors_file name job.contributors) outputs none in
    let both = neither (bytes_eq job.certificate name) (is_contributors_file name job.contributors) first.0 in
    ((λ same. apart-name job.certificate name both.0 (sym same)), contributors-unput job.contributors name (map (λ (o : OutputLine). o.file) job.outputs) both.1 (outputs-unput job.outputs name first.1))
  where
    kept : (wrong : Bool) → refuse {F = Fault} fault.OutName wrong ≡ Ok tt → wrong ≡ false
    kept true h = absurd cc
    kept false h = refl

-- ---- all inputs

-- what is wanted of a job's names
record AreApart (job : Job) (variables : List Variable) (name : List ℕ) : Type 0 where
  own : NoneIs (names_put job) name
  read : NoneAmong (names_put job) (reads_of job)
  named : NoneAmong (names_put job) (files_of job.tables variables)

described-same : (files held : Files) (name : List ℕ) (d : DescribedJob) → described_of purpose.Release files name ≡ Ok d → Agree (names_put d.job) held files → AreApart d.job d.meta.variables name → described_of purpose.Release held name ≡ Ok d
unfolding described_of
described-same files held name d h agree apart =
    let bytes = bind_ok (bytes_of_file files name file.Job) _ d h in
    let job = bind_ok (job_for purpose.Release bytes.0) _ d bytes.2 in
    let text = bind_ok (bytes_of_file files job.0.meta file.Metadata) _ d job.2 in
    let meta = bind_ok (map_fault meta_fault (meta_of text.0)) _ d text.2 in
    let bound = bind_ok (map_fault job_fault (bound_of job.0 meta.0)) _ d meta.2 in
    let same : record { job = job.0; meta = meta.0; bound = bound.0 } ≡ d = cc in
    let own : job.0.meta ≡ d.job.meta = ap (λ (one : DescribedJob). one.job.meta) same in
    let first : bytes_of_file held name file.Job ≡ Ok bytes.0 = file-same file.Job held files name (agree name apart.own) ∙ bytes.1 in
    let second : held job.0.meta ≡ files job.0.meta =
    ap held own ∙ agree d.job.meta (first-none (names_put d.job) d.job.meta (map (λ (p : PriorLine). p.file) d.job.priors) (later-none (names_put d.job) d.job.micro (d.job.meta ∷ map (λ (p : PriorLine). p.file) d.job.priors) apart.read)) ∙ ap files (sym own) in
    described-is purpose.Release held name bytes.0 text.0 job.0 meta.0 bound.0 first job.1 (file-same file.Metadata held files job.0.meta second ∙ text.1) meta.1 bound.1 ∙ ap Ok same

spanning-same : (files held : Files) (d : DescribedJob) → d.bound ≡ places_of d.job d.meta.variables → Agree (names_put d.job) held files → NoneAmong (names_put d.job) (files_of d.job.tables d.meta.variables) → spanning_fields held d ≡ spanning_fields files d
spanning-same files held d places agree named =
    let spanning : spanning_variables d ≡ spanning_from d.job.tables d.meta.variables 0 d.meta.variables = ap (λ (b : Bound). variables_at d.meta.variables b.spanning) places in
    ap (fields_of held) spanning
    ∙ fields-same (names_put d.job) held files d.job.tables d.meta.variables 0 d.meta.variables agree named (λ i. (let here : 0 + i ≡ i = omega arith in ap (slice_get d.meta.variables) here))
    ∙ ap (fields_of files) (sym spanning)

inputs-same : (files held : Files) (name : List ℕ) (inputs : Inputs) → inputs_of purpose.Release files name ≡ Ok inputs → inputs.described.bound ≡ places_of inputs.described.job inputs.described.meta.variables → Agree (names_put inputs.described.job) held files
    → AreApart inputs.described.job inputs.described.meta.variables name → inputs_of purpose.Release held name ≡ Ok inputs
unfolding inputs_of
inputs-same files held name inputs h places agree apart =
    let described = bind_ok (described_of purpose.Release files name) _ inputs h in
    let fields = bind_ok (spanning_fields files described.0) _ inputs described.2 in
    let records = bind_ok (look_at_records files described.0.job.micro (layout_of described.0.meta.variables described.0.bound fields.0)) _ inputs fields.2 in
    let same : record { described = described.0; records = records.0 } ≡ inputs = cc in
    let d : described.0 ≡ inputs.described = ap (λ (one : Inputs). one.described) same in
    let first = subst (λ (one : DescribedJob). described_of purpose.Release files name ≡ Ok one) d described.1 in
    let second = subst (λ (one : DescribedJob). spanning_fields files one ≡ Ok fields.0) d fields.1 in
    let third = subst (λ (one : DescribedJob). look_at_records files one.job.micro (layout_of one.meta.variables one.bound fields.0) ≡ Ok records.0) d records.1 in
    let micro : held inputs.described.job.micro ≡ files inputs.described.job.micro =
    agree inputs.described.job.micro (first-none (names_put inputs.described.job) inputs.described.job.micro (inputs.described.job.meta ∷ map (λ (p : PriorLine). p.file) inputs.described.job.priors) apart.read) in
    inputs-are purpose.Release held name inputs.described fields.0 (layout_of inputs.described.meta.variables inputs.described.bound fields.0) records.0 (described-same files held name inputs.described first agree apart)
    (spanning-same files held inputs.described places agree apart.named ∙ second) refl
    (ap (records_in (layout_of inputs.described.meta.variables inputs.described.bound fields.0)) micro ∙ third)
    ∙ ap (λ (r : Records). Ok (record { described = inputs.described; records = r })) (ap (λ (one : Inputs). one.records) same)

priors-same : (files held : Files) (inputs : Inputs) → Agree (names_put inputs.described.job) held files → NoneAmong (names_put inputs.described.job) (reads_of inputs.described.job) → priors_of held inputs ≡ priors_of files inputs
priors-same files held inputs agree read =
    let job : Job = inputs.described.job in
    let priors = later-none (names_put job) job.meta (map (λ (p : PriorLine). p.file) job.priors) (later-none (names_put job) job.micro (job.meta ∷ map (λ (p : PriorLine). p.file) job.priors) read) in
    with-files-same held files inputs (length job.tables) (λ line t is. agree line.file (prior-unput (names_put job) t job.priors line priors is))

-- files that agree but for what the job puts give the same settled inputs
pub settled-same : PutsAreNotRead → PutsAreNotNamed → (files held : Files) (name : List ℕ) (settled : SettledInputs) → settled_of purpose.Release files name ≡ Ok settled
    → ((other : List ℕ) → is_put_by settled.inputs.described.job other ≡ false → held other ≡ files other) → settled_of purpose.Release held name ≡ Ok settled
unfolding settled_of
settled-same not_read not_named files held name settled h agree =
    let inputs = bind_ok (inputs_of purpose.Release files name) _ settled h in
    let linked = bind_ok (map_fault cells_fault (book_with_depths inputs.0.records.trees inputs.0.described.bound.tables)) _ settled inputs.2 in
    let priors = bind_ok (priors_of files inputs.0) _ settled linked.2 in
    let cells = bind_ok (settled_cells inputs.0 priors.0) _ settled priors.2 in
    let fine = bind_ok (refuse fault.OutName (overwrites_job name inputs.0.described.job)) _ settled cells.2 in
    let same : record { inputs = inputs.0; priors = priors.0; cells = cells.0 } ≡ settled = cc in
    let d : DescribedJob = inputs.0.described in
    let described = described-read files name inputs.0 inputs.1 in
    let stated = job-read files name d described in
    let bound = bound-read files name d described in
    let agrees : Agree (names_put d.job) held files = λ other none. agree other (subst (λ (s : SettledInputs). is_put_by s.inputs.described.job other ≡ false) same (none-put (names_put d.job) other none)) in
    let apart : AreApart d.job d.meta.variables name = record { own = name-unput d.job name fine.1; read = not_read stated.0 d.job stated.1; named = not_named d.job d.meta d.bound bound } in
    settled-is purpose.Release held name inputs.0 linked.0 priors.0 cells.0 (inputs-same files held name inputs.0 inputs.1 (places-are d.job d.meta d.bound bound) agrees apart) linked.1 (priors-same files held inputs.0 agrees apart.read ∙ priors.1) cells.1 fine.1
    ∙ ap Ok same

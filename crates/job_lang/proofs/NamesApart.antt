-- Names of files that are put, and of those that are read.
use Rattle.std.proofs.Common.{◌≡◌, ◌≢◌, ℕ, zero, suc, ◌+◌, Bool, true, false, cond, List, [], ◌∷◌, ◌++◌, length, map, Option, None, Some, Ok, refl, ap, subst}
use Rattle.std.specs.Prelude.{find, nat_lt, ◌||◌, ◌&&◌, option_map}
use Rattle.std.specs.List.{list_any, count_by, AllByRecursion}
use Rattle.std.specs.Str.{bytes_eq}
use Rattle.std.specs.Cmp.Lexicographic.{nat_list_eq_equiv}
use Rattle.sdc_base.proofs.StepLemmas.{bind_ok}
use Rattle.rda_meta.specs.declared.meta.Shape.{Shape}
use Rattle.rda_meta.specs.declared.meta.Shape.TheVariants as shape
use Rattle.rda_meta.specs.declared.meta.Variable.{Variable}
use Rattle.job_lang.specs.declared.faults.JobWhy.{JobWhy}
use Rattle.job_lang.specs.declared.faults.JobWhy.TheVariants.{Missing, SameName}
use Rattle.job_lang.specs.declared.faults.Command.TheVariants as command
use Rattle.job_lang.specs.declared.job.Job.{Job}
use Rattle.job_lang.specs.declared.job.OutputLine.{OutputLine}
use Rattle.job_lang.specs.declared.job.PriorLine.{PriorLine}
use Rattle.job_lang.specs.declared.job.TableLine.{TableLine}
use Rattle.job_lang.specs.declared.statement.Keyword.TheVariants as keyword
use Rattle.job_lang.specs.declared.statement.Instruction.{Instruction}
use Rattle.job_lang.specs.declared.statement.Instruction.TheVariants as said
use Rattle.job_lang.specs.declared.statement.Statement.{Statement}
use Rattle.job_lang.specs.declared.statement.Draft.{Draft}
use Rattle.job_lang.specs.Statements.{is_by}
use Rattle.job_lang.specs.ClosingLooks.{statement_by, is_output_at, output_said, file_said, file_line, prior_in, priors_in}
use Rattle.job_lang.specs.MissingCommands.{output_of_table, outputs_from}
use Rattle.job_lang.specs.FilesApart.{puts, is_read_file, is_shared, puts_shared_file}
use Rattle.job_lang.specs.Binding.{unless_fault, bound_of}
use Rattle.job_lang.specs.BindingFaults.{is_spanning, is_code_list, is_hierarchy_file, is_file_of, file_fault, earliest_fault}
use Rattle.job_lang.specs.FileLaws.{contributors_files, codes_named, tree_named, files_of, puts_of, reads_of, PutsAreNotRead, PutsAreNotNamed}
use Rattle.job_lang.proofs.Known.{was_some}
use Rattle.job_lang.proofs.FirstFault.{no_shared_file}
use Rattle.job_lang.proofs.BoundHolds.{IsFreeOfFault, clean}
use Rattle.job_lang.proofs.Made.{IsMade, read}

same : (name : List ℕ) → bytes_eq name name ≡ true
same name = nat_list_eq_equiv.refl name

-- names that a test tells apart
differ : (a b : List ℕ) → bytes_eq a b ≡ false → b ≢ a
differ a b h is = let yes : bytes_eq a b ≡ true = subst (λ (x : List ℕ). bytes_eq x b ≡ true) is (same b) in absurd (clash (bytes_eq a b) yes h)
  where
    clash : (t : Bool) → t ≡ true → t ≡ false → ⊥
    clash true a b = cc
    clash false a b = cc

false_left : (a b : Bool) → (a || b) ≡ false → (a ≡ false) × (b ≡ false)
false_left true b h = absurd cc
false_left false b h = (refl, h)

-- none of the statements puts a file whose name another has
abbrev pub AreApart : List Statement → List Statement → Type 0
AreApart all said = AllByRecursion (λ s. puts_shared_file all s.said ≡ false) said

pub all_apart : (all said : List Statement) → list_any (λ s. puts_shared_file all s.said) said ≡ false → AreApart all said
all_apart all [] h = tt
all_apart all (s ∷ rest) h = let both = false_left (puts_shared_file all s.said) _ h in (both.0, all_apart all rest both.1)

pub found : {A : Type 0} (P : A → Type 0) (test : A → Bool) (xs : List A) → AllByRecursion P xs → (x : A) → find test xs ≡ Some x → P x × (test x ≡ true)
found P test [] all x h = absurd cc
found {A} P test (y ∷ xs) all x h = elim (test y) as (λ t. test y ≡ t → cond t (Some y) (find test xs) ≡ Some x → P x × (test x ≡ true)) [
  | true ↦ λ passes g. let is : y ≡ x = cc in subst (λ (x : A). P x × (test x ≡ true)) is (all.0, passes)
  | false ↦ λ fails g. found P test xs all.1 x g
] refl h

-- ---- what puts a file

-- a statement puts this file, and no file of that name is read
abbrev IsUnread : List Statement → List ℕ → Type 0
IsUnread all name = list_any (λ s. is_read_file name s.said) all ≡ false

unread : (all : List Statement) (name : List ℕ) → is_shared name all ≡ false → IsUnread all name
unread all name h = (false_left (nat_lt 1 (count_by (λ s. puts name s.said) all)) _ h).1

certificate_unread : (all : List Statement) (one : Instruction) (line : ℕ) (o : OutputLine) → is_by keyword.Certificate one ≡ true → puts_shared_file all one ≡ false → option_map (λ (file : List ℕ). record { line = line; file = file }) (file_said one) ≡ Some o → IsUnread all o.file
certificate_unread all (said.Certificate name) line o by apart h =
    let is : ◌≡◌ {A = OutputLine} (record { line = line; file = name }) o = cc in
    subst (λ (o : OutputLine). IsUnread all o.file) is (unread all name apart)
certificate_unread all one line o by apart h = absurd cc

contributors_unread : (all : List Statement) (one : Instruction) (line : ℕ) (o : OutputLine) → is_by keyword.Contributors one ≡ true → puts_shared_file all one ≡ false → option_map (λ (file : List ℕ). record { line = line; file = file }) (file_said one) ≡ Some o → IsUnread all o.file
contributors_unread all (said.Contributors name) line o by apart h =
    let is : ◌≡◌ {A = OutputLine} (record { line = line; file = name }) o = cc in
    subst (λ (o : OutputLine). IsUnread all o.file) is (unread all name apart)
contributors_unread all one line o by apart h = absurd cc

output_unread : (all : List Statement) (place : ℕ) (one : Instruction) (line : ℕ) (o : OutputLine) → is_output_at place one ≡ true → puts_shared_file all one ≡ false → option_map (λ (file : List ℕ). record { line = line; file = file }) (file_said one) ≡ Some o → IsUnread all o.file
output_unread all place (said.Output number name) line o by apart h =
    let is : ◌≡◌ {A = OutputLine} (record { line = line; file = name }) o = cc in
    subst (λ (o : OutputLine). IsUnread all o.file) is (unread all name apart)
output_unread all place one line o by apart h = absurd cc

pub line_of : (P : Statement → Type 0) (all : List Statement) (test : Statement → Bool) (Q : OutputLine → Type 0) → AllByRecursion P all
    → ((s : Statement) (o : OutputLine) → test s ≡ true → P s → option_map (λ (file : List ℕ). record { line = s.line; file = file }) (file_said s.said) ≡ Some o → Q o)
    → (o : OutputLine) → file_line (find test all) ≡ Some o → Q o
line_of P all test Q holds step o h =
    elim (find test all) as (λ f. find test all ≡ f → file_line f ≡ Some o → Q o) [
      | None ↦ λ is g. absurd cc
      | Some s ↦ λ is g. let at = found P test all holds s is in step s o at.1 at.0 g
    ] refl h

outputs_unread : (all : List Statement) (count place : ℕ) (outputs : List OutputLine) → AreApart all all → outputs_from count place all ≡ Ok outputs → AllByRecursion (λ o. IsUnread all o.file) outputs
unfolding outputs_from
outputs_unread all zero place outputs apart h = let is : ◌≡◌ {A = List OutputLine} [] outputs = cc in subst (λ (os : List OutputLine). AllByRecursion (λ o. IsUnread all o.file) os) is tt
outputs_unread all (suc more) place outputs apart h =
    let one = bind_ok (output_of_table place all) _ outputs h in
    let rest = bind_ok (outputs_from more (place + 1) all) _ outputs one.2 in
    let is : ◌≡◌ {A = List OutputLine} (one.0 ∷ rest.0) outputs = cc in
    let first = line_of (λ s. puts_shared_file all s.said ≡ false) all (λ s. is_output_at place s.said) (λ o. IsUnread all o.file) apart (λ s o by free g. output_unread all place s.said s.line o by free g) one.0 (was_some (0, Missing command.WriteTable) (file_line (output_said place all)) one.0 one.1) in
    subst (λ (os : List OutputLine). AllByRecursion (λ o. IsUnread all o.file) os) is (first, outputs_unread all more (place + 1) rest.0 apart rest.1)

-- ---- what reads a file

unread_each : (name : List ℕ) (said : List Statement) → list_any (λ s. is_read_file name s.said) said ≡ false → AllByRecursion (λ s. is_read_file name s.said ≡ false) said
unread_each name [] h = tt
unread_each name (s ∷ rest) h = let both = false_left (is_read_file name s.said) _ h in (both.0, unread_each name rest both.1)

micro_read : (name : List ℕ) (one : Instruction) (line : ℕ) (o : OutputLine) → is_by keyword.OpenMicrodata one ≡ true → is_read_file name one ≡ false → option_map (λ (file : List ℕ). record { line = line; file = file }) (file_said one) ≡ Some o → name ≢ o.file
micro_read name (said.Microdata file) line o by free h =
    let is : ◌≡◌ {A = OutputLine} (record { line = line; file = file }) o = cc in
    subst (λ (o : OutputLine). name ≢ o.file) is (differ file name free)
micro_read name one line o by free h = absurd cc

meta_read : (name : List ℕ) (one : Instruction) (line : ℕ) (o : OutputLine) → is_by keyword.OpenMetadata one ≡ true → is_read_file name one ≡ false → option_map (λ (file : List ℕ). record { line = line; file = file }) (file_said one) ≡ Some o → name ≢ o.file
meta_read name (said.Metadata file) line o by free h =
    let is : ◌≡◌ {A = OutputLine} (record { line = line; file = file }) o = cc in
    subst (λ (o : OutputLine). name ≢ o.file) is (differ file name free)
meta_read name one line o by free h = absurd cc

all_both : {A : Type 0} (P : A → Type 0) (xs ys : List A) → AllByRecursion P xs → AllByRecursion P ys → AllByRecursion P (xs ++ ys)
all_both P [] ys a b = b
all_both P (x ∷ xs) ys a b = (a.0, all_both P xs ys a.1 b)

all_mapped : {A : Type 0} (P : List ℕ → Type 0) (f : A → List ℕ) (xs : List A) → AllByRecursion (λ x. P (f x)) xs → AllByRecursion P (map f xs)
all_mapped P f [] all = tt
all_mapped P f (x ∷ xs) all = (all.0, all_mapped P f xs all.1)

prior_read : (name : List ℕ) (line : ℕ) (one : Instruction) → is_read_file name one ≡ false → AllByRecursion (λ p. name ≢ p.file) (prior_in line one)
prior_read name line (said.Prior file number separator) free = (differ file name free, tt)
prior_read name line one free = tt

priors_read : (name : List ℕ) (said : List Statement) → AllByRecursion (λ s. is_read_file name s.said ≡ false) said → AllByRecursion (λ p. name ≢ p.file) (priors_in said)
priors_read name [] all = tt
priors_read name (s ∷ rest) all = all_both (λ p. name ≢ p.file) (prior_in s.line s.said) (priors_in rest) (prior_read name s.line s.said all.0) (priors_read name rest all.1)

-- a name that isn't read is none of those that a job reads
none_read : (draft : Draft) (job : Job) (name : List ℕ) → IsMade draft job → IsUnread draft.said name → AllByRecursion (λ read. name ≢ read) (reads_of job)
none_read draft job name is free =
    let each = unread_each name draft.said free in
    let micro = line_of (λ s. is_read_file name s.said ≡ false) draft.said (λ s. is_by keyword.OpenMicrodata s.said) (λ o. name ≢ o.file) each (λ s o by open_ g. micro_read name s.said s.line o by open_ g) is.micro is.is_micro in
    let meta = line_of (λ s. is_read_file name s.said ≡ false) draft.said (λ s. is_by keyword.OpenMetadata s.said) (λ o. name ≢ o.file) each (λ s o by open_ g. meta_read name s.said s.line o by open_ g) is.meta is.is_meta in
    let priors = all_mapped (λ read. name ≢ read) (λ (p : PriorLine). p.file) (priors_in draft.said) (priors_read name draft.said each) in
    subst (λ (job : Job). AllByRecursion (λ read. name ≢ read) (reads_of job)) is.whole (micro, (meta, priors))

outputs_not_read : (draft : Draft) (job : Job) (outputs : List OutputLine) → IsMade draft job → AllByRecursion (λ o. IsUnread draft.said o.file) outputs → AllByRecursion (λ put. AllByRecursion (λ read. put ≢ read) (reads_of job)) (map (λ o. o.file) outputs)
outputs_not_read draft job [] is all = tt
outputs_not_read draft job (o ∷ outputs) is all = (none_read draft job o.file is all.0, outputs_not_read draft job outputs is all.1)

-- a contributors' file, where there is one, isn't read
contributors_not_read : (draft : Draft) (job : Job) (contributors : Option OutputLine) → IsMade draft job → ((o : OutputLine) → contributors ≡ Some o → IsUnread draft.said o.file)
    → AllByRecursion (λ put. AllByRecursion (λ read. put ≢ read) (reads_of job)) (contributors_files contributors)
contributors_not_read draft job None is free = tt
contributors_not_read draft job (Some o) is free = (none_read draft job o.file is (free o refl), tt)

pub not_read : PutsAreNotRead
not_read bytes job h =
    let is = read bytes job h in
    let apart = all_apart is.draft.said is.draft.said (no_shared_file is.draft.said is.draft.said tt is.apart) in
    let outputs = outputs_unread is.draft.said (length is.draft.tables) 0 is.is_made.outputs apart is.is_made.are_outputs in
    let certificate = line_of (λ s. puts_shared_file is.draft.said s.said ≡ false) is.draft.said (λ s. is_by keyword.Certificate s.said) (λ o. IsUnread is.draft.said o.file) apart (λ s o by free g. certificate_unread is.draft.said s.said s.line o by free g) is.is_made.certificate is.is_made.is_certificate in
    let extra : Option OutputLine = file_line (statement_by keyword.Contributors is.draft.said) in
    let contributors : (o : OutputLine) → extra ≡ Some o → IsUnread is.draft.said o.file =
    line_of (λ s. puts_shared_file is.draft.said s.said ≡ false) is.draft.said (λ s. is_by keyword.Contributors s.said) (λ o. IsUnread is.draft.said o.file) apart (λ s o by free g. contributors_unread is.draft.said s.said s.line o by free g) in
    let named : List (List ℕ) = contributors_files extra ++ map (λ o. o.file) is.is_made.outputs in
    let puts : AllByRecursion (λ put. AllByRecursion (λ read. put ≢ read) (reads_of job)) (is.is_made.certificate.file ∷ named) = (
      none_read is.draft job is.is_made.certificate.file is.is_made certificate,
      all_both (λ put. AllByRecursion (λ read. put ≢ read) (reads_of job)) (contributors_files extra) (map (λ o. o.file) is.is_made.outputs) (contributors_not_read is.draft job extra is.is_made contributors) (outputs_not_read is.draft job is.is_made.outputs is.is_made outputs),
    ) in
    let same : ◌≡◌ {A = List (List ℕ)} (is.is_made.certificate.file ∷ named) (puts_of job) = ap puts_of is.is_made.whole in
    subst (λ (puts : List (List ℕ)). AllByRecursion (λ put. AllByRecursion (λ read. put ≢ read) (reads_of job)) puts) same puts

-- ---- files that the metadata name

codes_apart : (file : List ℕ) (codes : Option (List ℕ)) → is_code_list file codes ≡ false → AllByRecursion (λ read. file ≢ read) (codes_named codes)
codes_apart file None h = tt
codes_apart file (Some name) h = (differ name file h, tt)

tree_apart : (file : List ℕ) (s : Shape) → is_hierarchy_file file s ≡ false → AllByRecursion (λ read. file ≢ read) (tree_named s)
tree_apart file (shape.Listed name lead) h = (differ name file h, tt)
tree_apart file shape.Flat h = tt
tree_apart file (shape.Levels widths) h = tt

files_apart : (tables : List TableLine) (file : List ℕ) (variables : List Variable) → list_any (λ v. is_file_of tables file v) variables ≡ false → AllByRecursion (λ read. file ≢ read) (files_of tables variables)
files_apart tables file [] h = tt
files_apart tables file (v ∷ variables) h =
    let both = false_left (is_file_of tables file v) _ h in
    let later = files_apart tables file variables both.1 in
    let here = elim (is_spanning tables v.name) as (λ t. (t && (is_code_list file v.codes || is_hierarchy_file file v.shape)) ≡ false → AllByRecursion (λ read. file ≢ read) (cond t (codes_named v.codes ++ tree_named v.shape) [])) [
      | true ↦ λ g. let two = false_left (is_code_list file v.codes) _ g in all_both (λ read. file ≢ read) (codes_named v.codes) (tree_named v.shape) (codes_apart file v.codes two.0) (tree_apart file v.shape two.1)
      | false ↦ λ g. tt
    ] both.0 in
    all_both (λ read. file ≢ read) _ (files_of tables variables) here later

no_file : (tables : List TableLine) (variables : List Variable) (file : List ℕ) → file_fault tables variables file ≡ None → AllByRecursion (λ read. file ≢ read) (files_of tables variables)
no_file tables variables file h =
    files_apart tables file variables (elim (list_any (λ v. is_file_of tables file v) variables) as (λ t. ◌≡◌ {A = Option JobWhy} (cond t (Some SameName) None) None → t ≡ false) [ true ↦ λ g. absurd cc | false ↦ λ g. refl ] h)

outputs_apart : (tables : List TableLine) (variables : List Variable) (outputs : List OutputLine) → AllByRecursion (λ o. file_fault tables variables o.file ≡ None) outputs
    → AllByRecursion (λ put. AllByRecursion (λ read. put ≢ read) (files_of tables variables)) (map (λ o. o.file) outputs)
outputs_apart tables variables [] all = tt
outputs_apart tables variables (o ∷ outputs) all = (no_file tables variables o.file all.0, outputs_apart tables variables outputs all.1)

contributors_apart : (tables : List TableLine) (variables : List Variable) (contributors : Option OutputLine) → IsFreeOfFault tables variables contributors
    → AllByRecursion (λ put. AllByRecursion (λ read. put ≢ read) (files_of tables variables)) (contributors_files contributors)
contributors_apart tables variables None free = tt
contributors_apart tables variables (Some o) free = (no_file tables variables o.file free, tt)

pub no_fault : (first : Option (ℕ × JobWhy)) (t : Unit {0}) → unless_fault first ≡ Ok t → first ≡ None
no_fault None t h = refl
no_fault (Some fault) t h = absurd cc

pub not_named : PutsAreNotNamed
unfolding bound_of
not_named job meta bound h =
    let fine = bind_ok (unless_fault (earliest_fault job meta.variables)) _ bound h in
    let free = clean job meta.variables (no_fault (earliest_fault job meta.variables) fine.0 fine.1) in (
      no_file job.tables meta.variables job.certificate free.certificate,
      all_both (λ put. AllByRecursion (λ read. put ≢ read) (files_of job.tables meta.variables)) (contributors_files job.contributors) (map (λ o. o.file) job.outputs)
          (contributors_apart job.tables meta.variables job.contributors free.contributors) (outputs_apart job.tables meta.variables job.outputs free.outputs),
    )

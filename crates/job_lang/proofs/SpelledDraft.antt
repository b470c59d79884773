-- What the lines of a canonical text say.
use Rattle.std.proofs.Common.{◌≡◌, ℕ, suc, ◌+◌, ◌<◌, ◌≤◌, ◌==◌, Bool, true, false, List, [], ◌∷◌, ◌++◌, length, map, Option, None, Some, Result, Ok, refl, ap, sym, ◌∙◌, arith, append_assoc}
use Rattle.std.specs.Prelude.{◌&&◌}
use Rattle.std.specs.List.{AllByRecursion, IsDistinct, list_any}
use Rattle.std.specs.Str.{bytes_eq}
use Rattle.std.proofs.lemmas.List.{append-nil}
use Rattle.std.proofs.lemmas.List.Folds.{list_any-append}
use Rattle.std.proofs.lemmas.Map.Keys.{IsDistinct-head, IsDistinct-tail}
use Rattle.sdc_base.specs.Steps.{◌>>=◌}
use Rattle.sdc_base.proofs.StepLemmas.{bind_same}
use Rattle.job_lang.specs.declared.faults.JobWhy.{JobWhy}
use Rattle.job_lang.specs.declared.job.DepthLine.{DepthLine}
use Rattle.job_lang.specs.declared.job.OutputLine.{OutputLine}
use Rattle.job_lang.specs.declared.job.PriorLine.{PriorLine}
use Rattle.job_lang.specs.declared.job.TableLine.{TableLine}
use Rattle.job_lang.specs.declared.job.Job.{Job}
use Rattle.job_lang.specs.declared.statement.Draft.{Draft}
use Rattle.job_lang.specs.declared.statement.Keyword.{Keyword}
use Rattle.job_lang.specs.declared.statement.Keyword.TheVariants as keyword
use Rattle.job_lang.specs.declared.statement.Instruction.{Instruction}
use Rattle.job_lang.specs.declared.statement.Instruction.TheVariants as said
use Rattle.job_lang.specs.declared.statement.Statement.{Statement}
use Rattle.job_lang.specs.Faults.{at_line}
use Rattle.job_lang.specs.Keywords.{same_keyword}
use Rattle.job_lang.specs.Statements.{is_by, is_prior_of, is_output_of, is_depth_of, is_again, is_past_room, is_other_response, with_table, with_statement, with_said, text_says, lines_say, empty_draft}
use Rattle.job_lang.specs.Spelling.{table_number, said_line}
use Rattle.job_lang.specs.JobText.{table_said, prior_said, outputs_said, contributors_said, depth_said, job_says, tables_from}
use Rattle.job_lang.specs.WritableJobs.{IsSpellable, is_same_depth}
use Rattle.job_lang.proofs.SpelledArguments.{number_is}
use Rattle.job_lang.proofs.SpelledLines.{line_read, line_trimmed}
use Rattle.job_lang.proofs.TableRoom.{Fit}

-- what lines say one after the other, each by what it says
abbrev pub says : ℕ → Draft → List Instruction → Result Draft (ℕ × JobWhy)
says before draft [] = Ok draft
says before draft (one ∷ rest) = at_line (before + 1) (with_said (before + 1) draft one) >>= λ next. says (before + 1) next rest

pub lines_are : (before : ℕ) (draft : Draft) (all : List Instruction) → AllByRecursion IsSpellable all → lines_say before draft (map said_line all) ≡ says before draft all
unfolding lines_say
lines_are before draft [] can = refl
lines_are before draft (one ∷ rest) can =
    ap (λ (text : List ℕ). at_line (before + 1) (text_says (before + 1) draft text) >>= λ next. lines_say (before + 1) next (map said_line rest)) (line_trimmed one can.0)
    ∙ ap (λ r. at_line (before + 1) r >>= λ next. lines_say (before + 1) next (map said_line rest)) (line_read one (before + 1) draft can.0)
    ∙ bind_same (at_line (before + 1) (with_said (before + 1) draft one)) _ _ (λ next. lines_are (before + 1) next rest can.1)

step : (before line : ℕ) (draft next : Draft) (one : Instruction) (rest : List Instruction) → before + 1 ≡ line → with_said line draft one ≡ Ok next → says before draft (one ∷ rest) ≡ says line next rest
step before line draft next one rest is said = rw (is, said) refl

-- ---- tables

table_fits : (line : ℕ) (draft : Draft) (table : TableLine) → is_past_room table.variables draft.tables ≡ false → is_other_response table.response draft.tables ≡ false
    → with_said line draft (table_said table) ≡ Ok (record draft { tables = draft.tables ++ record { line = line; variables = table.variables; response = table.response } ∷ [] })
unfolding with_said with_table
table_fits line draft table space same = rw (space, same) refl

pub tables_say : (before : ℕ) (front tables : List TableLine) (before_said : List Statement) (rest : List Instruction) → Fit front tables
    → says before (record { tables = front; said = before_said }) (map table_said tables ++ rest) ≡ says (before + length tables) (record { tables = front ++ tables_from (before + 1) tables; said = before_said }) rest
tables_say before front [] before_said rest fits =
    let same : before ≡ before + 0 = omega arith in
    ap (λ (n : ℕ). says n (record { tables = front; said = before_said }) rest) same ∙ ap (λ (ts : List TableLine). says (before + 0) (record { tables = ts; said = before_said }) rest) (sym (append-nil front))
tables_say before front (table ∷ tables) before_said rest fits =
    let again : TableLine = record { line = before + 1; variables = table.variables; response = table.response } in
    let far : before + 1 + length tables ≡ before + suc (length tables) = omega arith in
    step before (before + 1) (record { tables = front; said = before_said }) (record { tables = front ++ again ∷ []; said = before_said }) (table_said table) (map table_said tables ++ rest) refl
    (table_fits (before + 1) (record { tables = front; said = before_said }) table fits.0 fits.1)
    ∙ tables_say (before + 1) (front ++ again ∷ []) tables before_said rest (fits.2 (before + 1))
    ∙ ap (λ (n : ℕ). says n (record { tables = (front ++ again ∷ []) ++ tables_from (before + 1 + 1) tables; said = before_said }) rest) far
    ∙ ap (λ (ts : List TableLine). says (before + suc (length tables)) (record { tables = ts; said = before_said }) rest) (append_assoc front (again ∷ []) (tables_from (before + 1 + 1) tables))

-- ---- one statement

stated : (line : ℕ) (draft : Draft) (one : Instruction) → is_again one draft.said ≡ false → with_statement line draft one ≡ Ok (record draft { said = draft.said ++ record { line = line; said = one } ∷ [] })
unfolding with_statement
stated line draft one once = rw once refl

-- a draft with these statements
abbrev pub drafted : List TableLine → List Statement → Draft
drafted tables all = record { tables = tables; said = all }

numbers_apart : (a b : ℕ) → a < 8 → b < 8 → (a == b) ≡ false → bytes_eq (table_number a) (table_number b) ≡ false
numbers_apart a b h g apart = rw (number_is a h, number_is b g) (digits a b apart)
  where
    digits : (a b : ℕ) → (a == b) ≡ false → bytes_eq ((48 + (a + 1)) ∷ []) ((48 + (b + 1)) ∷ []) ≡ false
    digits a b h = grind arith

pub any_last : (test : Statement → Bool) (all : List Statement) (s : Statement) → list_any test all ≡ false → test s ≡ false → list_any test (all ++ s ∷ []) ≡ false
any_last test all s none here = rw (list_any-append test all (s ∷ []), none, here) refl

-- ---- a priori files

-- their statements in one line after the other
abbrev pub priors_stated : ℕ → List PriorLine → List Statement
priors_stated line [] = []
priors_stated line (prior ∷ priors) = record { line = line; said = prior_said prior } ∷ priors_stated (line + 1) priors

-- each of a table that none before is of
abbrev pub AreNew : List Statement → List PriorLine → Type 0
AreNew before priors = AllByRecursion (λ p. (p.table < 8) × (list_any (λ s. is_prior_of (table_number p.table) s.said) before ≡ false)) priors

still_new : (before : List Statement) (line : ℕ) (prior : PriorLine) (priors : List PriorLine) → prior.table < 8 → AllByRecursion (λ place. (prior.table == place) ≡ false) (map (λ p. p.table) priors) → AreNew before priors
    → AreNew (before ++ record { line = line; said = prior_said prior } ∷ []) priors
still_new before line prior [] few apart all = tt
still_new before line prior (next ∷ priors) few apart all = (
  (all.0.0, any_last (λ s. is_prior_of (table_number next.table) s.said) before (record { line = line; said = prior_said prior }) all.0.1 (numbers_apart prior.table next.table few all.0.0 apart.0)),
  still_new before line prior priors few apart.1 all.1,
)

prior_taken : (line : ℕ) (tables : List TableLine) (before : List Statement) (prior : PriorLine) → list_any (λ s. is_prior_of (table_number prior.table) s.said) before ≡ false
    → with_said line (drafted tables before) (prior_said prior) ≡ Ok (drafted tables (before ++ record { line = line; said = prior_said prior } ∷ []))
unfolding with_said
prior_taken line tables before prior new = stated line (drafted tables before) (prior_said prior) new

pub priors_say : (before : ℕ) (tables : List TableLine) (all : List Statement) (priors : List PriorLine) (rest : List Instruction) → AreNew all priors → IsDistinct ◌==◌ (map (λ p. p.table) priors)
    → says before (drafted tables all) (map prior_said priors ++ rest) ≡ says (before + length priors) (drafted tables (all ++ priors_stated (before + 1) priors)) rest
priors_say before tables all [] rest new once =
    let same : before ≡ before + 0 = omega arith in
    ap (λ (n : ℕ). says n (drafted tables all) rest) same ∙ ap (λ (ss : List Statement). says (before + 0) (drafted tables ss) rest) (sym (append-nil all))
priors_say before tables all (prior ∷ priors) rest new once =
    let s : Statement = record { line = before + 1; said = prior_said prior } in
    let far : before + 1 + length priors ≡ before + suc (length priors) = omega arith in
    step before (before + 1) (drafted tables all) (drafted tables (all ++ s ∷ [])) (prior_said prior) (map prior_said priors ++ rest) refl (prior_taken (before + 1) tables all prior new.0.1)
    ∙ priors_say (before + 1) tables (all ++ s ∷ []) priors rest (still_new all (before + 1) prior priors new.0.0 (IsDistinct-head ◌==◌ prior.table (map (λ p. p.table) priors) once) new.1) (IsDistinct-tail ◌==◌ prior.table (map (λ p. p.table) priors) once)
    ∙ ap (λ (n : ℕ). says n (drafted tables ((all ++ s ∷ []) ++ priors_stated (before + 1 + 1) priors)) rest) far
    ∙ ap (λ (ss : List Statement). says (before + suc (length priors)) (drafted tables ss) rest) (append_assoc all (s ∷ []) (priors_stated (before + 1 + 1) priors))

-- ---- outputs

-- their statements in one line after the other, of the tables from this place on
abbrev pub outputs_stated : ℕ → ℕ → List OutputLine → List Statement
outputs_stated line place [] = []
outputs_stated line place (output ∷ outputs) = record { line = line; said = said.Output (table_number place) output.file } ∷ outputs_stated (line + 1) (place + 1) outputs

-- no output of a table from this place on
abbrev pub HasNone : ℕ → List Statement → Type 0
HasNone place all = (q : ℕ) → place ≤ q → q < 8 → list_any (λ s. is_output_of (table_number q) s.said) all ≡ false

below : (a b : ℕ) → a < b → (a == b) ≡ false
below a b h = grind arith

output_taken : (line place : ℕ) (tables : List TableLine) (all : List Statement) (output : OutputLine) → list_any (λ s. is_output_of (table_number place) s.said) all ≡ false
    → with_said line (drafted tables all) (said.Output (table_number place) output.file) ≡ Ok (drafted tables (all ++ record { line = line; said = said.Output (table_number place) output.file } ∷ []))
unfolding with_said
output_taken line place tables all output new = stated line (drafted tables all) (said.Output (table_number place) output.file) new

pub outputs_say : (before place : ℕ) (tables : List TableLine) (all : List Statement) (outputs : List OutputLine) (rest : List Instruction) → place + length outputs ≤ 8 → HasNone place all
    → says before (drafted tables all) (outputs_said place outputs ++ rest) ≡ says (before + length outputs) (drafted tables (all ++ outputs_stated (before + 1) place outputs)) rest
outputs_say before place tables all [] rest few none =
    let same : before ≡ before + 0 = omega arith in
    ap (λ (n : ℕ). says n (drafted tables all) rest) same ∙ ap (λ (ss : List Statement). says (before + 0) (drafted tables ss) rest) (sym (append-nil all))
outputs_say before place tables all (output ∷ outputs) rest few none =
    let s : Statement = record { line = before + 1; said = said.Output (table_number place) output.file } in
    let far : before + 1 + length outputs ≡ before + suc (length outputs) = omega arith in
    let later : HasNone (place + 1) (all ++ s ∷ []) =
    λ q above small. any_last (λ t. is_output_of (table_number q) t.said) all s (none q (omega (arith, above)) small) (numbers_apart place q (omega (arith, few)) small (below place q (omega (arith, above)))) in
    step before (before + 1) (drafted tables all) (drafted tables (all ++ s ∷ [])) (said.Output (table_number place) output.file) (outputs_said (place + 1) outputs ++ rest) refl (output_taken (before + 1) place tables all output (none place (omega arith) (omega (arith, few))))
    ∙ outputs_say (before + 1) (place + 1) tables (all ++ s ∷ []) outputs rest (omega (arith, few)) later
    ∙ ap (λ (n : ℕ). says n (drafted tables ((all ++ s ∷ []) ++ outputs_stated (before + 1 + 1) (place + 1) outputs)) rest) far
    ∙ ap (λ (ss : List Statement). says (before + suc (length outputs)) (drafted tables ss) rest) (append_assoc all (s ∷ []) (outputs_stated (before + 1 + 1) (place + 1) outputs))

-- ---- depths

-- their statements in one line after the other
abbrev pub depths_stated : ℕ → List DepthLine → List Statement
depths_stated line [] = []
depths_stated line (depth ∷ depths) = record { line = line; said = depth_said depth } ∷ depths_stated (line + 1) depths

-- it is of no variable and table that a depth before is of
abbrev IsNewDepth : List Statement → DepthLine → Type 0
IsNewDepth before depth = (depth.table < 8) × (list_any (λ s. is_depth_of (table_number depth.table) depth.variable s.said) before ≡ false)

never_both : (b : Bool) → (b && false) ≡ false
never_both true = refl
never_both false = refl

depths_apart : (a b : DepthLine) → a.table < 8 → b.table < 8 → is_same_depth a b ≡ false → is_depth_of (table_number b.table) b.variable (depth_said a) ≡ false
depths_apart a b h g apart = elim (a.table == b.table) as (λ t. (a.table == b.table) ≡ t → (t && bytes_eq a.variable b.variable) ≡ false → is_depth_of (table_number b.table) b.variable (depth_said a) ≡ false) [
  | true ↦ λ is other. rw other (never_both (bytes_eq (table_number a.table) (table_number b.table)))
  | false ↦ λ is other. rw (numbers_apart a.table b.table h g is) refl
] refl apart

depths_still_new : (before : List Statement) (line : ℕ) (depth : DepthLine) (depths : List DepthLine) → depth.table < 8 → AllByRecursion (λ other. is_same_depth depth other ≡ false) depths → AllByRecursion (IsNewDepth before) depths
    → AllByRecursion (IsNewDepth (before ++ record { line = line; said = depth_said depth } ∷ [])) depths
depths_still_new before line depth [] few apart all = tt
depths_still_new before line depth (next ∷ depths) few apart all = (
  (all.0.0, any_last (λ s. is_depth_of (table_number next.table) next.variable s.said) before (record { line = line; said = depth_said depth }) all.0.1 (depths_apart depth next few all.0.0 apart.0)),
  depths_still_new before line depth depths few apart.1 all.1,
)

depth_taken : (line : ℕ) (tables : List TableLine) (before : List Statement) (depth : DepthLine) → list_any (λ s. is_depth_of (table_number depth.table) depth.variable s.said) before ≡ false
    → with_said line (drafted tables before) (depth_said depth) ≡ Ok (drafted tables (before ++ record { line = line; said = depth_said depth } ∷ []))
unfolding with_said
depth_taken line tables before depth new = stated line (drafted tables before) (depth_said depth) new

depths_say : (before : ℕ) (tables : List TableLine) (all : List Statement) (depths : List DepthLine) → AllByRecursion (IsNewDepth all) depths → IsDistinct is_same_depth depths
    → says before (drafted tables all) (map depth_said depths) ≡ Ok (drafted tables (all ++ depths_stated (before + 1) depths))
depths_say before tables all [] new once = ap (λ (ss : List Statement). Ok (drafted tables ss)) (sym (append-nil all))
depths_say before tables all (depth ∷ depths) new once =
    let s : Statement = record { line = before + 1; said = depth_said depth } in
    step before (before + 1) (drafted tables all) (drafted tables (all ++ s ∷ [])) (depth_said depth) (map depth_said depths) refl (depth_taken (before + 1) tables all depth new.0.1)
    ∙ depths_say (before + 1) tables (all ++ s ∷ []) depths (depths_still_new all (before + 1) depth depths new.0.0 (IsDistinct-head is_same_depth depth depths once) new.1) (IsDistinct-tail is_same_depth depth depths once)
    ∙ ap (λ (ss : List Statement). Ok (drafted tables ss)) (append_assoc all (s ∷ []) (depths_stated (before + 1 + 1) depths))

-- ---- commands that stand once

-- nothing is said by this command
abbrev pub IsUnsaid : Keyword → List Statement → Type 0
IsUnsaid word all = list_any (λ s. is_by word s.said) all ≡ false

priors_unsaid : (word : Keyword) (line : ℕ) (priors : List PriorLine) → same_keyword keyword.Apriori word ≡ false → IsUnsaid word (priors_stated line priors)
priors_unsaid word line [] other = refl
priors_unsaid word line (prior ∷ priors) other = rw (other, priors_unsaid word (line + 1) priors other) refl

outputs_unsaid : (word : Keyword) (line place : ℕ) (outputs : List OutputLine) → same_keyword keyword.WriteTable word ≡ false → IsUnsaid word (outputs_stated line place outputs)
outputs_unsaid word line place [] other = refl
outputs_unsaid word line place (output ∷ outputs) other = rw (other, outputs_unsaid word (line + 1) (place + 1) outputs other) refl

unsaid_both : (word : Keyword) (xs ys : List Statement) → IsUnsaid word xs → IsUnsaid word ys → IsUnsaid word (xs ++ ys)
unsaid_both word xs ys h g = rw (list_any-append (λ s. is_by word s.said) xs ys, h, g) refl

priors_no_output : (line : ℕ) (number : List ℕ) (priors : List PriorLine) → list_any (λ s. is_output_of number s.said) (priors_stated line priors) ≡ false
priors_no_output line number [] = refl
priors_no_output line number (prior ∷ priors) = priors_no_output (line + 1) number priors

priors_no_depth : (line : ℕ) (number variable : List ℕ) (priors : List PriorLine) → list_any (λ s. is_depth_of number variable s.said) (priors_stated line priors) ≡ false
priors_no_depth line number variable [] = refl
priors_no_depth line number variable (prior ∷ priors) = priors_no_depth (line + 1) number variable priors

outputs_no_depth : (line place : ℕ) (number variable : List ℕ) (outputs : List OutputLine) → list_any (λ s. is_depth_of number variable s.said) (outputs_stated line place outputs) ≡ false
outputs_no_depth line place number variable [] = refl
outputs_no_depth line place number variable (output ∷ outputs) = outputs_no_depth (line + 1) (place + 1) number variable outputs

-- ---- the whole text

-- the four statements before the a priori files
abbrev pub front_of : Job → List Statement
front_of job =
    record { line = 1; said = said.Microdata job.micro } ∷ record { line = 2; said = said.Metadata job.meta } ∷ record { line = 3 + length job.tables; said = said.Safety job.rules }
    ∷ record { line = 4 + length job.tables; said = said.Read } ∷ []

-- the four behind them, of which the first stands in this line
abbrev pub middle_of : ℕ → Job → List Statement
middle_of line job =
    record { line = line; said = said.Cost job.cost } ∷ record { line = line + 1; said = said.Steps job.steps } ∷ record { line = line + 1 + 1; said = said.Nodes job.nodes }
    ∷ record { line = line + 1 + 1 + 1; said = said.Suppress job.method } ∷ []

-- the line of COST
abbrev pub cost_line : Job → ℕ
cost_line job = 5 + length job.tables + length job.priors

-- the line of the first output
abbrev pub outputs_line : Job → ℕ
outputs_line job = 9 + length job.tables + length job.priors

-- the line of the contributors' file
abbrev pub contributors_line : Job → ℕ
contributors_line job = 10 + length job.tables + length job.priors + length job.outputs

-- the contributors' file, where there is one, in this line
abbrev pub contributors_in : ℕ → Option OutputLine → List Statement
contributors_in line None = []
contributors_in line (Some output) = record { line = line; said = said.Contributors output.file } ∷ []

-- the line of the first depth
abbrev pub depths_line : Job → ℕ
depths_line job = 10 + length job.tables + length job.priors + length job.outputs + length (contributors_said job.contributors)

-- the certificate, the contributors' file and the depths
abbrev pub last_of : Job → List Statement
last_of job =
    record { line = outputs_line job + length job.outputs; said = said.Certificate job.certificate }
    ∷ (contributors_in (contributors_line job) job.contributors ++ depths_stated (depths_line job) job.depths)

-- all statements of a job's canonical text
abbrev pub statements_of : Job → List Statement
statements_of job =
    front_of job ++ (priors_stated (5 + length job.tables) job.priors ++ (middle_of (cost_line job) job ++ (outputs_stated (outputs_line job) 0 job.outputs ++ last_of job)))

first_two : (job : Job) (rest : List Instruction) → says 0 empty_draft (said.Microdata job.micro ∷ said.Metadata job.meta ∷ rest)
    ≡ says 2 (drafted [] (record { line = 1; said = said.Microdata job.micro } ∷ record { line = 2; said = said.Metadata job.meta } ∷ [])) rest
unfolding with_said with_statement
first_two job rest = refl

next_two : (job : Job) (tables : List TableLine) (before line next : ℕ) (rest : List Instruction) → before + 1 ≡ line → line + 1 ≡ next
    → says before (drafted tables (record { line = 1; said = said.Microdata job.micro } ∷ record { line = 2; said = said.Metadata job.meta } ∷ [])) (said.Safety job.rules ∷ said.Read ∷ rest)
    ≡ says next (drafted tables (record { line = 1; said = said.Microdata job.micro } ∷ record { line = 2; said = said.Metadata job.meta } ∷ record { line = line; said = said.Safety job.rules } ∷ record { line = next; said = said.Read } ∷ [])) rest
unfolding with_said with_statement
next_two job tables before line next rest is then = rw (is, then) refl

single_taken : (line : ℕ) (tables : List TableLine) (all : List Statement) (one : Instruction) → with_said line (drafted tables all) one ≡ with_statement line (drafted tables all) one → is_again one all ≡ false
    → with_said line (drafted tables all) one ≡ Ok (drafted tables (all ++ record { line = line; said = one } ∷ []))
single_taken line tables all one is once = is ∙ stated line (drafted tables all) one once

cost_as : (line : ℕ) (draft : Draft) (job : Job) → with_said line draft (said.Cost job.cost) ≡ with_statement line draft (said.Cost job.cost)
unfolding with_said
cost_as line draft job = refl

steps_as : (line : ℕ) (draft : Draft) (job : Job) → with_said line draft (said.Steps job.steps) ≡ with_statement line draft (said.Steps job.steps)
unfolding with_said
steps_as line draft job = refl

nodes_as : (line : ℕ) (draft : Draft) (job : Job) → with_said line draft (said.Nodes job.nodes) ≡ with_statement line draft (said.Nodes job.nodes)
unfolding with_said
nodes_as line draft job = refl

method_as : (line : ℕ) (draft : Draft) (job : Job) → with_said line draft (said.Suppress job.method) ≡ with_statement line draft (said.Suppress job.method)
unfolding with_said
method_as line draft job = refl

certificate_as : (line : ℕ) (draft : Draft) (job : Job) → with_said line draft (said.Certificate job.certificate) ≡ with_statement line draft (said.Certificate job.certificate)
unfolding with_said
certificate_as line draft job = refl

contributors_as : (line : ℕ) (draft : Draft) (file : List ℕ) → with_said line draft (said.Contributors file) ≡ with_statement line draft (said.Contributors file)
unfolding with_said
contributors_as line draft file = refl

contributors_say : (before line : ℕ) (tables : List TableLine) (all : List Statement) (contributors : Option OutputLine) (rest : List Instruction) → before + 1 ≡ line → IsUnsaid keyword.Contributors all
    → says before (drafted tables all) (contributors_said contributors ++ rest) ≡ says (before + length (contributors_said contributors)) (drafted tables (all ++ contributors_in line contributors)) rest
contributors_say before line tables all None rest is none =
    let same : before ≡ before + 0 = omega arith in
    ap (λ (n : ℕ). says n (drafted tables all) rest) same ∙ ap (λ (ss : List Statement). says (before + 0) (drafted tables ss) rest) (sym (append-nil all))
contributors_say before line tables all (Some o) rest is none =
    let s : Statement = record { line = line; said = said.Contributors o.file } in
    step before line (drafted tables all) (drafted tables (all ++ s ∷ [])) (said.Contributors o.file) rest is (single_taken line tables all (said.Contributors o.file) (contributors_as line (drafted tables all) o.file) none)
    ∙ ap (λ (n : ℕ). says n (drafted tables (all ++ s ∷ [])) rest) (sym is)

-- four statements that stand once
middle_say : (before line : ℕ) (job : Job) (tables : List TableLine) (all : List Statement) (rest : List Instruction) → before + 1 ≡ line
    → IsUnsaid keyword.Cost all → IsUnsaid keyword.Steps all → IsUnsaid keyword.Nodes all → IsUnsaid keyword.Suppress all
    → says before (drafted tables all) (said.Cost job.cost ∷ said.Steps job.steps ∷ said.Nodes job.nodes ∷ said.Suppress job.method ∷ rest) ≡ says (line + 1 + 1 + 1) (drafted tables (all ++ middle_of line job)) rest
middle_say before line job tables all rest is cost steps nodes method =
    let a : Statement = record { line = line; said = said.Cost job.cost } in
    let b : Statement = record { line = line + 1; said = said.Steps job.steps } in
    let d : Statement = record { line = line + 1 + 1; said = said.Nodes job.nodes } in
    let e : Statement = record { line = line + 1 + 1 + 1; said = said.Suppress job.method } in
    step before line (drafted tables all) (drafted tables (all ++ a ∷ [])) (said.Cost job.cost) (said.Steps job.steps ∷ said.Nodes job.nodes ∷ said.Suppress job.method ∷ rest) is (single_taken line tables all (said.Cost job.cost) (cost_as line (drafted tables all) job) cost)
    ∙ step line (line + 1) (drafted tables (all ++ a ∷ [])) (drafted tables ((all ++ a ∷ []) ++ b ∷ [])) (said.Steps job.steps) (said.Nodes job.nodes ∷ said.Suppress job.method ∷ rest) refl
    (single_taken (line + 1) tables (all ++ a ∷ []) (said.Steps job.steps) (steps_as (line + 1) (drafted tables (all ++ a ∷ [])) job) (unsaid_both keyword.Steps all (a ∷ []) steps refl))
    ∙ ap (λ (ss : List Statement). says (line + 1) (drafted tables ss) (said.Nodes job.nodes ∷ said.Suppress job.method ∷ rest)) (append_assoc all (a ∷ []) (b ∷ []))
    ∙ step (line + 1) (line + 1 + 1) (drafted tables (all ++ a ∷ b ∷ [])) (drafted tables ((all ++ a ∷ b ∷ []) ++ d ∷ [])) (said.Nodes job.nodes) (said.Suppress job.method ∷ rest) refl
    (single_taken (line + 1 + 1) tables (all ++ a ∷ b ∷ []) (said.Nodes job.nodes) (nodes_as (line + 1 + 1) (drafted tables (all ++ a ∷ b ∷ [])) job) (unsaid_both keyword.Nodes all (a ∷ b ∷ []) nodes refl))
    ∙ ap (λ (ss : List Statement). says (line + 1 + 1) (drafted tables ss) (said.Suppress job.method ∷ rest)) (append_assoc all (a ∷ b ∷ []) (d ∷ []))
    ∙ step (line + 1 + 1) (line + 1 + 1 + 1) (drafted tables (all ++ a ∷ b ∷ d ∷ [])) (drafted tables ((all ++ a ∷ b ∷ d ∷ []) ++ e ∷ [])) (said.Suppress job.method) rest refl
    (single_taken (line + 1 + 1 + 1) tables (all ++ a ∷ b ∷ d ∷ []) (said.Suppress job.method) (method_as (line + 1 + 1 + 1) (drafted tables (all ++ a ∷ b ∷ d ∷ [])) job) (unsaid_both keyword.Suppress all (a ∷ b ∷ d ∷ []) method refl))
    ∙ ap (λ (ss : List Statement). says (line + 1 + 1 + 1) (drafted tables ss) rest) (append_assoc all (a ∷ b ∷ d ∷ []) (e ∷ []))

contributors_no_depth : (line : ℕ) (number variable : List ℕ) (contributors : Option OutputLine) → list_any (λ s. is_depth_of number variable s.said) (contributors_in line contributors) ≡ false
contributors_no_depth line number variable None = refl
contributors_no_depth line number variable (Some o) = refl

-- all that stands before the depths
abbrev before_depths : Job → List Statement
before_depths job =
    ((((front_of job ++ priors_stated (5 + length job.tables) job.priors) ++ middle_of (cost_line job) job) ++ outputs_stated (outputs_line job) 0 job.outputs)
    ++ record { line = outputs_line job + length job.outputs; said = said.Certificate job.certificate } ∷ [])
    ++ contributors_in (contributors_line job) job.contributors

-- no depth does
no_depth : (job : Job) (number variable : List ℕ) → list_any (λ s. is_depth_of number variable s.said) (before_depths job) ≡ false
no_depth job number variable =
    let test : Statement → Bool = λ s. is_depth_of number variable s.said in
    let priors = priors_stated (5 + length job.tables) job.priors in
    let before = front_of job ++ priors in
    let whole = before ++ middle_of (cost_line job) job in
    let done = outputs_stated (outputs_line job) 0 job.outputs in
    let z : Statement = record { line = outputs_line job + length job.outputs; said = said.Certificate job.certificate } in
    let extra = contributors_in (contributors_line job) job.contributors in
    any_neither test ((whole ++ done) ++ z ∷ []) extra
    (any_neither test (whole ++ done) (z ∷ []) (any_neither test whole done (any_neither test before (middle_of (cost_line job) job) (priors_no_depth (5 + length job.tables) number variable job.priors) refl) (outputs_no_depth (outputs_line job) 0 number variable job.outputs)) refl)
    (contributors_no_depth (contributors_line job) number variable job.contributors)
  where
    any_neither : (test : Statement → Bool) (xs ys : List Statement) → list_any test xs ≡ false → list_any test ys ≡ false → list_any test (xs ++ ys) ≡ false
    any_neither test xs ys h g = rw (list_any-append test xs ys, h, g) refl

front_unsaid : (word : Keyword) (job : Job) (line : ℕ) → same_keyword keyword.OpenMicrodata word ≡ false → same_keyword keyword.OpenMetadata word ≡ false → same_keyword keyword.SafetyRule word ≡ false → same_keyword keyword.ReadMicrodata word ≡ false → same_keyword keyword.Apriori word ≡ false
    → IsUnsaid word (front_of job ++ priors_stated line job.priors)
front_unsaid word job line h0 h1 h3 h4 h5 = rw (h0, h1, h3, h4, priors_unsaid word line job.priors h5) refl

-- what a job's canonical text says, where its parts fit
pub text_says_all : (job : Job) → Fit [] job.tables → AllByRecursion (λ p. p.table < 8) job.priors → IsDistinct ◌==◌ (map (λ p. p.table) job.priors) → length job.outputs ≤ 8
    → AllByRecursion (λ d. d.table < 8) job.depths → IsDistinct is_same_depth job.depths → says 0 empty_draft (job_says job) ≡ Ok (drafted (tables_from 3 job.tables) (statements_of job))
text_says_all job fits few once outputs shallow single =
    let n = length job.tables in
    let m = length job.priors in
    let t = tables_from 3 job.tables in
    let front = front_of job in
    let priors = priors_stated (5 + n) job.priors in
    let middle = middle_of (cost_line job) job in
    let before = front ++ priors in
    let whole = before ++ middle in
    let deep : List Instruction = map depth_said job.depths in
    let last : List Instruction = said.Certificate job.certificate ∷ (contributors_said job.contributors ++ deep) in
    let r3 : List Instruction = outputs_said 0 job.outputs ++ last in
    let r2 : List Instruction = said.Cost job.cost ∷ said.Steps job.steps ∷ said.Nodes job.nodes ∷ said.Suppress job.method ∷ r3 in
    let r1 : List Instruction = said.Safety job.rules ∷ said.Read ∷ (map prior_said job.priors ++ r2) in
    let done = outputs_stated (outputs_line job) 0 job.outputs in
    let z : Statement = record { line = outputs_line job + length job.outputs; said = said.Certificate job.certificate } in
    let line_a : 4 + n + 1 ≡ 5 + n = omega arith in
    let line_b : 4 + n + m + 1 ≡ cost_line job = omega arith in
    let line_c : cost_line job + 1 + 1 + 1 + 1 ≡ outputs_line job = omega arith in
    let line_d : cost_line job + 1 + 1 + 1 + length job.outputs + 1 ≡ outputs_line job + length job.outputs = omega arith in
    let line_e : outputs_line job + length job.outputs + 1 ≡ contributors_line job = omega arith in
    let line_f : outputs_line job + length job.outputs + length (contributors_said job.contributors) + 1 ≡ depths_line job = omega arith in
    let extra = contributors_in (contributors_line job) job.contributors in
    let depths = depths_stated (depths_line job) job.depths in
    let none : HasNone 0 whole = λ q above small.
    let number = table_number q in
    rw (list_any-append (λ s. is_output_of number s.said) before middle, list_any-append (λ s. is_output_of number s.said) front priors, priors_no_output (5 + n) number job.priors) refl in
    ap (λ (rest : List Instruction). says 0 empty_draft (said.Microdata job.micro ∷ said.Metadata job.meta ∷ (map table_said job.tables ++ (said.Safety job.rules ∷ said.Read ∷ (map prior_said job.priors ++ (said.Cost job.cost ∷ said.Steps job.steps ∷ said.Nodes job.nodes ∷ said.Suppress job.method ∷ rest))))))
    (append_assoc (outputs_said 0 job.outputs) (said.Certificate job.certificate ∷ contributors_said job.contributors) deep)
    ∙ first_two job (map table_said job.tables ++ r1)
    ∙ tables_say 2 [] job.tables (record { line = 1; said = said.Microdata job.micro } ∷ record { line = 2; said = said.Metadata job.meta } ∷ []) r1 fits
    ∙ next_two job t (2 + n) (3 + n) (4 + n) (map prior_said job.priors ++ r2) (omega arith) (omega arith)
    ∙ priors_say (4 + n) t front job.priors r2 (new job.priors few) once
    ∙ ap (λ (line : ℕ). says (4 + n + m) (drafted t (front ++ priors_stated line job.priors)) r2) line_a
    ∙ middle_say (4 + n + m) (cost_line job) job t before r3 line_b
    (front_unsaid keyword.Cost job (5 + n) refl refl refl refl refl) (front_unsaid keyword.Steps job (5 + n) refl refl refl refl refl)
    (front_unsaid keyword.Nodes job (5 + n) refl refl refl refl refl) (front_unsaid keyword.Suppress job (5 + n) refl refl refl refl refl)
    ∙ outputs_say (cost_line job + 1 + 1 + 1) 0 t whole job.outputs last (omega (arith, outputs)) none
    ∙ ap (λ (line : ℕ). says (cost_line job + 1 + 1 + 1 + length job.outputs) (drafted t (whole ++ outputs_stated line 0 job.outputs)) last) line_c
    ∙ step (cost_line job + 1 + 1 + 1 + length job.outputs) (outputs_line job + length job.outputs) (drafted t (whole ++ done)) (drafted t ((whole ++ done) ++ z ∷ [])) (said.Certificate job.certificate) (contributors_said job.contributors ++ deep) line_d
    (single_taken (outputs_line job + length job.outputs) t (whole ++ done) (said.Certificate job.certificate) (certificate_as (outputs_line job + length job.outputs) (drafted t (whole ++ done)) job)
    (unsaid_both keyword.Certificate whole done (unsaid_both keyword.Certificate before middle (front_unsaid keyword.Certificate job (5 + n) refl refl refl refl refl) refl) (outputs_unsaid keyword.Certificate (outputs_line job) 0 job.outputs refl)))
    ∙ contributors_say (outputs_line job + length job.outputs) (contributors_line job) t ((whole ++ done) ++ z ∷ []) job.contributors deep line_e
    (unsaid_both keyword.Contributors (whole ++ done) (z ∷ []) (unsaid_both keyword.Contributors whole done (unsaid_both keyword.Contributors before middle (front_unsaid keyword.Contributors job (5 + n) refl refl refl refl refl) refl) (outputs_unsaid keyword.Contributors (outputs_line job) 0 job.outputs refl)) refl)
    ∙ depths_say (outputs_line job + length job.outputs + length (contributors_said job.contributors)) t (((whole ++ done) ++ z ∷ []) ++ extra) job.depths (unmet job.depths shallow) single
    ∙ ap (λ (line : ℕ). Ok (drafted t ((((whole ++ done) ++ z ∷ []) ++ extra) ++ depths_stated line job.depths))) line_f
    ∙ ap (λ (ss : List Statement). Ok (drafted t ss)) (append_assoc ((whole ++ done) ++ z ∷ []) extra depths ∙ append_assoc (whole ++ done) (z ∷ []) (extra ++ depths) ∙ regrouped front priors middle done (z ∷ (extra ++ depths)))
  where
    new : (priors : List PriorLine) → AllByRecursion (λ p. p.table < 8) priors → AreNew (front_of job) priors
    new [] all = tt
    new (p ∷ priors) all = ((all.0, refl), new priors all.1)

    unmet : (depths : List DepthLine) → AllByRecursion (λ d. d.table < 8) depths → AllByRecursion (IsNewDepth (before_depths job)) depths
    unmet [] all = tt
    unmet (d ∷ depths) all = ((all.0, no_depth job (table_number d.table) d.variable), unmet depths all.1)

    regrouped : (a b d e f : List Statement) → (((a ++ b) ++ d) ++ e) ++ f ≡ a ++ (b ++ (d ++ (e ++ f)))
    regrouped a b d e f = append_assoc ((a ++ b) ++ d) e f ∙ append_assoc (a ++ b) d (e ++ f) ∙ append_assoc a b (d ++ (e ++ f))

-- A job of its canonical text.
use Rattle.std.proofs.Common.{◌≡◌, ◌≢◌, ℕ, zero, suc, ◌+◌, ◌<◌, ◌≤◌, ◌==◌, ◌||◌, Bool, true, false, cond, List, [], ◌∷◌, ◌++◌, length, map, Option, None, Some, Ok, Err, refl, ap, sym, ◌∙◌, subst, arith, append_assoc, nat_lt, nat_le}
use Rattle.std.specs.Prelude.{◌&&◌, find, slice_get}
use Rattle.std.specs.Option.{is_some}
use Rattle.std.specs.List.{AllByRecursion, IsDistinct, list_any, count_by}
use Rattle.std.specs.Str.{bytes_eq}
use Rattle.std.specs.Cmp.Lexicographic.{nat_list_eq_equiv}
use Rattle.std.proofs.lemmas.Fmt.{decimal_is_IsNumeral_wide}
use Rattle.std.proofs.lemmas.List.{append-nil}
use Rattle.std.proofs.lemmas.List.Folds.{list_any-append}
use Rattle.std.proofs.lemmas.List.Sums.{sum_by-cons, sum_by-append}
use Rattle.std.proofs.lemmas.Map.Keys.{IsDistinct-head, IsDistinct-tail}
use Rattle.std.proofs.lemmas.Slice.Eq.{bytes_eq-Decides}
use Rattle.cost_rule.specs.declared.kind.CostKind.{CostKind}
use Rattle.sdc_base.specs.Tokens.{number_in}
use Rattle.sdc_base.specs.declared.method.Method.{Method}
use Rattle.sdc_base.specs.declared.method.Method.TheVariants.{Gh, Modular, Rnd}
use Rattle.job_lang.specs.declared.faults.JobWhy.TheVariants.{NoSuchTable, NotInTable, SameName}
use Rattle.job_lang.specs.declared.job.DepthLine.{DepthLine}
use Rattle.job_lang.specs.declared.job.Job.{Job}
use Rattle.job_lang.specs.declared.job.OutputLine.{OutputLine}
use Rattle.job_lang.specs.declared.job.PriorLine.{PriorLine}
use Rattle.job_lang.specs.declared.job.TableLine.{TableLine}
use Rattle.job_lang.specs.declared.looked_up.RulesLine.{RulesLine}
use Rattle.job_lang.specs.declared.statement.Draft.{Draft}
use Rattle.job_lang.specs.declared.statement.Keyword.{Keyword}
use Rattle.job_lang.specs.declared.statement.Keyword.TheVariants as keyword
use Rattle.job_lang.specs.declared.statement.Instruction.TheVariants as said
use Rattle.job_lang.specs.declared.statement.Statement.{Statement}
use Rattle.job_lang.specs.Keywords.{same_keyword}
use Rattle.job_lang.specs.Statements.{is_by}
use Rattle.job_lang.specs.ClosingLooks.{statement_by, is_output_at, output_said, file_line, rules_line, method_of, cost_of, work_of, usual_steps, usual_nodes, table_place, priors_in, depths_in}
use Rattle.job_lang.specs.MissingCommands.{outputs_from}
use Rattle.job_lang.specs.FilesApart.{is_no_table, is_astray, no_stray, puts, is_read_file, is_shared, puts_shared_file, no_same_name}
use Rattle.job_lang.specs.SpannedDepths.{spans_table, is_outside, no_outside}
use Rattle.job_lang.specs.RoundedContributors.{is_rounding, unless_line, no_rounded_contributors}
use Rattle.job_lang.specs.JobLimits.{CanHaveContributors, IsDepth}
use Rattle.job_lang.specs.Jobs.{job_made, closed_job}
use Rattle.job_lang.specs.FileLaws.{contributors_files, puts_of, reads_of}
use Rattle.job_lang.specs.Spelling.{table_number}
use Rattle.job_lang.specs.JobText.{prior_said, depth_said, tables_from, priors_from, outputs_at, depths_from, output_at, in_text}
use Rattle.job_lang.proofs.Made.{job_with}
use Rattle.job_lang.proofs.Spelled.{number_spelled}
use Rattle.job_lang.proofs.SpelledDraft.{any_last, priors_stated, outputs_stated, depths_stated, front_of, middle_of, cost_line, outputs_line, contributors_line, contributors_in, depths_line, last_of, statements_of, drafted}

-- ---- look-ups

find_past : (test : Statement → Bool) (xs ys : List Statement) → list_any test xs ≡ false → find test (xs ++ ys) ≡ find test ys
find_past test [] ys h = refl
find_past test (x ∷ xs) ys h = elim (test x) as (λ t. (t || list_any test xs) ≡ false → cond t (Some x) (find test (xs ++ ys)) ≡ find test ys) [
  | true ↦ λ g. absurd cc
  | false ↦ λ g. find_past test xs ys g
] h

any_past : (test : Statement → Bool) (xs ys : List Statement) → list_any test xs ≡ false → list_any test (xs ++ ys) ≡ list_any test ys
any_past test xs ys h = rw (list_any-append test xs ys, h) refl

priors_by : (word : Keyword) (line : ℕ) (priors : List PriorLine) → same_keyword keyword.Apriori word ≡ false → list_any (λ s. is_by word s.said) (priors_stated line priors) ≡ false
priors_by word line [] other = refl
priors_by word line (prior ∷ priors) other = rw (other, priors_by word (line + 1) priors other) refl

outputs_by : (word : Keyword) (line place : ℕ) (outputs : List OutputLine) → same_keyword keyword.WriteTable word ≡ false → list_any (λ s. is_by word s.said) (outputs_stated line place outputs) ≡ false
outputs_by word line place [] other = refl
outputs_by word line place (output ∷ outputs) other = rw (other, outputs_by word (line + 1) (place + 1) outputs other) refl

priors_at : (place line : ℕ) (priors : List PriorLine) → list_any (λ s. is_output_at place s.said) (priors_stated line priors) ≡ false
priors_at place line [] = refl
priors_at place line (prior ∷ priors) = priors_at place (line + 1) priors

-- what stands behind the a priori files
abbrev behind_priors : Job → List Statement
behind_priors job = middle_of (cost_line job) job ++ (outputs_stated (outputs_line job) 0 job.outputs ++ last_of job)

cost_found : (job : Job) → cost_of (statement_by keyword.Cost (statements_of job)) ≡ job.cost
cost_found job = ap cost_of (find_past (λ s. is_by keyword.Cost s.said) (priors_stated (5 + length job.tables) job.priors) (behind_priors job) (priors_by keyword.Cost (5 + length job.tables) job.priors refl))

steps_found : (job : Job) → work_of usual_steps (statement_by keyword.Steps (statements_of job)) ≡ job.steps
steps_found job = ap (work_of usual_steps) (find_past (λ s. is_by keyword.Steps s.said) (priors_stated (5 + length job.tables) job.priors) (behind_priors job) (priors_by keyword.Steps (5 + length job.tables) job.priors refl))

nodes_found : (job : Job) → work_of usual_nodes (statement_by keyword.Nodes (statements_of job)) ≡ job.nodes
nodes_found job = ap (work_of usual_nodes) (find_past (λ s. is_by keyword.Nodes s.said) (priors_stated (5 + length job.tables) job.priors) (behind_priors job) (priors_by keyword.Nodes (5 + length job.tables) job.priors refl))

method_found : (job : Job) → method_of (statement_by keyword.Suppress (statements_of job)) ≡ Some job.method
method_found job = ap method_of (find_past (λ s. is_by keyword.Suppress s.said) (priors_stated (5 + length job.tables) job.priors) (behind_priors job) (priors_by keyword.Suppress (5 + length job.tables) job.priors refl))

certificate_found : (job : Job) → file_line (statement_by keyword.Certificate (statements_of job)) ≡ Some (record { line = outputs_line job + length job.outputs; file = job.certificate })
certificate_found job =
    ap file_line (find_past (λ s. is_by keyword.Certificate s.said) (priors_stated (5 + length job.tables) job.priors) (behind_priors job) (priors_by keyword.Certificate (5 + length job.tables) job.priors refl))
    ∙ ap file_line (find_past (λ s. is_by keyword.Certificate s.said) (outputs_stated (outputs_line job) 0 job.outputs) (last_of job) (outputs_by keyword.Certificate (outputs_line job) 0 job.outputs refl))

no_contributors : (line : ℕ) (depths : List DepthLine) → find (λ s. is_by keyword.Contributors s.said) (depths_stated line depths) ≡ None
no_contributors line [] = refl
no_contributors line (depth ∷ depths) = no_contributors (line + 1) depths

contributors_first : (line next : ℕ) (contributors : Option OutputLine) (depths : List DepthLine)
    → find (λ s. is_by keyword.Contributors s.said) (contributors_in line contributors ++ depths_stated next depths) ≡ find (λ s. is_by keyword.Contributors s.said) (contributors_in line contributors)
contributors_first line next None depths = no_contributors next depths
contributors_first line next (Some o) depths = refl

-- the statement of the contributors' file, where there is one
contributors_stated : (job : Job) → statement_by keyword.Contributors (statements_of job) ≡ find (λ s. is_by keyword.Contributors s.said) (contributors_in (contributors_line job) job.contributors)
contributors_stated job =
    find_past (λ s. is_by keyword.Contributors s.said) (priors_stated (5 + length job.tables) job.priors) (behind_priors job) (priors_by keyword.Contributors (5 + length job.tables) job.priors refl)
    ∙ find_past (λ s. is_by keyword.Contributors s.said) (outputs_stated (outputs_line job) 0 job.outputs) (last_of job) (outputs_by keyword.Contributors (outputs_line job) 0 job.outputs refl)
    ∙ contributors_first (contributors_line job) (depths_line job) job.contributors job.depths

contributors_again : (line : ℕ) (contributors : Option OutputLine) → file_line (find (λ s. is_by keyword.Contributors s.said) (contributors_in line contributors)) ≡ output_at line contributors
contributors_again line None = refl
contributors_again line (Some o) = refl

contributors_found : (job : Job) → file_line (statement_by keyword.Contributors (statements_of job)) ≡ output_at (contributors_line job) job.contributors
contributors_found job = ap file_line (contributors_stated job) ∙ contributors_again (contributors_line job) job.contributors

fit : (method : Method) (line : ℕ) (contributors : Option OutputLine) → CanHaveContributors method contributors → unless_line (is_rounding (Some method)) (find (λ s. is_by keyword.Contributors s.said) (contributors_in line contributors)) ≡ Ok tt
fit (Rnd base) line None can = refl
fit (Rnd base) line (Some o) can = absurd can
fit (Gh n) line contributors can = refl
fit Modular line contributors can = refl

all_fit : (job : Job) → CanHaveContributors job.method job.contributors → no_rounded_contributors (statements_of job) ≡ Ok tt
unfolding no_rounded_contributors
all_fit job can =
    ap (λ (m : Option Method). unless_line (is_rounding m) (statement_by keyword.Contributors (statements_of job))) (method_found job)
    ∙ ap (λ (o : Option Statement). unless_line (is_rounding (Some job.method)) o) (contributors_stated job)
    ∙ fit job.method (contributors_line job) job.contributors can

-- ---- a priori files

place_again : (place : ℕ) → place < 8 → table_place (table_number place) ≡ place
place_again place h = rw (number_spelled 1 8 (place + 1) (omega arith) (omega (arith, h)) (omega arith)) (omega arith)

priors_both : (line : ℕ) (priors : List PriorLine) (rest : List Statement) → AllByRecursion (λ p. p.table < 8) priors → priors_in (priors_stated line priors ++ rest) ≡ priors_from line priors ++ priors_in rest
priors_both line [] rest few = refl
priors_both line (prior ∷ priors) rest few =
    ap (λ (place : ℕ). record { line = line; file = prior.file; table = place; separator = prior.separator } ∷ priors_in (priors_stated (line + 1) priors ++ rest)) (place_again prior.table few.0)
    ∙ ap (λ (ps : List PriorLine). record { line = line; file = prior.file; table = prior.table; separator = prior.separator } ∷ ps) (priors_both (line + 1) priors rest few.1)

no_priors : (line place : ℕ) (outputs : List OutputLine) (rest : List Statement) → priors_in (outputs_stated line place outputs ++ rest) ≡ priors_in rest
no_priors line place [] rest = refl
no_priors line place (output ∷ outputs) rest = no_priors (line + 1) (place + 1) outputs rest

no_priors_last : (line : ℕ) (depths : List DepthLine) → priors_in (depths_stated line depths) ≡ []
no_priors_last line [] = refl
no_priors_last line (depth ∷ depths) = no_priors_last (line + 1) depths

none_last : (line next : ℕ) (contributors : Option OutputLine) (depths : List DepthLine) → priors_in (contributors_in line contributors ++ depths_stated next depths) ≡ []
none_last line next None depths = no_priors_last next depths
none_last line next (Some o) depths = no_priors_last next depths

priors_found : (job : Job) → AllByRecursion (λ p. p.table < 8) job.priors → priors_in (statements_of job) ≡ priors_from (5 + length job.tables) job.priors
priors_found job few =
    priors_both (5 + length job.tables) job.priors (behind_priors job) few
    ∙ ap (λ (ps : List PriorLine). priors_from (5 + length job.tables) job.priors ++ ps) (no_priors (outputs_line job) 0 job.outputs (last_of job) ∙ none_last (contributors_line job) (depths_line job) job.contributors job.depths)
    ∙ append-nil (priors_from (5 + length job.tables) job.priors)

-- ---- depths

no_depths_first : (line : ℕ) (priors : List PriorLine) (rest : List Statement) → depths_in (priors_stated line priors ++ rest) ≡ depths_in rest
no_depths_first line [] rest = refl
no_depths_first line (prior ∷ priors) rest = no_depths_first (line + 1) priors rest

no_depths : (line place : ℕ) (outputs : List OutputLine) (rest : List Statement) → depths_in (outputs_stated line place outputs ++ rest) ≡ depths_in rest
no_depths line place [] rest = refl
no_depths line place (output ∷ outputs) rest = no_depths (line + 1) (place + 1) outputs rest

no_depth_last : (line : ℕ) (contributors : Option OutputLine) (rest : List Statement) → depths_in (contributors_in line contributors ++ rest) ≡ depths_in rest
no_depth_last line None rest = refl
no_depth_last line (Some o) rest = refl

depths_again : (line : ℕ) (depths : List DepthLine) → AllByRecursion (λ d. d.table < 8) depths → depths_in (depths_stated line depths) ≡ depths_from line depths
depths_again line [] few = refl
depths_again line (depth ∷ depths) few =
    ap (λ (place : ℕ). record { line = line; table = place; variable = depth.variable; depth = depth.depth } ∷ depths_in (depths_stated (line + 1) depths)) (place_again depth.table few.0)
    ∙ ap (λ (ds : List DepthLine). record { line = line; table = depth.table; variable = depth.variable; depth = depth.depth } ∷ ds) (depths_again (line + 1) depths few.1)

depths_found : (job : Job) → AllByRecursion (λ d. d.table < 8) job.depths → depths_in (statements_of job) ≡ depths_from (depths_line job) job.depths
depths_found job few =
    no_depths_first (5 + length job.tables) job.priors (behind_priors job)
    ∙ no_depths (outputs_line job) 0 job.outputs (last_of job)
    ∙ no_depth_last (contributors_line job) job.contributors (depths_stated (depths_line job) job.depths)
    ∙ depths_again (depths_line job) job.depths few

-- ---- outputs

at_own_place : (place : ℕ) → place < 8 → is_some (number_in (place + 1) (place + 1) (table_number place)) ≡ true
at_own_place place h = rw (number_spelled (place + 1) (place + 1) (place + 1) (omega arith) (omega arith) (omega (arith, h))) refl

-- each output is found at its place
abbrev AreFound : List Statement → ℕ → ℕ → List OutputLine → Type 0
AreFound all line place [] = Unit {0}
AreFound all line place (output ∷ outputs) = (file_line (output_said place all) ≡ Some (record { line = line; file = output.file })) × AreFound all (line + 1) (place + 1) outputs

outputs_again : (all : List Statement) (line place : ℕ) (outputs : List OutputLine) → AreFound all line place outputs → outputs_from (length outputs) place all ≡ Ok (outputs_at line outputs)
unfolding outputs_from
outputs_again all line place [] found = refl
outputs_again all line place (output ∷ outputs) found = rw (found.0, outputs_again all (line + 1) (place + 1) outputs found.1) refl

not_within : (x : Bool) (p q d : ℕ) → p < q → is_some {T = ℕ} (cond (x && (nat_le (q + 1) (p + 1) && nat_le (p + 1) (q + 1))) (Some d) None) ≡ false
not_within x p q d h = grind arith

at_other_place : (p q : ℕ) → p < q → q < 8 → is_some (number_in (q + 1) (q + 1) (table_number p)) ≡ false
at_other_place p q h few = rw (decimal_is_IsNumeral_wide (p + 1) (omega (arith, h, few))).1 (not_within _ p q (p + 1) h)

are_found : (all front : List Statement) (line place : ℕ) (outputs : List OutputLine) (rest : List Statement) → all ≡ front ++ (outputs_stated line place outputs ++ rest) → place + length outputs ≤ 8
    → ((q : ℕ) → place ≤ q → q < 8 → list_any (λ s. is_output_at q s.said) front ≡ false) → AreFound all line place outputs
are_found all front line place [] rest is few none = tt
are_found all front line place (output ∷ outputs) rest is few none =
    let s : Statement = record { line = line; said = said.Output (table_number place) output.file } in
    let behind : List Statement = outputs_stated (line + 1) (place + 1) outputs ++ rest in
    let here : find (λ t. is_output_at place t.said) (s ∷ behind) ≡ Some s = rw (at_own_place place (omega (arith, few))) refl in
    let found : output_said place all ≡ Some s = ap (output_said place) is ∙ find_past (λ t. is_output_at place t.said) front (s ∷ behind) (none place (omega arith) (omega (arith, few))) ∙ here in
    let later : (q : ℕ) → place + 1 ≤ q → q < 8 → list_any (λ t. is_output_at q t.said) (front ++ s ∷ []) ≡ false =
    λ q above small. any_last (λ t. is_output_at q t.said) front s (none q (omega (arith, above)) small) (at_other_place place q (omega (arith, above)) small) in
    (ap file_line found, are_found all (front ++ s ∷ []) (line + 1) (place + 1) outputs rest (is ∙ sym (append_assoc front (s ∷ []) behind)) (omega (arith, few)) later)

outputs_found : (job : Job) → length job.outputs ≤ 8 → outputs_from (length job.outputs) 0 (statements_of job) ≡ Ok (outputs_at (outputs_line job) job.outputs)
outputs_found job few =
    let priors = priors_stated (5 + length job.tables) job.priors in
    let middle = middle_of (cost_line job) job in
    let tail = outputs_stated (outputs_line job) 0 job.outputs ++ last_of job in
    let none : (q : ℕ) → 0 ≤ q → q < 8 → list_any (λ s. is_output_at q s.said) ((front_of job ++ priors) ++ middle) ≡ false =
    λ q above small. rw (list_any-append (λ s. is_output_at q s.said) (front_of job ++ priors) middle, list_any-append (λ s. is_output_at q s.said) (front_of job) priors, priors_at q (5 + length job.tables) job.priors) refl in
    outputs_again (statements_of job) (outputs_line job) 0 job.outputs
    (are_found (statements_of job) ((front_of job ++ priors) ++ middle) (outputs_line job) 0 job.outputs (last_of job) (sym (append_assoc (front_of job ++ priors) middle tail ∙ append_assoc (front_of job) priors (middle ++ tail))) (omega (arith, few)) none)

-- ---- numbers of tables

placed : (count : ℕ) (all : List Statement) → list_any (λ s. is_astray count s.said) all ≡ false → no_stray count all ≡ Ok tt
unfolding no_stray
placed count [] h = refl
placed count (s ∷ rest) h = elim (is_astray count s.said) as (λ t. (t || list_any (λ s. is_astray count s.said) rest) ≡ false → cond t (Err (s.line, NoSuchTable)) (no_stray count rest) ≡ Ok tt) [
  | true ↦ λ g. absurd cc
  | false ↦ λ g. placed count rest g
] h

is_table : (count place : ℕ) → place < count → count ≤ 8 → is_no_table count (table_number place) ≡ false
is_table count place h few = rw (number_spelled 1 count (place + 1) (omega arith) (omega (arith, h)) (omega (arith, few))) refl

priors_placed : (count line : ℕ) (priors : List PriorLine) → count ≤ 8 → AllByRecursion (λ p. p.table < count) priors → list_any (λ s. is_astray count s.said) (priors_stated line priors) ≡ false
priors_placed count line [] few all = refl
priors_placed count line (prior ∷ priors) few all = rw (is_table count prior.table all.0 few, priors_placed count (line + 1) priors few all.1) refl

outputs_placed : (count line place : ℕ) (outputs : List OutputLine) → count ≤ 8 → place + length outputs ≤ count → list_any (λ s. is_astray count s.said) (outputs_stated line place outputs) ≡ false
outputs_placed count line place [] few all = refl
outputs_placed count line place (output ∷ outputs) few all = rw (is_table count place (omega (arith, all)) few, outputs_placed count (line + 1) (place + 1) outputs few (omega (arith, all))) refl

contributors_placed : (count line : ℕ) (contributors : Option OutputLine) → list_any (λ s. is_astray count s.said) (contributors_in line contributors) ≡ false
contributors_placed count line None = refl
contributors_placed count line (Some o) = refl

depths_placed : (count line : ℕ) (depths : List DepthLine) → count ≤ 8 → AllByRecursion (λ d. d.table < count) depths → list_any (λ s. is_astray count s.said) (depths_stated line depths) ≡ false
depths_placed count line [] few all = refl
depths_placed count line (depth ∷ depths) few all = rw (is_table count depth.table all.0 few, depths_placed count (line + 1) depths few all.1) refl

all_placed : (count : ℕ) (job : Job) → count ≤ 8 → AllByRecursion (λ p. p.table < count) job.priors → length job.outputs ≤ count → AllByRecursion (λ d. d.table < count) job.depths → no_stray count (statements_of job) ≡ Ok tt
all_placed count job few priors outputs depths =
    placed count (statements_of job)
    (any_past (λ s. is_astray count s.said) (priors_stated (5 + length job.tables) job.priors) (behind_priors job) (priors_placed count (5 + length job.tables) job.priors few priors)
    ∙ any_past (λ s. is_astray count s.said) (outputs_stated (outputs_line job) 0 job.outputs) (last_of job) (outputs_placed count (outputs_line job) 0 job.outputs few (omega (arith, outputs)))
    ∙ any_past (λ s. is_astray count s.said) (contributors_in (contributors_line job) job.contributors) (depths_stated (depths_line job) job.depths) (contributors_placed count (contributors_line job) job.contributors)
    ∙ depths_placed count (depths_line job) job.depths few depths)

-- ---- variables of depths

spanned : (tables : List TableLine) (all : List Statement) → list_any (λ s. is_outside tables s.said) all ≡ false → no_outside tables all ≡ Ok tt
unfolding no_outside
spanned tables [] h = refl
spanned tables (s ∷ rest) h = elim (is_outside tables s.said) as (λ t. (t || list_any (λ s. is_outside tables s.said) rest) ≡ false → cond t (Err (s.line, NotInTable)) (no_outside tables rest) ≡ Ok tt) [
  | true ↦ λ g. absurd cc
  | false ↦ λ g. spanned tables rest g
] h

priors_spanned : (tables : List TableLine) (line : ℕ) (priors : List PriorLine) → list_any (λ s. is_outside tables s.said) (priors_stated line priors) ≡ false
priors_spanned tables line [] = refl
priors_spanned tables line (prior ∷ priors) = priors_spanned tables (line + 1) priors

outputs_spanned : (tables : List TableLine) (line place : ℕ) (outputs : List OutputLine) → list_any (λ s. is_outside tables s.said) (outputs_stated line place outputs) ≡ false
outputs_spanned tables line place [] = refl
outputs_spanned tables line place (output ∷ outputs) = outputs_spanned tables (line + 1) (place + 1) outputs

contributors_spanned : (tables : List TableLine) (line : ℕ) (contributors : Option OutputLine) → list_any (λ s. is_outside tables s.said) (contributors_in line contributors) ≡ false
contributors_spanned tables line None = refl
contributors_spanned tables line (Some o) = refl

-- the lines of tables don't say what spans them
spans_from : (name : List ℕ) (line : ℕ) (tables : List TableLine) (place : ℕ) → spans_table name (slice_get (tables_from line tables) place) ≡ spans_table name (slice_get tables place)
spans_from name line [] place = refl
spans_from name line (table ∷ tables) zero = refl
spans_from name line (table ∷ tables) (suc place) = spans_from name (line + 1) tables place

depths_spanned : (tables : List TableLine) (first line : ℕ) (depths : List DepthLine) → AllByRecursion (λ d. d.table < 8) depths → AllByRecursion (IsDepth tables) depths
    → list_any (λ s. is_outside (tables_from first tables) s.said) (depths_stated line depths) ≡ false
depths_spanned tables first line [] few all = refl
depths_spanned tables first line (depth ∷ depths) few all =
    rw (place_again depth.table few.0, spans_from depth.variable first tables depth.table, all.0.spanned, depths_spanned tables first (line + 1) depths few.1 all.1) refl

all_spanned : (job : Job) → AllByRecursion (λ d. d.table < 8) job.depths → AllByRecursion (IsDepth job.tables) job.depths → no_outside (tables_from 3 job.tables) (statements_of job) ≡ Ok tt
all_spanned job few all =
    let tables = tables_from 3 job.tables in
    let test : Statement → Bool = λ s. is_outside tables s.said in
    spanned tables (statements_of job)
    (any_past test (priors_stated (5 + length job.tables) job.priors) (behind_priors job) (priors_spanned tables (5 + length job.tables) job.priors)
    ∙ any_past test (outputs_stated (outputs_line job) 0 job.outputs) (last_of job) (outputs_spanned tables (outputs_line job) 0 job.outputs)
    ∙ any_past test (contributors_in (contributors_line job) job.contributors) (depths_stated (depths_line job) job.depths) (contributors_spanned tables (contributors_line job) job.contributors)
    ∙ depths_spanned job.tables 3 (depths_line job) job.depths few all)

-- ---- names of files

apart : (all said : List Statement) → list_any (λ s. puts_shared_file all s.said) said ≡ false → no_same_name all said ≡ Ok tt
unfolding no_same_name
apart all [] h = refl
apart all (s ∷ rest) h = elim (puts_shared_file all s.said) as (λ t. (t || list_any (λ s. puts_shared_file all s.said) rest) ≡ false → cond t (Err (s.line, SameName)) (no_same_name all rest) ≡ Ok tt) [
  | true ↦ λ g. absurd cc
  | false ↦ λ g. apart all rest g
] h

differs : (name file : List ℕ) → name ≢ file → bytes_eq file name ≡ false
differs name file h = elim (bytes_eq file name) as (λ t. bytes_eq file name ≡ t → t ≡ false) [
  | true ↦ λ is. absurd (h (sym ((bytes_eq-Decides file name).0 is)))
  | false ↦ λ is. refl
] refl

-- how often a name stands in a list
abbrev named : List ℕ → List (List ℕ) → ℕ
named name names = count_by (λ other. bytes_eq other name) names

more_named : (name first : List ℕ) (names : List (List ℕ)) → named name (first ∷ names) ≡ cond (bytes_eq first name) 1 0 + named name names
more_named name first names = sum_by-cons (λ other. cond (bytes_eq other name) 1 0) first names

never : (name : List ℕ) (names : List (List ℕ)) → AllByRecursion (λ other. bytes_eq name other ≡ false) names → named name names ≡ 0
never name [] all = refl
never name (first ∷ names) all = more_named name first names ∙ rw (nat_list_eq_equiv.symm first name ∙ all.0, never name names all.1) refl

once : (name : List ℕ) (names : List (List ℕ)) → IsDistinct bytes_eq names → named name names ≤ 1
once name [] distinct = omega arith
once name (first ∷ names) distinct =
    let more = more_named name first names in
    elim (bytes_eq first name) as (λ t. bytes_eq first name ≡ t → named name (first ∷ names) ≤ 1) [
      | true ↦ λ same.
          let is : first ≡ name = (bytes_eq-Decides first name).0 same in
          let none = never name names (subst (λ (n : List ℕ). AllByRecursion (λ other. bytes_eq n other ≡ false) names) is (IsDistinct-head bytes_eq first names distinct)) in
          let one : ◌≡◌ {A = ℕ} (cond (bytes_eq first name) 1 0) 1 = rw same refl in
          omega (arith, more, none, one)
      | false ↦ λ other.
          let rest = once name names (IsDistinct-tail bytes_eq first names distinct) in
          let none : ◌≡◌ {A = ℕ} (cond (bytes_eq first name) 1 0) 0 = rw other refl in
          omega (arith, more, rest, none)
    ] refl

-- whether a file of this name is put, as a number
abbrev weight : List ℕ → Statement → ℕ
weight name s = cond (puts name s.said) 1 0

priors_put_none : (name : List ℕ) (line : ℕ) (priors : List PriorLine) → count_by (λ s. puts name s.said) (priors_stated line priors) ≡ 0
priors_put_none name line [] = refl
priors_put_none name line (prior ∷ priors) = sum_by-cons (weight name) (record { line = line; said = prior_said prior }) (priors_stated (line + 1) priors) ∙ ap (λ (n : ℕ). 0 + n) (priors_put_none name (line + 1) priors)

outputs_put : (name : List ℕ) (line place : ℕ) (outputs : List OutputLine) → count_by (λ s. puts name s.said) (outputs_stated line place outputs) ≡ named name (map (λ o. o.file) outputs)
outputs_put name line place [] = refl
outputs_put name line place (output ∷ outputs) =
    sum_by-cons (weight name) (record { line = line; said = said.Output (table_number place) output.file }) (outputs_stated (line + 1) (place + 1) outputs)
    ∙ ap (λ (n : ℕ). cond (bytes_eq output.file name) 1 0 + n) (outputs_put name (line + 1) (place + 1) outputs)
    ∙ sym (more_named name output.file (map (λ o. o.file) outputs))

contributors_put : (name : List ℕ) (line : ℕ) (contributors : Option OutputLine) → count_by (λ s. puts name s.said) (contributors_in line contributors) ≡ named name (contributors_files contributors)
contributors_put name line None = refl
contributors_put name line (Some o) = refl

depths_put_none : (name : List ℕ) (line : ℕ) (depths : List DepthLine) → count_by (λ s. puts name s.said) (depths_stated line depths) ≡ 0
depths_put_none name line [] = refl
depths_put_none name line (depth ∷ depths) = sum_by-cons (weight name) (record { line = line; said = depth_said depth }) (depths_stated (line + 1) depths) ∙ ap (λ (n : ℕ). 0 + n) (depths_put_none name (line + 1) depths)

puts_counted : (name : List ℕ) (job : Job) → count_by (λ s. puts name s.said) (statements_of job) ≡ named name (puts_of job)
puts_counted name job =
    let priors = priors_stated (5 + length job.tables) job.priors in
    let outputs = outputs_stated (outputs_line job) 0 job.outputs in
    let a = sum_by-append (weight name) priors (behind_priors job) in
    let b = priors_put_none name (5 + length job.tables) job.priors in
    let d = sum_by-append (weight name) outputs (last_of job) in
    let e = outputs_put name (outputs_line job) 0 job.outputs in
    let names : List (List ℕ) = map (λ o. o.file) job.outputs in
    let f = more_named name job.certificate (contributors_files job.contributors ++ names) in
    let g = sum_by-append (λ (other : List ℕ). cond (bytes_eq other name) 1 0) (contributors_files job.contributors) names in
    let extra = contributors_in (contributors_line job) job.contributors in
    let h = contributors_put name (contributors_line job) job.contributors in
    let z : Statement = record { line = outputs_line job + length job.outputs; said = said.Certificate job.certificate } in
    let depths = depths_stated (depths_line job) job.depths in
    let i = sum_by-cons (weight name) z (extra ++ depths) in
    let j = sum_by-append (weight name) extra depths in
    let k = depths_put_none name (depths_line job) job.depths in
    let middle : count_by (λ s. puts name s.said) (behind_priors job) ≡ count_by (λ s. puts name s.said) (outputs ++ last_of job) = refl in
    omega (arith, a, b, d, e, f, g, h, i, j, k, middle)

priors_unread : (name : List ℕ) (line : ℕ) (priors : List PriorLine) → AllByRecursion (λ read. name ≢ read) (map (λ p. p.file) priors) → list_any (λ s. is_read_file name s.said) (priors_stated line priors) ≡ false
priors_unread name line [] all = refl
priors_unread name line (prior ∷ priors) all = rw (differs name prior.file all.0, priors_unread name (line + 1) priors all.1) refl

outputs_unread : (name : List ℕ) (line place : ℕ) (outputs : List OutputLine) → list_any (λ s. is_read_file name s.said) (outputs_stated line place outputs) ≡ false
outputs_unread name line place [] = refl
outputs_unread name line place (output ∷ outputs) = outputs_unread name (line + 1) (place + 1) outputs

contributors_unread : (name : List ℕ) (line : ℕ) (contributors : Option OutputLine) → list_any (λ s. is_read_file name s.said) (contributors_in line contributors) ≡ false
contributors_unread name line None = refl
contributors_unread name line (Some o) = refl

depths_unread : (name : List ℕ) (line : ℕ) (depths : List DepthLine) → list_any (λ s. is_read_file name s.said) (depths_stated line depths) ≡ false
depths_unread name line [] = refl
depths_unread name line (depth ∷ depths) = depths_unread name (line + 1) depths

all_unread : (name : List ℕ) (job : Job) → AllByRecursion (λ read. name ≢ read) (reads_of job) → list_any (λ s. is_read_file name s.said) (statements_of job) ≡ false
all_unread name job all =
    let rest : list_any (λ s. is_read_file name s.said) (priors_stated (5 + length job.tables) job.priors ++ behind_priors job) ≡ false =
    any_past (λ s. is_read_file name s.said) (priors_stated (5 + length job.tables) job.priors) (behind_priors job) (priors_unread name (5 + length job.tables) job.priors all.1.1)
    ∙ any_past (λ s. is_read_file name s.said) (outputs_stated (outputs_line job) 0 job.outputs) (last_of job) (outputs_unread name (outputs_line job) 0 job.outputs)
    ∙ any_past (λ s. is_read_file name s.said) (contributors_in (contributors_line job) job.contributors) (depths_stated (depths_line job) job.depths) (contributors_unread name (contributors_line job) job.contributors)
    ∙ depths_unread name (depths_line job) job.depths in
    rw (differs name job.micro all.0, differs name job.meta all.1.0) rest

alone : (n : ℕ) (b : Bool) → n ≤ 1 → b ≡ false → (nat_lt 1 n || b) ≡ false
alone n b h g = grind arith

unshared : (name : List ℕ) (job : Job) → IsDistinct bytes_eq (puts_of job) → AllByRecursion (λ read. name ≢ read) (reads_of job) → is_shared name (statements_of job) ≡ false
unshared name job distinct all =
    let few = once name (puts_of job) distinct in
    let count = puts_counted name job in
    alone (count_by (λ s. puts name s.said) (statements_of job)) (list_any (λ s. is_read_file name s.said) (statements_of job)) (omega (arith, few, count)) (all_unread name job all)

priors_share_none : (all : List Statement) (line : ℕ) (priors : List PriorLine) → list_any (λ s. puts_shared_file all s.said) (priors_stated line priors) ≡ false
priors_share_none all line [] = refl
priors_share_none all line (prior ∷ priors) = priors_share_none all (line + 1) priors

outputs_apart : (job : Job) (line place : ℕ) (outputs : List OutputLine) → IsDistinct bytes_eq (puts_of job) → AllByRecursion (λ put. AllByRecursion (λ read. put ≢ read) (reads_of job)) (map (λ o. o.file) outputs)
    → list_any (λ s. puts_shared_file (statements_of job) s.said) (outputs_stated line place outputs) ≡ false
outputs_apart job line place [] distinct all = refl
outputs_apart job line place (output ∷ outputs) distinct all = rw (unshared output.file job distinct all.0, outputs_apart job (line + 1) (place + 1) outputs distinct all.1) refl

contributors_apart : (job : Job) (line : ℕ) (contributors : Option OutputLine) → IsDistinct bytes_eq (puts_of job) → AllByRecursion (λ put. AllByRecursion (λ read. put ≢ read) (reads_of job)) (contributors_files contributors)
    → list_any (λ s. puts_shared_file (statements_of job) s.said) (contributors_in line contributors) ≡ false
contributors_apart job line None distinct all = refl
contributors_apart job line (Some o) distinct all = rw (unshared o.file job distinct all.0) refl

depths_share_none : (all : List Statement) (line : ℕ) (depths : List DepthLine) → list_any (λ s. puts_shared_file all s.said) (depths_stated line depths) ≡ false
depths_share_none all line [] = refl
depths_share_none all line (depth ∷ depths) = depths_share_none all (line + 1) depths

pub front_of_all : {A : Type 0} (P : A → Type 0) (xs ys : List A) → AllByRecursion P (xs ++ ys) → AllByRecursion P xs
front_of_all P [] ys all = tt
front_of_all P (x ∷ xs) ys all = (all.0, front_of_all P xs ys all.1)

pub back_of_all : {A : Type 0} (P : A → Type 0) (xs ys : List A) → AllByRecursion P (xs ++ ys) → AllByRecursion P ys
back_of_all P [] ys all = all
back_of_all P (x ∷ xs) ys all = back_of_all P xs ys all.1

all_apart : (job : Job) → IsDistinct bytes_eq (puts_of job) → AllByRecursion (λ put. AllByRecursion (λ read. put ≢ read) (reads_of job)) (puts_of job) → no_same_name (statements_of job) (statements_of job) ≡ Ok tt
all_apart job distinct all =
    let test : Statement → Bool = λ s. puts_shared_file (statements_of job) s.said in
    let kept : List ℕ → Type 0 = λ put. AllByRecursion (λ read. put ≢ read) (reads_of job) in
    let names : List (List ℕ) = map (λ o. o.file) job.outputs in
    let extra = contributors_apart job (contributors_line job) job.contributors distinct (front_of_all kept (contributors_files job.contributors) names all.1) in
    let behind : list_any test (contributors_in (contributors_line job) job.contributors ++ depths_stated (depths_line job) job.depths) ≡ false =
    any_past test (contributors_in (contributors_line job) job.contributors) (depths_stated (depths_line job) job.depths) extra ∙ depths_share_none (statements_of job) (depths_line job) job.depths in
    let last : list_any test (last_of job) ≡ false = rw (unshared job.certificate job distinct all.0) behind in
    apart (statements_of job) (statements_of job)
    (any_past test (priors_stated (5 + length job.tables) job.priors) (behind_priors job) (priors_share_none (statements_of job) (5 + length job.tables) job.priors)
    ∙ any_past test (outputs_stated (outputs_line job) 0 job.outputs) (last_of job) (outputs_apart job (outputs_line job) 0 job.outputs distinct (back_of_all kept (contributors_files job.contributors) names all.1))
    ∙ last)

-- ---- the job

made_from : (draft : Draft) (micro meta certificate : OutputLine) (rules : RulesLine) (method : Method) (outputs : List OutputLine)
    → file_line (statement_by keyword.OpenMicrodata draft.said) ≡ Some micro → file_line (statement_by keyword.OpenMetadata draft.said) ≡ Some meta → (length draft.tables == 0) ≡ false
    → rules_line (statement_by keyword.SafetyRule draft.said) ≡ Some rules → method_of (statement_by keyword.Suppress draft.said) ≡ Some method → outputs_from (length draft.tables) 0 draft.said ≡ Ok outputs
    → file_line (statement_by keyword.Certificate draft.said) ≡ Some certificate → job_made draft ≡ Ok (job_with draft micro meta rules method outputs certificate)
unfolding job_made
made_from draft micro meta certificate rules method outputs a b d e f g h = rw (a, b, d, e, f, g, h) refl

tables_counted : (line : ℕ) (tables : List TableLine) → length (tables_from line tables) ≡ length tables
tables_counted line [] = refl
tables_counted line (table ∷ tables) = ap suc (tables_counted (line + 1) tables)

some_tables : (n : ℕ) → 0 < n → (n == 0) ≡ false
some_tables n h = grind arith

made_again : (job : Job) → 0 < length job.tables → length job.tables ≤ 8 → length job.outputs ≡ length job.tables → AllByRecursion (λ p. p.table < 8) job.priors → AllByRecursion (λ d. d.table < 8) job.depths
    → job_made (drafted (tables_from 3 job.tables) (statements_of job)) ≡ Ok (in_text job)
made_again job some few outputs priors depths =
    let draft = drafted (tables_from 3 job.tables) (statements_of job) in
    let counted = tables_counted 3 job.tables in
    let found : outputs_from (length (tables_from 3 job.tables)) 0 (statements_of job) ≡ Ok (outputs_at (outputs_line job) job.outputs) =
    ap (λ (n : ℕ). outputs_from n 0 (statements_of job)) (counted ∙ sym outputs) ∙ outputs_found job (omega (arith, outputs, few)) in
    let whole : Job = in_text job in
    made_from draft (record { line = 1; file = job.micro }) (record { line = 2; file = job.meta }) (record { line = outputs_line job + length job.outputs; file = job.certificate })
    (record { line = 3 + length job.tables; rules = job.rules }) job.method (outputs_at (outputs_line job) job.outputs)
    refl refl (some_tables (length (tables_from 3 job.tables)) (omega (arith, some, counted))) refl (method_found job) found (certificate_found job)
    ∙ ap (λ (ps : List PriorLine). Ok (record whole { contributors = file_line (statement_by keyword.Contributors (statements_of job)); priors = ps; cost = cost_of (statement_by keyword.Cost (statements_of job)); steps = work_of usual_steps (statement_by keyword.Steps (statements_of job)); nodes = work_of usual_nodes (statement_by keyword.Nodes (statements_of job)); depths = depths_in (statements_of job) })) (priors_found job priors)
    ∙ ap (λ (cost : CostKind). Ok (record whole { contributors = file_line (statement_by keyword.Contributors (statements_of job)); cost = cost; steps = work_of usual_steps (statement_by keyword.Steps (statements_of job)); nodes = work_of usual_nodes (statement_by keyword.Nodes (statements_of job)); depths = depths_in (statements_of job) })) (cost_found job)
    ∙ ap (λ (steps : ℕ). Ok (record whole { contributors = file_line (statement_by keyword.Contributors (statements_of job)); steps = steps; nodes = work_of usual_nodes (statement_by keyword.Nodes (statements_of job)); depths = depths_in (statements_of job) })) (steps_found job)
    ∙ ap (λ (nodes : ℕ). Ok (record whole { contributors = file_line (statement_by keyword.Contributors (statements_of job)); nodes = nodes; depths = depths_in (statements_of job) })) (nodes_found job)
    ∙ ap (λ (contributors : Option OutputLine). Ok (record whole { contributors = contributors; depths = depths_in (statements_of job) })) (contributors_found job)
    ∙ ap (λ (depths : List DepthLine). Ok (record whole { depths = depths })) (depths_found job depths)

pub closed_again : (job : Job) → 0 < length job.tables → length job.tables ≤ 8 → length job.outputs ≡ length job.tables → AllByRecursion (λ p. p.table < length job.tables) job.priors → AllByRecursion (λ p. p.table < 8) job.priors
    → AllByRecursion (IsDepth job.tables) job.depths → AllByRecursion (λ d. d.table < 8) job.depths → CanHaveContributors job.method job.contributors → IsDistinct bytes_eq (puts_of job) → AllByRecursion (λ put. AllByRecursion (λ read. put ≢ read) (reads_of job)) (puts_of job)
    → closed_job (drafted (tables_from 3 job.tables) (statements_of job)) ≡ Ok (in_text job)
unfolding closed_job
closed_again job some few outputs within priors spanned depths can distinct all =
    let counted = tables_counted 3 job.tables in
    let fine : no_stray (length (tables_from 3 job.tables)) (statements_of job) ≡ Ok tt = ap (λ (n : ℕ). no_stray n (statements_of job)) counted ∙ all_placed (length job.tables) job few within (omega (arith, outputs)) (at_tables job.tables job.depths spanned) in
    rw (all_fit job can, fine, all_spanned job depths spanned, all_apart job distinct all) (made_again job some few outputs priors depths)
  where
    at_tables : (tables : List TableLine) (depths : List DepthLine) → AllByRecursion (IsDepth tables) depths → AllByRecursion (λ d. d.table < length tables) depths
    at_tables tables [] all = tt
    at_tables tables (d ∷ depths) all = (all.0.table, at_tables tables depths all.1)

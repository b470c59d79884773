-- What holds of a job that is read.
use Rattle.std.proofs.Common.{◌≡◌, ℕ, zero, suc, ◌+◌, ◌<◌, ◌≤◌, Bool, true, false, cond, List, [], ◌∷◌, ◌++◌, length, Option, None, Some, Ok, Err, refl, ap, subst, arith}
use Rattle.std.specs.Prelude.{◌==◌, nat_le, ◌&&◌, not, find, is_none, slice_get}
use Rattle.std.specs.Result.{IfOk}
use Rattle.std.specs.List.{AllByRecursion}
use Rattle.sdc_base.specs.Lines.{lines}
use Rattle.sdc_base.specs.Steps.{refuse}
use Rattle.sdc_base.specs.Tokens.{is_number}
use Rattle.std.specs.Str.Parse.{digits_value}
use Rattle.sdc_base.specs.declared.method.Method.{Method}
use Rattle.sdc_base.specs.declared.method.Method.TheVariants.{Gh, Modular, Rnd}
use Rattle.job_lang.specs.declared.faults.JobWhy.TheVariants.{Missing, NoSuchTable, NotInTable}
use Rattle.job_lang.specs.declared.faults.Command.TheVariants as command
use Rattle.job_lang.specs.declared.job.DepthLine.{DepthLine}
use Rattle.job_lang.specs.declared.job.PriorLine.{PriorLine}
use Rattle.job_lang.specs.declared.job.TableLine.{TableLine}
use Rattle.job_lang.specs.declared.looked_up.RulesLine.{RulesLine}
use Rattle.job_lang.specs.declared.statement.Keyword.{Keyword}
use Rattle.job_lang.specs.declared.statement.Keyword.TheVariants as keyword
use Rattle.job_lang.specs.declared.statement.Instruction.{Instruction}
use Rattle.job_lang.specs.declared.statement.Instruction.TheVariants as said
use Rattle.job_lang.specs.declared.statement.Statement.{Statement}
use Rattle.job_lang.specs.declared.statement.Draft.{Draft}
use Rattle.job_lang.specs.Statements.{is_by, lines_say, empty_draft}
use Rattle.job_lang.specs.ClosingLooks.{statement_by, file_line, rules_from, rules_line, method_from, method_of, work_from, work_of, usual_steps, usual_nodes, table_place, prior_in, priors_in, depth_in, depths_in}
use Rattle.job_lang.specs.MissingCommands.{needed_value, output_of_table, outputs_from}
use Rattle.job_lang.specs.FilesApart.{is_no_table, is_astray, no_stray, no_same_name}
use Rattle.job_lang.specs.SpannedDepths.{spans_table, is_outside, no_outside}
use Rattle.job_lang.specs.RoundedContributors.{is_rounding, unless_line, no_rounded_contributors}
use Rattle.job_lang.specs.Jobs.{job_made, closed_job, job_of}
use Rattle.job_lang.specs.JobLimits.{AreInRange, IsMethod, IsWork, CanHaveContributors, IsDepth, IsJob}
use Rattle.job_lang.proofs.Known.{then_known, known, not_refused, was_some}
use Rattle.job_lang.proofs.DraftHolds.{IsSaid, IsDraft, lines_known}

pub find_known : {A : Type 0} (P : A → Type 0) (test : A → Bool) (xs : List A) → AllByRecursion P xs → (x : A) → find test xs ≡ Some x → P x
find_known P test [] all x h = absurd cc
find_known {A} P test (y ∷ xs) all x h = elim (test y) as (λ t. cond t (Some y) (find test xs) ≡ Some x → P x) [
  | true ↦ λ g. let same : y ≡ x = cc in subst P same all.0
  | false ↦ λ g. find_known P test xs all.1 x g
] h

-- what holds of a statement, where there is one
abbrev IfSaid : Option Statement → Type 0
IfSaid o = (s : Statement) → o ≡ Some s → IsSaid s.said

by_known : (word : Keyword) (all : List Statement) → AllByRecursion (λ s. IsSaid s.said) all → IfSaid (statement_by word all)
by_known word all holds s h = find_known (λ s. IsSaid s.said) (λ s. is_by word s.said) all holds s h

rules_from_known : (line : ℕ) (one : Instruction) (r : RulesLine) → IsSaid one → rules_from line one ≡ Some r → AreInRange r.rules
rules_from_known line (said.Safety rules) r fits h =
    let same : ◌≡◌ {A = RulesLine} (record { line = line; rules = rules }) r = cc in
    subst (λ (r : RulesLine). AreInRange r.rules) same fits
rules_from_known line one r fits h = absurd cc

rules_line_known : (o : Option Statement) (r : RulesLine) → IfSaid o → rules_line o ≡ Some r → AreInRange r.rules
rules_line_known None r holds h = absurd cc
rules_line_known (Some s) r holds h = rules_from_known s.line s.said r (holds s refl) h

method_from_known : (one : Instruction) (m : Method) → IsSaid one → method_from one ≡ Some m → IsMethod m
method_from_known (said.Suppress method) m fits h = let same : method ≡ m = cc in subst IsMethod same fits
method_from_known one m fits h = absurd cc

method_of_known : (o : Option Statement) (m : Method) → IfSaid o → method_of o ≡ Some m → IsMethod m
method_of_known None m holds h = absurd cc
method_of_known (Some s) m holds h = method_from_known s.said m (holds s refl) h

work_from_known : (usual : ℕ) (one : Instruction) → IsSaid one → IsWork usual → IsWork (work_from usual one)
work_from_known usual (said.Steps n) fits w = fits
work_from_known usual (said.Nodes n) fits w = fits
work_from_known usual one fits w = w

work_of_known : (usual : ℕ) (o : Option Statement) → IfSaid o → IsWork usual → IsWork (work_of usual o)
work_of_known usual None holds w = w
work_of_known usual (Some s) holds w = work_from_known usual s.said (holds s refl) w

outputs_known : (count place : ℕ) (all : List Statement) → IfOk (outputs_from count place all) (λ outputs. length outputs ≡ count)
unfolding outputs_from
outputs_known zero place all = refl
outputs_known (suc more) place all =
    then_known (λ outputs. length outputs ≡ suc more) (output_of_table place all) _ (λ output h.
    then_known (λ outputs. length outputs ≡ suc more) (outputs_from more (place + 1) all) _ (λ outputs h1.
    let rest = known (λ outputs. length outputs ≡ more) (outputs_from more (place + 1) all) outputs (outputs_known more (place + 1) all) h1 in
    ap suc rest))

-- ---- a priori files

pub was_there : (t : Bool) (d : ℕ) → is_none {T = ℕ} (cond t (Some d) None) ≡ false → t ≡ true
was_there true d h = refl
was_there false d h = absurd cc

pub wider : (x : Bool) (d count : ℕ) → count ≤ 8 → (x && (nat_le 1 d && nat_le d count)) ≡ true → ((x && (nat_le 1 d && nat_le d 8)) ≡ true) × (1 ≤ d) × (d ≤ count)
wider x d count few h = grind arith

place_within : (count : ℕ) (number : List ℕ) → count ≤ 8 → is_no_table count number ≡ false → table_place number < count
place_within count number few h =
    let there = wider (is_number number) (digits_value 10 number) count few (was_there _ (digits_value 10 number) h) in
    rw there.0 (omega (arith, there.1, there.2))

prior_known : (count line : ℕ) (one : Instruction) → count ≤ 8 → is_astray count one ≡ false → AllByRecursion (λ (p : PriorLine). p.table < count) (prior_in line one)
prior_known count line (said.Prior file number separator) few h = (place_within count number few h, tt)
prior_known count line one few h = tt

all_both : {A : Type 0} (P : A → Type 0) (xs ys : List A) → AllByRecursion P xs → AllByRecursion P ys → AllByRecursion P (xs ++ ys)
all_both P [] ys a b = b
all_both P (x ∷ xs) ys a b = (a.0, all_both P xs ys a.1 b)

priors_known : (count : ℕ) (all : List Statement) (t : Unit {0}) → count ≤ 8 → no_stray count all ≡ Ok t → AllByRecursion (λ (p : PriorLine). p.table < count) (priors_in all)
unfolding no_stray
priors_known count [] t few h = tt
priors_known count (s ∷ rest) t few h =
    let one = prior_known count s.line s.said few in
    let others = priors_known count rest t few in
    elim (is_astray count s.said) as (λ b. is_astray count s.said ≡ b → cond b (Err (s.line, NoSuchTable)) (no_stray count rest) ≡ Ok t → AllByRecursion (λ (p : PriorLine). p.table < count) (prior_in s.line s.said ++ priors_in rest)) [
      | true ↦ λ is g. absurd cc
      | false ↦ λ is g. all_both (λ (p : PriorLine). p.table < count) (prior_in s.line s.said) (priors_in rest) (one is) (others g)
    ] refl h

-- ---- depths

within_table : (tables : List TableLine) (line : ℕ) (one : Instruction) → length tables ≤ 8 → IsSaid one → is_astray (length tables) one ≡ false → is_outside tables one ≡ false → AllByRecursion (IsDepth tables) (depth_in line one)
within_table tables line (said.Depth number variable depth) few fits placed inside =
    (record { table = place_within (length tables) number few placed; spanned = was_true (spans_table variable (slice_get tables (table_place number))) inside; depth = fits }, tt)
  where
    was_true : (t : Bool) → not t ≡ false → t ≡ true
    was_true true h = refl
    was_true false h = absurd cc
within_table tables line one few fits placed inside = tt

-- no statement is of no table, and no depth is of a variable that its table doesn't span
none_astray : (count : ℕ) (all : List Statement) (t : Unit {0}) → no_stray count all ≡ Ok t → AllByRecursion (λ s. is_astray count s.said ≡ false) all
unfolding no_stray
none_astray count [] t h = tt
none_astray count (s ∷ rest) t h =
    elim (is_astray count s.said) as (λ b. cond b (Err (s.line, NoSuchTable)) (no_stray count rest) ≡ Ok t → (b ≡ false) × AllByRecursion (λ s. is_astray count s.said ≡ false) rest) [
      | true ↦ λ g. absurd cc
      | false ↦ λ g. (refl, none_astray count rest t g)
    ] h

all_inside : (tables : List TableLine) (all : List Statement) (t : Unit {0}) → no_outside tables all ≡ Ok t → AllByRecursion (λ s. is_outside tables s.said ≡ false) all
unfolding no_outside
all_inside tables [] t h = tt
all_inside tables (s ∷ rest) t h =
    elim (is_outside tables s.said) as (λ b. cond b (Err (s.line, NotInTable)) (no_outside tables rest) ≡ Ok t → (b ≡ false) × AllByRecursion (λ s. is_outside tables s.said ≡ false) rest) [
      | true ↦ λ g. absurd cc
      | false ↦ λ g. (refl, all_inside tables rest t g)
    ] h

depths_known : (tables : List TableLine) (all : List Statement) → length tables ≤ 8 → AllByRecursion (λ s. IsSaid s.said) all → AllByRecursion (λ s. is_astray (length tables) s.said ≡ false) all
    → AllByRecursion (λ s. is_outside tables s.said ≡ false) all → AllByRecursion (IsDepth tables) (depths_in all)
depths_known tables [] few said placed inside = tt
depths_known tables (s ∷ rest) few said placed inside =
    all_both (IsDepth tables) (depth_in s.line s.said) (depths_in rest) (within_table tables s.line s.said few said.0 placed.0 inside.0) (depths_known tables rest few said.1 placed.1 inside.1)

-- ---- the job

some_tables : (n : ℕ) → (n == 0) ≡ false → 0 < n
some_tables n h = grind arith

-- a job that rounds names no contributors' file
fits_by : (method : Method) (o : Option Statement) (t : Unit {0}) → unless_line (is_rounding (Some method)) o ≡ Ok t → CanHaveContributors method (file_line o)
fits_by (Rnd base) None t h = tt
fits_by (Rnd base) (Some s) t h = absurd cc
fits_by (Gh n) o t h = tt
fits_by Modular o t h = tt

contributors_fit : (all : List Statement) (method : Method) (t : Unit {0}) → no_rounded_contributors all ≡ Ok t → method_of (statement_by keyword.Suppress all) ≡ Some method → CanHaveContributors method (file_line (statement_by keyword.Contributors all))
unfolding no_rounded_contributors
contributors_fit all method t h is = fits_by method (statement_by keyword.Contributors all) t (subst (λ (m : Option Method). unless_line (is_rounding m) (statement_by keyword.Contributors all) ≡ Ok t) is h)

made_known : (draft : Draft) (t : Unit {0}) → IsDraft draft → no_rounded_contributors draft.said ≡ Ok t → AllByRecursion (λ (p : PriorLine). p.table < length draft.tables) (priors_in draft.said)
    → AllByRecursion (IsDepth draft.tables) (depths_in draft.said) → IfOk (job_made draft) IsJob
unfolding job_made
made_known draft t is fit placed depths =
    then_known IsJob (needed_value command.OpenMicrodata (file_line (statement_by keyword.OpenMicrodata draft.said))) _ (λ micro h.
    then_known IsJob (needed_value command.OpenMetadata (file_line (statement_by keyword.OpenMetadata draft.said))) _ (λ meta h1.
    then_known IsJob (refuse (0, Missing command.SpecifyTable) (length draft.tables == 0)) _ (λ some h2.
    then_known IsJob (needed_value command.SafetyRule (rules_line (statement_by keyword.SafetyRule draft.said))) _ (λ rules h3.
    then_known IsJob (needed_value command.Suppress (method_of (statement_by keyword.Suppress draft.said))) _ (λ method h4.
    then_known IsJob (outputs_from (length draft.tables) 0 draft.said) _ (λ outputs h5.
    then_known IsJob (needed_value command.Certificate (file_line (statement_by keyword.Certificate draft.said))) _ (λ certificate h6.
    record {
      tables = record {
        has_table = some_tables (length draft.tables) (not_refused (0, Missing command.SpecifyTable) (length draft.tables == 0) some h2);
        response = is.response;
        once = is.once;
        variables = is.names;
      };
      at_most_8_tables = is.few;
      variables = is.variables;
      outputs = known (λ outputs. length outputs ≡ length draft.tables) (outputs_from (length draft.tables) 0 draft.said) outputs (outputs_known (length draft.tables) 0 draft.said) h5;
      priors = placed;
      rules = rules_line_known (statement_by keyword.SafetyRule draft.said) rules (by_known keyword.SafetyRule draft.said is.said) (was_some (0, Missing command.SafetyRule) (rules_line (statement_by keyword.SafetyRule draft.said)) rules h3);
      method = method_of_known (statement_by keyword.Suppress draft.said) method (by_known keyword.Suppress draft.said is.said) (was_some (0, Missing command.Suppress) (method_of (statement_by keyword.Suppress draft.said)) method h4);
      steps = work_of_known usual_steps (statement_by keyword.Steps draft.said) (by_known keyword.Steps draft.said is.said) (omega arith, omega arith);
      nodes = work_of_known usual_nodes (statement_by keyword.Nodes draft.said) (by_known keyword.Nodes draft.said is.said) (omega arith, omega arith);
      depths = depths;
      contributors = contributors_fit draft.said method t fit (was_some (0, Missing command.Suppress) (method_of (statement_by keyword.Suppress draft.said)) method h4);
    })))))))

pub closed_known : (draft : Draft) → IsDraft draft → IfOk (closed_job draft) IsJob
unfolding closed_job
closed_known draft is =
    then_known IsJob (no_rounded_contributors draft.said) _ (λ fit g.
    then_known IsJob (no_stray (length draft.tables) draft.said) _ (λ placed h.
    then_known IsJob (no_outside draft.tables draft.said) _ (λ spanned h1.
    then_known IsJob (no_same_name draft.said draft.said) _ (λ apart h2.
    made_known draft fit is g (priors_known (length draft.tables) draft.said placed is.few h)
    (depths_known draft.tables draft.said is.few is.said (none_astray (length draft.tables) draft.said placed h) (all_inside draft.tables draft.said spanned h1))))))

pub job_known : (bytes : List ℕ) → IfOk (job_of bytes) IsJob
unfolding job_of
job_known bytes =
    then_known IsJob (lines_say 0 empty_draft (lines bytes)) _ (λ draft h. closed_known draft (known IsDraft (lines_say 0 empty_draft (lines bytes)) draft (lines_known (lines bytes)) h))

-- The canonical text of a job is read as that job.
use Rattle.std.proofs.Common.{◌≡◌, ℕ, zero, suc, ◌+◌, ◌<◌, ◌≤◌, ◌||◌, true, false, List, [], ◌∷◌, ◌++◌, length, map, Option, None, Some, Ok, refl, ap, ◌∙◌, subst, arith}
use Rattle.std.specs.Prelude.{slice_get}
use Rattle.std.specs.List.{AllByRecursion, list_any}
use Rattle.std.specs.Str.{bytes_eq}
use Rattle.std.proofs.lemmas.Slice.Eq.{bytes_eq-Decides}
use Rattle.plain_text.specs.Laws.{AreReadAgain}
use Rattle.sdc_base.specs.Lines.{IsLine}
use Rattle.sdc_base.specs.Steps.{◌>>=◌}
use Rattle.sdc_base.specs.Tokens.{is_file_name}
use Rattle.job_lang.specs.declared.job.DepthLine.{DepthLine}
use Rattle.job_lang.specs.declared.job.Job.{Job}
use Rattle.job_lang.specs.declared.job.OutputLine.{OutputLine}
use Rattle.job_lang.specs.declared.job.PriorLine.{PriorLine}
use Rattle.job_lang.specs.declared.job.TableLine.{TableLine}
use Rattle.job_lang.specs.declared.statement.Instruction.{Instruction}
use Rattle.job_lang.specs.declared.statement.Instruction.TheVariants as said
use Rattle.job_lang.specs.Statements.{lines_say, empty_draft}
use Rattle.job_lang.specs.JobLimits.{HasNoTwice, HasVariables, IsDepth}
use Rattle.job_lang.specs.SpannedDepths.{spans_table}
use Rattle.job_lang.specs.Jobs.{closed_job, job_of}
use Rattle.job_lang.specs.FileLaws.{contributors_files, puts_of, reads_of}
use Rattle.job_lang.specs.Binding.{response_of}
use Rattle.job_lang.specs.Spelling.{said_line}
use Rattle.job_lang.specs.JobText.{table_said, prior_said, outputs_said, contributors_said, depth_said, job_says, job_text, in_text}
use Rattle.job_lang.specs.WritableJobs.{IsQuotable, HasQuotable, HasSeparator, IsSpellable, IsWritable}
use Rattle.job_lang.proofs.SpelledLines.{line_line}
use Rattle.job_lang.proofs.SpelledDraft.{lines_are, text_says_all}
use Rattle.job_lang.proofs.SpelledJob.{front_of_all, back_of_all, closed_again}
use Rattle.job_lang.proofs.TableRoom.{fit}

pub all_both : {A : Type 0} (P : A → Type 0) (xs ys : List A) → AllByRecursion P xs → AllByRecursion P ys → AllByRecursion P (xs ++ ys)
all_both P [] ys a b = b
all_both P (x ∷ xs) ys a b = (a.0, all_both P xs ys a.1 b)

all_below : (count : ℕ) (priors : List PriorLine) → count ≤ 8 → AllByRecursion (λ p. p.table < count) priors → AllByRecursion (λ p. p.table < 8) priors
all_below count [] few all = tt
all_below count (p ∷ priors) few all = (omega (arith, few, all.0), all_below count priors few all.1)

all_shallow : (tables : List TableLine) (depths : List DepthLine) → length tables ≤ 8 → AllByRecursion (IsDepth tables) depths → AllByRecursion (λ d. d.table < 8) depths
all_shallow tables [] few all = tt
all_shallow tables (d ∷ depths) few all = (omega (arith, few, all.0.table), all_shallow tables depths few all.1)

tables_spellable : (tables : List TableLine) → AllByRecursion HasVariables tables → AllByRecursion HasNoTwice tables → AllByRecursion HasQuotable tables → AllByRecursion IsSpellable (map table_said tables)
tables_spellable [] few once names = tt
tables_spellable (t ∷ tables) few once names = ((few.0.0, few.0.1, once.0, names.0.0, names.0.1), tables_spellable tables few.1 once.1 names.1)

-- a file has a name
abbrev IsNamed : List ℕ → Type 0
IsNamed name = is_file_name name ≡ true

priors_spellable : (priors : List PriorLine) → AllByRecursion (λ p. p.table < 8) priors → AllByRecursion HasSeparator priors → AllByRecursion IsNamed (map (λ p. p.file) priors) → AllByRecursion IsSpellable (map prior_said priors)
priors_spellable [] few separators files = tt
priors_spellable (p ∷ priors) few separators files = ((p.table, few.0, refl, files.0, separators.0.0, separators.0.1), priors_spellable priors few.1 separators.1 files.1)

outputs_spellable : (place : ℕ) (outputs : List OutputLine) → place + length outputs ≤ 8 → AllByRecursion IsNamed (map (λ o. o.file) outputs) → AllByRecursion IsSpellable (outputs_said place outputs)
outputs_spellable place [] few files = tt
outputs_spellable place (o ∷ outputs) few files = ((place, omega (arith, few), refl, files.0), outputs_spellable (place + 1) outputs (omega (arith, few)) files.1)

contributors_spellable : (contributors : Option OutputLine) → AllByRecursion IsNamed (contributors_files contributors) → AllByRecursion IsSpellable (contributors_said contributors)
contributors_spellable None files = tt
contributors_spellable (Some o) files = (files.0, tt)

-- a name among names that can be written can be
quotable_among : (name : List ℕ) (names : List (List ℕ)) → list_any (λ other. bytes_eq other name) names ≡ true → AllByRecursion IsQuotable names → IsQuotable name
quotable_among name [] there all = absurd cc
quotable_among name (first ∷ names) there all = elim (bytes_eq first name) as (λ t. bytes_eq first name ≡ t → (t || list_any (λ other. bytes_eq other name) names) ≡ true → IsQuotable name) [
  | true ↦ λ is h. subst IsQuotable ((bytes_eq-Decides first name).0 is) all.0
  | false ↦ λ is h. quotable_among name names h all.1
] refl there

-- so a variable that a table spans can be
quotable_in : (name : List ℕ) (tables : List TableLine) (place : ℕ) → spans_table name (slice_get tables place) ≡ true → AllByRecursion HasQuotable tables → IsQuotable name
quotable_in name [] place spans all = absurd cc
quotable_in name (t ∷ tables) zero spans all = quotable_among name t.variables spans all.0.0
quotable_in name (t ∷ tables) (suc place) spans all = quotable_in name tables place spans all.1

depths_spellable : (tables : List TableLine) (depths : List DepthLine) → length tables ≤ 8 → AllByRecursion HasQuotable tables → AllByRecursion (IsDepth tables) depths → AllByRecursion IsSpellable (map depth_said depths)
depths_spellable tables [] few names all = tt
depths_spellable tables (d ∷ depths) few names all = (
  (d.table, omega (arith, few, all.0.table), refl, quotable_in d.variable tables d.table all.0.spanned names, all.0.depth.0, all.0.depth.1),
  depths_spellable tables depths few names all.1,
)

all_spellable : (job : Job) → IsWritable job → AllByRecursion IsSpellable (job_says job)
all_spellable job h =
    let read = front_of_all IsNamed (reads_of job) (puts_of job) h.files in
    let put = back_of_all IsNamed (reads_of job) (puts_of job) h.files in
    let tables = tables_spellable job.tables h.limits.variables h.limits.tables.once h.names in
    let priors = priors_spellable job.priors (all_below (length job.tables) job.priors h.limits.at_most_8_tables h.limits.priors) h.separators read.1.1 in
    let names : List (List ℕ) = map (λ o. o.file) job.outputs in
    let outputs = outputs_spellable 0 job.outputs (omega (arith, h.limits.outputs, h.limits.at_most_8_tables)) (back_of_all IsNamed (contributors_files job.contributors) names put.1) in
    let extra = contributors_spellable job.contributors (front_of_all IsNamed (contributors_files job.contributors) names put.1) in
    let depths = depths_spellable job.tables job.depths h.limits.at_most_8_tables h.names h.limits.depths in
    let last : AllByRecursion IsSpellable (said.Certificate job.certificate ∷ contributors_said job.contributors) = (put.0, extra) in
    let files = all_both IsSpellable (outputs_said 0 job.outputs) _ outputs last in (
      read.0,
      (
        read.1.0,
        all_both IsSpellable (map table_said job.tables) _ tables (
          (h.limits.rules, h.rules),
          (
            tt,
            all_both IsSpellable (map prior_said job.priors) _ priors (
              tt,
              (h.limits.steps, (h.limits.nodes, (h.limits.method, all_both IsSpellable (outputs_said 0 job.outputs ++ said.Certificate job.certificate ∷ contributors_said job.contributors) _ files depths))),
            ),
          ),
        ),
      ),
    )

lines_fine : (all : List Instruction) → AllByRecursion IsSpellable all → AllByRecursion IsLine (map said_line all)
lines_fine [] can = tt
lines_fine (one ∷ all) can = (line_line one can.0, lines_fine all can.1)

pub text_read : AreReadAgain → (job : Job) → IsWritable job → job_of (job_text job) ≡ Ok (in_text job)
unfolding job_of
text_read law job h =
    let can = all_spellable job h in
    let few = all_below (length job.tables) job.priors h.limits.at_most_8_tables h.limits.priors in
    let shallow = all_shallow job.tables job.depths h.limits.at_most_8_tables h.limits.depths in
    let fits = fit (response_of job.tables) [] job.tables (omega (arith, h.limits.at_most_8_tables)) h.limits.tables.variables tt h.limits.tables.response in
    ap (λ (ts : List (List ℕ)). lines_say 0 empty_draft ts >>= closed_job) (law (map said_line (job_says job)) (lines_fine (job_says job) can))
    ∙ ap (λ r. r >>= closed_job) (lines_are 0 empty_draft (job_says job) can ∙ text_says_all job fits few h.priors (omega (arith, h.limits.outputs, h.limits.at_most_8_tables)) shallow h.depths)
    ∙ closed_again job h.limits.tables.has_table h.limits.at_most_8_tables h.limits.outputs h.limits.priors few h.limits.depths shallow h.limits.contributors h.puts h.apart

pub round_trip : AreReadAgain → (job : Job) → IsWritable job → in_text job ≡ job → job_of (job_text job) ≡ Ok job
round_trip law job h same = text_read law job h ∙ ap (λ (j : Job). Ok j) same

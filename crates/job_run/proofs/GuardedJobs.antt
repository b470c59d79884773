-- What becomes of a job that names a file for contributors.
use Rattle.std.proofs.Common.{◌≡◌, ℕ, ◌+◌, arith, Bool, List, length, slice_get, slice_index_or, option_map, Option, None, Some, Result, Ok, Err, refl, ap, sym, subst, ◌∙◌, ℤ}
use Rattle.sdc_base.specs.Records.{Name}
use Rattle.sdc_base.specs.Signs.{AreSigns}
use Rattle.sdc_base.specs.Trees.{Tree}
use Rattle.sdc_base.specs.declared.cell.Cell.{Cell}
use Rattle.sdc_base.specs.declared.method.Method.{Method}
use Rattle.sdc_base.specs.declared.method.Method.TheVariants as methods
use Rattle.sdc_base.specs.declared.rows.Row.{Row}
use Rattle.sdc_base.specs.declared.system.System.{System}
use Rattle.sdc_base.specs.declared.trail.PlanStep.{PlanStep}
use Rattle.attackers.specs.Alone.{AreSoles, IsSole}
use Rattle.attackers.proofs.Concluding.{length-hide_cells}
use Rattle.certificate.specs.Certificates.{certificate_of}
use Rattle.certificate.specs.ExtraReadings.{extra_of}
use Rattle.certificate.specs.ExtraTexts.{extra_text}
use Rattle.certificate.specs.Texts.{text_of}
use Rattle.certificate.specs.declared.certificate.Certificate.{Certificate}
use Rattle.contributor_protection.specs.Guards.{IsCertified, IsGuardOf}
use Rattle.contributor_protection.specs.WholeOutcomes.{IsWholeOutcome}
use Rattle.contributor_protection.specs.declared.guarding.GuardedCells.{GuardedCells}
use Rattle.contributor_protection.specs.declared.guarding.GuardFailure.{GuardFailure}
use Rattle.contributor_protection.specs.declared.guarding.GuardFailure.TheVariants as guard_failure
use Rattle.cell_protection.specs.Protections.{IsProtectionOf}
use Rattle.cell_protection.specs.declared.protection.ProtectionOutcome.{ProtectionOutcome}
use Rattle.cell_protection.specs.declared.protection.ProtectionOutcome.TheVariants as protection
use Rattle.cell_protection.proofs.Protecting.{same-prices}
use Rattle.linked_tables.specs.BookCells.{IsBook}
use Rattle.linked_tables.specs.BookViews.{BookView}
use Rattle.modular_plan.specs.Methods.{passes_of}
use Rattle.modular_plan.specs.Plans.{IsSameButHidden, trail_of}
use Rattle.relations.specs.Holding.{IsSystemOf}
use Rattle.repair.specs.HidingOrder.{Case, protected_case, prices_of}
use Rattle.worlds.specs.Protection.{Protection as HiddenSet}
use Rattle.job_lang.specs.JobLimits.{CanHaveContributors}
use Rattle.job_lang.specs.declared.job.Job.{Job}
use Rattle.job_lang.specs.declared.job.OutputLine.{OutputLine}
use Rattle.job_inputs.specs.ClassifiedJobs.{SettledInputs, IsReadyJob, IsSettledOf}
use Rattle.job_inputs.specs.declared.settled.ClassifiedJob.{ClassifiedJob}
use Rattle.job_run.specs.Books.{job_of}
use Rattle.job_run.specs.GuardedReleases.{IsGuardFor, IsGuardedRelease, guarded_puts, count_hidden}
use Rattle.job_run.specs.Releases.{shown_in, summary_of}
use Rattle.job_run.specs.FileCounts.{contributors_count, file_count}
use Rattle.job_run.specs.Roundings.{base_in_units, job_base}
use Rattle.job_run.specs.Reporting.{guard_failure_report}
use Rattle.job_run.specs.Endings.{ComesToRelease}
use Rattle.job_run.specs.declared.put.Release.{Release}
use Rattle.job_run.proofs.Releasing.{hiding-comes, outcome-for, stuck-comes, same-contributors, signs-for}
use Rattle.job_run.proofs.SameBook.{same-cells}

-- ---- a book in which other cells are hidden

soles-still : (old new : BookView) (rows : List Row) (soles : List (Option ℕ)) → IsSameButHidden old new → AreSoles new rows soles → AreSoles old rows soles
soles-still old new rows soles same are = λ cell name at.
    subst (λ (trees : List Tree). IsSole trees rows name (slice_index_or soles cell None)) same.trees
    (are cell name (ap (λ (names : List Name). slice_get names cell) (same-cells old new same) ∙ at))

-- what guarding comes to by the one book it comes to by the other
guard-still : (old new : BookView) (rows : List Row) (c : Case) (prices : List ℕ) (limit : ℕ) (hidden_set : HiddenSet) (certificate : Certificate) (outcome : Result GuardedCells GuardFailure) → IsSameButHidden old new
    → IsGuardOf new rows c prices limit hidden_set certificate outcome → IsGuardOf old rows c prices limit hidden_set certificate outcome
guard-still old new rows c prices limit hidden_set certificate (Ok guarded) same is = record {
  soles = is.soles;
  one_each = is.one_each;
  each_named = is.each_named ∙ ap (λ (names : List Name). length names) (same-cells old new same);
  are_soles = soles-still old new rows is.soles same is.are_soles;
  comes_to = is.comes_to;
}
guard-still old new rows c prices limit hidden_set certificate (Err (guard_failure.CannotAgainst found)) same is = record {
  soles = is.soles;
  one_each = is.one_each;
  each_named = is.each_named ∙ ap (λ (names : List Name). length names) (same-cells old new same);
  are_soles = soles-still old new rows is.soles same is.are_soles;
  comes_to = is.comes_to;
}
guard-still old new rows c prices limit hidden_set certificate (Err (guard_failure.Undecided stopped against)) same is = record {
  soles = is.soles;
  one_each = is.one_each;
  each_named = is.each_named ∙ ap (λ (names : List Name). length names) (same-cells old new same);
  are_soles = soles-still old new rows is.soles same is.are_soles;
  comes_to = is.comes_to;
}
guard-still old new rows c prices limit hidden_set certificate (Err guard_failure.Memory) same is = tt

-- ---- the file for contributors

line-of : (o : Option OutputLine) (name : List ℕ) → option_map (λ (line : OutputLine). line.file) o ≡ Some name → (line : OutputLine) × (o ≡ Some line) × (line.file ≡ name)
line-of None name is = absurd cc
line-of (Some line) name is = (line, refl, let same : line.file ≡ name = cc in same)

-- ---- the parts of a job

-- what holds of a ready job holds of its parts, read through slices
pub parts-ready : (job : ClassifiedJob) (cells : List Cell) (rows : List Row) → cells ≡ job.cells → rows ≡ job.rows → IsReadyJob job → IsReadyJob (job_of job.described job.book cells rows 0 0)
parts-ready job cells rows same same_rows ready =
    subst (λ (all : List Cell). IsReadyJob (job_of job.described job.book all rows 0 0)) (sym same)
    (subst (λ (all : List Row). IsReadyJob (job_of job.described job.book job.cells all 0 0)) (sym same_rows) (record {
      sound = ready.sound;
      book = ready.book;
      told = ready.told;
      at_most_1000000 = ready.at_most_1000000;
      one_each = ready.one_each;
      settled = ready.settled;
      levels = ready.levels;
      truths = ready.truths;
      fewer_than_2_32 = ready.fewer_than_2_32;
    }))

-- and they have its inputs
pub parts-settled : (settled : SettledInputs) (job : ClassifiedJob) (cells : List Cell) (rows : List Row) → cells ≡ job.cells → rows ≡ job.rows → IsSettledOf settled job → IsSettledOf settled (job_of job.described job.book cells rows job.records job.skipped)
parts-settled settled job cells rows same same_rows is =
    subst (λ (all : List Cell). IsSettledOf settled (job_of job.described job.book all rows job.records job.skipped)) (sym same)
    (subst (λ (all : List Row). IsSettledOf settled (job_of job.described job.book job.cells all job.records job.skipped)) (sym same_rows) (record {
      described = is.described;
      book = is.book;
      cells = is.cells;
      rows = is.rows;
      records = is.records;
      skipped = is.skipped;
    }))

-- ---- what a job comes to

-- what guarding a protected job comes to, it comes to for its settled inputs
pub guard-for : (settled : SettledInputs) (job : ClassifiedJob) (system : System) (new : BookView) (cells : List Cell) (rows : List Row) (name : List ℕ) (one : ProtectionOutcome) (hidden_set : HiddenSet) (certificate : Certificate) (outcome : Result GuardedCells GuardFailure)
    → job_base job.described ≡ None → option_map (λ (line : OutputLine). line.file) job.described.job.contributors ≡ Some name → IsSettledOf settled job → IsBook job.book → IsSystemOf job.book system → cells ≡ job.cells → rows ≡ job.rows → one ≡ protection.Protected hidden_set certificate
    → IsSameButHidden job.book new
    → IsProtectionOf (protected_case system cells) (prices_of job.described.job.cost cells job.book.marks) job.described.job.method (trail_of job.book cells job.described.job.cost (passes_of job.described.job.method)) job.described.job.steps one
    → IsGuardOf new rows (protected_case system cells) (prices_of job.described.job.cost cells new.marks) job.described.job.steps hidden_set certificate outcome
    → ((signs : List Bool) → AreSigns system.relations signs → IsWholeOutcome outcome)
    → IsGuardFor settled hidden_set certificate outcome
guard-for settled job system new cells rows name one hidden_set certificate outcome hides named is_job is_book is_system same same_rows is_one still is guards whole =
    let made = outcome-for settled job system cells one (protection.Protected hidden_set certificate) hides is_job is_book is_system same is_one is in
    let line = line-of job.described.job.contributors name named in
    let cost = job.described.job.cost in
    let own : IsProtectionOf (protected_case system job.cells) (prices_of cost job.cells job.book.marks) job.described.job.method (trail_of job.book job.cells cost (passes_of job.described.job.method)) job.described.job.steps (protection.Protected hidden_set certificate) =
    subst (λ (p : ProtectionOutcome). IsProtectionOf (protected_case system job.cells) (prices_of cost job.cells job.book.marks) job.described.job.method (trail_of job.book job.cells cost (passes_of job.described.job.method)) job.described.job.steps p) is_one
    (subst (λ (all : List Cell). IsProtectionOf (protected_case system all) (prices_of cost all job.book.marks) job.described.job.method (trail_of job.book all cost (passes_of job.described.job.method)) job.described.job.steps one) same is) in
    let by_cells : IsGuardOf new rows (protected_case system job.cells) (prices_of cost job.cells new.marks) job.described.job.steps hidden_set certificate outcome =
    subst (λ (all : List Cell). IsGuardOf new rows (protected_case system all) (prices_of cost all new.marks) job.described.job.steps hidden_set certificate outcome) same guards in
    let by_prices : IsGuardOf new rows (protected_case system job.cells) (prices_of cost job.cells job.book.marks) job.described.job.steps hidden_set certificate outcome =
    subst (λ (prices : List ℕ). IsGuardOf new rows (protected_case system job.cells) prices job.described.job.steps hidden_set certificate outcome) (same-prices cost job.cells job.book.marks new.marks still.facts) by_cells in
    let by_rows : IsGuardOf new settled.inputs.records.rows (protected_case system job.cells) (prices_of cost job.cells job.book.marks) job.described.job.steps hidden_set certificate outcome =
    subst (λ (all : List Row). IsGuardOf new all (protected_case system job.cells) (prices_of cost job.cells job.book.marks) job.described.job.steps hidden_set certificate outcome) (same_rows ∙ is_job.rows) by_prices in
    record {
      line = line.0;
      named = same-contributors settled job is_job ∙ line.1;
      protects = record { hides = made.hides; job = job; system = system; job_is = is_job; system_is = is_system; comes_to = own; whole = made.whole };
      guards = guard-still job.book new settled.inputs.records.rows (protected_case system job.cells) (prices_of cost job.cells job.book.marks) job.described.job.steps hidden_set certificate outcome still by_rows;
      whole = λ shape. (let signs = signs-for settled job system shape is_job is_book is_system in whole signs.0 signs.1);
    }

-- why a hidden set isn't guarded stops the run
pub guard-failure-comes : (settled : SettledInputs) (hidden_set : HiddenSet) (certificate : Certificate) (why : GuardFailure) → IsGuardFor settled hidden_set certificate (Err why) → ComesToRelease settled (Err (guard_failure_report why))
guard-failure-comes settled hidden_set certificate (guard_failure.CannotAgainst found) is = record { hidden_set = hidden_set; certificate = certificate; guards = is }
guard-failure-comes settled hidden_set certificate (guard_failure.Undecided stopped against) is =
    stuck-comes settled stopped.fault stopped.repairs stopped.shown (Some against) (record { hidden_set = hidden_set; certificate = certificate; guards = is })
guard-failure-comes settled hidden_set certificate guard_failure.Memory is = tt

-- a guarded set makes a guarded release
pub guarded-is : (settled : SettledInputs) (release : Release) (hidden_set : HiddenSet) (certificate : Certificate) (guarded : GuardedCells) (name : List ℕ) → IsGuardFor settled hidden_set certificate (Ok guarded)
    → option_map (λ (line : OutputLine). line.file) settled.inputs.described.job.contributors ≡ Some name → guarded.certificate ≡ certificate
    → certificate_of (text_of guarded.certificate) ≡ Ok guarded.certificate → extra_of (extra_text guarded.extra) ≡ Ok guarded.extra
    → release.puts ≡ guarded_puts settled.inputs name (shown_in settled.inputs guarded.hidden.flags) guarded.certificate guarded.extra
    → release.summary ≡ summary_of settled (count_hidden guarded.hidden.flags) → release.certificate ≡ guarded.certificate → IsGuardedRelease settled release
guarded-is settled release hidden_set certificate guarded name guards named same read_back extra_read_back puts numbers is =
    let own : Some guards.line.file ≡ Some name = sym (ap (λ (o : Option OutputLine). option_map (λ (line : OutputLine). line.file) o) guards.named) ∙ named in
    let file : name ≡ guards.line.file = (let one : guards.line.file ≡ name = cc in sym one) in
    record {
      hidden_set = hidden_set;
      certificate = certificate;
      guarded = guarded;
      guards = guards;
      read_back = subst (λ (one : Certificate). certificate_of (text_of one) ≡ Ok one) same read_back;
      extra_read_back = extra_read_back;
      puts = puts ∙ ap (λ (n : List ℕ). guarded_puts settled.inputs n (shown_in settled.inputs guarded.hidden.flags) guarded.certificate guarded.extra) file
          ∙ ap (λ (one : Certificate). guarded_puts settled.inputs guards.line.file (shown_in settled.inputs guarded.hidden.flags) one guarded.extra) same;
      numbers = numbers;
      certificate_is = is ∙ same;
    }

-- and that is what the job comes to
pub guarded-comes : (settled : SettledInputs) (job : ClassifiedJob) (name : List ℕ) (release : Release) → job_base job.described ≡ None → option_map (λ (line : OutputLine). line.file) job.described.job.contributors ≡ Some name → IsSettledOf settled job → IsGuardedRelease settled release → ComesToRelease settled (Ok release)
guarded-comes settled job name release hides named is_of is =
    let line = line-of job.described.job.contributors name named in
    hiding-comes settled job (Some line.0) release hides line.1 is_of is

-- its settled inputs name the file too
pub file-named : (settled : SettledInputs) (job : ClassifiedJob) (name : List ℕ) → IsSettledOf settled job → option_map (λ (line : OutputLine). line.file) job.described.job.contributors ≡ Some name → option_map (λ (line : OutputLine). line.file) settled.inputs.described.job.contributors ≡ Some name
file-named settled job name is_of named = ap (λ (o : Option OutputLine). option_map (λ (line : OutputLine). line.file) o) (same-contributors settled job is_of) ∙ named

-- ---- how many files

-- a job that names no file for contributors has one file more than tables
pub unnamed-files : (job : Job) (n : ℕ) → job.contributors ≡ None → n ≡ 1 + length job.tables → n ≡ file_count job
unnamed-files job n unnamed is =
    let none : contributors_count job.contributors ≡ 0 = ap contributors_count unnamed in
    omega (arith, none, is)

one-named : (o : Option OutputLine) (name : List ℕ) → option_map (λ (line : OutputLine). line.file) o ≡ Some name → contributors_count o ≡ 1
one-named None name is = absurd cc
one-named (Some line) name is = refl

-- one that does has two more
pub named-files : (job : Job) (n : ℕ) (name : List ℕ) → option_map (λ (line : OutputLine). line.file) job.contributors ≡ Some name → n ≡ 2 + length job.tables → n ≡ file_count job
named-files job n name named is =
    let one = one-named job.contributors name named in
    omega (arith, one, is)

-- a job that rounds names none
pub rounds-unnamed : (one : Method) (decimals : ℕ) (base : ℤ) (named : Option OutputLine) → base_in_units one decimals ≡ Some base → CanHaveContributors one named → named ≡ None
rounds-unnamed (methods.Rnd whole) decimals base None is can = refl
rounds-unnamed (methods.Rnd whole) decimals base (Some line) is can = absurd can
rounds-unnamed (methods.Gh passes) decimals base named is can = absurd cc
rounds-unnamed methods.Modular decimals base named is can = absurd cc

-- ---- what the calls want

-- a hidden set that protects has this certificate
pub certified : (c : Case) (prices : List ℕ) (method : Method) (steps : List PlanStep) (limit : ℕ) (one : ProtectionOutcome) (hidden_set : HiddenSet) (certificate : Certificate) → one ≡ protection.Protected hidden_set certificate → IsProtectionOf c prices method steps limit one
    → IsCertified c hidden_set certificate
certified c prices method steps limit one hidden_set certificate is_one is = record {
  prices = prices;
  method = method;
  steps = steps;
  protects = subst (λ (p : ProtectionOutcome). IsProtectionOf c prices method steps limit p) is_one is;
}

-- the larger set has as many flags
pub each-guarded : (book : BookView) (rows : List Row) (c : Case) (prices : List ℕ) (limit : ℕ) (hidden_set : HiddenSet) (certificate : Certificate) (guarded : GuardedCells) → IsGuardOf book rows c prices limit hidden_set certificate (Ok guarded)
    → length guarded.hidden.flags ≡ length hidden_set.hidden.flags
each-guarded book rows c prices limit hidden_set certificate guarded is =
    ap (λ (flags : List Bool). length flags) is.comes_to.flags_are ∙ length-hide_cells hidden_set.hidden.flags guarded.extra.cells

-- its certificate is that of the set
pub certificate-kept : (book : BookView) (rows : List Row) (c : Case) (prices : List ℕ) (limit : ℕ) (hidden_set : HiddenSet) (certificate : Certificate) (guarded : GuardedCells) → IsGuardOf book rows c prices limit hidden_set certificate (Ok guarded)
    → guarded.certificate ≡ certificate
certificate-kept book rows c prices limit hidden_set certificate guarded is = is.comes_to.certificate_is

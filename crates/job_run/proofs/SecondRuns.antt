-- A second run completes what the first left in part.
use Rattle.std.proofs.Common.{◌≡◌, ◌≢◌, ◌∙◌, ℕ, zero, suc, ◌+◌, Bool, true, false, ◌||◌, List, [], ◌∷◌, ◌++◌, Option, None, Some, Result, Ok, option_map, map, take, slice_get, refl, ap, sym, subst, ℤ}
use Rattle.std.specs.List.{AllByRecursion, list_any}
use Rattle.std.specs.Str.{bytes_eq}
use Rattle.std.proofs.lemmas.Slice.Eq.{bytes_eq-Decides}
use Rattle.certificate.specs.declared.certificate.Certificate.{Certificate}
use Rattle.certificate.specs.declared.extra.Extra.{Extra}
use Rattle.job_lang.specs.FileLaws.{contributors_files}
use Rattle.job_lang.specs.declared.job.OutputLine.{OutputLine}
use Rattle.job_lang.specs.declared.job.TableLine.{TableLine}
use Rattle.office_io.specs.Files.{Files, files_after_put, told_file}
use Rattle.office_io.specs.Trays.{TrayState}
use Rattle.job_inputs.specs.ClassifiedJobs.{SettledInputs, settled_of}
use Rattle.job_inputs.specs.declared.file_ref.FileRef.{FileRef}
use Rattle.job_inputs.specs.declared.inputs.Inputs.{Inputs}
use Rattle.job_inputs.specs.declared.purpose.Purpose.TheVariants as purpose
use Rattle.sdc_base.specs.Records.{Name}
use Rattle.job_run.specs.Endings.{IsHidingRelease, IsReleaseBy, IsReleaseOf}
use Rattle.job_run.specs.GuardedReleases.{guarded_puts}
use Rattle.job_run.specs.Puts.{put_all, AllWhole, IsInPart, OneInPart}
use Rattle.job_run.specs.Releases.{tables_from, shown_in, value_in}
use Rattle.job_run.specs.Roundings.{job_base, rounded_certificate}
use Rattle.job_run.specs.SecondRuns.{is_put_by, SecondRunsComplete}
use Rattle.job_run.specs.declared.put.FilePut.{FilePut}
use Rattle.job_run.specs.declared.put.Release.{Release}
use Rattle.job_run.proofs.Outcomes.{ok-and}
use Rattle.office_io.proofs.Puts.{put_other}

-- none of the puts is of this name
abbrev pub OfOthers : List ℕ → List FilePut → Type 0
OfOthers other puts = AllByRecursion (λ (p : FilePut). other ≢ p.name) puts

-- ---- puts of other names

pub all-others : (other : List ℕ) (puts : List FilePut) (out : Files) → OfOthers other puts → put_all out puts other ≡ out other
all-others other [] out apart = refl
all-others other (p ∷ puts) out apart = all-others other puts (files_after_put out p.name p.bytes) apart.1 ∙ put_other out p.name p.bytes other apart.0

front-others : (other : List ℕ) (k : ℕ) (puts : List FilePut) → OfOthers other puts → OfOthers other (take k puts)
front-others other zero puts apart = tt
front-others other (suc k) [] apart = tt
front-others other (suc k) (p ∷ puts) apart = (apart.0, front-others other k puts apart.1)

one-other : (other : List ℕ) (k : ℕ) (puts : List FilePut) (next : FilePut) → OfOthers other puts → slice_get puts k ≡ Some next → other ≢ next.name
one-other other k [] next apart is = absurd cc
one-other other zero (p ∷ puts) next apart is = let same : p ≡ next = cc in subst (λ (one : FilePut). other ≢ one.name) same apart.0
one-other other (suc k) (p ∷ puts) next apart is = one-other other k puts next apart.1 is

whole-others : (other : List ℕ) (puts : List FilePut) (old new : TrayState) → OfOthers other puts → AllWhole puts old new → told_file new.files other ≡ told_file old.files other
whole-others other puts old new apart whole = ap (λ (files : Option Files). told_file files other) whole.files ∙ by old.files
  where
    by : (o : Option Files) → told_file (option_map (λ out. put_all out puts) o) other ≡ told_file o other
    by None = refl
    by (Some out) = ap Some (all-others other puts out apart)

part-others : (other : List ℕ) (puts : List FilePut) (file : FileRef) (old new : TrayState) → OfOthers other puts → OneInPart puts file old new → told_file new.files other ≡ told_file old.files other
part-others other puts file old new apart part = ap (λ (files : Option Files). told_file files other) is.files ∙ by old.files
  where
    k : ℕ
    k = part.0

    n : ℕ
    n = part.1

    is : IsInPart puts file k n old new
    is = part.2

    by : (o : Option Files) → told_file (option_map (λ out. files_after_put (put_all out (take k puts)) is.next.name (take n is.next.bytes)) o) other ≡ told_file o other
    by None = refl
    by (Some out) = ap Some (put_other (put_all out (take k puts)) is.next.name (take n is.next.bytes) other (one-other other k puts is.next apart is.is_next) ∙ all-others other (take k puts) out (front-others other k puts apart))

-- ---- a release puts the files of its job

pub neither : (a b : Bool) → (a || b) ≡ false → (a ≡ false) × (b ≡ false)
neither true b h = absurd cc
neither false b h = (refl, h)

pub apart-name : (name other : List ℕ) → bytes_eq name other ≡ false → other ≢ name
apart-name name other h same = let yes : bytes_eq name other ≡ true = (bytes_eq-Decides name other).1 (sym same) in absurd cc

tables-others : (other : List ℕ) (inputs : Inputs) (shown : Name → Option ℤ) (t : ℕ) (lines : List TableLine) (outputs : List OutputLine) → list_any (λ file. bytes_eq file other) (map (λ (o : OutputLine). o.file) outputs) ≡ false
    → OfOthers other (tables_from inputs shown t lines outputs)
tables-others other inputs shown t [] outputs none = tt
tables-others other inputs shown t (line ∷ lines) [] none = tt
tables-others other inputs shown t (line ∷ lines) (output ∷ outputs) none =
    let both = neither (bytes_eq output.file other) (list_any (λ file. bytes_eq file other) (map (λ (o : OutputLine). o.file) outputs)) none in
    (apart-name output.file other both.0, tables-others other inputs shown (t + 1) lines outputs both.1)

-- a name that is none of these isn't one of the last of them
none-behind : (test : List ℕ → Bool) (names more : List (List ℕ)) → list_any test (names ++ more) ≡ false → (list_any test names ≡ false) × (list_any test more ≡ false)
none-behind test [] more none = (refl, none)
none-behind test (name ∷ names) more none =
    let both = neither (test name) (list_any test (names ++ more)) none in
    let rest = none-behind test names more both.1 in
    (joined (test name) (list_any test names) both.0 rest.0, rest.1)
  where
    joined : (a b : Bool) → a ≡ false → b ≡ false → (a || b) ≡ false
    joined true b is_a is_b = absurd cc
    joined false b is_a is_b = is_b

puts-others : (other : List ℕ) (inputs : Inputs) (shown : Name → Option ℤ) (certificate : Certificate) → is_put_by inputs.described.job other ≡ false → OfOthers other (Rattle.job_run.specs.Releases.puts_of inputs shown certificate)
puts-others other inputs shown certificate none =
    let named = contributors_files inputs.described.job.contributors in
    let both = neither (bytes_eq inputs.described.job.certificate other) (list_any (λ file. bytes_eq file other) (named ++ map (λ (o : OutputLine). o.file) inputs.described.job.outputs)) none in
    let tables = none-behind (λ file. bytes_eq file other) named (map (λ (o : OutputLine). o.file) inputs.described.job.outputs) both.1 in
    (apart-name inputs.described.job.certificate other both.0, tables-others other inputs shown 0 inputs.described.job.tables inputs.described.job.outputs tables.1)

guarded-others : (other : List ℕ) (inputs : Inputs) (line : OutputLine) (shown : Name → Option ℤ) (certificate : Certificate) (extra : Extra) → inputs.described.job.contributors ≡ Some line → is_put_by inputs.described.job other ≡ false
    → OfOthers other (guarded_puts inputs line.file shown certificate extra)
guarded-others other inputs line shown certificate extra is_named none =
    let named = contributors_files inputs.described.job.contributors in
    let both = neither (bytes_eq inputs.described.job.certificate other) (list_any (λ (file : List ℕ). bytes_eq file other) (named ++ map (λ (o : OutputLine). o.file) inputs.described.job.outputs)) none in
    let parts = none-behind (λ (file : List ℕ). bytes_eq file other) named (map (λ (o : OutputLine). o.file) inputs.described.job.outputs) both.1 in
    let own : list_any (λ (file : List ℕ). bytes_eq file other) (line.file ∷ []) ≡ false = subst (λ (c : Option OutputLine). list_any (λ (file : List ℕ). bytes_eq file other) (contributors_files c) ≡ false) is_named parts.0 in
    let apart = neither (bytes_eq line.file other) false own in
    (apart-name inputs.described.job.certificate other both.0, (apart-name line.file other apart.0, tables-others other inputs shown 0 inputs.described.job.tables inputs.described.job.outputs parts.1))

hiding-others : (other : List ℕ) (settled : SettledInputs) (release : Release) (named : Option OutputLine) → is_put_by settled.inputs.described.job other ≡ false → IsHidingRelease named settled release → OfOthers other release.puts
hiding-others other settled release None none is = rw is.puts (puts-others other settled.inputs (shown_in settled.inputs is.hidden_set.hidden.flags) is.certificate none)
hiding-others other settled release (Some line) none is =
    rw is.puts (guarded-others other settled.inputs is.guards.line (shown_in settled.inputs is.guarded.hidden.flags) is.certificate is.guarded.extra is.guards.named none)

release-others : (other : List ℕ) (settled : SettledInputs) (release : Release) (base : Option ℤ) → is_put_by settled.inputs.described.job other ≡ false → IsReleaseBy base settled release → OfOthers other release.puts
release-others other settled release None none is = hiding-others other settled release settled.inputs.described.job.contributors none is
release-others other settled release (Some base) none is = rw is.puts (puts-others other settled.inputs (value_in settled.inputs is.values) (rounded_certificate settled.inputs) none)

-- ---- two runs

ok-same : {A F : Type 0} {a b : A} → ◌≡◌ {A = Result A F} (Ok a) (Ok b) → a ≡ b
ok-same {A} {F} {a} {b} is = let same : a ≡ b = cc in same

pub second_runs_complete : SecondRunsComplete
second_runs_complete files name summary before between after runs =
    let released = runs.second.released files runs.second_files summary refl in (
      released,
      λ settled other read none.
          let again : settled_of purpose.Release files name ≡ Ok settled = read in
          let left = runs.first.run.left files runs.first_files in
          let first = ok-and (λ one. IsReleaseOf one left.0) (settled_of purpose.Release files name) left.1 in
          let first-is : first.0 ≡ settled = ok-same (sym first.1 ∙ again) in
          let second-is : released.settled ≡ settled = ok-same (sym released.read ∙ again) in
          let none-first = subst (λ (s : SettledInputs). is_put_by s.inputs.described.job other ≡ false) (sym first-is) none in
          let none-second = subst (λ (s : SettledInputs). is_put_by s.inputs.described.job other ≡ false) (sym second-is) none in
          whole-others other released.release.puts between after (release-others other released.settled released.release (job_base released.settled.inputs.described) none-second released.is_release) released.put
          ∙ part-others other left.0.puts runs.file before between (release-others other first.0 left.0 (job_base first.0.inputs.described) none-first first.2) left.2,
    )

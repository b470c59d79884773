-- What a tray holds under the names of a release's files.
use Rattle.std.proofs.Common.{◌≡◌, ◌≢◌, ℕ, ◌+◌, Bool, true, false, if◌then◌else◌, List, [], ◌∷◌, ◌++◌, length, map, Option, None, Some, option_map, Result, Ok, ℤ, refl, ap, sym, ◌∙◌, arith}
use Rattle.std.specs.List.{AllByRecursion, IsDistinct}
use Rattle.std.specs.Str.{bytes_eq}
use Rattle.std.proofs.lemmas.Map.Keys.{IsDistinct-head, IsDistinct-tail}
use Rattle.std.proofs.lemmas.Slice.Eq.{bytes_eq-Decides}
use Rattle.sdc_base.specs.Records.{Name}
use Rattle.sdc_base.specs.declared.method.Method.{Method}
use Rattle.sdc_base.specs.declared.method.Method.TheVariants as method
use Rattle.certificate.specs.declared.certificate.Certificate.{Certificate}
use Rattle.certificate.specs.declared.extra.Extra.{Extra}
use Rattle.job_lang.specs.FileLaws.{contributors_files, puts_of as names_put}
use Rattle.job_lang.specs.JobLimits.{CanHaveContributors}
use Rattle.job_lang.specs.declared.job.OutputLine.{OutputLine}
use Rattle.job_lang.specs.declared.job.TableLine.{TableLine}
use Rattle.office_io.specs.Files.{Files, files_after_put}
use Rattle.job_inputs.specs.declared.inputs.Inputs.{Inputs}
use Rattle.job_run.proofs.SecondRuns.{OfOthers, all-others}
use Rattle.job_run.specs.GuardedReleases.{guarded_puts}
use Rattle.job_run.specs.Puts.{put_all}
use Rattle.job_run.specs.Releases.{puts_of, tables_from}
use Rattle.job_run.specs.Roundings.{base_in_units}
use Rattle.job_run.specs.declared.put.FilePut.{FilePut}
use Rattle.job_run.specs.declared.put.Release.{Release}

-- a file that is put, and a release as it is put, by names that other crates can use
abbrev pub Put : Type 0
Put = FilePut

abbrev pub PutRelease : Type 0
PutRelease = Release

-- each put stands under its name
abbrev pub AreHeld : Files → List FilePut → Type 0
AreHeld files puts = AllByRecursion (λ (p : FilePut). files p.name ≡ Some p.bytes) puts

-- the names of puts
abbrev pub names : List FilePut → List (List ℕ)
names puts = map (λ (p : FilePut). p.name) puts

pub put-self : (files : Files) (name bytes : List ℕ) → files_after_put files name bytes name ≡ Some bytes
put-self files name bytes = ap (λ (same : Bool). if same then Some bytes else files name) ((bytes_eq-Decides name name).1 refl)

pub apart-names : (one other : List ℕ) → bytes_eq one other ≡ false → one ≢ other
apart-names one other apart same = let yes : bytes_eq one other ≡ true = (bytes_eq-Decides one other).1 same in absurd cc

pub apart-from : (name : List ℕ) (puts : List FilePut) → AllByRecursion (λ (other : List ℕ). bytes_eq name other ≡ false) (names puts) → OfOthers name puts
apart-from name [] all = tt
apart-from name (p ∷ puts) all = (apart-names name p.name all.0, apart-from name puts all.1)

-- after puts of different names each stands under its name
pub all-held : (puts : List FilePut) (out : Files) → IsDistinct bytes_eq (names puts) → AreHeld (put_all out puts) puts
all-held [] out apart = tt
all-held (p ∷ puts) out apart = (
  all-others p.name puts (files_after_put out p.name p.bytes) (apart-from p.name puts (IsDistinct-head bytes_eq p.name (names puts) apart)) ∙ put-self out p.name p.bytes,
  all-held puts (files_after_put out p.name p.bytes) (IsDistinct-tail bytes_eq p.name (names puts) apart),
)

pub table-names : (inputs : Inputs) (shown : Name → Option ℤ) (t : ℕ) (lines : List TableLine) (outputs : List OutputLine) → length outputs ≡ length lines
    → names (tables_from inputs shown t lines outputs) ≡ map (λ (o : OutputLine). o.file) outputs
table-names inputs shown t [] [] many = refl
table-names inputs shown t [] (output ∷ outputs) many = absurd (omega (arith, many))
table-names inputs shown t (line ∷ lines) [] many = absurd (omega (arith, many))
table-names inputs shown t (line ∷ lines) (output ∷ outputs) many = ap (λ (rest : List (List ℕ)). output.file ∷ rest) (table-names inputs shown (t + 1) lines outputs (omega (arith, many)))

-- the names that a job puts are those of its certificate, of its contributors' file, and of its tables
pub plain-names : (inputs : Inputs) (shown : Name → Option ℤ) (certificate : Certificate) → length inputs.described.job.outputs ≡ length inputs.described.job.tables → inputs.described.job.contributors ≡ None
    → names_put inputs.described.job ≡ names (puts_of inputs shown certificate)
plain-names inputs shown certificate many none =
    ap (λ (line : Option OutputLine). inputs.described.job.certificate ∷ contributors_files line ++ map (λ (o : OutputLine). o.file) inputs.described.job.outputs) none
    ∙ ap (λ (rest : List (List ℕ)). inputs.described.job.certificate ∷ rest) (sym (table-names inputs shown 0 inputs.described.job.tables inputs.described.job.outputs many))

pub guarded-names : (inputs : Inputs) (line : OutputLine) (shown : Name → Option ℤ) (certificate : Certificate) (extra : Extra) → length inputs.described.job.outputs ≡ length inputs.described.job.tables → inputs.described.job.contributors ≡ Some line
    → names_put inputs.described.job ≡ names (guarded_puts inputs line.file shown certificate extra)
guarded-names inputs line shown certificate extra many some =
    ap (λ (o : Option OutputLine). inputs.described.job.certificate ∷ contributors_files o ++ map (λ (o : OutputLine). o.file) inputs.described.job.outputs) some
    ∙ ap (λ (rest : List (List ℕ)). inputs.described.job.certificate ∷ line.file ∷ rest) (sym (table-names inputs shown 0 inputs.described.job.tables inputs.described.job.outputs many))

pub some-before : (o : Option Files) (out : Files) (puts : List FilePut) → option_map (λ files. put_all files puts) o ≡ Some out → (before : Files) × (out ≡ put_all before puts)
some-before None out puts h = absurd cc
some-before (Some before) out puts h = (before, let same : put_all before puts ≡ out = cc in sym same)

pub ok-same : {A F : Type 0} {a b : A} → ◌≡◌ {A = Result A F} (Ok a) (Ok b) → a ≡ b
ok-same {A} {F} {a} {b} is = let same : a ≡ b = cc in same

-- a job that rounds names no contributors' file
pub no-file-to-round : (one : Method) (decimals : ℕ) (base : ℤ) (line : Option OutputLine) → base_in_units one decimals ≡ Some base → CanHaveContributors one line → line ≡ None
no-file-to-round one decimals base None rounds can = refl
no-file-to-round (method.Rnd whole) decimals base (Some line) rounds can = absurd can
no-file-to-round (method.Gh passes) decimals base (Some line) rounds can = absurd cc
no-file-to-round method.Modular decimals base (Some line) rounds can = absurd cc

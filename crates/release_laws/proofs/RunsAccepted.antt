-- What a run has put is accepted by a check that finds it beside the same inputs.
use Rattle.std.proofs.Common.{◌≡◌, ◌⊎◌, inl, inr, ℕ, suc, ◌+◌, ◌<◌, ◌≤◌, Bool, true, false, nat_lt, List, [], ◌∷◌, length, map, slice_get, Option, None, Some, Result, Ok, Err, ℤ, refl, ap, sym, subst, ◌∙◌, arith}
use Rattle.std.proofs.lemmas.Bool.Decides.{nat_tests}
use Rattle.std.specs.Prelude.{slice_index_or}
use Rattle.std.specs.List.{AllByRecursion, IsDistinct}
use Rattle.std.specs.Option.{option_and_then}
use Rattle.std.specs.Str.{bytes_eq}
use Rattle.sdc_base.specs.Records.{Name}
use Rattle.sdc_base.specs.Roundings.{IsRounding}
use Rattle.sdc_base.specs.Steps.{map_fault}
use Rattle.sdc_base.specs.TableText.{table_text}
use Rattle.sdc_base.specs.declared.method.Method.{Method}
use Rattle.sdc_base.specs.declared.method.Method.TheVariants as method
use Rattle.certificate.specs.Certificates.{certificate_of}
use Rattle.certificate.specs.Texts.{text_of}
use Rattle.certificate.specs.declared.certificate.Certificate.{Certificate}
use Rattle.certificate.specs.declared.extra.Extra.{Extra}
use Rattle.certificate.specs.ExtraReadings.{extra_of}
use Rattle.certificate.specs.ExtraTexts.{extra_text}
use Rattle.cert_check.specs.Cases.{IsCase}
use Rattle.cert_check.specs.FirstFault.{acceptance_fault}
use Rattle.cert_check.specs.Methods.{rounds_cells}
use Rattle.cert_check.specs.declared.case.Case.{Case}
use Rattle.cert_check.specs.declared.faults.CheckFault.{CheckFault}
use Rattle.job_lang.specs.FileLaws.{PutsAreNotNamed, PutsAreNotRead, PutsDiffer, puts_of as names_put}
use Rattle.job_lang.specs.declared.job.Job.{Job}
use Rattle.job_lang.specs.declared.job.OutputLine.{OutputLine}
use Rattle.job_lang.specs.declared.job.TableLine.{TableLine}
use Rattle.linked_tables.specs.BookViews.{BookView}
use Rattle.linked_tables.specs.BookCells.{number_of}
use Rattle.office_io.specs.Files.{Files}
use Rattle.office_io.specs.Trays.{TrayState}
use Rattle.sdc_base.specs.HiddenSets.{hide_cells}
use Rattle.sdc_base.specs.declared.dimension.Dimension.{Dimension}
use Rattle.release_writer.specs.ReadingLaws.{AreTexts}
use Rattle.release_writer.specs.ShownCells.{open_truth}
use Rattle.job_inputs.proofs.CertificateFiles.{certificate-is}
use Rattle.job_inputs.specs.CertificateFile.{certificate_in, certificate_fault}
use Rattle.job_inputs.specs.ContributorsFile.{extra_in}
use Rattle.job_inputs.specs.ReadFiles.{bytes_of_file, limit_of, output_limit, whole_file}
use Rattle.job_inputs.specs.ClassifiedJobs.{SettledInputs, settled_of}
use Rattle.job_inputs.specs.SoundJobs.{IsSoundJob}
use Rattle.job_inputs.specs.TabulatedBooks.{IsBookOf}
use Rattle.job_inputs.specs.Tables.{names_of, tables_of, tables_from as bytes_from}
use Rattle.job_inputs.specs.declared.described.DescribedJob.{DescribedJob}
use Rattle.job_inputs.specs.declared.faults.Fault.{Fault}
use Rattle.job_inputs.specs.declared.file_ref.FileRef.{FileRef}
use Rattle.job_inputs.specs.declared.file_ref.FileRef.TheVariants as file
use Rattle.job_inputs.specs.declared.inputs.Inputs.{Inputs}
use Rattle.job_inputs.specs.declared.purpose.Purpose.TheVariants as purpose
use Rattle.job_check.specs.Cases.{IsCaseOf}
use Rattle.job_inputs.specs.Bases.{method_base as case_base}
use Rattle.job_check.specs.Answers.{IsNotAcceptedWith}
use Rattle.job_check.specs.Contributors.{extra_for}
use Rattle.job_check.specs.GuardedReleases.{guarded_fault, AreSolesOf}
use Rattle.job_check.specs.ReleaseFiles.{ReleasedFiles, released_of, released_with}
use Rattle.job_check.specs.declared.stop.CheckStop.{CheckStop}
use Rattle.job_check.specs.declared.stop.CheckStop.TheVariants as check
use Rattle.job_run.proofs.PutFiles.{AreHeld, Put, PutRelease, all-held, guarded-names, names, no-file-to-round, ok-same, plain-names, some-before}
use Rattle.job_run.proofs.SameBook.{still-book}
use Rattle.job_run.proofs.Showing.{hidden-shown, values-shown}
use Rattle.job_run.proofs.TableSteps.{as-many}
use Rattle.job_run.specs.Checks.{IsCheckEnd}
use Rattle.job_run.specs.CommandRuns.{IsAnswer, Settles}
use Rattle.job_run.specs.Endings.{IsHidingRelease, IsReleaseBy}
use Rattle.job_run.specs.GuardedReleases.{IsGuardedRelease, guarded_puts}
use Rattle.job_run.specs.Protections.{IsSuppressedRelease}
use Rattle.job_run.specs.Puts.{put_all}
use Rattle.job_run.specs.Releases.{puts_of, shown_in, table_of, tables_from, value_in}
use Rattle.job_run.specs.Roundings.{base_in_units, job_base, rounded_certificate, truths_in, IsReleaseOfRounding}
use Rattle.job_run.specs.declared.report.Report.{Report}
use Rattle.job_run.specs.declared.report.Report.TheVariants as report
use Rattle.job_run.proofs.JobsRead.{described-read, inputs-read, job-read}
use Rattle.release_laws.proofs.SameInputs.{settled-same}
use Rattle.release_laws.specs.Laws.{GuardingIsAccepted, WrittenIsAccepted}
use Rattle.release_laws.specs.RoundingLaws.{WrittenRoundingIsAccepted}
use Rattle.release_laws.specs.RunLaws.{IsShort, PutsAreAccepted, RunsAreAccepted}

-- ---- the files of puts

-- no put is too long
abbrev AreShort : List Put → Type 0
AreShort puts = AllByRecursion (λ (p : Put). length p.bytes ≤ output_limit) puts

-- where other files agree with these under the names, they hold the puts too
held-too : (puts : List Put) (out held : Files) → AllByRecursion (λ (name : List ℕ). held name ≡ out name) (names puts) → AreHeld out puts → AreHeld held puts
held-too [] out held same are = tt
held-too (p ∷ puts) out held same are = (same.0 ∙ are.0, held-too puts out held same.1 are.1)

are-short : (puts : List Put) (out : Files) → AllByRecursion (λ (name : List ℕ). IsShort (out name)) (names puts) → AreHeld out puts → AreShort puts
are-short [] out short are = tt
are-short (p ∷ puts) out short are = (subst IsShort are.0 short.0, are-short puts out short.1 are.1)

-- a file of at most so many bytes is read whole
fits : (f : FileRef) (bytes : List ℕ) → length bytes ≤ limit_of f → whole_file f (Some bytes) ≡ Ok bytes
fits f bytes short = let no : nat_lt (limit_of f) (length bytes) ≡ false = grind (arith, nat_tests, short) in rw no refl

read-whole : (f : FileRef) (files : Files) (name bytes : List ℕ) → files name ≡ Some bytes → length bytes ≤ limit_of f → bytes_of_file files name f ≡ Ok bytes
read-whole f files name bytes is short = ap (whole_file f) is ∙ fits f bytes short

-- ---- what a release puts

-- the bytes of tables that stand under the names of outputs
tables-read : (files : Files) (inputs : Inputs) (shown : Name → Option ℤ) (t : ℕ) (lines : List TableLine) (outputs : List OutputLine) → length outputs ≡ length lines → AreHeld files (tables_from inputs shown t lines outputs)
    → AreShort (tables_from inputs shown t lines outputs) → bytes_from files t outputs ≡ Ok (map (λ (p : Put). p.bytes) (tables_from inputs shown t lines outputs))
unfolding bytes_from
tables-read files inputs shown t [] [] many are short = refl
tables-read files inputs shown t [] (output ∷ outputs) many are short = absurd (omega (arith, many))
tables-read files inputs shown t (line ∷ lines) [] many are short = absurd (omega (arith, many))
tables-read files inputs shown t (line ∷ lines) (output ∷ outputs) many are short =
    rw (read-whole (file.Table t) files output.file (table_of inputs shown t (names_of line)) are.0 short.0, tables-read files inputs shown (t + 1) lines outputs (omega (arith, many)) are.1 short.1) refl

-- the bytes of the tables of a release
abbrev table_bytes : Inputs → (Name → Option ℤ) → List (List ℕ)
table_bytes inputs shown = map (λ (p : Put). p.bytes) (tables_from inputs shown 0 inputs.described.job.tables inputs.described.job.outputs)

-- a release that stands under the names of its job is read
plain-read : (files : Files) (name : List ℕ) (settled : SettledInputs) (shown : Name → Option ℤ) (certificate : Certificate) → settled_of purpose.Release files name ≡ Ok settled
    → length settled.inputs.described.job.outputs ≡ length settled.inputs.described.job.tables → settled.inputs.described.job.contributors ≡ None → certificate_of (text_of certificate) ≡ Ok certificate
    → AreHeld files (puts_of settled.inputs shown certificate) → AreShort (puts_of settled.inputs shown certificate)
    → released_of files name ≡ Ok (released_with settled certificate None (table_bytes settled.inputs shown))
unfolding released_of
plain-read files name settled shown certificate read many none back are short =
    let job : Job = settled.inputs.described.job in
    let signed : certificate_in files job.certificate ≡ Ok certificate =
    certificate-is files job.certificate (text_of certificate) certificate (read-whole file.Certificate files job.certificate (text_of certificate) are.0 short.0) (ap (map_fault certificate_fault) back) in
    let beside : extra_for files job.contributors ≡ Ok None = ap (extra_for files) none in
    let put : tables_of files job ≡ Ok (table_bytes settled.inputs shown) = tables-read files settled.inputs shown 0 job.tables job.outputs many are.1 short.1 in
    rw (read, signed, beside, put) refl

extra-is : (files : Files) (name : List ℕ) (extra : Extra) → bytes_of_file files name file.Contributors ≡ Ok (extra_text extra) → extra_of (extra_text extra) ≡ Ok extra → extra_in files name ≡ Ok extra
unfolding extra_in
extra-is files name extra read back = rw (read, back) refl

guarded-read : (files : Files) (name : List ℕ) (settled : SettledInputs) (line : OutputLine) (shown : Name → Option ℤ) (certificate : Certificate) (extra : Extra) → settled_of purpose.Release files name ≡ Ok settled
    → length settled.inputs.described.job.outputs ≡ length settled.inputs.described.job.tables → settled.inputs.described.job.contributors ≡ Some line → certificate_of (text_of certificate) ≡ Ok certificate → extra_of (extra_text extra) ≡ Ok extra
    → AreHeld files (guarded_puts settled.inputs line.file shown certificate extra) → AreShort (guarded_puts settled.inputs line.file shown certificate extra)
    → released_of files name ≡ Ok (released_with settled certificate (Some extra) (table_bytes settled.inputs shown))
unfolding released_of
guarded-read files name settled line shown certificate extra read many some back again are short =
    let job : Job = settled.inputs.described.job in
    let signed : certificate_in files job.certificate ≡ Ok certificate =
    certificate-is files job.certificate (text_of certificate) certificate (read-whole file.Certificate files job.certificate (text_of certificate) are.0 short.0) (ap (map_fault certificate_fault) back) in
    let own : extra_in files line.file ≡ Ok extra = extra-is files line.file extra (read-whole file.Contributors files line.file (extra_text extra) are.1.0 short.1.0) again in
    let beside : extra_for files job.contributors ≡ Ok (Some extra) = ap (extra_for files) some ∙ rw own refl in
    let put : tables_of files job ≡ Ok (table_bytes settled.inputs shown) = tables-read files settled.inputs shown 0 job.tables job.outputs many are.1.1 short.1.1 in
    rw (read, signed, beside, put) refl

-- ---- the texts of its tables

-- the text of a table of the book is that of the inputs
abbrev ShowsSame : Inputs → BookView → (Name → Option ℤ) → (ℕ → Option ℤ) → Type 0
ShowsSame inputs book shown by =
    (t : ℕ) (header : List (List ℕ)) → t < length book.tables
    → table_text book.trees (slice_index_or book.tables t []) header inputs.described.bound.decimals (λ name. option_and_then by (number_of book name)) ≡ table_of inputs shown t header

-- those from table t on
texts-from : (inputs : Inputs) (book : BookView) (shown : Name → Option ℤ) (by : ℕ → Option ℤ) (t : ℕ) (rest : List (List Dimension)) (lines : List TableLine) (outputs : List OutputLine) → ShowsSame inputs book shown by
    → length rest ≡ length lines → length outputs ≡ length lines → t + length rest ≤ length book.tables → ((k : ℕ) → k < length rest → slice_index_or book.tables (t + k) [] ≡ slice_index_or rest k [])
    → AreTexts book inputs.described.bound.decimals by rest (map names_of lines) (map (λ (p : Put). p.bytes) (tables_from inputs shown t lines outputs))
texts-from inputs book shown by t [] [] [] same many each within at = tt
texts-from inputs book shown by t [] [] (output ∷ outputs) same many each within at = absurd (omega (arith, each))
texts-from inputs book shown by t [] (line ∷ lines) outputs same many each within at = absurd (omega (arith, many))
texts-from inputs book shown by t (table ∷ rest) [] outputs same many each within at = absurd (omega (arith, many))
texts-from inputs book shown by t (table ∷ rest) (line ∷ lines) [] same many each within at = absurd (omega (arith, each))
texts-from inputs book shown by t (table ∷ rest) (line ∷ lines) (output ∷ outputs) same many each within at =
    let here : t + 0 ≡ t = omega arith in
    let first : slice_index_or book.tables t [] ≡ table = ap (λ (k : ℕ). slice_index_or book.tables k []) (sym here) ∙ at 0 (omega arith) in (
      sym (same t (names_of line) (omega (arith, within))) ∙ ap (λ (one : List Dimension). table_text book.trees one (names_of line) inputs.described.bound.decimals (λ name. option_and_then by (number_of book name))) first,
      texts-from inputs book shown by (t + 1) rest lines outputs same (omega (arith, many)) (omega (arith, each)) (omega (arith, within))
          (λ k inside. (let next : t + suc k ≡ t + 1 + k = omega arith in ap (λ (n : ℕ). slice_index_or book.tables n []) (sym next) ∙ at (suc k) (omega (arith, inside)))),
    )

-- a case's tables are the texts that its release puts
case-texts : (settled : SettledInputs) (case : Case) (shown : Name → Option ℤ) (by : ℕ → Option ℤ) → IsSoundJob settled.inputs.described → IsCaseOf settled case → ShowsSame settled.inputs case.book.now shown by
    → AreTexts case.book.now case.decimals by case.book.now.tables case.names.now (table_bytes settled.inputs shown)
case-texts settled case shown by sound is same =
    let inputs : Inputs = settled.inputs in
    let book : BookView = case.book.now in
    let tables : book.tables ≡ inputs.described.bound.tables = is.book.tables ∙ is.job_is.book.tables in
    let many : length book.tables ≡ length inputs.described.job.tables = ap length tables ∙ as-many inputs.described.bound.tables inputs.described.job.tables sound.bound.tables in
    let decimals : inputs.described.bound.decimals ≡ case.decimals = sym (is.decimals ∙ ap (λ (d : DescribedJob). d.bound.decimals) is.job_is.described) in
    let named : map names_of inputs.described.job.tables ≡ case.names.now = sym (is.names ∙ ap (λ (d : DescribedJob). map names_of d.job.tables) is.job_is.described) in
    let texts = texts-from inputs book shown by 0 book.tables inputs.described.job.tables inputs.described.job.outputs same many sound.job.outputs (omega arith) (λ k inside. (let first : 0 + k ≡ k = omega arith in ap (λ (n : ℕ). slice_index_or book.tables n []) first)) in
    subst (λ (all : List (List (List ℕ))). AreTexts book case.decimals by book.tables all (table_bytes inputs shown)) named
    (subst (λ (n : ℕ). AreTexts book n by book.tables (map names_of inputs.described.job.tables) (table_bytes inputs shown)) decimals texts)

-- ---- methods

hides-so : (one : Method) (decimals : ℕ) → base_in_units one decimals ≡ None → rounds_cells one ≡ false
hides-so (method.Rnd base) decimals is = absurd cc
hides-so (method.Gh passes) decimals is = refl
hides-so method.Modular decimals is = refl

rounds-so : (one : Method) (decimals : ℕ) (base : ℤ) → base_in_units one decimals ≡ Some base → (rounds_cells one ≡ true) × (case_base one decimals ≡ base)
rounds-so (method.Rnd whole) decimals base is = (refl, cc)
rounds-so (method.Gh passes) decimals base is = absurd cc
rounds-so method.Modular decimals base is = absurd cc

-- the method of a case is that of the inputs
case-method : (settled : SettledInputs) (case : Case) → IsCaseOf settled case → settled.inputs.described.job.method ≡ case.method
case-method settled case is = sym (is.method ∙ ap (λ (d : DescribedJob). d.job.method) is.job_is.described)

-- ---- a release has no fault

-- the released files have no fault for any case of theirs, with their extra cells where there are some
abbrev PassesWith : Option Extra → ReleasedFiles → Type 0
PassesWith None released = (case : Case) → IsCaseOf released.settled case → IsCase case released.tables → acceptance_fault case released.tables released.certificate ≡ Ok tt
PassesWith (Some extra) released =
    (case : Case) (soles : List (Option ℕ)) → IsCaseOf released.settled case → IsCase case released.tables → AreSolesOf case released.settled.inputs.records.rows soles
    → guarded_fault case soles released.tables released.certificate extra ≡ Ok tt

abbrev HasNoFault : ReleasedFiles → Type 0
HasNoFault released = PassesWith released.extra released

hidden-passes : WrittenIsAccepted → (settled : SettledInputs) (release : PutRelease) (is : IsSuppressedRelease settled release) → IsSoundJob settled.inputs.described
    → HasNoFault (released_with settled is.certificate None (table_bytes settled.inputs (shown_in settled.inputs is.hidden_set.hidden.flags)))
hidden-passes written settled release is sound = λ case is_case fit.
    let inputs : Inputs = settled.inputs in
    let flags : List Bool = is.hidden_set.hidden.flags in
    let book : IsBookOf inputs case.book.now = still-book inputs is_case.job.book case.book.now is_case.book is_case.job_is.book in
    written settled is.protects.job is.protects.system _ is.hidden_set is.certificate case (table_bytes inputs (shown_in inputs flags)) is.protects.job_is is.protects.system_is is.protects.comes_to is_case fit
    (subst (λ (m : Method). rounds_cells m ≡ false) (case-method settled case is_case) (hides-so inputs.described.job.method inputs.described.bound.decimals is.protects.hides))
    (case-texts settled case (shown_in inputs flags) (open_truth case.book.now.marks flags) sound is_case (λ t header within. hidden-shown inputs case.book.now flags t header book within))

guarded-passes : GuardingIsAccepted → (settled : SettledInputs) (release : PutRelease) (is : IsGuardedRelease settled release) → IsSoundJob settled.inputs.described
    → HasNoFault (released_with settled is.certificate (Some is.guarded.extra) (table_bytes settled.inputs (shown_in settled.inputs is.guarded.hidden.flags)))
guarded-passes guarded settled release is sound = λ case soles is_case fit are.
    let inputs : Inputs = settled.inputs in
    let flags : List Bool = is.guarded.hidden.flags in
    let protects = is.guards.protects in
    let guards = is.guards.guards in
    let larger : flags ≡ hide_cells is.hidden_set.hidden.flags is.guarded.extra.cells = guards.comes_to.flags_are in
    let book : IsBookOf inputs case.book.now = still-book inputs is_case.job.book case.book.now is_case.book is_case.job_is.book in
    let texts = case-texts settled case (shown_in inputs flags) (open_truth case.book.now.marks flags) sound is_case (λ t header within. hidden-shown inputs case.book.now flags t header book within) in
    guarded settled _ is.hidden_set is.certificate is.guarded.extra case soles (table_bytes inputs (shown_in inputs flags))
    (record {
      job = protects.job;
      system = protects.system;
      job_is = protects.job_is;
      system_is = protects.system_is;
      protects = protects.comes_to;
      soles = guards.soles;
      one_each = guards.one_each;
      are_soles = guards.are_soles;
      no_fault = guards.comes_to.accepted;
    })
    is_case fit (subst (λ (m : Method). rounds_cells m ≡ false) (case-method settled case is_case) (hides-so inputs.described.job.method inputs.described.bound.decimals protects.hides)) are
    (subst (λ (set : List Bool). AreTexts case.book.now case.decimals (open_truth case.book.now.marks set) case.book.now.tables case.names.now (table_bytes inputs (shown_in inputs flags))) larger texts)

rounding-passes : WrittenRoundingIsAccepted → (settled : SettledInputs) (base : ℤ) (release : PutRelease) (is : IsReleaseOfRounding settled base release) → job_base settled.inputs.described ≡ Some base → IsSoundJob settled.inputs.described
    → HasNoFault (released_with settled (rounded_certificate settled.inputs) None (table_bytes settled.inputs (value_in settled.inputs is.values)))
rounding-passes written settled base release is rounds sound = λ case is_case fit.
    let inputs : Inputs = settled.inputs in
    let d : DescribedJob = inputs.described in
    let method : rounds_cells d.job.method ≡ true = (rounds-so d.job.method d.bound.decimals base rounds).0 in
    let units : base ≡ case.base = sym (is_case.base ∙ ap (λ (one : DescribedJob). case_base one.job.method one.bound.decimals) is_case.job_is.described ∙ (rounds-so d.job.method d.bound.decimals base rounds).1) in
    let book : IsBookOf inputs case.book.now = still-book inputs is_case.job.book case.book.now is_case.book is_case.job_is.book in
    written settled is.rounding.system_is.0 is.rounding.system is.values case (table_bytes inputs (value_in inputs is.values)) sound is.rounding.system_is.1 is.rounding.system_is.2
    (subst (λ (b : ℤ). IsRounding is.rounding.system (truths_in settled.inputs) b is.values) units is.rounding.rounding) is_case fit
    (subst (λ (m : Method). rounds_cells m ≡ true) (case-method settled case is_case) method)
    (case-texts settled case (value_in inputs is.values) (slice_get is.values) sound is_case (λ t header within. values-shown inputs case.book.now is.values t header book))

-- ---- a release that stands under its names

-- what is read there has no fault
record IsReadSo (files : Files) (name : List ℕ) : Type 0 where
  released : ReleasedFiles
  is : released_of files name ≡ Ok released
  passes : HasNoFault released

-- the puts of a release under their names, none too long, beside its inputs
record StandsBeside (files out : Files) (name : List ℕ) (settled : SettledInputs) : Type 0 where
  read : settled_of purpose.Release files name ≡ Ok settled
  sound : IsSoundJob settled.inputs.described
  differ : IsDistinct bytes_eq (names_put settled.inputs.described.job)
  puts : AllByRecursion (λ (put : List ℕ). files put ≡ out put) (names_put settled.inputs.described.job)
  short : AllByRecursion (λ (put : List ℕ). IsShort (out put)) (names_put settled.inputs.described.job)

stands : (files out before : Files) (name : List ℕ) (settled : SettledInputs) (puts : List Put) → names_put settled.inputs.described.job ≡ names puts → StandsBeside files out name settled → out ≡ put_all before puts → AreHeld files puts × AreShort puts
stands files out before name settled puts called s made =
    let whole : AreHeld out puts = subst (λ (o : Files). AreHeld o puts) (sym made) (all-held puts before (subst (λ (all : List (List ℕ)). IsDistinct bytes_eq all) called s.differ)) in (
      held-too puts out files (subst (λ (all : List (List ℕ)). AllByRecursion (λ (put : List ℕ). files put ≡ out put) all) called s.puts) whole,
      are-short puts out (subst (λ (all : List (List ℕ)). AllByRecursion (λ (put : List ℕ). IsShort (out put)) all) called s.short) whole,
    )

hidden-so : WrittenIsAccepted → GuardingIsAccepted → (files out before : Files) (name : List ℕ) (settled : SettledInputs) (release : PutRelease) (line : Option OutputLine) → settled.inputs.described.job.contributors ≡ line → IsHidingRelease line settled release
    → StandsBeside files out name settled → out ≡ put_all before release.puts → IsReadSo files name
hidden-so written guarded files out before name settled release None named is s made =
    let shown : Name → Option ℤ = shown_in settled.inputs is.hidden_set.hidden.flags in
    let both = stands files out before name settled (puts_of settled.inputs shown is.certificate) (plain-names settled.inputs shown is.certificate s.sound.job.outputs named) s (made ∙ ap (put_all before) is.puts) in
    record {
      released = released_with settled is.certificate None (table_bytes settled.inputs shown);
      is = plain-read files name settled shown is.certificate s.read s.sound.job.outputs named is.read_back both.0 both.1;
      passes = hidden-passes written settled release is s.sound;
    }
hidden-so written guarded files out before name settled release (Some line) named is s made =
    let shown : Name → Option ℤ = shown_in settled.inputs is.guarded.hidden.flags in
    let own : OutputLine = is.guards.line in
    let both = stands files out before name settled (guarded_puts settled.inputs own.file shown is.certificate is.guarded.extra) (guarded-names settled.inputs own shown is.certificate is.guarded.extra s.sound.job.outputs is.guards.named) s (made ∙ ap (put_all before) is.puts) in
    record {
      released = released_with settled is.certificate (Some is.guarded.extra) (table_bytes settled.inputs shown);
      is = guarded-read files name settled own shown is.certificate is.guarded.extra s.read s.sound.job.outputs is.guards.named is.read_back is.extra_read_back both.0 both.1;
      passes = guarded-passes guarded settled release is s.sound;
    }

read-so : WrittenIsAccepted → GuardingIsAccepted → WrittenRoundingIsAccepted → (files out before : Files) (name : List ℕ) (settled : SettledInputs) (release : PutRelease) (base : Option ℤ) → job_base settled.inputs.described ≡ base → IsReleaseBy base settled release
    → StandsBeside files out name settled → out ≡ put_all before release.puts → IsReadSo files name
read-so written guarded rounded files out before name settled release None rounds is s made = hidden-so written guarded files out before name settled release settled.inputs.described.job.contributors refl is s made
read-so written guarded rounded files out before name settled release (Some base) rounds is s made =
    let shown : Name → Option ℤ = value_in settled.inputs is.values in
    let d : DescribedJob = settled.inputs.described in
    let none : d.job.contributors ≡ None = no-file-to-round d.job.method d.bound.decimals base d.job.contributors rounds s.sound.job.contributors in
    let both = stands files out before name settled (puts_of settled.inputs shown (rounded_certificate settled.inputs)) (plain-names settled.inputs shown (rounded_certificate settled.inputs) s.sound.job.outputs none) s (made ∙ ap (put_all before) is.puts) in
    record {
      released = released_with settled (rounded_certificate settled.inputs) None (table_bytes settled.inputs shown);
      is = plain-read files name settled shown (rounded_certificate settled.inputs) s.read s.sound.job.outputs none is.read_back both.0 both.1;
      passes = rounding-passes rounded settled base release is rounds s.sound;
    }

-- ---- a check of it

-- no fault is none
passes-no-fault : (extra : Option Extra) (released : ReleasedFiles) (why : CheckStop) → IsNotAcceptedWith extra released why → PassesWith extra released → ⊥
passes-no-fault None released (check.NotAccepted why) is passes = let both : ◌≡◌ {A = Result (Unit {0}) CheckFault} (Err why) (Ok tt) = sym is.first ∙ passes is.case is.is_case is.fits in absurd cc
passes-no-fault None released (check.NotGuarded why) is passes = is
passes-no-fault None released (check.Inputs why) is passes = is
passes-no-fault (Some extra) released why is passes = let both : ◌≡◌ {A = Result (Unit {0}) CheckStop} (Err why) (Ok tt) = sym is.first ∙ passes is.case is.soles is.is_case is.fits is.are_soles in absurd cc

conclude : (answer : Report) (released : ReleasedFiles) (before after : TrayState) → IsAnswer IsCheckEnd answer → Settles IsCheckEnd answer (Ok released) before after → HasNoFault released → (answer ≡ report.Accepted) ⊎ (answer ≡ report.Memory)
conclude report.Accepted released before after answers ends passes = inl refl
conclude report.Memory released before after answers ends passes = inr refl
conclude (report.NotAccepted why) released before after answers ends passes = absurd (passes-no-fault released.extra released (check.NotAccepted why) ends passes)
conclude (report.NotGuarded why) released before after answers ends passes = absurd (passes-no-fault released.extra released (check.NotGuarded why) ends passes)
conclude (report.WriteFault f) released before after answers ends passes = absurd answers
conclude other released before after answers ends passes = absurd ends

pub runs-are-accepted : PutsDiffer → WrittenIsAccepted → GuardingIsAccepted → WrittenRoundingIsAccepted → RunsAreAccepted
runs-are-accepted differ written guarded rounded files out held name summary answer runs hold =
    let told = runs.run.released files runs.run_files summary refl in
    let settled : SettledInputs = told.settled in
    let same : hold.settled ≡ settled = ok-same (sym hold.read ∙ told.read) in
    let stated = job-read files name settled.inputs.described (described-read files name settled.inputs (inputs-read files name settled told.read)) in
    let before = some-before runs.before.files out told.release.puts (sym told.put.files ∙ runs.put) in
    let read = read-so written guarded rounded held out before.0 name settled told.release (job_base settled.inputs.described) refl told.is_release
    (record {
      read = hold.same_inputs ∙ ap Ok same;
      sound = told.sound;
      differ = differ stated.0 settled.inputs.described.job stated.1;
      puts = subst (λ (s : SettledInputs). AllByRecursion (λ (put : List ℕ). held put ≡ out put) (names_put s.inputs.described.job)) same hold.puts;
      short = subst (λ (s : SettledInputs). AllByRecursion (λ (put : List ℕ). IsShort (out put)) (names_put s.inputs.described.job)) same hold.short;
    }) before.1 in
    conclude answer read.released runs.beside runs.left runs.check.run.answers
    (subst (λ (o : Result ReleasedFiles Fault). Settles IsCheckEnd answer o runs.beside runs.left) read.is (runs.check.run.complete held runs.check_files runs.no_fault)) read.passes

pub puts-are-accepted : PutsAreNotRead → PutsAreNotNamed → RunsAreAccepted → PutsAreAccepted
puts-are-accepted not_read not_named accepted files out held name summary answer runs hold =
    accepted files out held name summary answer runs
    (record { settled = hold.settled; read = hold.read; same_inputs = settled-same not_read not_named files held name hold.settled hold.read hold.others; puts = hold.puts; short = hold.short })

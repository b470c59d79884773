-- The promise holds of a release that a check accepts: of the tables that stand under the names of its job.
use Rattle.std.proofs.Common.{◌≡◌, ℕ, zero, suc, ◌+◌, ◌<◌, Bool, true, false, nat_lt, List, [], ◌∷◌, length, map, slice_get, slice_index_or, Option, None, Some, option_map, Result, Ok, Err, if◌then◌else◌, IsOkAnd, arith, refl, ap, sym, subst, ◌∙◌, ℤ}
use Rattle.std.specs.Option.{option_and_then}
use Rattle.std.proofs.lemmas.List.{length-map}
use Rattle.std.proofs.lemmas.Option.{slice_get-map, slice_get_within}
use Rattle.sdc_base.proofs.StepLemmas.{bind_ok}
use Rattle.sdc_base.specs.HiddenSets.{hide_cells}
use Rattle.sdc_base.specs.Records.{Name}
use Rattle.sdc_base.specs.Roundings.{IsRounding}
use Rattle.sdc_base.specs.TableText.{table_text}
use Rattle.sdc_base.specs.WhereTold.{WhereTold}
use Rattle.sdc_base.specs.declared.cell.Cell.{Cell}
use Rattle.sdc_base.specs.declared.dimension.Dimension.{Dimension}
use Rattle.sdc_base.specs.declared.method.Method.{Method}
use Rattle.sdc_base.specs.declared.method.Method.TheVariants as method
use Rattle.apriori.specs.Settling.{view_of_cell}
use Rattle.certificate.specs.declared.certificate.Certificate.{Certificate}
use Rattle.certificate.specs.declared.extra.Extra.{Extra}
use Rattle.cert_check.proofs.SetLengths.{set_length}
use Rattle.cert_check.specs.Acceptance.{IsShown}
use Rattle.cert_check.specs.Cases.{IsCase}
use Rattle.cert_check.specs.Methods.{rounds_cells}
use Rattle.cert_check.specs.OwnTexts.{own_set}
use Rattle.cert_check.specs.declared.case.Case.{Case}
use Rattle.job_lang.proofs.JobHolds.{job_known}
use Rattle.job_lang.proofs.Known.{known}
use Rattle.job_lang.specs.JobLimits.{IsJob}
use Rattle.job_lang.specs.Jobs.{job_of}
use Rattle.job_lang.specs.declared.job.Job.{Job}
use Rattle.job_lang.specs.declared.job.OutputLine.{OutputLine}
use Rattle.linked_tables.specs.BookCells.{number_of}
use Rattle.linked_tables.specs.BookViews.{BookView}
use Rattle.office_io.specs.Files.{Files}
use Rattle.office_io.specs.Shelves.{ShelfState}
use Rattle.office_io.specs.Trays.{TrayState}
use Rattle.release_writer.specs.ReadingLaws.{AreTexts}
use Rattle.release_writer.specs.ShownCells.{open_truth}
use Rattle.job_inputs.specs.Bases.{method_base}
use Rattle.job_inputs.specs.CertificateFile.{certificate_in}
use Rattle.job_inputs.specs.ClassifiedJobs.{SettledInputs, settled_of}
use Rattle.job_inputs.specs.ContributorsFile.{extra_in}
use Rattle.job_inputs.specs.ReadFiles.{bytes_of_file, limit_of, whole_file}
use Rattle.job_inputs.specs.TabulatedBooks.{IsBookOf}
use Rattle.job_inputs.specs.Tables.{names_of, tables_from, tables_of}
use Rattle.job_inputs.specs.declared.described.DescribedJob.{DescribedJob}
use Rattle.job_inputs.specs.declared.faults.Fault.{Fault}
use Rattle.job_inputs.specs.declared.faults.Fault.TheVariants as fault
use Rattle.job_inputs.specs.declared.file_ref.FileRef.{FileRef}
use Rattle.job_inputs.specs.declared.file_ref.FileRef.TheVariants as file
use Rattle.job_inputs.specs.declared.inputs.Inputs.{Inputs}
use Rattle.job_inputs.specs.declared.purpose.Purpose.TheVariants as purpose
use Rattle.job_check.specs.Answers.{IsAcceptedRelease, IsAcceptedWith, IsAcceptedWithExtra, IsRightRelease}
use Rattle.job_check.specs.Cases.{IsCaseOf}
use Rattle.job_check.specs.Contributors.{extra_for}
use Rattle.job_check.specs.ReleaseFiles.{ReleasedFiles, released_of, released_with}
use Rattle.job_run.specs.Checks.{IsCheckEnd, IsCheckOf}
use Rattle.job_run.specs.CommandRuns.{AgreesWith}
use Rattle.job_run.specs.Promise.{AreTablesBy, AreTablesOf, GuardedTables, IsPromiseOf, IsTrueOf, NeedsEachCell, ProtectedTables, RoundedTables, TablesShow}
use Rattle.job_run.specs.Releases.{shown_in, table_of, value_in}
use Rattle.job_run.specs.Roundings.{base_in_units, job_base, truths_in}
use Rattle.job_run.specs.declared.report.Report.{Report}
use Rattle.job_run.specs.declared.report.Report.TheVariants as report
use Rattle.job_run.proofs.GuardingTables.{guarded-set}
use Rattle.job_run.proofs.JobTruths.{truths-are}
use Rattle.job_run.proofs.JobsRead.{described-read, inputs-read, job-read}
use Rattle.job_run.proofs.PromiseKept.{rounded-so, true-of}
use Rattle.job_run.proofs.PromisedCells.{IsOf, entry-in}
use Rattle.job_run.proofs.PromisedTables.{each-needed, permitted-set, protects-each}
use Rattle.job_run.proofs.PutFiles.{no-file-to-round}
use Rattle.job_run.proofs.SameBook.{still-book}
use Rattle.job_run.proofs.Showing.{hidden-shown, values-shown}

-- ---- what was read

-- the files of a job came to this release
record IsReadFrom (files : Files) (name : List ℕ) (released : ReleasedFiles) : Type 0 where
  settled : settled_of purpose.Release files name ≡ Ok released.settled
  extra : extra_for files released.settled.inputs.described.job.contributors ≡ Ok released.extra
  tables : tables_of files released.settled.inputs.described.job ≡ Ok released.tables

read-from : (files : Files) (name : List ℕ) (released : ReleasedFiles) → released_of files name ≡ Ok released → IsReadFrom files name released
unfolding released_of
read-from files name released h =
    let settled = bind_ok (settled_of purpose.Release files name) _ released h in
    let job : Job = settled.0.inputs.described.job in
    let certificate = bind_ok (certificate_in files job.certificate) _ released settled.2 in
    let extra = bind_ok (extra_for files job.contributors) _ released certificate.2 in
    let tables = bind_ok (tables_of files job) _ released extra.2 in
    let same : released_with settled.0 certificate.0 extra.0 tables.0 ≡ released = cc in
    subst (λ (r : ReleasedFiles). IsReadFrom files name r) same (record { settled = settled.1; extra = extra.1; tables = tables.1 })

-- the job is within its limits
sound-job : (files : Files) (name : List ℕ) (settled : SettledInputs) → settled_of purpose.Release files name ≡ Ok settled → IsJob settled.inputs.described.job
sound-job files name settled read =
    let stated = job-read files name settled.inputs.described (described-read files name settled.inputs (inputs-read files name settled read)) in
    known IsJob (job_of stated.0) settled.inputs.described.job (job_known stated.0) stated.1

-- extra cells were read where the job names a file of them
extra-none : (files : Files) (line : Option OutputLine) (extra : Option Extra) → line ≡ None → extra_for files line ≡ Ok extra → extra ≡ None
extra-none files None extra is read = let same : ◌≡◌ {A = Option Extra} None extra = cc in sym same
extra-none files (Some line) extra is read = absurd cc

extra-some : (files : Files) (line : Option OutputLine) (own : OutputLine) (extra : Option Extra) → line ≡ Some own → extra_for files line ≡ Ok extra → (it : Extra) × (extra ≡ Some it)
extra-some files None own extra is read = absurd cc
extra-some files (Some line) own extra is read =
    let it = bind_ok (extra_in files line.file) _ extra read in
    let same : Some it.0 ≡ extra = cc in
    (it.0, sym same)

-- ---- the bytes of the tables

is-whole : (f : FileRef) (found : Option (List ℕ)) (bytes : List ℕ) → whole_file f found ≡ Ok bytes → found ≡ Some bytes
is-whole f None bytes h = absurd cc
is-whole f (Some own) bytes h =
    elim (nat_lt (limit_of f) (length own)) as (λ (b : Bool). ◌≡◌ {A = Result (List ℕ) Fault} (if b then Err (fault.TooLong f) else Ok own) (Ok bytes) → Some own ≡ Some bytes) [
      | true ↦ λ g. absurd cc
      | false ↦ λ g. let same : own ≡ bytes = cc in ap Some same
    ] h

-- the bytes of a table that was read are those under the name of its output
bytes-at : (files : Files) (t k : ℕ) (outputs : List OutputLine) (tables : List (List ℕ)) (output : OutputLine) → tables_from files t outputs ≡ Ok tables → slice_get outputs k ≡ Some output
    → (bytes : List ℕ) × (slice_get tables k ≡ Some bytes) × (files output.file ≡ Some bytes)
unfolding tables_from
bytes-at files t k [] tables output h at = absurd cc
bytes-at files t zero (o ∷ outputs) tables output h at =
    let bytes = bind_ok (bytes_of_file files o.file (file.Table t)) _ tables h in
    let rest = bind_ok (tables_from files (t + 1) outputs) _ tables bytes.2 in
    let same : bytes.0 ∷ rest.0 ≡ tables = cc in
    let own : o ≡ output = cc in
    (bytes.0, ap (λ (all : List (List ℕ)). slice_get all 0) (sym same), subst (λ (one : OutputLine). files one.file ≡ Some bytes.0) own (is-whole (file.Table t) (files o.file) bytes.0 bytes.1))
bytes-at files t (suc k) (o ∷ outputs) tables output h at =
    let bytes = bind_ok (bytes_of_file files o.file (file.Table t)) _ tables h in
    let rest = bind_ok (tables_from files (t + 1) outputs) _ tables bytes.2 in
    let same : bytes.0 ∷ rest.0 ≡ tables = cc in
    let more = bytes-at files (t + 1) k outputs rest.0 output rest.1 at in
    (more.0, ap (λ (all : List (List ℕ)). slice_get all (suc k)) (sym same) ∙ more.1, more.2)

-- the text at a place
text-at : (book : BookView) (decimals : ℕ) (shown : ℕ → Option ℤ) (tables : List (List Dimension)) (names : List (List (List ℕ))) (bytes : List (List ℕ)) (t : ℕ) (own : List (List ℕ)) (text : List ℕ) → length names ≡ length tables
    → AreTexts book decimals shown tables names bytes → slice_get names t ≡ Some own → slice_get bytes t ≡ Some text → text ≡ table_text book.trees (slice_index_or tables t []) own decimals (λ name. option_and_then shown (number_of book name))
text-at book decimals shown [] [] bytes t own text many are named at = absurd cc
text-at book decimals shown [] (n ∷ names) bytes t own text many are named at = absurd (omega (arith, many))
text-at book decimals shown (table ∷ tables) [] bytes t own text many are named at = absurd cc
text-at book decimals shown (table ∷ tables) (n ∷ names) [] t own text many are named at = absurd cc
text-at book decimals shown (table ∷ tables) (n ∷ names) (b ∷ bytes) zero own text many are named at =
    let its : b ≡ text = cc in
    let header : n ≡ own = cc in
    sym its ∙ are.0 ∙ ap (λ (one : List (List ℕ)). table_text book.trees table one decimals (λ name. option_and_then shown (number_of book name))) header
text-at book decimals shown (table ∷ tables) (n ∷ names) (b ∷ bytes) (suc t) own text many are named at = text-at book decimals shown tables names bytes t own text (omega (arith, many)) are.1 named at

-- the text of a table of the book is that of the inputs
abbrev ShowsSame : Inputs → BookView → (Name → Option ℤ) → (ℕ → Option ℤ) → Type 0
ShowsSame inputs book shown by =
    (t : ℕ) (header : List (List ℕ)) → t < length book.tables
    → table_text book.trees (slice_index_or book.tables t []) header inputs.described.bound.decimals (λ name. option_and_then by (number_of book name)) ≡ table_of inputs shown t header

-- tables with the texts of a case show what these say
shown-so : (files : Files) (settled : SettledInputs) (case : Case) (tables : List (List ℕ)) (shown : Name → Option ℤ) (by : ℕ → Option ℤ) → IsJob settled.inputs.described.job → IsCaseOf settled case → IsCase case tables
    → tables_of files settled.inputs.described.job ≡ Ok tables → ShowsSame settled.inputs case.book.now shown by → AreTexts case.book.now case.decimals by case.book.now.tables case.names.now tables → TablesShow settled.inputs shown files
shown-so files settled case tables shown by sound is fits read same texts t line at =
    let job : Job = settled.inputs.described.job in
    let within : t < length job.tables = slice_get_within job.tables t line at in
    let output = entry-in job.outputs t (omega (arith, within, sound.outputs)) in
    let bytes = bytes-at files 0 t job.outputs tables output.0 read output.1 in
    let names : case.names.now ≡ map names_of job.tables = is.names ∙ ap (λ (d : DescribedJob). map names_of d.job.tables) is.job_is.described in
    let named : slice_get case.names.now t ≡ Some (names_of line) =
    ap (λ (all : List (List (List ℕ))). slice_get all t) names ∙ slice_get-map names_of job.tables t ∙ ap (option_map names_of) at in
    let inside : t < length case.book.now.tables = omega (arith, within, fits.names.lists, ap (λ (all : List (List (List ℕ))). length all) names, length-map job.tables names_of) in
    let decimals : case.decimals ≡ settled.inputs.described.bound.decimals = is.decimals ∙ ap (λ (d : DescribedJob). d.bound.decimals) is.job_is.described in
    let text : bytes.0 ≡ table_text case.book.now.trees (slice_index_or case.book.now.tables t []) (names_of line) case.decimals (λ name. option_and_then by (number_of case.book.now name)) =
    text-at case.book.now case.decimals by case.book.now.tables case.names.now tables t (names_of line) bytes.0 fits.names.lists texts named bytes.1 in
    let own : bytes.0 ≡ table_of settled.inputs shown t (names_of line) =
    text ∙ ap (λ (d : ℕ). table_text case.book.now.trees (slice_index_or case.book.now.tables t []) (names_of line) d (λ name. option_and_then by (number_of case.book.now name))) decimals
    ∙ same t (names_of line) inside in
    (output.0, output.1, bytes.2 ∙ ap Some own)

-- ---- the case of a release

-- its book is that of the inputs
case-book : (settled : SettledInputs) (case : Case) → IsCaseOf settled case → IsBookOf settled.inputs case.book.now
case-book settled case is = still-book settled.inputs is.job.book case.book.now is.book is.job_is.book

-- its system and its cells are those of the inputs
case-cells : (settled : SettledInputs) (case : Case) (tables : List (List ℕ)) → IsCaseOf settled case → IsCase case tables → IsOf settled case.system.now case.cells.now
case-cells settled case tables is fits = record {
  system_is = (is.job.book, is.job_is.book, is.system);
  cells_are = ap (λ (cells : List Cell). map view_of_cell cells) is.cells ∙ is.job_is.cells;
  one_each = fits.each_cell;
}

-- its method is the job's
case-method : (settled : SettledInputs) (case : Case) → IsCaseOf settled case → settled.inputs.described.job.method ≡ case.method
case-method settled case is = sym (is.method ∙ ap (λ (d : DescribedJob). d.job.method) is.job_is.described)

hides-so : (one : Method) (decimals : ℕ) → base_in_units one decimals ≡ None → rounds_cells one ≡ false
hides-so (method.Rnd base) decimals is = absurd cc
hides-so (method.Gh passes) decimals is = refl
hides-so method.Modular decimals is = refl

rounds-so : (one : Method) (decimals : ℕ) (base : ℤ) → base_in_units one decimals ≡ Some base → (rounds_cells one ≡ true) × (method_base one decimals ≡ base)
rounds-so (method.Rnd whole) decimals base is = (refl, cc)
rounds-so (method.Gh passes) decimals base is = absurd cc
rounds-so method.Modular decimals base is = absurd cc

-- the case of a job that hides hides
case-hides : (settled : SettledInputs) (case : Case) → IsCaseOf settled case → job_base settled.inputs.described ≡ None → rounds_cells case.method ≡ false
case-hides settled case is hides =
    subst (λ (m : Method). rounds_cells m ≡ false) (case-method settled case is) (hides-so settled.inputs.described.job.method settled.inputs.described.bound.decimals hides)

-- ---- tables that hide

-- what a certificate shows of its own set, each cell of which is needed
needed-so : (settled : SettledInputs) (case : Case) (release tables : List (List ℕ)) (c : Certificate) → IsCaseOf settled case → IsCase case tables → IsShown case release c (own_set case c) → NeedsEachCell settled (own_set case c)
needed-so settled case release tables c is fits shown =
    each-needed settled case.system.now case.cells.now (own_set case c) c.needs (case-cells settled case tables is fits) (set_length case.system.now.cells c.hidden ∙ sym fits.each_cell) shown.subjects shown.needs

-- the tables of a book with cells hidden show the truths of the records, without these cells
hiding-same : (settled : SettledInputs) (case : Case) (flags : List Bool) → IsCaseOf settled case → ShowsSame settled.inputs case.book.now (shown_in settled.inputs flags) (open_truth case.book.now.marks flags)
hiding-same settled case flags is t header within = hidden-shown settled.inputs case.book.now flags t header (case-book settled case is) within

accepted-plain : (files : Files) (name : List ℕ) (released : ReleasedFiles) → IsReadFrom files name released → job_base released.settled.inputs.described ≡ None → IsAcceptedRelease released → ProtectedTables released.settled files
accepted-plain files name released from hides is =
    let settled : SettledInputs = released.settled in
    let case : Case = is.case in
    let flags : List Bool = own_set case released.certificate in
    let of : IsOf settled case.system.now case.cells.now = case-cells settled case released.tables is.is_case is.fits in
    let each : length flags ≡ length case.cells.now = set_length case.system.now.cells released.certificate.hidden ∙ sym is.fits.each_cell in
    let shown = is.suppressed (case-hides settled case is.is_case hides) in
    record {
      hidden = flags;
      tables = record {
        shown = shown-so files settled case released.tables (shown_in settled.inputs flags) (open_truth case.book.now.marks flags) (sound-job files name settled from.settled) is.is_case is.fits from.tables (hiding-same settled case flags is.is_case) shown.tables;
        permitted = permitted-set settled case.system.now case.cells.now flags of each shown.protecting.permitted;
        protects = protects-each settled case.system.now case.cells.now flags of shown.protecting.protects;
      };
      needed = needed-so settled case released.tables released.tables released.certificate is.is_case is.fits shown;
    }

accepted-guarded : (files : Files) (name : List ℕ) (released : ReleasedFiles) (extra : Extra) → IsReadFrom files name released → IsAcceptedWithExtra released extra → GuardedTables released.settled files
accepted-guarded files name released extra from is =
    let settled : SettledInputs = released.settled in
    let case : Case = is.case in
    let first : List Bool = own_set case released.certificate in
    let larger : List Bool = hide_cells first extra.cells in
    let shown = is.shows.certified in
    guarded-set settled case.system.now case.cells.now is.soles first extra files
    (record {
      of = case-cells settled case released.tables is.is_case is.fits;
      book = case.book.now;
      book_is = case-book settled case is.is_case;
      each_named = is.are_soles.one_each;
      are_soles = is.are_soles.are_soles;
      each_flag = set_length case.system.now.cells released.certificate.hidden ∙ sym is.fits.each_cell;
      protecting = shown.protecting;
      guarding = is.shows.guarding;
    })
    (shown-so files settled case released.tables (shown_in settled.inputs larger) (open_truth case.book.now.marks larger) (sound-job files name settled from.settled) is.is_case is.fits from.tables (hiding-same settled case larger is.is_case) is.shows.shown)
    (needed-so settled case _ released.tables released.certificate is.is_case is.fits shown)

-- ---- tables that are rounded

accepted-rounded : (files : Files) (name : List ℕ) (released : ReleasedFiles) (base : ℤ) → IsReadFrom files name released → job_base released.settled.inputs.described ≡ Some base → IsAcceptedRelease released → RoundedTables released.settled base files
accepted-rounded files name released base from rounds is =
    let settled : SettledInputs = released.settled in
    let inputs : Inputs = settled.inputs in
    let case : Case = is.case in
    let d : DescribedJob = inputs.described in
    let so = rounds-so d.job.method d.bound.decimals base rounds in
    let shown = is.rounded (subst (λ (m : Method). rounds_cells m ≡ true) (case-method settled case is.is_case) so.0) in
    let units : case.base ≡ base = is.is_case.base ∙ ap (λ (one : DescribedJob). method_base one.job.method one.bound.decimals) is.is_case.job_is.described ∙ so.1 in
    let truths : map (λ (cell : Cell). cell.truth) case.cells.now ≡ truths_in inputs = truths-are inputs case.book.now case.cells.now (case-book settled case is.is_case) is.fits.truths in
    let rounding : IsRounding case.system.now (truths_in inputs) base shown.values =
    subst (λ (b : ℤ). IsRounding case.system.now (truths_in inputs) b shown.values) units
    (subst (λ (ts : List ℤ). IsRounding case.system.now ts case.base shown.values) truths shown.rounding) in
    record {
      values = shown.values;
      rounded = rounded-so inputs base shown.values (record {
        system = case.system.now;
        system_is = (is.is_case.job.book, is.is_case.job_is.book, is.is_case.system);
        rounding = rounding;
      });
      shown = shown-so files settled case released.tables (value_in inputs shown.values) (slice_get shown.values) (sound-job files name settled from.settled) is.is_case is.fits from.tables
          (λ t header within. values-shown inputs case.book.now shown.values t header (case-book settled case is.is_case)) shown.tables;
    }

-- ---- any release

accepted-by : (files : Files) (name : List ℕ) (released : ReleasedFiles) (base : Option ℤ) (line : Option OutputLine) → IsReadFrom files name released → job_base released.settled.inputs.described ≡ base
    → released.settled.inputs.described.job.contributors ≡ line → IsRightRelease released → AreTablesBy base line released.settled files
accepted-by files name released None None from base named is =
    accepted-plain files name released from base
    (subst (λ (extra : Option Extra). IsAcceptedWith extra released) (extra-none files released.settled.inputs.described.job.contributors released.extra named from.extra) is)
accepted-by files name released None (Some line) from base named is =
    let some = extra-some files released.settled.inputs.described.job.contributors line released.extra named from.extra in
    accepted-guarded files name released some.0 from (subst (λ (extra : Option Extra). IsAcceptedWith extra released) some.1 is)
accepted-by files name released (Some base) line from rounds named is =
    let d : DescribedJob = released.settled.inputs.described in
    let none = no-file-to-round d.job.method d.bound.decimals base d.job.contributors rounds (sound-job files name released.settled from.settled).contributors in
    accepted-rounded files name released base from rounds
    (subst (λ (extra : Option Extra). IsAcceptedWith extra released) (extra-none files d.job.contributors released.extra none from.extra) is)

-- what is accepted is true of what was read
true-if-accepted : (files : Files) (name : List ℕ) (outcome : Result ReleasedFiles Fault) → released_of files name ≡ outcome → IsOkAnd outcome IsRightRelease → IsTrueOf (settled_of purpose.Release files name) (λ settled. AreTablesOf settled files)
true-if-accepted files name (Ok released) read is =
    let from : IsReadFrom files name released = read-from files name released read in
    true-of (λ settled. AreTablesOf settled files) files name released.settled from.settled
    (accepted-by files name released (job_base released.settled.inputs.described) released.settled.inputs.described.job.contributors from refl refl is)
true-if-accepted files name (Err why) read is = absurd is

-- ---- the promise

-- no answer of which nothing is an end
no-end : (outcome : Result ReleasedFiles Fault) → IsOkAnd outcome (λ released. ⊥) → ⊥
no-end (Ok released) is = is
no-end (Err why) is = is

-- a check never answers what a run promises otherwise
pub check-promise : (name : List ℕ) (answer : Report) (old new : ShelfState) (before after : TrayState) → IsCheckOf name answer old new before after
    → WhereTold old.files (λ fs. IsPromiseOf answer (settled_of purpose.Release fs name) fs)
check-promise name answer old new before after is fs held = by answer refl (is.run.told fs held)
  where
    by : (one : Report) → answer ≡ one → AgreesWith IsCheckEnd one (released_of fs name) → IsPromiseOf one (settled_of purpose.Release fs name) fs
    by report.Accepted same agrees = true-if-accepted fs name (released_of fs name) refl agrees
    by (report.Released summary) same agrees = absurd (no-end (released_of fs name) agrees)
    by (report.Cannot number side multipliers) same agrees = absurd (no-end (released_of fs name) agrees)
    by (report.CannotAgainst row number side multipliers) same agrees = absurd (no-end (released_of fs name) agrees)
    by report.NoRounding same agrees = absurd (no-end (released_of fs name) agrees)
    by other same agrees = tt

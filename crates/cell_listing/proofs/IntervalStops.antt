-- What stops a listing of a release with its intervals, and what it answers.
use Rattle.std.proofs.Common.{◌≡◌, ◌≢◌, ℕ, ◌+◌, ◌<◌, List, length, Option, None, Some, Result, Ok, Err, refl, ap, sym, subst, ◌∙◌, arith}
use Rattle.std.specs.Prelude.{Vec, replicate}
use Rattle.std.proofs.lemmas.List.{length-replicate}
use Rattle.std.specs.Option.{IsSomeAnd}
use Rattle.std.specs.declared.alloc.Global.{Global}
use Rattle.sdc_base.specs.Counts.{HasRisen}
use Rattle.sdc_base.specs.Steps.{map_fault}
use Rattle.sdc_base.specs.WhereTold.{WhereTold}
use Rattle.plain_text.specs.declared.stop.Stop.{Stop}
use Rattle.plain_text.specs.declared.stop.Stop.TheVariants as line
use Rattle.office_io.specs.Files.{held_name}
use Rattle.office_io.specs.Reading.{HasLookedFor, IsAbsent, IsTooLong, IsWholeFile}
use Rattle.office_io.specs.Shelves.{HasOnlyRead, ShelfState}
use Rattle.office_io.specs.declared.faults.FileFault.{FileFault}
use Rattle.office_io.specs.declared.faults.FileFault.TheVariants as file
use Rattle.job_inputs.specs.ReadFiles.{output_limit}
use Rattle.job_inputs.specs.Reading.{HasCause, ReachedFile, HasOnlyLooked}
use Rattle.job_inputs.specs.ClassifiedJobs.{HasOnlyLookedOn}
use Rattle.job_inputs.proofs.Causes.{file-looked, look-on}
use Rattle.job_inputs.specs.declared.faults.Fault.{Fault}
use Rattle.job_inputs.specs.declared.purpose.Purpose.TheVariants as purpose
use Rattle.job_inputs.specs.declared.stop.InputStop.{InputStop}
use Rattle.job_check.specs.Accepted.{IsAcceptedAs, IsAcceptedRead, IsReadReleaseAnswer}
use Rattle.job_check.specs.Answers.{IsReleaseCheckAnswer}
use Rattle.job_check.specs.Reading.{ReleaseComesTo}
use Rattle.job_check.specs.ReleaseFiles.{ReleasedFiles, released_of}
use Rattle.job_check.specs.declared.reading.ReadRelease.{ReadRelease}
use Rattle.job_check.specs.declared.stop.CheckStop.{CheckStop}
use Rattle.job_check.specs.declared.stop.CheckStop.TheVariants as check
use Rattle.cell_listing.specs.IntervalFiles.{hidden_in, IsNoIntervalFile}
use Rattle.cell_listing.specs.IntervalListings.{IsIntervalListingOf}
use Rattle.cell_listing.specs.IntervalRuns.{file_fault, HasFileCause, IsFileRun, IsHeldAnswer, IsIntervalListingAnswer, IsIntervalsRun, IsListedWith, IsSomeIntervalListingAnswer, IsSomeAcceptedAnswer, line_fault}
use Rattle.cell_listing.specs.Runs.{IsReleasedRun}
use Rattle.cell_listing.specs.declared.stop.IntervalFault.{IntervalFault}
use Rattle.cell_listing.specs.declared.stop.IntervalFault.TheVariants as fault
use Rattle.cell_listing.specs.declared.stop.ListingStop.TheVariants as stop

-- ---- the file

-- what is said of a whole reading that stops
pub record HasStopped (name : List ℕ) (why : FileFault) (old new : ShelfState) : Type 0 where
  pub absent : why ≡ file.Absent → IsAbsent name old new
  pub failed : why ≡ file.Failed → HasRisen old.faults new.faults
  pub taken : why ≡ file.TooLong → new.taken ≡ output_limit + 1
  pub longer : why ≡ file.TooLong → IsTooLong name output_limit old
  pub looked_for : HasLookedFor name output_limit old new
  pub only_read : HasOnlyRead old new

looked : (name : List ℕ) (old new : ShelfState) → HasLookedFor name output_limit old new → HasOnlyRead old new → HasOnlyLooked output_limit old new
looked name old new for read = file-looked output_limit old new read for.no_more for.few_reads for.each_takes for.none_behind

-- a file that is held and is longer than the limit, where it is told
longer_held : (held : Option (List ℕ)) → held ≢ None → WhereTold held (λ bytes. output_limit < length bytes) → IsSomeAnd held (λ bytes. output_limit < length bytes)
longer_held None some longer = absurd (some refl)
longer_held (Some bytes) some longer = longer bytes refl

-- there are files beyond each limit
some_longer : (limit : ℕ) → (held : Option (List ℕ)) × IsSomeAnd held (λ bytes. limit < length bytes)
some_longer limit = (Some (replicate (limit + 1) 0), omega (arith, length-replicate {A = ℕ} (limit + 1) 0))

-- the answer where the file was not read
pub file_stops : (released : ReleasedFiles) (name : List ℕ) (why : FileFault) (old new : ShelfState) → HasStopped name why old new → IsFileRun released name (Err (file_fault why)) old new
file_stops released name file.Absent old new has = record {
  told = λ fs told. (has.absent refl).not_held fs told;
  of_some = (None, refl);
  cause = λ why is. record { absent = λ absent. (has.absent refl).absent; too_long = λ bad. absurd cc; failed = λ bad. absurd cc; last = has.looked_for.last };
  shelf = looked name old new has.looked_for has.only_read;
}
file_stops released name file.Failed old new has = record {
  told = λ fs told. tt;
  of_some = (None, tt);
  cause = λ why is. record { absent = λ bad. absurd cc; too_long = λ bad. absurd cc; failed = λ failed. has.failed refl; last = has.looked_for.last };
  shelf = looked name old new has.looked_for has.only_read;
}
file_stops released name file.TooLong old new has = record {
  told = λ fs told. longer_held (fs name) ((has.longer refl).held fs told) (λ bytes is. (has.longer refl).longer fs told bytes is);
  of_some = some_longer output_limit;
  cause = λ why is. record { absent = λ bad. absurd cc; too_long = λ long. has.taken refl; failed = λ bad. absurd cc; last = has.looked_for.last };
  shelf = looked name old new has.looked_for has.only_read;
}
file_stops released name file.Memory old new has = record {
  told = λ fs told. tt;
  of_some = (None, tt);
  cause = λ why is. record { absent = λ bad. absurd cc; too_long = λ bad. absurd cc; failed = λ bad. absurd cc; last = has.looked_for.last };
  shelf = looked name old new has.looked_for has.only_read;
}

-- what is said of the bytes of the file
held_answers : (released : ReleasedFiles) (held : Option (List ℕ)) (bytes : List ℕ) (answer : Result (Vec ℕ Global) IntervalFault) → held ≡ Some bytes → IsListedWith released bytes answer → IsHeldAnswer released held answer
held_answers released held bytes (Ok listing) is listed = subst (λ (o : Option (List ℕ)). IsSomeAnd o (λ one. IsIntervalListingOf released one listing.items)) (sym is) listed
held_answers released held bytes (Err (fault.Line number)) is listed = subst (λ (o : Option (List ℕ)). IsSomeAnd o (λ one. IsNoIntervalFile (hidden_in released) one number)) (sym is) listed
held_answers released held bytes (Err fault.Memory) is listed = tt
held_answers released held bytes (Err fault.Absent) is listed = absurd listed
held_answers released held bytes (Err fault.TooLong) is listed = absurd listed
held_answers released held bytes (Err fault.Failed) is listed = absurd listed

-- bytes that were read are refused for a line, or for want of memory
listed_cause : (name : List ℕ) (released : ReleasedFiles) (bytes : List ℕ) (answer : Result (Vec ℕ Global) IntervalFault) (why : IntervalFault) (old new : ShelfState) → IsListedWith released bytes answer → answer ≡ Err why → WhereTold old.files (λ fs. new.last ≡ held_name fs name)
    → HasFileCause name why old new
listed_cause name released bytes (Ok listing) why old new listed is last = absurd cc
listed_cause name released bytes (Err fault.Absent) why old new listed is last = absurd listed
listed_cause name released bytes (Err fault.TooLong) why old new listed is last = absurd listed
listed_cause name released bytes (Err fault.Failed) why old new listed is last = absurd listed
listed_cause name released bytes (Err fault.Memory) why old new listed is last = record { absent = λ bad. absurd cc; too_long = λ bad. absurd cc; failed = λ bad. absurd cc; last = last }
listed_cause name released bytes (Err (fault.Line number)) why old new listed is last = record { absent = λ bad. absurd cc; too_long = λ bad. absurd cc; failed = λ bad. absurd cc; last = last }

-- the answer where the file was read
pub file_ends : (released : ReleasedFiles) (name : List ℕ) (bytes : Vec ℕ Global) (answer : Result (Vec ℕ Global) IntervalFault) (old new : ShelfState) → IsWholeFile name output_limit bytes.items old new → HasLookedFor name output_limit old new → HasOnlyRead old new
    → IsListedWith released bytes.items answer → IsFileRun released name answer old new
file_ends released name bytes answer old new whole for read listed = record {
  told = λ fs told. held_answers released (fs name) bytes.items answer (whole.file fs told) listed;
  of_some = (Some bytes.items, held_answers released (Some bytes.items) bytes.items answer refl listed);
  cause = λ why is. listed_cause name released bytes.items answer why old new listed is for.last;
  shelf = looked name old new for read;
}

-- lines that stop the reading of ranges stop the listing
pub lines_stop : (released : ReleasedFiles) (hidden bytes : List ℕ) (e : Stop ℕ) → hidden ≡ hidden_in released → ((number : ℕ) → e ≡ line.Fault number → IsNoIntervalFile hidden bytes number) → IsListedWith released bytes (Err (line_fault e))
lines_stop released hidden bytes (line.Fault number) same none = subst (λ (cells : List ℕ). IsNoIntervalFile cells bytes number) same (none number refl)
lines_stop released hidden bytes line.Memory same none = tt

-- ---- the run

-- the run where the release isn't accepted, or was not read to its end
pub run_refused : (name file : List ℕ) (e : CheckStop) (old new : ShelfState) → WhereTold old.files (λ fs. IsReleaseCheckAnswer (released_of fs name) (Err e))
    → WhereTold old.files (λ fs. (input : InputStop) → e ≡ check.Inputs input → ReachedFile {X = Unit {0}} (ReleaseComesTo fs name) (Err input) fs new) → HasOnlyLookedOn purpose.Release name old new
    → ((input : InputStop) → e ≡ check.Inputs input → HasCause {X = Unit {0}} (Err input) old new) → IsIntervalsRun name file (Err (stop.Stopped e)) old new
run_refused name file e old new answers came_to looks cause =
    let run : IsReleasedRun name (Err e) old new = record {
      told = λ fs told. answers fs told;
      came_to = λ fs told input is. (let own : e ≡ check.Inputs input = cc in came_to fs told input own);
      shelf = looks;
      cause = λ input is. (let own : e ≡ check.Inputs input = cc in cause input own);
      listed = tt;
    } in
    record {
      told = λ fs told. answers fs told;
      of_some = tt;
      refused = λ why is. (let same : e ≡ why = cc in subst (λ (one : CheckStop). IsReleasedRun name (Err one) old new) same run);
      cause = λ why is. absurd cc;
      shelf = looks.only_looked;
    }

-- a cause after the reading of the release
cause_on : (name : List ℕ) (why : IntervalFault) (old mid new : ShelfState) → HasOnlyRead old mid → HasFileCause name why mid new → HasFileCause name why old new
cause_on name why old mid new first cause = record {
  absent = λ is. omega (arith, first.absences, cause.absent is);
  too_long = cause.too_long;
  failed = λ is. omega (arith, first.faults, cause.failed is);
  last = λ fs told. cause.last fs (first.files ∙ told);
}

-- the answer past the check
told_past : (meant : Result ReleasedFiles Fault) (read : ReadRelease) (held : Option (List ℕ)) (answer : Result (Vec ℕ Global) IntervalFault) → IsReadReleaseAnswer meant (Ok read) → ((released : ReleasedFiles) → IsAcceptedAs released read → IsHeldAnswer released held answer)
    → IsIntervalListingAnswer meant held (map_fault stop.Intervals answer)
told_past (Ok released) read held (Ok listing) got answers = (got.accepted, answers released got)
told_past (Ok released) read held (Err why) got answers = (got.accepted, answers released got)
told_past (Err fault) read held answer got answers = absurd got

some_past : (answer : Result (Vec ℕ Global) IntervalFault) → IsSomeAcceptedAnswer answer → IsSomeIntervalListingAnswer (map_fault stop.Intervals answer)
some_past (Ok listing) it = it
some_past (Err why) it = it

-- it is no check's, and a refusal of the file is that of the file
no_check : (name : List ℕ) (answer : Result (Vec ℕ Global) IntervalFault) (check : CheckStop) (old new : ShelfState) → map_fault stop.Intervals answer ≡ Err (stop.Stopped check) → IsReleasedRun name (Err check) old new
no_check name (Ok listing) check old new is = absurd cc
no_check name (Err why) check old new is = absurd cc

own_fault : (answer : Result (Vec ℕ Global) IntervalFault) (why : IntervalFault) → map_fault stop.Intervals answer ≡ Err (stop.Intervals why) → answer ≡ Err why
own_fault (Ok listing) why is = absurd cc
own_fault (Err other) why is = (let same : other ≡ why = cc in ap Err same)

-- the run where the release is accepted
pub run_past : (name file : List ℕ) (read : ReadRelease) (answer : Result (Vec ℕ Global) IntervalFault) (old mid new : ShelfState) → WhereTold old.files (λ fs. IsReadReleaseAnswer (released_of fs name) (Ok read)) → IsAcceptedRead read → HasOnlyLooked output_limit old mid
    → ((released : ReleasedFiles) → IsAcceptedAs released read → IsFileRun released file answer mid new) → IsIntervalsRun name file (map_fault stop.Intervals answer) old new
run_past name file read answer old mid new accepted it first past =
    let own = past it.released it.accepted in
    record {
      told = λ fs told. told_past (released_of fs name) read (fs file) answer (accepted fs told) (λ released got. (past released got).told fs (first.only_read.files ∙ told));
      of_some = some_past answer (it.released, it.accepted.accepted, it.sound, own.of_some.0, own.of_some.1);
      refused = λ check is. no_check name answer check old new is;
      cause = λ why is. cause_on file why old mid new first.only_read (own.cause why (own_fault answer why is));
      shelf = look-on output_limit old mid new first own.shelf;
    }

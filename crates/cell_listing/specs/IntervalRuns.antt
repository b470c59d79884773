-- What a listing of a release with its interval file answers over a shelf, and what it leaves of the shelf (own).
use Rattle.std.specs.Prelude.{◌≡◌, ℕ, ◌+◌, ◌<◌, List, length, Option, None, Result, Ok, Err, IsOkAnd, Vec}
use Rattle.std.specs.Option.{IsSomeAnd}
use Rattle.std.specs.declared.alloc.Global.{Global}
use Rattle.sdc_base.specs.Counts.{HasRisen}
use Rattle.sdc_base.specs.WhereTold.{WhereTold}
use Rattle.plain_text.specs.declared.stop.Stop.{Stop}
use Rattle.plain_text.specs.declared.stop.Stop.TheVariants as line
use Rattle.office_io.specs.Files.{held_name}
use Rattle.office_io.specs.Shelves.{ShelfState}
use Rattle.office_io.specs.declared.faults.FileFault.{FileFault}
use Rattle.office_io.specs.declared.faults.FileFault.TheVariants as file
use Rattle.job_inputs.specs.ReadFiles.{output_limit}
use Rattle.job_inputs.specs.Reading.{HasOnlyLooked}
use Rattle.job_inputs.specs.SoundJobs.{AreSound}
use Rattle.job_inputs.specs.declared.faults.Fault.{Fault}
use Rattle.job_check.specs.Answers.{IsReleaseCheckAnswer, IsRightRelease}
use Rattle.job_check.specs.ReleaseFiles.{ReleasedFiles, released_of}
use Rattle.job_check.specs.declared.stop.CheckStop.{CheckStop}
use Rattle.cell_listing.specs.IntervalFiles.{IsNoIntervalFile, hidden_in}
use Rattle.cell_listing.specs.IntervalListings.{IsIntervalListingOf}
use Rattle.cell_listing.specs.Runs.{IsReleasedRun}
use Rattle.cell_listing.specs.declared.stop.IntervalFault.{IntervalFault}
use Rattle.cell_listing.specs.declared.stop.IntervalFault.TheVariants as fault
use Rattle.cell_listing.specs.declared.stop.ListingStop.{ListingStop}
use Rattle.cell_listing.specs.declared.stop.ListingStop.TheVariants as stop

-- why a file was not read, as a fault of an interval file
abbrev pub file_fault : FileFault → IntervalFault
file_fault file.Absent = fault.Absent
file_fault file.Failed = fault.Failed
file_fault file.TooLong = fault.TooLong
file_fault file.Memory = fault.Memory

-- why its lines were not read
abbrev pub line_fault : Stop ℕ → IntervalFault
line_fault (line.Fault number) = fault.Line number
line_fault line.Memory = fault.Memory

-- ---- what is answered for a release that a check accepts

-- The answer to the bytes of a file: the listing of the release with that file, or the first line that isn't as it must
-- be. Want of memory says nothing.
abbrev pub IsListedWith : ReleasedFiles → List ℕ → Result (Vec ℕ Global) IntervalFault → Type 0
IsListedWith released bytes (Ok listing) = IsIntervalListingOf released bytes listing.items
IsListedWith released bytes (Err (fault.Line number)) = IsNoIntervalFile (hidden_in released) bytes number
IsListedWith released bytes (Err fault.Memory) = Unit {0}
IsListedWith released bytes (Err other) = ⊥

-- The answer to what may be held under the file's name: the file isn't held, or has too many bytes, or its bytes are
-- answered so. A fault of the shelf says nothing.
abbrev pub IsHeldAnswer : ReleasedFiles → Option (List ℕ) → Result (Vec ℕ Global) IntervalFault → Type 0
IsHeldAnswer released held (Err fault.Absent) = held ≡ None
IsHeldAnswer released held (Err fault.TooLong) = IsSomeAnd held (λ bytes. output_limit < length bytes)
IsHeldAnswer released held (Err fault.Failed) = Unit {0}
IsHeldAnswer released held (Err fault.Memory) = Unit {0}
IsHeldAnswer released held answer = IsSomeAnd held (λ bytes. IsListedWith released bytes answer)

-- A refusal of the file has its cause, whatever the shelf tells: that it isn't there was counted as an absence, of one
-- that is too long one byte more than the limit was taken, that it can't be read was counted as a fault. The file was
-- the last one looked for.
pub record HasFileCause (name : List ℕ) (why : IntervalFault) (old new : ShelfState) : Type 0 where
  pub absent : why ≡ fault.Absent → HasRisen old.absences new.absences
  pub too_long : why ≡ fault.TooLong → new.taken ≡ output_limit + 1
  pub failed : why ≡ fault.Failed → HasRisen old.faults new.faults
  pub last : WhereTold old.files (λ fs. new.last ≡ held_name fs name)

-- The answer to the name of a file over a shelf: it is that to what is held under the name, as far as the shelf tells.
pub record IsFileRun (released : ReleasedFiles) (name : List ℕ) (answer : Result (Vec ℕ Global) IntervalFault)
    (old new : ShelfState) : Type 0 where
  pub told : WhereTold old.files (λ fs. IsHeldAnswer released (fs name) answer)
  pub of_some : (held : Option (List ℕ)) × IsHeldAnswer released held answer
  pub cause : (why : IntervalFault) → answer ≡ Err why → HasFileCause name why old new
  pub shelf : HasOnlyLooked output_limit old new

-- ---- what is answered to the name of a job

-- the answer where its files come to a release that a check accepts, to what may be held under the file's name
abbrev pub IsAcceptedAnswer : Result ReleasedFiles Fault → Option (List ℕ) → Result (Vec ℕ Global) IntervalFault
    → Type 0
IsAcceptedAnswer meant held answer =
    IsOkAnd meant (λ released. IsRightRelease released × IsHeldAnswer released held answer)

-- The answer where its files come to a release or to a first fault: that one, or where a check doesn't accept the
-- release, what the check answers.
abbrev pub IsIntervalListingAnswer : Result ReleasedFiles Fault → Option (List ℕ) → Result (Vec ℕ Global) ListingStop
    → Type 0
IsIntervalListingAnswer meant held (Ok bytes) = IsAcceptedAnswer meant held (Ok bytes)
IsIntervalListingAnswer meant held (Err (stop.Intervals why)) = IsAcceptedAnswer meant held (Err why)
IsIntervalListingAnswer meant held (Err (stop.Stopped check)) = IsReleaseCheckAnswer meant (Err check)
IsIntervalListingAnswer meant held (Err stop.Usage) = ⊥

-- the answer is that for some sound release that a check accepts, to something held under the file's name
abbrev pub IsSomeAcceptedAnswer : Result (Vec ℕ Global) IntervalFault → Type 0
IsSomeAcceptedAnswer answer = (released : ReleasedFiles) × IsRightRelease released × AreSound released.settled.inputs
    × (held : Option (List ℕ)) × IsHeldAnswer released held answer

-- the same, unless it is that of a check; it is never a usage
abbrev pub IsSomeIntervalListingAnswer : Result (Vec ℕ Global) ListingStop → Type 0
IsSomeIntervalListingAnswer (Ok bytes) = IsSomeAcceptedAnswer (Ok bytes)
IsSomeIntervalListingAnswer (Err (stop.Intervals why)) = IsSomeAcceptedAnswer (Err why)
IsSomeIntervalListingAnswer (Err (stop.Stopped check)) = Unit {0}
IsSomeIntervalListingAnswer (Err stop.Usage) = ⊥

-- A listing of the job of this name with its release and the interval file of this name: its answer is what the told
-- files come to, and the shelf was only looked at. Where a check doesn't accept the release, the run is that of a
-- listing of the release.
pub record IsIntervalsRun (name file : List ℕ) (answer : Result (Vec ℕ Global) ListingStop) (old new : ShelfState)
    : Type 0 where
  pub told : WhereTold old.files (λ fs. IsIntervalListingAnswer (released_of fs name) (fs file) answer)
  pub of_some : IsSomeIntervalListingAnswer answer
  pub refused : (check : CheckStop) → answer ≡ Err (stop.Stopped check) → IsReleasedRun name (Err check) old new
  pub cause : (why : IntervalFault) → answer ≡ Err (stop.Intervals why) → HasFileCause file why old new
  pub shelf : HasOnlyLooked output_limit old new

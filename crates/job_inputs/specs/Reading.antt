-- What it is to read inputs from a shelf: what is told, to which file it comes, what the shelf does, and the cause of
-- each refusal (own).
use Rattle.std.specs.Prelude.{◌≡◌, ◌≢◌, ℕ, ◌+◌, ◌≤◌, max, List, Option, None, Some, Result, Err, IsErrOf, IfOk, [], Vec}
use Rattle.std.specs.declared.alloc.Global.{Global}
use Rattle.sdc_base.specs.Answers.{Gives}
use Rattle.sdc_base.specs.Counts.{HasRisen}
use Rattle.sdc_base.specs.WhereTold.{WhereTold}
use Rattle.code_trees.specs.declared.tree_fault.TreeFault.TheVariants as tree
use Rattle.office_io.specs.Files.{Files, held_name}
use Rattle.office_io.specs.Shelves.{ShelfState, HasOnlyRead}
use Rattle.job_inputs.specs.ReadFiles.{limit_of}
use Rattle.job_inputs.specs.declared.file_ref.FileRef.{FileRef}
use Rattle.job_inputs.specs.declared.faults.Fault.{Fault}
use Rattle.job_inputs.specs.declared.faults.Fault.TheVariants as fault
use Rattle.plain_text.specs.Stops.{stop_error}
use Rattle.plain_text.specs.declared.stop.Stop.{Stop}
use Rattle.job_inputs.specs.declared.stop.InputStop.{InputStop}
use Rattle.job_inputs.specs.declared.stop.InputStop.TheVariants as stop
use Rattle.microdata.specs.Feeding.{ReaderView, HasRead}
use Rattle.microdata.specs.declared.layout.Layout.{Layout}

-- a refusal of contents as a stop
abbrev pub stop_of : Stop Fault → InputStop
stop_of = stop_error stop.Refused stop.Memory

-- the fault for which inputs were refused; faults of the shelf and want of memory name none
abbrev pub stopped_for : InputStop → Option Fault
stopped_for (stop.Refused fault) = Some fault
stopped_for (stop.ReadFault file) = None
stopped_for stop.Memory = None

-- Each refusal has its cause, whatever the shelf tells: a file that isn't there was counted as an absence, of one that
-- is too long one byte more than the limit was taken, a file that can't be read was counted as a fault, and codes are
-- never refused for want of memory.
pub record HasCause {X : Type 0} (result : Result X InputStop) (old new : ShelfState) : Type 0 where
  pub absent : (f : FileRef) → IsErrOf result (stop.Refused (fault.Absent f)) → HasRisen old.absences new.absences
  pub too_long : (f : FileRef) → IsErrOf result (stop.Refused (fault.TooLong f)) → new.taken ≡ limit_of f + 1
  pub read_fault : (f : FileRef) → IsErrOf result (stop.ReadFault f) → HasRisen old.faults new.faults
  pub tree : (f : FileRef) → result ≢ Err (stop.Refused (fault.Tree f tree.Memory))

-- where the shelf fails at a file, it is one that reading came to by its name, and was the last one looked for
abbrev pub ReachedFile : {X : Type 0} → (FileRef → List ℕ → Type 0) → Result X InputStop → Files → ShelfState → Type 0
ReachedFile comes result files new =
    (f : FileRef) → IsErrOf result (stop.ReadFault f)
    → (held : List ℕ) × comes f held × (new.last ≡ held_name files held)

-- The shelf was only read from, and no more than was wanted: of the file that was looked for last, where one was, at
-- most so many bytes and one more were taken, by at most as many reads. Each read but one at most took a byte, so none
-- was made behind the file's end.
pub record HasOnlyLooked (most : ℕ) (old new : ShelfState) : Type 0 where
  pub only_read : HasOnlyRead old new
  pub no_more : new.taken ≤ max old.taken (most + 1)
  pub few_reads : new.reads ≤ max old.reads (most + 1)
  pub each_takes : old.reads ≤ old.taken + 1 → new.reads ≤ new.taken + 1
  pub none_behind : new.empty_reads ≤ max old.empty_reads 1

-- The answer to a look at files of a shelf, each of at most so many bytes: as far as they are told, it is what they
-- give, and reading came to a file at which the shelf fails. The shelf was only looked at, each refusal has its cause,
-- and what was read is sound.
pub record ReadsFiles {X : Type 0} (gives : Files → Result X InputStop → Type 0)
    (comes : Files → FileRef → List ℕ → Type 0) (is_sound : X → Type 0) (most : ℕ) (result : Result X InputStop)
    (old new : ShelfState) : Type 0 where
  pub told : WhereTold old.files (λ fs. gives fs result)
  pub came_to : WhereTold old.files (λ fs. ReachedFile (comes fs) result fs new)
  pub shelf : HasOnlyLooked most old new
  pub cause : HasCause result old new
  pub sound : IfOk result is_sound

-- such a look at what files hold: it gives what they mean, or their first fault
abbrev pub IsReadFrom : {X Y : Type 0} → (X → Y) → (Files → Result Y Fault) → (Files → FileRef → List ℕ → Type 0)
    → (X → Type 0) → ℕ → Result X InputStop → ShelfState → ShelfState → Type 0
IsReadFrom view meant comes is_sound most result old new =
    ReadsFiles (λ fs answer. Gives stopped_for view answer (meant fs)) comes is_sound most result old new

-- the same of a value that is what the files mean
abbrev pub IsValueReadFrom : {X : Type 0} → (Files → Result X Fault) → (Files → FileRef → List ℕ → Type 0)
    → (X → Type 0) → ℕ → Result X InputStop → ShelfState → ShelfState → Type 0
IsValueReadFrom meant comes is_sound most result old new =
    IsReadFrom (λ value. value) meant comes is_sound most result old new

-- and of a vector, whose items are what they mean
abbrev pub AreItemsReadFrom : {X : Type 0} → (Files → Result (List X) Fault) → (Files → FileRef → List ℕ → Type 0)
    → (List X → Type 0) → ℕ → Result (Vec X Global) InputStop → ShelfState → ShelfState → Type 0
AreItemsReadFrom meant comes are_sound most result old new =
    IsReadFrom (λ vector. vector.items) meant comes (λ vector. are_sound vector.items) most result old new

-- a value is sound by what its type says of every value, and nothing more is wanted of it
abbrev pub IsSoundByItsType : {X : Type 0} → X → Type 0
IsSoundByItsType x = Unit {0}

-- a statement holds of the layout of a reader that has read nothing yet, and of the bytes that the shelf has left
abbrev pub BeforeReading : ShelfState → ReaderView → (Layout → List ℕ → Type 0) → Type 0
BeforeReading shelf reader statement =
    (layout : Layout) (bytes : List ℕ) → shelf.left ≡ Some bytes → HasRead reader layout [] → statement layout bytes

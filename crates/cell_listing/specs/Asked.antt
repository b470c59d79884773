-- What words ask the listing for, and what is answered (own).
use Rattle.std.specs.Prelude.{◌≡◌, ℕ, ◌==◌, List, [], ◌∷◌, length, Option, None, Some, codes, if◌then◌else◌, Bool, not, ◌&&◌, Result, Vec}
use Rattle.std.specs.Str.{bytes_eq}
use Rattle.std.specs.declared.alloc.Global.{Global}
use Rattle.sdc_base.specs.Steps.{map_fault}
use Rattle.office_io.specs.Shelves.{ShelfState}
use Rattle.job_inputs.specs.declared.stop.InputStop.{InputStop}
use Rattle.job_check.specs.declared.stop.CheckStop.{CheckStop}
use Rattle.cell_listing.specs.Calls.{inputs_stop}
use Rattle.cell_listing.specs.Runs.{IsRelationsRun, IsReleasedRun}
use Rattle.cell_listing.specs.declared.stop.ListingStop.{ListingStop}
use Rattle.cell_listing.specs.declared.stop.ListingStop.TheVariants as stop

-- the name of a job, of one byte or more, where this word stands behind it, and nothing else
abbrev pub named_with : List ℕ → List (List ℕ) → Option (List ℕ)
named_with option ((b ∷ name) ∷ word ∷ []) = if bytes_eq word option then Some (b ∷ name) else None
named_with option words = None

-- the name of a job, where `--released` stands behind it
abbrev pub job_for_release : List (List ℕ) → Option (List ℕ)
job_for_release words = named_with (codes "--released") words

-- the name of a job, where `--relations` stands behind it
abbrev pub job_for_relations : List (List ℕ) → Option (List ℕ)
job_for_relations words = named_with (codes "--relations") words

-- the names of a job and of a file, each of one byte or more, where `--released --intervals` stands between them
abbrev pub job_and_file_for_intervals : List (List ℕ) → Option (List ℕ × List ℕ)
job_and_file_for_intervals ((b ∷ name) ∷ first ∷ second ∷ (d ∷ file) ∷ []) =
    if bytes_eq first (codes "--released") && bytes_eq second (codes "--intervals") then Some (b ∷ name, d ∷ file) else None
job_and_file_for_intervals words = None

-- two names of one byte or more have `--released --intervals` between them
abbrev pub asks_for_intervals : List ℕ → List ℕ → List ℕ → List ℕ → Bool
asks_for_intervals name first second file =
    not (length name == 0) && (not (length file == 0)
    && (bytes_eq first (codes "--released") && bytes_eq second (codes "--intervals")))

-- the answer is that of a listing of the relations between the cells of the job of this name
pub record IsRelationsAnswer (name : List ℕ) (answer : Result (Vec ℕ Global) ListingStop) (old new : ShelfState)
    : Type 0 where
  pub listing : Result (Vec ℕ Global) InputStop
  pub same : answer ≡ map_fault inputs_stop listing
  pub run : IsRelationsRun name listing old new

-- the answer is that of a listing of the job with its release
pub record IsReleasesAnswer (name : List ℕ) (answer : Result (Vec ℕ Global) ListingStop) (old new : ShelfState)
    : Type 0 where
  pub listing : Result (Vec ℕ Global) CheckStop
  pub same : answer ≡ map_fault stop.Stopped listing
  pub run : IsReleasedRun name listing old new

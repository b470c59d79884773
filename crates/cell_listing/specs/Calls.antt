-- What a listing is asked for by words, and what is answered (own).
use Rattle.std.specs.Prelude.{◌≡◌, ℕ, List, [], ◌∷◌, Option, None, Some, Result, Ok, Err, IsOkAnd, Vec}
use Rattle.std.specs.declared.alloc.Global.{Global}
use Rattle.sdc_base.specs.Answers.{Fails}
use Rattle.office_io.specs.Files.{Files}
use Rattle.office_io.specs.Shelves.{ShelfState}
use Rattle.job_inputs.specs.Looks.{InputsComeTo}
use Rattle.job_inputs.specs.Reading.{stopped_for, ReachedFile}
use Rattle.job_inputs.specs.ClassifiedJobs.{SettledInputs}
use Rattle.job_inputs.specs.declared.faults.Fault.{Fault}
use Rattle.job_inputs.specs.declared.purpose.Purpose.TheVariants as purpose
use Rattle.job_inputs.specs.declared.stop.InputStop.{InputStop}
use Rattle.job_check.specs.declared.stop.CheckStop.TheVariants as check
use Rattle.cell_listing.specs.Listings.{IsCellListing}
use Rattle.cell_listing.specs.declared.stop.ListingStop.{ListingStop}
use Rattle.cell_listing.specs.declared.stop.ListingStop.TheVariants as stop

-- the name of a job, where it is the one word there is, of one byte or more
abbrev pub job_named : List (List ℕ) → Option (List ℕ)
job_named ((b ∷ name) ∷ []) = Some (b ∷ name)
job_named words = None

-- what stops the inputs of a job, as a stop of a listing
abbrev pub inputs_stop : InputStop → ListingStop
inputs_stop input = stop.Stopped (check.Inputs input)

-- a listing of cells stops for its words, or for the inputs of their job, and for nothing else
abbrev pub IsCellsStop : ListingStop → Type 0
IsCellsStop stop.Usage = Unit {0}
IsCellsStop (stop.Stopped (check.Inputs input)) = Unit {0}
IsCellsStop other = ⊥

-- The answer to the name of a job whose files come to settled inputs or to a first fault: the listing of these, or that
-- fault. Want of memory and faults of the shelf say nothing of them.
abbrev pub IsListingAnswer : Result SettledInputs Fault → Result (Vec ℕ Global) ListingStop → Type 0
IsListingAnswer meant (Ok bytes) = IsOkAnd meant (λ settled. IsCellListing settled bytes.items)
IsListingAnswer meant (Err (stop.Stopped (check.Inputs input))) = Fails (stopped_for input) meant
IsListingAnswer meant (Err other) = ⊥

-- where the shelf fails at a file, it is one that reading the inputs of the job of this name came to, and was the last one
-- looked for
abbrev pub HasComeToInputs : List ℕ → Result (Vec ℕ Global) ListingStop → Files → ShelfState → Type 0
HasComeToInputs name answer files new =
    (e : InputStop) → answer ≡ Err (inputs_stop e)
    → ReachedFile {X = Unit {0}} (InputsComeTo purpose.Release files name) (Err e) files new

-- What a listing answers over a shelf, and what it leaves of the shelf (own).
use Rattle.std.specs.Prelude.{◌≡◌, ℕ, List, Result, Err, IfErr, IfOk, Vec}
use Rattle.std.specs.declared.alloc.Global.{Global}
use Rattle.sdc_base.specs.WhereTold.{WhereTold}
use Rattle.office_io.specs.Shelves.{ShelfState}
use Rattle.job_inputs.specs.Looks.{InputsComeTo}
use Rattle.job_inputs.specs.ReadFiles.{limit}
use Rattle.job_inputs.specs.Reading.{HasCause, ReachedFile, ReadsFiles, HasOnlyLooked, IsSoundByItsType}
use Rattle.job_inputs.specs.ClassifiedJobs.{HasOnlyLookedOn, SettledInputs, settled_of}
use Rattle.job_inputs.specs.SoundJobs.{AreSound}
use Rattle.job_inputs.specs.declared.purpose.Purpose.TheVariants as purpose
use Rattle.job_inputs.specs.declared.stop.InputStop.{InputStop}
use Rattle.job_check.specs.Reading.{ReleaseComesTo}
use Rattle.job_check.specs.ReleaseFiles.{ReleasedFiles, released_of}
use Rattle.job_check.specs.declared.stop.CheckStop.{CheckStop}
use Rattle.job_check.specs.declared.stop.CheckStop.TheVariants as check
use Rattle.cell_listing.specs.Calls.{HasComeToInputs, IsCellsStop, IsListingAnswer, inputs_stop}
use Rattle.cell_listing.specs.Listings.{IsCellListing}
use Rattle.cell_listing.specs.RelationListings.{IsRelationListing, ListsRelations}
use Rattle.cell_listing.specs.Releases.{IsReleaseListingAnswer, IsListingOf}
use Rattle.cell_listing.specs.declared.stop.ListingStop.{ListingStop}

-- A listing of the job of this name: its answer is what the told files come to, it comes to files in their order, and
-- the shelf was only looked at.
pub record IsListingRun (name : List ℕ) (answer : Result (Vec ℕ Global) ListingStop) (old new : ShelfState)
    : Type 0 where
  pub stops : IfErr answer IsCellsStop
  pub told : WhereTold old.files (λ fs. IsListingAnswer (settled_of purpose.Release fs name) answer)
  pub came_to : WhereTold old.files (λ fs. HasComeToInputs name answer fs new)
  pub shelf : HasOnlyLooked limit old new
  pub cause : (e : InputStop) → answer ≡ Err (inputs_stop e) → HasCause {X = Unit {0}} (Err e) old new
  pub listed : IfOk answer (λ bytes. (settled : SettledInputs) × IsCellListing settled bytes.items
      × AreSound settled.inputs)

-- The same of the listing of the relations between its cells.
pub record IsRelationsRun (name : List ℕ) (answer : Result (Vec ℕ Global) InputStop) (old new : ShelfState)
    : Type 0 where
  pub looked : ReadsFiles (ListsRelations name) (λ fs. InputsComeTo purpose.Release fs name) IsSoundByItsType limit
      answer old new
  pub listed : IfOk answer (λ bytes. (settled : SettledInputs) × IsRelationListing settled bytes.items
      × AreSound settled.inputs)

-- The same of the job with its release, which is one that a check accepts: where it doesn't, the answer is that of the
-- check.
pub record IsReleasedRun (name : List ℕ) (answer : Result (Vec ℕ Global) CheckStop) (old new : ShelfState)
    : Type 0 where
  pub told : WhereTold old.files (λ fs. IsReleaseListingAnswer (released_of fs name) answer)
  pub came_to : WhereTold old.files (λ fs. (e : InputStop) → answer ≡ Err (check.Inputs e)
      → ReachedFile {X = Unit {0}} (ReleaseComesTo fs name) (Err e) fs new)
  pub shelf : HasOnlyLookedOn purpose.Release name old new
  pub cause : (e : InputStop) → answer ≡ Err (check.Inputs e) → HasCause {X = Unit {0}} (Err e) old new
  pub listed : IfOk answer (λ bytes. (released : ReleasedFiles) × IsListingOf released bytes.items
      × AreSound released.settled.inputs)

-- The listing of a release that was read with its intervals is one of the release with its interval file.
use Rattle.std.proofs.Common.{◌≡◌, ℕ, List, ◌++◌, Option, ℤ, refl, ap, ap₂, sym, ◌∙◌}
use Rattle.sdc_base.specs.TableText.{line_text}
use Rattle.certificate.specs.declared.certificate.Certificate.{Certificate}
use Rattle.certificate.specs.declared.extra.Extra.{Extra}
use Rattle.job_inputs.specs.ClassifiedJobs.{SettledInputs, IsReadyJob, IsSettledOf}
use Rattle.job_inputs.specs.declared.settled.ClassifiedJob.{ClassifiedJob}
use Rattle.job_check.specs.Accepted.{IsAcceptedAs}
use Rattle.job_check.specs.Reading.{IsReadyRelease}
use Rattle.job_check.specs.ReleaseFiles.{ReleasedFiles}
use Rattle.job_check.specs.declared.reading.ReadRelease.{ReadRelease}
use Rattle.cell_listing.specs.Columns.{column_names}
use Rattle.cell_listing.specs.IntervalFiles.{hidden_in, IsIntervalFileOf}
use Rattle.cell_listing.specs.IntervalListings.{end_fields, end_names, interval_line, interval_listing, interval_text, IsIntervalListingOf, range_of}
use Rattle.cell_listing.specs.ListedCells.{listed_cells, told_cells}
use Rattle.cell_listing.specs.Outcomes.{outcome_of}
use Rattle.cell_listing.specs.ReleasedCells.{amounts_in, AreReleasedIn}
use Rattle.cell_listing.specs.ReleasedListings.{outcome_at, outcome_fields, outcome_names, released_text}
use Rattle.cell_listing.specs.declared.cell_range.CellRange.{CellRange}
use Rattle.cell_listing.specs.declared.released_cells.ReleasedCells.{ReleasedCells}
use Rattle.cell_listing.proofs.Alike.{lines_alike, same_fields}
use Rattle.cell_listing.proofs.ReleaseReads.{listing_by}

-- the listing of a release with its intervals is that of its settled inputs
intervals_alike : (c : Certificate) (extra : Option Extra) (amounts : List ℤ) (ranges : List CellRange) (job : ClassifiedJob) (settled : SettledInputs) → IsReadyJob job → IsSettledOf settled job
    → interval_text job.described job.book.trees (outcome_at c extra amounts) ranges (told_cells job) ≡ interval_text settled.inputs.described settled.inputs.records.trees (outcome_at c extra amounts) ranges (listed_cells settled)
intervals_alike c extra amounts ranges job settled ready is =
    lines_alike (λ described. line_text ((column_names described ++ outcome_names) ++ end_names)) (λ described trees. interval_line described trees (outcome_at c extra amounts) ranges)
    (λ described trees number name one cell other same.
    ap (λ (fields : List (List ℕ)). line_text ((fields ++ outcome_fields described.bound.decimals (outcome_of c extra amounts number one.kind)) ++ end_fields (range_of ranges number))) (same_fields described trees number name one cell other same)) job settled ready is

pub is_interval_listing : (released : ReleasedFiles) (read : ReadRelease) (made : ReleasedCells) (ranges : List CellRange) (file text : List ℕ) → IsReadyRelease read → AreReleasedIn read made → IsIntervalFileOf (hidden_in released) ranges file
    → text ≡ interval_text read.job.described read.job.book.trees (outcome_at read.certificate read.extra (amounts_in made)) ranges (told_cells read.job) → IsAcceptedAs released read → IsIntervalListingOf released file text
unfolding interval_listing
is_interval_listing released read made ranges file text ready are its is got =
    let inputs = released.settled.inputs in
    let amounts : List ℤ = amounts_in made in
    let without : List ℕ = released_text read.job.described read.job.book.trees (outcome_at read.certificate read.extra amounts) (told_cells read.job) in
    let by = listing_by released read made without ready are refl got in
    record {
      without = without;
      listing = by.0;
      ranges = ranges;
      is_file = its;
      text_is =
          is ∙ intervals_alike read.certificate read.extra amounts ranges read.job released.settled ready.job got.is.settled
          ∙ ap₂ (λ (c : Certificate) (extra : Option Extra). interval_text inputs.described inputs.records.trees (outcome_at c extra amounts) ranges (listed_cells released.settled)) got.is.certificate got.is.extra
          ∙ ap (λ (shown : List ℤ). interval_text inputs.described inputs.records.trees (outcome_at released.certificate released.extra shown) ranges (listed_cells released.settled)) (sym by.1);
    }

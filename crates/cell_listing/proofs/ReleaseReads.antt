-- The listing of a release that was read is one of the release.
use Rattle.std.proofs.Common.{◌≡◌, ℕ, false, List, [], Option, None, Some, IfSome, Result, Ok, Err, IsOkAnd, ℤ, refl, ap, ap₂, sym, subst, ◌∙◌}
use Rattle.certificate.specs.declared.certificate.Certificate.{Certificate}
use Rattle.certificate.specs.declared.extra.Extra.{Extra}
use Rattle.cert_check.specs.Methods.{rounds_cells}
use Rattle.job_inputs.specs.declared.faults.Fault.{Fault}
use Rattle.job_check.specs.Accepted.{IsReadReleaseAnswer, IsAcceptedAs}
use Rattle.job_check.specs.Answers.{IsAcceptedWith}
use Rattle.job_check.specs.Contributors.{AreForJob}
use Rattle.job_check.specs.Reading.{IsReadyRelease, IsReleasedOf}
use Rattle.job_check.proofs.GuardedParts.{hides-where}
use Rattle.job_inputs.specs.declared.described.DescribedJob.{DescribedJob}
use Rattle.job_lang.specs.JobLimits.{CanHaveContributors}
use Rattle.job_check.specs.ReleaseFiles.{ReleasedFiles}
use Rattle.job_check.specs.declared.reading.ReadRelease.{ReadRelease}
use Rattle.cell_listing.specs.ListedCells.{listed_cells, told_cells}
use Rattle.cell_listing.specs.ReleasedCells.{amounts_in, AreReleasedIn}
use Rattle.cell_listing.specs.ReleasedListings.{outcome_at, released_listing, released_text}
use Rattle.cell_listing.specs.Releases.{IsListingOf, AreTablesOfListing}
use Rattle.cell_listing.specs.declared.released_cells.ReleasedCells.{ReleasedCells}
use Rattle.cell_listing.specs.declared.released_cells.ReleasedCells.TheVariants as cells
use Rattle.cell_listing.proofs.Alike.{released_alike}
use Rattle.cell_listing.proofs.HiddenRows.{hidden_exactly, hiding_of}
use Rattle.cell_listing.proofs.LawsOfJobs.{listings_count_as_reports}
use Rattle.cell_listing.proofs.ShownRows.{rounded_shown, suppressed_shown}

-- a release with extra cells doesn't round
apart : (released : ReleasedFiles) (read : ReadRelease) → IsReadyRelease read → IsReleasedOf released read → (extra : Option Extra) → read.extra ≡ extra → IsAcceptedWith extra released → IfSome extra (λ own. rounds_cells released.certificate.method ≡ false)
apart released read ready is None none accepted = tt
apart released read ready is (Some own) some accepted =
    let can : CanHaveContributors read.job.described.job.method read.job.described.job.contributors = ready.job.sound.job.contributors in
    let hides : rounds_cells read.job.described.job.method ≡ false =
    hides-where read.job.described.job.method read.job.described.job.contributors (Some own) can (subst (λ (extra : Option Extra). AreForJob read.job.described.job.contributors extra) some ready.extra) in
    let it = accepted.is_case in
    let same : released.certificate.method ≡ read.job.described.job.method =
    accepted.shows.of_case.same_method ∙ it.method ∙ ap (λ (d : DescribedJob). d.job.method) (it.job_is.described ∙ sym is.settled.described) in
    ap rounds_cells same ∙ hides

-- the tables show what is listed, whichever the release made of its cells
tables_show : (released : ReleasedFiles) (read : ReadRelease) (made : ReleasedCells) → IsAcceptedAs released read → AreReleasedIn read made → AreTablesOfListing released (amounts_in made)
tables_show released read (cells.Suppressed flags) got are =
    let hides : rounds_cells released.certificate.method ≡ false = ap (λ (c : Certificate). rounds_cells c.method) (sym got.is.certificate) ∙ are.0 in
    let it = hiding_of released.extra released refl got.accepted hides in
    suppressed_shown released [] it.0 it.1 hides
tables_show released read (cells.Rounded amounts) got are = rounded_shown released read amounts got.is (ap (λ (c : Certificate). rounds_cells c.method) (sym got.is.certificate) ∙ are.0) are.1

pub listing_by : (released : ReleasedFiles) (read : ReadRelease) (made : ReleasedCells) (text : List ℕ) → IsReadyRelease read → AreReleasedIn read made
    → text ≡ released_text read.job.described read.job.book.trees (outcome_at read.certificate read.extra (amounts_in made)) (told_cells read.job) → IsAcceptedAs released read → (listing : IsListingOf released text) × (listing.amounts ≡ amounts_in made)
unfolding released_listing
listing_by released read made text ready are is got =
    let inputs = released.settled.inputs in
    let amounts : List ℤ = amounts_in made in (
      record {
        accepted = got.accepted;
        amounts = amounts;
        text_is =
            is ∙ released_alike read.certificate read.extra amounts read.job released.settled ready.job got.is.settled
            ∙ ap₂ (λ (c : Certificate) (extra : Option Extra). released_text inputs.described inputs.records.trees (outcome_at c extra amounts) (listed_cells released.settled)) got.is.certificate got.is.extra;
        counts = listings_count_as_reports released.settled read.job ready.job got.is.settled;
        hidden = hidden_exactly released amounts got.accepted (apart released read ready got.is released.extra got.is.extra got.accepted);
        tables = tables_show released read made got are;
      },
      refl,
    )

pub is_listing : (released : ReleasedFiles) (read : ReadRelease) (made : ReleasedCells) (text : List ℕ) → IsReadyRelease read → AreReleasedIn read made
    → text ≡ released_text read.job.described read.job.book.trees (outcome_at read.certificate read.extra (amounts_in made)) (told_cells read.job) → IsAcceptedAs released read → IsListingOf released text
is_listing released read made text ready are is got = (listing_by released read made text ready are is got).0

-- the listing of what a check accepts answers
pub listing_answers : (outcome : Result ReleasedFiles Fault) (read : ReadRelease) (text : List ℕ) → ((released : ReleasedFiles) → IsAcceptedAs released read → IsListingOf released text) → IsReadReleaseAnswer outcome (Ok read) → IsOkAnd outcome (λ released. IsListingOf released text)
listing_answers (Ok released) read text over h = over released h
listing_answers (Err fault) read text over h = absurd h

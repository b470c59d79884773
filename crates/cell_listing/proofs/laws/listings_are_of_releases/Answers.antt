use Rattle.cell_listing.proofs.LawsOfJobs.{listings_count_as_reports, shown_are_values}
use Rattle.cell_listing.proofs.laws.listings_are_of_releases.Goals as goal

pub returns-clause-counts : goal.returns-clause-counts
returns-clause-counts c = listings_count_as_reports

pub returns-clause-values : goal.returns-clause-values
returns-clause-values c = shown_are_values

-- A cell of a job as its line is written from it (own).
use Rattle.std.specs.Prelude.{◌≡◌, ◌≤◌, ℕ, List, slice_get, Some}
use Rattle.sdc_base.specs.RuleLevels.{figures_of_facts, keep_of}
use Rattle.sdc_base.specs.Truths.{IsTruth}
use Rattle.apriori.specs.Settling.{view_of_cell}
use Rattle.job_inputs.specs.declared.described.DescribedJob.{DescribedJob}
use Rattle.job_inputs.specs.declared.settled.ClassifiedJob.{ClassifiedJob}
use Rattle.cell_listing.specs.ListedCells.{ListedCell, told_cells}
use Rattle.cell_listing.specs.Columns.{cell_fields}
use Rattle.cell_listing.specs.declared.fields.ListingColumns.{ListingColumns}

-- a cell as the listing has it, its figures those that its facts tell
abbrev pub listed_as : ListingColumns → ListedCell
listed_as given =
    record {
      number = given.number;
      name = given.name.now;
      figures = figures_of_facts given.facts.now;
      settled = view_of_cell given.cell.now;
    }

-- the truth is in range, and the facts keep as many contributions as the rules of the job look at
pub record IsGiven (described : DescribedJob) (given : ListingColumns) : Type 0 where
  pub truth : IsTruth given.facts.now.truth
  pub kept : keep_of described.job.rules.list ≤ given.facts.now.tops.keep

-- these fields are those of the cell with this number
pub record AreFieldsAt (job : ClassifiedJob) (number : ℕ) (fields : List (List ℕ)) : Type 0 where
  pub cell : ListedCell
  pub stands : slice_get (told_cells job) number ≡ Some cell
  pub fields_are : fields ≡ cell_fields job.described job.book.trees cell

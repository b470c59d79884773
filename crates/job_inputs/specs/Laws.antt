-- What holds of the definitions of inputs (own).
use Rattle.std.specs.Prelude.{◌≡◌, ℕ, List, length, Err}
use Rattle.sdc_base.specs.Trees.{Tree}
use Rattle.linked_tables.specs.Tables.{book_with_depths}
use Rattle.linked_tables.specs.declared.book_fault.BookFault.{BookFault}
use Rattle.linked_tables.specs.declared.book_fault.BookFault.TheVariants as book
use Rattle.job_inputs.specs.SoundJobs.{IsSoundJob}
use Rattle.job_inputs.specs.declared.described.DescribedJob.{DescribedJob}

-- tables of a bound job, over a tree for each of its spanning variables, have no fault but too many cells
abbrev pub OnlyCellsAreTooMany : Type 0
OnlyCellsAreTooMany =
    (described : DescribedJob) (trees : List Tree) (one : BookFault) → IsSoundJob described
    → length trees ≡ length described.bound.spanning
    → book_with_depths trees described.bound.tables ≡ Err one → (t : ℕ) × (one ≡ book.TooManyCells t)

-- The cells of a job as its listing has them, in the order of their numbers (own).
use Rattle.std.specs.Prelude.{ℕ, ◌+◌, List, [], ◌∷◌, map}
use Rattle.sdc_base.specs.Records.{Name}
use Rattle.sdc_base.specs.RuleLevels.{Figures}
use Rattle.apriori.specs.Settling.{SettledCell, told_of, view_of_cell}
use Rattle.linked_tables.specs.BookCells.{cells as cells_in}
use Rattle.job_inputs.specs.Cells.{cells, figures}
use Rattle.job_inputs.specs.ClassifiedJobs.{SettledInputs}
use Rattle.job_inputs.specs.declared.settled.ClassifiedJob.{ClassifiedJob}

-- a cell by its number: its name, what the rules look at in it, and what it is to its protection
pub record ListedCell : Type 0 where
  pub number : ℕ
  pub name : Name
  pub figures : Figures
  pub settled : SettledCell

-- the cells with these names, with these figures, and settled so, numbered from this number on
abbrev pub numbered_from : ℕ → List Name → List Figures → List SettledCell → List ListedCell
numbered_from number [] known settled = []
numbered_from number (name ∷ names) [] settled = []
numbered_from number (name ∷ names) (one ∷ known) [] = []
numbered_from number (name ∷ names) (one ∷ known) (cell ∷ settled) =
    record { number = number; name = name; figures = one; settled = cell }
    ∷ numbered_from (number + 1) names known settled

-- the cells of settled inputs, their figures those over the records
abbrev pub listed_cells : SettledInputs → List ListedCell
listed_cells settled = numbered_from 0 (cells settled.inputs) (figures settled.inputs) settled.cells

-- the cells of a job, their figures those that its marks tell
abbrev pub told_cells : ClassifiedJob → List ListedCell
told_cells job = numbered_from 0 (cells_in job.book) (told_of job.book.marks) (map view_of_cell job.cells)

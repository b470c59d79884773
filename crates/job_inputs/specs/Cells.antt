-- The cells of a job's tables over its records (own).
use Rattle.std.specs.Prelude.{List, ℤ}
use Rattle.sdc_base.specs.Cells.{cells_of}
use Rattle.sdc_base.specs.Records.{Name}
use Rattle.sdc_base.specs.RuleLevels.{Figures}
use Rattle.sdc_base.specs.Sums.{truth}
use Rattle.apriori.specs.Faults.{LineOf}
use Rattle.apriori.specs.Settling.{figures_of}
use Rattle.apriori.specs.declared.faults.PriorWhy.{PriorWhy}
use Rattle.linked_tables.specs.declared.book_fault.BookFault.{BookFault}
use Rattle.linked_tables.specs.declared.book_fault.BookFault.TheVariants as book
use Rattle.job_inputs.specs.declared.faults.Fault.{Fault}
use Rattle.job_inputs.specs.declared.faults.Fault.TheVariants as fault
use Rattle.job_inputs.specs.declared.inputs.Inputs.{Inputs}

-- the cells of all tables
abbrev pub cells : Inputs → List Name
cells inputs = cells_of inputs.records.trees inputs.described.bound.tables

-- what the rules look at in each cell, over the records
abbrev pub figures : Inputs → List Figures
figures inputs = figures_of inputs.records.trees (cells inputs) inputs.records.rows inputs.described.bound.scale

-- the truth of a cell over the records
abbrev pub truth_in : Inputs → Name → ℤ
truth_in inputs name = truth inputs.records.trees name inputs.records.rows

-- too many cells, as a fault of the inputs; by a law of their own, tables of a bound job make a book or have too many
-- cells
abbrev pub cells_fault : BookFault → Fault
cells_fault (book.NoSuchVariable t) = fault.Cells t
cells_fault (book.TwiceInTable t) = fault.Cells t
cells_fault (book.TooManyCells t) = fault.Cells t
cells_fault book.Memory = fault.Cells 0

-- a line of an a priori file, or one by which a primary cell is to be always shown, as a fault of the inputs
abbrev pub prior_fault : LineOf × PriorWhy → Fault
prior_fault at = fault.Prior at.0.0 at.0.1 at.1

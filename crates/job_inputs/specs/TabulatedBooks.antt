-- What holds of a job's book once its cells have their records (own).
use Rattle.std.specs.Prelude.{◌≡◌, ◌<◌, ◌≤◌, ◌^◌, List, length, All}
use Rattle.sdc_base.specs.Trees.{Tree}
use Rattle.sdc_base.specs.declared.dimension.Dimension.{Dimension}
use Rattle.sdc_base.specs.declared.rows.Row.{Row}
use Rattle.linked_tables.specs.BlankMarks.{IsBlank}
use Rattle.sdc_base.specs.RuleLevels.{keep_of}
use Rattle.cost_rule.specs.Costs.{AreCosted}
use Rattle.linked_tables.specs.BookViews.{BookView}
use Rattle.linked_tables.specs.BookCells.{cells}
use Rattle.sdc_base.specs.Truths.{IsTruth}
use Rattle.tabulate.specs.TabulatedMarks.{AreTabulated}
use Rattle.job_inputs.specs.declared.described.DescribedJob.{DescribedJob}
use Rattle.job_inputs.specs.declared.inputs.Inputs.{Inputs}

-- the book has the trees of the inputs, the tables of the job, and a mark for each cell, which tells of the cell's
-- records
pub record IsBookOf (inputs : Inputs) (book : BookView) : Type 0 where
  pub trees : book.trees ≡ inputs.records.trees
  pub tables : book.tables ≡ inputs.described.bound.tables
  pub told : AreTabulated book inputs.records.rows (keep_of inputs.described.job.rules.list)
      inputs.described.bound.scale
  pub one_each : length book.marks ≡ length (cells book)

-- the book has a job's tables, its truths and numbers of records are within their limits, and its lists keep as many as
-- the rules look at
pub record IsReadyFor (described : DescribedJob) (book : BookView) : Type 0 where
  pub tables : book.tables ≡ described.bound.tables
  pub truths : All (λ mark. IsTruth mark.facts.truth) book.marks
  pub costed : All (λ mark. AreCosted mark.facts) book.marks
  pub keeps : All (λ mark. keep_of described.job.rules.list ≤ mark.facts.tops.keep) book.marks

-- the book has these trees and tables, and no mark of it tells of a record yet
pub record IsBlankBook (trees : List Tree) (tables : List (List Dimension)) (book : BookView) : Type 0 where
  pub trees_are : book.trees ≡ trees
  pub tables_are : book.tables ≡ tables
  pub blank : All IsBlank book.marks

-- the one book is the other with a mark for each cell, which tells of the cell's records, as many as a book can have
pub record HasRecords (described : DescribedJob) (rows : List Row) (before after : BookView) : Type 0 where
  pub trees : after.trees ≡ before.trees
  pub tables : after.tables ≡ before.tables
  pub told : AreTabulated after rows (keep_of described.job.rules.list) described.bound.scale
  pub one_each : length after.marks ≡ length (cells after)
  pub fewer_than_2_32 : length after.marks < 2 ^ 32

-- What holds of a settled job before it is released, and of its book when its texts are written (own).
use Rattle.std.specs.Prelude.{◌≡◌, Option, ℤ, ℕ, Bool, List, length}
use Rattle.sdc_base.specs.Records.{Name}
use Rattle.sdc_base.specs.declared.cell.Cell.{Cell}
use Rattle.sdc_base.specs.declared.rows.Row.{Row}
use Rattle.linked_tables.specs.BookViews.{BookView}
use Rattle.modular_plan.specs.Plans.{IsSameButHidden}
use Rattle.release_writer.specs.ShownCells.{CanBeShown}
use Rattle.release_writer.specs.declared.shown.Shown.{Shown}
use Rattle.release_writer.specs.declared.shown.Shown.TheVariants as shown
use Rattle.job_inputs.specs.ClassifiedJobs.{SettledInputs, IsReadyJob, IsSettledOf}
use Rattle.job_inputs.specs.SoundJobs.{AreSound, IsSoundJob}
use Rattle.job_inputs.specs.TabulatedBooks.{IsReadyFor}
use Rattle.job_inputs.specs.declared.described.DescribedJob.{DescribedJob}
use Rattle.job_inputs.specs.declared.inputs.Inputs.{Inputs}
use Rattle.job_inputs.specs.declared.settled.ClassifiedJob.{ClassifiedJob}
use Rattle.job_run.specs.Releases.{shown_in, value_in, put_of_table, tables_from}
use Rattle.job_lang.specs.declared.job.Job.{Job}
use Rattle.job_lang.specs.declared.job.TableLine.{TableLine}
use Rattle.job_lang.specs.declared.job.OutputLine.{OutputLine}
use Rattle.job_run.specs.declared.put.FilePut.{FilePut}

-- the job of these parts, with so many records read and so many skipped
abbrev pub job_of : DescribedJob → BookView → List Cell → List Row → ℕ → ℕ → ClassifiedJob
job_of described book cells rows records skipped = record {
  described = described;
  book = book;
  cells = cells;
  rows = rows;
  records = records;
  skipped = skipped;
}

-- the job is that of settled inputs, and all that was read for these is within its limits
pub record IsOfInputs (job : ClassifiedJob) : Type 0 where
  pub settled : SettledInputs
  pub is_of : IsSettledOf settled job
  pub sound : AreSound settled.inputs

-- the job has what a release wants of it
pub record CanBeReleased (job : ClassifiedJob) : Type 0 where
  pub ready : IsReadyJob job
  pub inputs : IsOfInputs job

-- what every table shows for the cell with this name
abbrev pub shown_by : Inputs → Shown → Name → Option ℤ
shown_by inputs (shown.Hidden hidden) name = shown_in inputs hidden.now.flags name
shown_by inputs (shown.Rounded values) name = value_in inputs values.now name

-- a table with its line of the job and its output, whose cells show this
abbrev pub put_of_shown_table : Inputs → Shown → ℕ → TableLine → OutputLine → FilePut
put_of_shown_table inputs how t line output = put_of_table inputs (shown_by inputs how) t line output

-- the tables of a job, whose cells show this
abbrev pub puts_of_shown_tables : Inputs → Shown → Job → List FilePut
puts_of_shown_tables inputs how job = tables_from inputs (shown_by inputs how) 0 job.tables job.outputs

-- the job is within its limits, its book is ready for it, and what is to be shown of its cells can be
pub record IsShownBook (described : DescribedJob) (book : BookView) (shown : Shown) : Type 0 where
  pub sound : IsSoundJob described
  pub ready : IsReadyFor described book
  pub can : CanBeShown book shown

-- the same, where the cells of a hidden set are hidden
pub record IsHidingBook (described : DescribedJob) (book : BookView) (flags : List Bool) : Type 0 where
  pub sound : IsSoundJob described
  pub ready : IsReadyFor described book
  pub each_flag : length flags ≡ length book.marks

-- the book is that of a ready job whose cells were planned: cells are hidden in it beside those of the job
pub record IsPlannedBook (described : DescribedJob) (book : BookView) (cells : List Cell) (rows : List Row)
    : Type 0 where
  pub before : BookView
  pub ready : IsReadyJob (job_of described before cells rows 0 0)
  pub same : IsSameButHidden before book

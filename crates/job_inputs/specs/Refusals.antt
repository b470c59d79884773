-- The faults that errors of the readers name (own); want of memory names none.
use Rattle.std.specs.Prelude.{Result, IfOk, IfErr}
use Rattle.sdc_base.specs.Answers.{Gives}
use Rattle.code_trees.specs.declared.tree_fault.TreeFault.{TreeFault}
use Rattle.code_trees.specs.declared.tree_fault.TreeFault.TheVariants as tree
use Rattle.job_lang.specs.declared.faults.JobError.{JobError}
use Rattle.job_lang.specs.declared.faults.JobError.TheVariants as job_error
use Rattle.linked_tables.specs.declared.book_fault.BookFault.{BookFault}
use Rattle.linked_tables.specs.declared.book_fault.BookFault.TheVariants as book
use Rattle.microdata.specs.declared.faults.RowError.{RowError}
use Rattle.microdata.specs.declared.faults.RowError.TheVariants as row_error
use Rattle.apriori.specs.declared.faults.PriorError.{PriorError}
use Rattle.apriori.specs.declared.faults.PriorError.TheVariants as prior_error
use Rattle.rda_meta.specs.declared.faults.MetaError.{MetaError}
use Rattle.rda_meta.specs.declared.faults.MetaError.TheVariants as meta_error
use Rattle.job_inputs.specs.Cells.{cells_fault}
use Rattle.job_inputs.specs.declared.file_ref.FileRef.{FileRef}
use Rattle.job_inputs.specs.declared.faults.Fault.{Fault}
use Rattle.job_inputs.specs.declared.faults.Fault.TheVariants as fault
use Rattle.plain_text.specs.Stops.{why_of}
use Rattle.plain_text.specs.declared.stop.Stop.{Stop}
use Rattle.plain_text.specs.declared.stop.Stop.TheVariants as refusal

-- an error of the job as a refusal
abbrev pub job_refusal : JobError → Stop Fault
job_refusal (job_error.At line why) = refusal.Fault (fault.Job line why)
job_refusal job_error.Memory = refusal.Memory

-- an error of the metadata as a refusal
abbrev pub meta_refusal : MetaError → Stop Fault
meta_refusal (meta_error.At line why) = refusal.Fault (fault.Meta line why)
meta_refusal meta_error.Memory = refusal.Memory

-- what is wrong with a file of codes as a refusal
abbrev pub tree_refusal : FileRef → TreeFault → Stop Fault
tree_refusal f tree.Memory = refusal.Memory
tree_refusal f one = refusal.Fault (fault.Tree f one)

-- an error of the microdata as a refusal
abbrev pub row_refusal : RowError → Stop Fault
row_refusal (row_error.At number why) = refusal.Fault (fault.Row number why)
row_refusal row_error.Memory = refusal.Memory

-- why tables make no book, as a refusal
abbrev pub cells_refusal : BookFault → Stop Fault
cells_refusal book.Memory = refusal.Memory
cells_refusal one = refusal.Fault (cells_fault one)

-- tables make no book for too many cells alone, or for want of memory
abbrev pub IsForCells : BookFault → Type 0
IsForCells (book.TooManyCells t) = Unit {0}
IsForCells book.Memory = Unit {0}
IsForCells other = ⊥

-- an error of an a priori file as a refusal
abbrev pub prior_refusal : PriorError → Stop Fault
prior_refusal (prior_error.At table line why) = refusal.Fault (fault.Prior table line why)
prior_refusal prior_error.Memory = refusal.Memory

-- a fault that contents may have: they are not absent, not too long, and their codes don't want memory
abbrev pub IsOfContents : Fault → Type 0
IsOfContents (fault.Absent f) = ⊥
IsOfContents (fault.TooLong f) = ⊥
IsOfContents (fault.Tree f tree.Memory) = ⊥
IsOfContents other = Unit {0}

-- a refusal names a fault that contents may have, or want of memory
abbrev pub IsForContents : Stop Fault → Type 0
IsForContents (refusal.Fault fault) = IsOfContents fault
IsForContents refusal.Memory = Unit {0}

-- What contents are read as: it is what they mean, or they are refused for their first fault, which is one that
-- contents may have; what was read is sound.
pub record IsReadAs {X Y : Type 0} (view : X → Y) (meant : Result Y Fault) (is_sound : X → Type 0)
    (result : Result X (Stop Fault)) : Type 0 where
  pub told : Gives why_of view result meant
  pub sound : IfOk result is_sound
  pub contents : IfErr result IsForContents

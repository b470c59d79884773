-- What a reader of contents refuses is what the inputs are refused for.
use Rattle.std.proofs.Common.{◌≡◌, ℕ, Option, None, Some, Result, Ok, Err, refl, subst}
use Rattle.sdc_base.specs.Answers.{Fails}
use Rattle.sdc_base.specs.Steps.{◌>>=◌, map_fault}
use Rattle.code_trees.specs.Faults.{tree_fault_of}
use Rattle.code_trees.specs.declared.tree_fault.TreeFault.{TreeFault}
use Rattle.code_trees.specs.declared.tree_fault.TreeFault.TheVariants as tree
use Rattle.job_lang.specs.Faults.{job_fault_of}
use Rattle.job_lang.specs.declared.faults.JobError.{JobError}
use Rattle.job_lang.specs.declared.faults.JobError.TheVariants as job_error
use Rattle.job_lang.specs.declared.faults.JobWhy.{JobWhy}
use Rattle.microdata.specs.Faults.{row_fault_of}
use Rattle.microdata.specs.declared.faults.RowError.{RowError}
use Rattle.microdata.specs.declared.faults.RowError.TheVariants as row_error
use Rattle.microdata.specs.declared.faults.RowWhy.{RowWhy}
use Rattle.rda_meta.specs.Faults.{meta_fault_of}
use Rattle.rda_meta.specs.declared.faults.MetaError.{MetaError}
use Rattle.rda_meta.specs.declared.faults.MetaError.TheVariants as meta_error
use Rattle.rda_meta.specs.declared.faults.MetaWhy.{MetaWhy}
use Rattle.linked_tables.specs.Tables.{book_fault_of}
use Rattle.linked_tables.specs.declared.book_fault.BookFault.{BookFault}
use Rattle.linked_tables.specs.declared.book_fault.BookFault.TheVariants as book
use Rattle.apriori.specs.Faults.{LineOf, prior_fault_of}
use Rattle.apriori.specs.declared.faults.PriorError.{PriorError}
use Rattle.apriori.specs.declared.faults.PriorError.TheVariants as prior_error
use Rattle.apriori.specs.declared.faults.PriorWhy.{PriorWhy}
use Rattle.job_inputs.specs.Cells.{cells_fault, prior_fault}
use Rattle.job_inputs.specs.ReadFiles.{job_fault, meta_fault, row_fault}
use Rattle.plain_text.specs.Stops.{why_of}
use Rattle.job_inputs.specs.Refusals.{job_refusal, meta_refusal, row_refusal, tree_refusal, cells_refusal, prior_refusal, IsOfContents, IsForContents}
use Rattle.job_inputs.specs.declared.file_ref.FileRef.{FileRef}
use Rattle.job_inputs.specs.declared.faults.Fault.{Fault}
use Rattle.job_inputs.specs.declared.faults.Fault.TheVariants as fault
use Rattle.plain_text.specs.declared.stop.Stop.{Stop}
use Rattle.plain_text.specs.declared.stop.Stop.TheVariants as refusal

pub job_refuses : {A : Type 0} (e : JobError) (read : Result A (ℕ × JobWhy)) → Fails (job_fault_of e) read → Fails (why_of (job_refusal e)) (map_fault job_fault read)
job_refuses (job_error.At line why) read h = rw h refl
job_refuses job_error.Memory read h = tt

pub meta_refuses : {A : Type 0} (e : MetaError) (read : Result A (ℕ × MetaWhy)) → Fails (meta_fault_of e) read → Fails (why_of (meta_refusal e)) (map_fault meta_fault read)
meta_refuses (meta_error.At line why) read h = rw h refl
meta_refuses meta_error.Memory read h = tt

pub row_refuses : {A : Type 0} (e : RowError) (read : Result A (ℕ × RowWhy)) → Fails (row_fault_of e) read → Fails (why_of (row_refusal e)) (map_fault row_fault read)
row_refuses (row_error.At number why) read h = rw h refl
row_refuses row_error.Memory read h = tt

pub tree_refuses : {A : Type 0} (f : FileRef) (e : TreeFault) (read : Result A TreeFault) → Fails (tree_fault_of e) read → Fails (why_of (tree_refusal f e)) (map_fault (fault.Tree f) read)
tree_refuses f (tree.NoCode n) read h = rw h refl
tree_refuses f (tree.Jump n) read h = rw h refl
tree_refuses f (tree.TooDeep n) read h = rw h refl
tree_refuses f (tree.Blank n) read h = rw h refl
tree_refuses f (tree.IsTotal n) read h = rw h refl
tree_refuses f (tree.Twice n) read h = rw h refl
tree_refuses f (tree.TooMany n) read h = rw h refl
tree_refuses f tree.Memory read h = tt

pub cells_refuse : {A : Type 0} (e : BookFault) (read : Result A BookFault) → Fails (book_fault_of e) read → Fails (why_of (cells_refusal e)) (map_fault cells_fault read)
cells_refuse (book.NoSuchVariable t) read h = rw h refl
cells_refuse (book.TwiceInTable t) read h = rw h refl
cells_refuse (book.TooManyCells t) read h = rw h refl
cells_refuse book.Memory read h = tt

pub prior_refuses : {A : Type 0} (e : PriorError) (read : Result A (LineOf × PriorWhy)) → Fails (prior_fault_of e) read → Fails (why_of (prior_refusal e)) (map_fault prior_fault read)
prior_refuses (prior_error.At table line why) read h = rw h refl
prior_refuses prior_error.Memory read h = tt

-- ---- contents are not absent, and not too long

pub row_is_for_contents : (e : RowError) → IsForContents (row_refusal e)
row_is_for_contents (row_error.At number why) = tt
row_is_for_contents row_error.Memory = tt

pub tree_is_for_contents : (f : FileRef) (e : TreeFault) → IsForContents (tree_refusal f e)
tree_is_for_contents f (tree.NoCode n) = tt
tree_is_for_contents f (tree.Jump n) = tt
tree_is_for_contents f (tree.TooDeep n) = tt
tree_is_for_contents f (tree.Blank n) = tt
tree_is_for_contents f (tree.IsTotal n) = tt
tree_is_for_contents f (tree.Twice n) = tt
tree_is_for_contents f (tree.TooMany n) = tt
tree_is_for_contents f tree.Memory = tt

pub prior_is_for_contents : (e : PriorError) → IsForContents (prior_refusal e)
prior_is_for_contents (prior_error.At table line why) = tt
prior_is_for_contents prior_error.Memory = tt

of-fault : {A F : Type 0} (f : F → Fault) (read : Result A F) (is : Fault) → ((x : F) → IsOfContents (f x)) → map_fault f read ≡ Err is → IsOfContents is
of-fault f (Ok x) is each h = absurd cc
of-fault f (Err e) is each h = let same : f e ≡ is = cc in subst IsOfContents same (each e)

for-fault : {A F : Type 0} (f : F → Fault) (r : Stop Fault) (read : Result A F) → ((x : F) → IsOfContents (f x)) → Fails (why_of r) (map_fault f read) → IsForContents r
for-fault f (refusal.Fault is) read each h = of-fault f read is each h
for-fault f refusal.Memory read each h = tt

-- what is refused for what a job says is refused for contents, and so for metadata and cells
pub job-is-for-contents : {A : Type 0} (r : Stop Fault) (read : Result A (ℕ × JobWhy)) → Fails (why_of r) (map_fault job_fault read) → IsForContents r
job-is-for-contents r read h = for-fault job_fault r read (λ at. tt) h

pub meta-is-for-contents : {A : Type 0} (r : Stop Fault) (read : Result A (ℕ × MetaWhy)) → Fails (why_of r) (map_fault meta_fault read) → IsForContents r
meta-is-for-contents r read h = for-fault meta_fault r read (λ at. tt) h

cells-of-contents : (e : BookFault) → IsOfContents (cells_fault e)
cells-of-contents (book.NoSuchVariable t) = tt
cells-of-contents (book.TwiceInTable t) = tt
cells-of-contents (book.TooManyCells t) = tt
cells-of-contents book.Memory = tt

pub cells-are-for-contents : {A : Type 0} (r : Stop Fault) (read : Result A BookFault) → Fails (why_of r) (map_fault cells_fault read) → IsForContents r
cells-are-for-contents r read h = for-fault cells_fault r read cells-of-contents h

-- what a step fails with, both fail with
pub fails-on : {A B F : Type 0} (o : Option F) (r : Result A F) (next : A → Result B F) → Fails o r → Fails o (r >>= next)
fails-on None r next h = tt
fails-on (Some f) r next h = rw h refl

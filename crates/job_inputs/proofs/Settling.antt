-- Inputs whose cells are settled.
use Rattle.std.proofs.Common.{◌≡◌, ℕ, List, Option, Ok, Err, refl}
use Rattle.sdc_base.specs.Answers.{Fails}
use Rattle.sdc_base.specs.Steps.{map_fault, refuse}
use Rattle.sdc_base.specs.Trees.{Tree}
use Rattle.sdc_base.specs.declared.dimension.Dimension.{Dimension}
use Rattle.apriori.specs.Settling.{SettledCell, settle_of}
use Rattle.apriori.specs.declared.prior.Prior.{Prior}
use Rattle.linked_tables.specs.Tables.{book_with_depths}
use Rattle.office_io.specs.Files.{Files}
use Rattle.job_inputs.proofs.Refusing.{fails-on}
use Rattle.job_inputs.specs.Cells.{figures, cells_fault, prior_fault}
use Rattle.job_inputs.specs.Inputs.{inputs_of}
use Rattle.job_inputs.specs.ClassifiedJobs.{settled_of, overwrites_job}
use Rattle.job_inputs.specs.PriorStatements.{priors_of}
use Rattle.job_inputs.specs.declared.faults.Fault.{Fault}
use Rattle.job_inputs.specs.declared.faults.Fault.TheVariants as fault
use Rattle.job_inputs.specs.declared.purpose.Purpose.{Purpose}
use Rattle.job_inputs.specs.declared.inputs.Inputs.{Inputs}

-- what stops the inputs stops all
pub inputs-fail : (purpose : Purpose) (files : Files) (name : List ℕ) (o : Option Fault) → Fails o (inputs_of purpose files name) → Fails o (settled_of purpose files name)
unfolding settled_of
inputs-fail purpose files name o h = fails-on o (inputs_of purpose files name) _ h

-- and so does a book that can't be made
pub book-fails : (purpose : Purpose) (files : Files) (name : List ℕ) (inputs : Inputs) (o : Option Fault) → inputs_of purpose files name ≡ Ok inputs → Fails o (map_fault cells_fault (book_with_depths inputs.records.trees inputs.described.bound.tables)) → Fails o (settled_of purpose files name)
unfolding settled_of
book-fails purpose files name inputs o read h = rw read (fails-on o (map_fault cells_fault (book_with_depths inputs.records.trees inputs.described.bound.tables)) _ h)

-- and a fault of the a priori files
pub priors-fail : (purpose : Purpose) (files : Files) (name : List ℕ) (inputs : Inputs) (given : List Tree × List (List Dimension)) (o : Option Fault) → inputs_of purpose files name ≡ Ok inputs
    → map_fault cells_fault (book_with_depths inputs.records.trees inputs.described.bound.tables) ≡ Ok given → Fails o (priors_of files inputs) → Fails o (settled_of purpose files name)
unfolding settled_of
priors-fail purpose files name inputs given o read linked h = rw (read, linked) (fails-on o (priors_of files inputs) _ h)

-- and a primary cell that is to be always shown
pub cells-fail : (purpose : Purpose) (files : Files) (name : List ℕ) (inputs : Inputs) (given : List Tree × List (List Dimension)) (priors : List Prior) (o : Option Fault) → inputs_of purpose files name ≡ Ok inputs
    → map_fault cells_fault (book_with_depths inputs.records.trees inputs.described.bound.tables) ≡ Ok given → priors_of files inputs ≡ Ok priors
    → Fails o (map_fault prior_fault (settle_of inputs.described.job.rules (figures inputs) priors)) → Fails o (settled_of purpose files name)
unfolding settled_of
cells-fail purpose files name inputs given priors o read linked stated h = rw (read, linked, stated) (fails-on o (map_fault prior_fault (settle_of inputs.described.job.rules (figures inputs) priors)) _ h)

-- and a job that would overwrite itself
pub outputs-fail : (purpose : Purpose) (files : Files) (name : List ℕ) (inputs : Inputs) (given : List Tree × List (List Dimension)) (priors : List Prior) (cells : List SettledCell) (reason : Fault) → inputs_of purpose files name ≡ Ok inputs
    → map_fault cells_fault (book_with_depths inputs.records.trees inputs.described.bound.tables) ≡ Ok given → priors_of files inputs ≡ Ok priors
    → map_fault prior_fault (settle_of inputs.described.job.rules (figures inputs) priors) ≡ Ok cells → refuse fault.OutName (overwrites_job name inputs.described.job) ≡ Err reason
    → settled_of purpose files name ≡ Err reason
unfolding settled_of
outputs-fail purpose files name inputs given priors cells reason read linked stated settled wrong = rw (read, linked, stated, settled, wrong) refl

-- inputs, book, statements, cells and outputs are all that there is
pub settled-is : (purpose : Purpose) (files : Files) (name : List ℕ) (inputs : Inputs) (given : List Tree × List (List Dimension)) (priors : List Prior) (cells : List SettledCell) → inputs_of purpose files name ≡ Ok inputs
    → map_fault cells_fault (book_with_depths inputs.records.trees inputs.described.bound.tables) ≡ Ok given → priors_of files inputs ≡ Ok priors
    → map_fault prior_fault (settle_of inputs.described.job.rules (figures inputs) priors) ≡ Ok cells → refuse fault.OutName (overwrites_job name inputs.described.job) ≡ Ok tt
    → settled_of purpose files name ≡ Ok (record { inputs = inputs; priors = priors; cells = cells })
unfolding settled_of
settled-is purpose files name inputs given priors cells read linked stated settled fine = rw (read, linked, stated, settled, fine) refl

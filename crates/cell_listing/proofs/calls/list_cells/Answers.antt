use Rattle.std.proofs.Common.{◌≡◌, ℕ, List, Err, IsOkAnd, sym, subst}
use Rattle.std.proofs.lemmas.Result.{err_from_is_err_and}
use Rattle.job_inputs.proofs.Causes.{come-on}
use Rattle.job_inputs.specs.Looks.{InputsComeTo}
use Rattle.job_inputs.specs.Reading.{ReachedFile}
use Rattle.job_inputs.specs.ClassifiedJobs.{settled_of}
use Rattle.job_inputs.specs.declared.purpose.Purpose.TheVariants as purpose
use Rattle.job_inputs.specs.declared.stop.InputStop.{InputStop}
use Rattle.cell_listing.specs.Listings.{IsCellListing}
use Rattle.cell_listing.proofs.calls.list_cells.Goals as goal

pub returns-in_err-bytes-clause-came_to : goal.returns-in_err-bytes-clause-came_to
returns-in_err-bytes-clause-came_to g c =
    λ x named fs told e is.
    let p = err_from_is_err_and c.from_residual.result c.from_residual.ensures.1 in
    let why = c.in_err-bytes.field-0.0 in
    let new = g.S.Shelf.state c.list_job.new.shelf in
    let given = c.in-Some.ensures in
    let same : e ≡ why = cc in
    let name : c.in-Some.name.now ≡ x = cc in
    subst (λ (stop : InputStop). ReachedFile {X = Unit {0}} (InputsComeTo purpose.Release fs x) (Err stop) fs new) (sym same)
    (come-on why (InputsComeTo purpose.Release fs c.in-Some.name.now) (InputsComeTo purpose.Release fs x) fs new (λ f held comes. subst (λ (n : List ℕ). InputsComeTo purpose.Release fs n f held) name comes) (c.in_err-bytes.ensures.looked.came_to fs told))

pub returns-clause-told : goal.returns-clause-told
returns-clause-told g c =
    λ x named fs told.
    let given = c.in-Some.ensures in
    let name : c.in-Some.name.now ≡ x = cc in
    subst (λ (n : List ℕ). IsOkAnd (settled_of purpose.Release fs n) (λ settled. IsCellListing settled c.in_ok-bytes.bytes.items)) name (c.in_ok-bytes.ensures.looked.told fs told)

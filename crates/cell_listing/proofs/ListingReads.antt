-- What the reading of a listing comes to.
use Rattle.std.proofs.Common.{ℕ, List, Result, Ok, Err, IsOkAnd, subst}
use Rattle.sdc_base.specs.Trees.{Tree}
use Rattle.sdc_base.specs.declared.dimension.Dimension.{Dimension}
use Rattle.job_inputs.specs.ClassifiedJobs.{SettledInputs, IsSettledOf}
use Rattle.job_inputs.specs.declared.described.DescribedJob.{DescribedJob}
use Rattle.job_inputs.specs.declared.faults.Fault.{Fault}
use Rattle.job_inputs.specs.declared.settled.ClassifiedJob.{ClassifiedJob}
use Rattle.cell_listing.specs.Listings.{IsCellListing}
use Rattle.cell_listing.specs.RelationListings.{IsRelationListing, IsRelationText}

-- the listing of a job that was read
pub listing-is : (meant : Result SettledInputs Fault) (job : ClassifiedJob) (text : List ℕ) → IsOkAnd meant (λ settled. IsSettledOf settled job) → ((settled : SettledInputs) → IsSettledOf settled job → IsCellListing settled text) → IsOkAnd meant (λ settled. IsCellListing settled text)
listing-is (Ok settled) job text was over = over settled was
listing-is (Err fault) job text was over = absurd was

-- the listing of the relations of a job that was read
pub relations_are : (meant : Result SettledInputs Fault) (job : ClassifiedJob) (text : List ℕ) → IsOkAnd meant (λ settled. IsSettledOf settled job) → ((settled : SettledInputs) → IsSettledOf settled job → IsRelationListing settled text) → IsOkAnd meant (λ settled. IsRelationListing settled text)
relations_are (Ok settled) job text was over = over settled was
relations_are (Err fault) job text was over = absurd was

-- the listing of the relations of a job is that of its settled inputs
pub relations_alike : (job : ClassifiedJob) (settled : SettledInputs) (text : List ℕ) → IsSettledOf settled job → IsRelationText job.described job.book.trees job.book.tables text → IsRelationListing settled text
relations_alike job settled text is lists =
    let inputs = settled.inputs in
    subst (λ (described : DescribedJob). IsRelationText described inputs.records.trees inputs.described.bound.tables text) is.described
    (subst (λ (trees : List Tree). IsRelationText job.described trees inputs.described.bound.tables text) is.book.trees
    (subst (λ (tables : List (List Dimension)). IsRelationText job.described job.book.trees tables text) is.book.tables lists))

use Rattle.std.proofs.Common.{◌≡◌, Some, Ok}
use Rattle.office_io.specs.Files.{Files}
use Rattle.apriori.specs.Priors.{ArePriors}
use Rattle.job_inputs.specs.CountedRecords.{IsCountedOf}
use Rattle.job_inputs.specs.PriorStatements.{with_files}
use Rattle.job_inputs.specs.declared.inputs.Inputs.{Inputs}
use Rattle.job_inputs.specs.ReadFiles.{limit}
use Rattle.job_inputs.specs.Reading.{HasOnlyLooked}
use Rattle.job_inputs.proofs.stated.read_priors.Given as goal

abbrev pub invariant-tables : goal.invariant-tables
invariant-tables g l = record {
  told : (inputs : Inputs) → IsCountedOf inputs l.counted → (fs : Files) → (g.S.Shelf.state l.fn.shelf).files ≡ Some fs → with_files fs inputs l.t ≡ Ok l.priors.items;
  fit : ArePriors l.counted.book.marks l.priors.items;
  shelf : HasOnlyLooked limit (g.S.Shelf.state l.fn.shelf) (g.S.Shelf.state l.shelf);
}

use Rattle.std.proofs.Common.{◌≡◌, Some, Ok, length, take}
use Rattle.office_io.specs.Files.{Files}
use Rattle.job_inputs.specs.Tables.{tables_from}
use Rattle.job_inputs.specs.ReadFiles.{output_limit}
use Rattle.job_inputs.specs.Reading.{HasOnlyLooked}
use Rattle.job_inputs.proofs.tables.read_tables.Given as goal

abbrev pub invariant-outputs : goal.invariant-outputs
invariant-outputs g l = record {
  told : (fs : Files) → (g.S.Shelf.state l.fn.shelf).files ≡ Some fs → tables_from fs 0 (take l.t l.fn.job.outputs) ≡ Ok l.tables;
  each : length l.tables ≡ l.t;
  shelf : HasOnlyLooked output_limit (g.S.Shelf.state l.fn.shelf) (g.S.Shelf.state l.shelf);
}

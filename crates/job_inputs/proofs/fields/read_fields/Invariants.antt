use Rattle.std.proofs.Common.{◌≡◌, Some, Ok, length, take}
use Rattle.std.specs.List.{AllByRecursion}
use Rattle.office_io.specs.Files.{Files}
use Rattle.job_inputs.specs.CodeSources.{fields_of}
use Rattle.job_inputs.specs.Layouts.{variables_at}
use Rattle.job_inputs.specs.PlacedFields.{IsPlacedField}
use Rattle.job_inputs.specs.ReadFiles.{limit}
use Rattle.job_inputs.specs.Reading.{HasOnlyLooked}
use Rattle.job_inputs.proofs.fields.read_fields.Given as goal

abbrev pub invariant-places : goal.invariant-places
invariant-places g l = record {
  told : (fs : Files) → (g.S.Shelf.state l.fn.shelf).files ≡ Some fs → fields_of fs (variables_at l.variables (take l.place-index l.place-items)) ≡ Ok l.fields;
  placed : AllByRecursion IsPlacedField l.fields;
  count : length l.fields ≡ l.place-index;
  shelf : HasOnlyLooked limit (g.S.Shelf.state l.fn.shelf) (g.S.Shelf.state l.shelf);
}

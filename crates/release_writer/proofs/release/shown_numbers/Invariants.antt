use Rattle.std.proofs.Common.{◌≡◌, take}
use Rattle.release_writer.specs.ReleaseReading as spec
use Rattle.release_writer.proofs.release.shown_numbers.Given as goal

abbrev pub invariant-values : goal.invariant-values
invariant-values l = record { numbers : l.numbers ≡ spec.shown_numbers (take l.value-index l.shown) }

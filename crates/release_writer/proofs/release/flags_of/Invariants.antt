use Rattle.std.proofs.Common.{◌≡◌, take}
use Rattle.release_writer.specs.ReleaseReading as spec
use Rattle.release_writer.proofs.release.flags_of.Given as goal

abbrev pub invariant-values : goal.invariant-values
invariant-values l = record { flags : l.flags ≡ spec.flags_of (take l.value-index l.shown) }

use Rattle.std.proofs.Common.{◌≡◌, map}
use Rattle.rda_meta.specs.Metadata.{variable_of}
use Rattle.rda_meta.proofs.reading.variables_of.Given as goal

abbrev pub invariant-entries : goal.invariant-entries
invariant-entries l = l.variables ≡ map variable_of l.yielded

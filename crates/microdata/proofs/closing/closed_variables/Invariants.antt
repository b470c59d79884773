use Rattle.std.proofs.Common.{◌≡◌, map}
use Rattle.microdata.specs.Closing.{closed_of}
use Rattle.microdata.proofs.closing.closed_variables.Given as goal

abbrev pub invariant-variables : goal.invariant-variables
invariant-variables l = l.closed ≡ map closed_of l.yielded

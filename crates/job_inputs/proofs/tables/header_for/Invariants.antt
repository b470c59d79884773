use Rattle.std.proofs.Common.{◌≡◌, take}
use Rattle.job_inputs.proofs.tables.header_for.Given as goal

abbrev pub invariant-names : goal.invariant-names
invariant-names l = l.header ≡ take l.name-index l.fn.line.variables

use Rattle.std.proofs.Common.{◌≡◌, drop}
use Rattle.job_inputs.specs.PriorStatements.{prior_line}
use Rattle.job_inputs.proofs.stated.prior_line.Given as goal

abbrev pub invariant-lines : goal.invariant-lines
invariant-lines l = prior_line l.t (drop l.line-index l.lines) ≡ prior_line l.t l.lines

use Rattle.std.proofs.Common.{◌≡◌, drop}
use Rattle.sdc_base.specs.Cells.{code_for}
use Rattle.sdc_base.proofs.cells.code_at.Given as goal

abbrev pub invariant-loop-k : goal.invariant-loop-k
invariant-loop-k l = code_for (drop l.k l.table) (drop l.k l.place) l.variable ≡ code_for l.table l.place l.variable

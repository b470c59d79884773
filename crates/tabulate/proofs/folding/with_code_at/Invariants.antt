use Rattle.std.proofs.Common.{◌≡◌, take, slice_set}
use Rattle.tabulate.proofs.folding.with_code_at.Given as goal

abbrev pub invariant-codes : goal.invariant-codes
invariant-codes l = l.other ≡ take l.k (slice_set l.name l.variable l.code)

use Rattle.std.proofs.Common.{◌≡◌, drop}
use Rattle.sdc_base.specs.Relations.{spans_below}
use Rattle.relations.proofs.having.spans_below.Given as goal

abbrev pub invariant-loop-dimension : goal.invariant-loop-dimension
invariant-loop-dimension l = spans_below l.book.trees l.variable l.code (drop l.dimension-index l.table) ≡ spans_below l.book.trees l.variable l.code l.table

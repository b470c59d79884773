use Rattle.std.proofs.Common.{arith, sym, ◌∙◌}
use Rattle.sdc_base.proofs.PlaceLists.{code_past, code_next}
use Rattle.sdc_base.specs.declared.dimension.Dimension.{Dimension}
use Rattle.sdc_base.proofs.cells.code_at.Goals as goal

abbrev no_dimension : Dimension
no_dimension = record { variable = 0; depth = 0 }

pub returns-then-k-place : goal.returns-then-k-place
returns-then-k-place c = sym (code_past c.args.table.now c.args.place.now c.loop-k.k c.args.variable (omega arith)) ∙ c.loop-k.invariant

pub loop-k-preserved : goal.loop-k-preserved
loop-k-preserved c =
    sym (code_next c.args.table.now c.args.place.now c.loop-k.k c.args.variable no_dimension 0 (omega arith) (omega arith) c.if-dimension-variable.false) ∙ c.loop-k.invariant

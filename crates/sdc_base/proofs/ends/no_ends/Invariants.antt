use Rattle.std.proofs.Common.{◌≡◌, replicate}
use Rattle.sdc_base.specs.declared.ends.Ends.TheVariants.{Free}
use Rattle.sdc_base.proofs.ends.no_ends.Given as goal

abbrev pub invariant-cells : goal.invariant-cells
invariant-cells l = l.ends.items ≡ replicate l.counter Free

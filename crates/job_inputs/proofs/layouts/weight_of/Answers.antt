use Rattle.std.proofs.Common.{◌<◌, List, length, sym, subst}
use Rattle.rda_meta.specs.declared.meta.Variable.{Variable}
use Rattle.job_inputs.proofs.Placing.{weight-within}
use Rattle.job_inputs.proofs.layouts.weight_of.Goals as goal

pub number_of-requires : goal.number_of-requires
number_of-requires c = subst (λ (vs : List Variable). c.in-Some.place < length vs) (sym c.as_slice.ensures) (weight-within c.args.described.now c.in-Some.place c.requires c.in-Some.is)

use Rattle.std.proofs.Common.{◌∙◌, true, sym, subst}
use Rattle.std.proofs.lemmas.Option.{same_Some}
use Rattle.sdc_base.specs.declared.relation.Relation.{Relation}
use Rattle.rounding.specs.FixedSteps.{CountsCell}
use Rattle.rounding.proofs.ForceSteps.{total_counts}
use Rattle.rounding.proofs.forcing.force_total.Goals as goal

pub force-requires-clause-counted : goal.force-requires-clause-counted
force-requires-clause-counted c = λ r there.
    let q = c.args.relation.now in
    subst (λ (one : Relation). CountsCell true one q.total) (same_Some q r (sym c.requires.relation ∙ there)) (total_counts q c.times_in.result c.as_slice.result.now c.as_slice.ensures c.times_in.ensures.value c.if-times_in-eq0.true)

use Rattle.std.proofs.Common.{◌∙◌, ℕ, List, false, get_or, length, arith, ap, sym, subst}
use Rattle.std.proofs.lemmas.Option.{same_Some}
use Rattle.sdc_base.specs.declared.relation.Relation.{Relation}
use Rattle.rounding.specs.FixedSteps.{CountsCell}
use Rattle.rounding.proofs.ForceSteps.{part_counts, same_relation, forced_then}
use Rattle.rounding.proofs.forcing.force_cells.Goals as goal

pub force-requires-clause-counted : goal.force-requires-clause-counted
force-requires-clause-counted c = λ r there.
    let q = c.args.relation.now in
    let k = c.parts.part-index in
    let cell = get_or c.as_slice-part-items.result.now k 0 in
    let long = ap (λ (ps : List ℕ). length ps) c.as_slice-part-items.ensures in
    let found = same_relation c.args.bounds.now c.parts.bounds c.args.number r c.parts.invariant there in
    subst (λ (one : Relation). CountsCell false one cell) (same_Some q r (sym c.requires.relation ∙ found)) (part_counts q k cell (omega (arith, long, c.parts-test.true)) (ap (λ (ps : List ℕ). get_or ps k 0) c.as_slice-part-items.ensures) c.if-part-relation.false)

pub parts-preserved : goal.parts-preserved
parts-preserved c = forced_then c.args.bounds.now c.parts.bounds c.force.new.bounds c.parts.invariant c.in_ok-force.ensures

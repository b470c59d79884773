use Rattle.std.proofs.Common.{◌∙◌, true, false, List, slice_get, length, arith, ap, sym, refl, FitsSigned}
use Rattle.std.specs.Int.{w128}
use Rattle.std.proofs.lemmas.Int.{ints, to_z-of_z}
use Rattle.std.proofs.lemmas.Option.{slice_get_read}
use Rattle.sdc_base.specs.declared.relation.Relation.{Relation}
use Rattle.rounding.specs.Extremes.{extreme_of_form}
use Rattle.rounding.specs.Fixes.{number_left}
use Rattle.rounding.proofs.Opening.{spans}
use Rattle.rounding.proofs.ForceSteps.{found_at, too_high, too_low}
use Rattle.rounding.proofs.forcing.force_relation.Goals as goal

pub returns-then-least-gt0-clause-none : goal.returns-then-least-gt0-clause-none
returns-then-least-gt0-clause-none c = λ _.
    let b = c.args.bounds.now in
    let found = found_at b.system.relations c.args.number c.requires.number in
    let least : FitsSigned w128 c.least_of-least.result = omega (arith, ints, c.least_of-least.ensures.low, c.least_of-least.ensures.high) in
    let above = simp to_z-of_z at c.if-least-gt0.true in
    too_high b c.args.number found.0 found.1 (omega (arith, ints, above, c.least_of-least.ensures.value found.0 found.1))

pub returns-then-greatest-lt0-clause-none : goal.returns-then-greatest-lt0-clause-none
returns-then-greatest-lt0-clause-none c = λ _.
    let b = c.args.bounds.now in
    let found = found_at b.system.relations c.args.number c.requires.number in
    let greatest : FitsSigned w128 c.greatest_of-greatest.result = omega (arith, ints, c.greatest_of-greatest.ensures.low, c.greatest_of-greatest.ensures.high) in
    let below = simp to_z-of_z at c.if-greatest-lt0.true in
    too_low b c.args.number found.0 found.1 (omega (arith, ints, below, c.greatest_of-greatest.ensures.value found.0 found.1))

pub force_cells-requires-clause-relation : goal.force_cells-requires-clause-relation
force_cells-requires-clause-relation c =
    let rs = c.relations-relations.result.now in
    let long = ap (λ (xs : List Relation). length xs) c.relations-relations.ensures in
    ap (λ (xs : List Relation). slice_get xs c.args.number) (sym c.relations-relations.ensures) ∙ slice_get_read rs (length rs) c.args.number c.index-relations-number.result refl (omega (arith, c.requires.number, long)) c.index-relations-number.is

pub returns-clause-hold : goal.returns-clause-hold
returns-clause-hold c = λ _ r there.
    let b = c.args.bounds.now in
    let least : FitsSigned w128 c.least_of-least.result = omega (arith, ints, c.least_of-least.ensures.low, c.least_of-least.ensures.high) in
    let greatest : FitsSigned w128 c.greatest_of-greatest.result = omega (arith, ints, c.greatest_of-greatest.ensures.low, c.greatest_of-greatest.ensures.high) in
    let low = simp to_z-of_z at c.if-least-gt0.false in
    let high = simp to_z-of_z at c.if-greatest-lt0.false in
    spans (extreme_of_form (number_left false b) (number_left true b) r) (extreme_of_form (number_left true b) (number_left false b) r) (omega (arith, ints, low, c.least_of-least.ensures.value r there)) (omega (arith, ints, high, c.greatest_of-greatest.ensures.value r there))

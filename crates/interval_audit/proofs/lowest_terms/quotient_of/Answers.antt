use Rattle.std.proofs.Common.{◌≡◌, ◌∙◌, ◌<◌, ◌^◌, ◌/◌, ap, arith, pos, neg_ℤ, ◌-ℤ◌, ◌*ℤ◌, ◌≤ℤ◌, ◌<ℤ◌, FitsSigned, to_z, of_z, unsigned_abs}
use Rattle.std.specs.Int.{w128}
use Rattle.std.proofs.lemmas.Int.{ints, to_z-of_z, to_z_pos}
use Rattle.interval_audit.proofs.Divisors.{part_small, exact_from, exact_below}
use Rattle.interval_audit.proofs.lowest_terms.quotient_of.Goals as goal

pub returns-then-number-lt0-clause-value : goal.returns-then-number-lt0-clause-value
returns-then-number-lt0-clause-value c =
    let fits : FitsSigned w128 c.args.number = c.ranges.number in
    let whole : c.unsigned_abs-whole.result ≡ unsigned_abs c.args.number = c.unsigned_abs-whole.ensures.value ∙ ap unsigned_abs (to_z-of_z w128 c.args.number fits) in
    let small : c.unsigned_abs-whole.result / c.args.by < 2 ^ 127 = part_small c.args.number c.args.by c.unsigned_abs-whole.result fits c.requires.held whole in
    let size : to_z w128 (c.unsigned_abs-whole.result / c.args.by) ≡ pos (c.unsigned_abs-whole.result / c.args.by) = to_z_pos w128 (c.unsigned_abs-whole.result / c.args.by) small in
    let held : FitsSigned w128 (pos 0 -ℤ pos (c.unsigned_abs-whole.result / c.args.by)) = omega (arith, ints, small) in
    let is : to_z w128 (of_z w128 (pos 0 -ℤ to_z w128 (c.unsigned_abs-whole.result / c.args.by))) ≡ neg_ℤ (pos (c.unsigned_abs-whole.result / c.args.by)) =
    ap (λ z. to_z w128 (of_z w128 (pos 0 -ℤ z))) size ∙ to_z-of_z w128 (pos 0 -ℤ pos (c.unsigned_abs-whole.result / c.args.by)) held ∙ omega (arith, ints) in
    let test = simp to_z-of_z at c.if-number-lt0.true in
    let below : c.args.number <ℤ pos 0 = grind (arith, ints, test) in
    ap (λ z. pos c.args.by *ℤ z) is ∙ exact_below c.args.by c.unsigned_abs-whole.result c.args.number c.requires.divides whole below

pub returns-else-number-lt0-clause-value : goal.returns-else-number-lt0-clause-value
returns-else-number-lt0-clause-value c =
    let fits : FitsSigned w128 c.args.number = c.ranges.number in
    let whole : c.unsigned_abs-whole.result ≡ unsigned_abs c.args.number = c.unsigned_abs-whole.ensures.value ∙ ap unsigned_abs (to_z-of_z w128 c.args.number fits) in
    let small : c.unsigned_abs-whole.result / c.args.by < 2 ^ 127 = part_small c.args.number c.args.by c.unsigned_abs-whole.result fits c.requires.held whole in
    let size : to_z w128 (c.unsigned_abs-whole.result / c.args.by) ≡ pos (c.unsigned_abs-whole.result / c.args.by) = to_z_pos w128 (c.unsigned_abs-whole.result / c.args.by) small in
    let test = simp to_z-of_z at c.if-number-lt0.false in
    let from : pos 0 ≤ℤ c.args.number = grind (arith, ints, test) in
    ap (λ z. pos c.args.by *ℤ z) size ∙ exact_from c.args.by c.unsigned_abs-whole.result c.args.number c.requires.divides whole from

pub returns-then-number-lt0-clause-held : goal.returns-then-number-lt0-clause-held
returns-then-number-lt0-clause-held c =
    let fits : FitsSigned w128 c.args.number = c.ranges.number in
    let whole : c.unsigned_abs-whole.result ≡ unsigned_abs c.args.number = c.unsigned_abs-whole.ensures.value ∙ ap unsigned_abs (to_z-of_z w128 c.args.number fits) in
    let small : c.unsigned_abs-whole.result / c.args.by < 2 ^ 127 = part_small c.args.number c.args.by c.unsigned_abs-whole.result fits c.requires.held whole in
    let size : to_z w128 (c.unsigned_abs-whole.result / c.args.by) ≡ pos (c.unsigned_abs-whole.result / c.args.by) = to_z_pos w128 (c.unsigned_abs-whole.result / c.args.by) small in
    let held : FitsSigned w128 (pos 0 -ℤ pos (c.unsigned_abs-whole.result / c.args.by)) = omega (arith, ints, small) in
    let is : to_z w128 (of_z w128 (pos 0 -ℤ to_z w128 (c.unsigned_abs-whole.result / c.args.by))) ≡ neg_ℤ (pos (c.unsigned_abs-whole.result / c.args.by)) =
    ap (λ z. to_z w128 (of_z w128 (pos 0 -ℤ z))) size ∙ to_z-of_z w128 (pos 0 -ℤ pos (c.unsigned_abs-whole.result / c.args.by)) held ∙ omega (arith, ints) in
    rw is (omega (arith, ints, small))

pub returns-else-number-lt0-clause-held : goal.returns-else-number-lt0-clause-held
returns-else-number-lt0-clause-held c =
    let fits : FitsSigned w128 c.args.number = c.ranges.number in
    let whole : c.unsigned_abs-whole.result ≡ unsigned_abs c.args.number = c.unsigned_abs-whole.ensures.value ∙ ap unsigned_abs (to_z-of_z w128 c.args.number fits) in
    let small : c.unsigned_abs-whole.result / c.args.by < 2 ^ 127 = part_small c.args.number c.args.by c.unsigned_abs-whole.result fits c.requires.held whole in
    let size : to_z w128 (c.unsigned_abs-whole.result / c.args.by) ≡ pos (c.unsigned_abs-whole.result / c.args.by) = to_z_pos w128 (c.unsigned_abs-whole.result / c.args.by) small in
    rw size (omega (arith, ints))

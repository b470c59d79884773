use Rattle.std.proofs.Common.{FitsSigned, pos, rules, subst, sym, ◌∙◌, ◌≡◌, ◌≢◌, ◌≤ℤ◌}
use Rattle.std.specs.Int.{w128}
use Rattle.std.proofs.lemmas.Int.{to_z-of_z}
use Rattle.sdc_base.specs.declared.cell.Kind.TheVariants.{Primary}
use Rattle.rounding_audit.proofs.Bounds.{kind_other, kind_primary, read_le}
use Rattle.rounding_audit.proofs.reading.cell_known.Goals as goal

pub invariant_of-result : goal.invariant_of-result
invariant_of-result c =
    let cell = c.args.cell.now in
    let truth : FitsSigned w128 cell.truth = search rules in
    let low : FitsSigned w128 c.low_known-low.result = search rules in
    let high : FitsSigned w128 c.high_known-high.result = search rules in
    let up : FitsSigned w128 cell.up = search rules in
    let down : FitsSigned w128 cell.down = search rules in
    record {
      low_from_zero = subst (λ z. pos 0 ≤ℤ z) (sym (to_z-of_z w128 c.low_known-low.result low)) c.low_known-low.ensures.from_zero;
      low_within = read_le (to_z-of_z w128 c.low_known-low.result low) (to_z-of_z w128 cell.truth truth) c.low_known-low.ensures.within;
      high_beyond = λ x same. (let own : c.high_known-high.result ≡ x = sym (to_z-of_z w128 c.high_known-high.result high) ∙ cc in subst (λ z. z ≤ℤ x) (sym (to_z-of_z w128 cell.truth truth)) (subst (λ z. cell.truth ≤ℤ z) own c.high_known-high.ensures.beyond));
      down_from_zero = subst (λ z. pos 0 ≤ℤ z) (sym (to_z-of_z w128 cell.down down)) cell.down_from_zero;
      down_within = read_le (to_z-of_z w128 cell.down down) (to_z-of_z w128 cell.truth truth) cell.down_within;
      primary = λ is. subst (λ z. pos 1 ≤ℤ z) (sym (to_z-of_z w128 cell.up up)) (cell.primary (kind_primary cell.kind (sym c.kind_known.ensures ∙ is)));
      other_up = λ other. to_z-of_z w128 cell.up up ∙ cell.other_up (kind_other cell.kind (subst (λ kind. kind ≢ Primary) c.kind_known.ensures other));
      other_down = λ other. to_z-of_z w128 cell.down down ∙ cell.other_down (kind_other cell.kind (subst (λ kind. kind ≢ Primary) c.kind_known.ensures other));
    }

use Rattle.std.proofs.Common.{◌≡◌, ◌≤ℤ◌, pos, refl, sym, subst, to_z, of_z, arith}
use Rattle.std.specs.Int.{w128}
use Rattle.std.proofs.lemmas.Int.{ints, to_z-of_z}
use Rattle.fixture_cells.proofs.cells.shown_cell.Goals as goal

pub invariant_of-result : goal.invariant_of-result
invariant_of-result c =
    let truth : to_z w128 (of_z w128 c.args.truth) ≡ c.args.truth = to_z-of_z w128 c.args.truth c.ranges.truth in
    let low : to_z w128 (of_z w128 c.args.low) ≡ c.args.low = to_z-of_z w128 c.args.low c.ranges.low in
    record {
      low_from_zero = subst (λ z. pos 0 ≤ℤ z) (sym low) c.requires.low;
      low_within = subst (λ z. z ≤ℤ to_z w128 (of_z w128 c.args.truth)) (sym low) (subst (λ z. c.args.low ≤ℤ z) (sym truth) c.requires.within);
      high_beyond = λ x is. subst (λ z. z ≤ℤ x) (sym truth) (c.requires.high x is);
      down_from_zero = omega (arith, ints);
      down_within = subst (λ z. pos 0 ≤ℤ z) (sym truth) (omega (arith, ints, c.requires.low, c.requires.within));
      primary = λ is. absurd (c.requires.kind is);
      other_up = λ _. refl;
      other_down = λ _. refl;
    }

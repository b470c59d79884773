use Rattle.std.proofs.Common.{◌≡◌, ◌≤ℤ◌, pos, refl, sym, subst, to_z, of_z, arith}
use Rattle.std.specs.Int.{w128}
use Rattle.std.proofs.lemmas.Int.{ints, to_z-of_z}
use Rattle.fixture_cells.proofs.cells.primary_cell.Goals as goal

pub invariant_of-result : goal.invariant_of-result
invariant_of-result c =
    let truth : to_z w128 (of_z w128 c.args.truth) ≡ c.args.truth = to_z-of_z w128 c.args.truth c.ranges.truth in
    let up : to_z w128 (of_z w128 c.args.up) ≡ c.args.up = to_z-of_z w128 c.args.up c.ranges.up in
    let down : to_z w128 (of_z w128 c.args.down) ≡ c.args.down = to_z-of_z w128 c.args.down c.ranges.down in
    record {
      low_from_zero = omega (arith, ints);
      low_within = subst (λ z. pos 0 ≤ℤ z) (sym truth) (omega (arith, ints, c.requires.down, c.requires.within));
      high_beyond = λ x is. absurd cc;
      down_from_zero = subst (λ z. pos 0 ≤ℤ z) (sym down) c.requires.down;
      down_within = subst (λ z. z ≤ℤ to_z w128 (of_z w128 c.args.truth)) (sym down) (subst (λ z. c.args.down ≤ℤ z) (sym truth) c.requires.within);
      primary = λ is. subst (λ z. pos 1 ≤ℤ z) (sym up) c.requires.up;
      other_up = λ not_primary. absurd (not_primary refl);
      other_down = λ not_primary. absurd (not_primary refl);
    }

use Rattle.std.proofs.Common.{FitsSigned, refl, arith, rules}
use Rattle.std.specs.Int.{w128}
use Rattle.std.proofs.lemmas.Int.{ints, to_z-of_z}
use Rattle.tests_protection.proofs.hypercube_tests.free_cell.Goals as goal

pub invariant_of-result : goal.invariant_of-result
invariant_of-result c =
    let truth : FitsSigned w128 c.args.truth = search rules in
    let from = c.requires in
    record {
      low_from_zero = omega (arith, ints);
      low_within = simp to_z-of_z from;
      high_beyond = λ x is. absurd cc;
      down_from_zero = omega (arith, ints);
      down_within = simp to_z-of_z from;
      primary = λ is. absurd cc;
      other_up = λ _. refl;
      other_down = λ _. refl;
    }

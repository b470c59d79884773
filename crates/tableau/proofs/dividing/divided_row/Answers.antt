use Rattle.std.proofs.lemmas.Grind.{common_steps}
use Rattle.std.proofs.Common.{ℤ, pos, slice_index_or, unsigned_abs, sym, subst, rules, FitsSigned, to_z, of_z, arith}
use Prim.Native.Nat.{◌∣◌}
use Rattle.std.specs.Int.{w128}
use Rattle.std.proofs.lemmas.Int.{to_z-of_z}
use Rattle.tableau.proofs.dividing.divided_row.Goals as goal

pub quotient-requires-clause-divides : goal.quotient-requires-clause-divides
quotient-requires-clause-divides c =
    let x : ℤ = (slice_index_or c.args.entries.now c.loop-entry.entry-index (0, pos 0)).1 in
    let fits : FitsSigned w128 x = search rules in
    subst (λ b. unsigned_abs b ∣ unsigned_abs (to_z w128 (of_z w128 x))) (sym (to_z-of_z w128 c.args.by c.ranges.by))
    (subst (λ b. unsigned_abs c.args.by ∣ unsigned_abs b) (sym (to_z-of_z w128 x fits)) (c.requires.divides c.loop-entry.entry-index (0, pos 0) c.loop-entry-test.true))

pub loop-entry-preserved : goal.loop-entry-preserved
loop-entry-preserved c = grind (arith, common_steps)

pub returns : goal.returns
returns c = grind (arith, common_steps)

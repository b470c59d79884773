use Rattle.std.proofs.Common.{◌∙◌, ◌-ℤ◌, FitsSigned, arith, rules}
use Rattle.std.specs.Int.{w128}
use Rattle.std.proofs.lemmas.Int.{ints, to_z-of_z}
use Rattle.worlds.proofs.Bounds.{low_test}
use Rattle.worlds.proofs.moves.is_low_kept.Goals as goal

pub returns : goal.returns
returns c =
    let den : FitsSigned w128 c.args.den = c.ranges.den in
    let by : FitsSigned w128 c.args.by = c.ranges.by in
    let low : FitsSigned w128 c.args.cell.now.low = search rules in
    let truth : FitsSigned w128 c.args.cell.now.truth = search rules in
    let room : FitsSigned w128 (c.args.cell.now.low -ℤ c.args.cell.now.truth) = omega (arith, ints, c.args.cell.now.low_from_zero, c.args.cell.now.low_within) in
    let here = simp to_z-of_z at c.is_at_least.ensures in
    here ∙ low_test c.args.den c.args.cell.now.low c.args.cell.now.truth c.args.by

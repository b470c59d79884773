use Rattle.std.proofs.Common.{FitsSigned, ◌-ℤ◌, arith, rules}
use Rattle.std.specs.Int.{w128}
use Rattle.std.proofs.lemmas.Int.{ints, to_z-of_z}
use Rattle.cert_check.proofs.PartsTaken.{above_lower}
use Rattle.cert_check.proofs.rounded.is_above_lower.Goals as goal

pub returns : goal.returns
returns c =
    let truth : FitsSigned w128 c.args.cell.now.truth = search rules in
    let value : FitsSigned w128 c.args.value = c.ranges.value in
    let base : FitsSigned w128 c.args.base = c.ranges.base in
    let less : FitsSigned w128 (c.args.cell.now.truth -ℤ c.args.value) = omega (arith, ints, truth, value, c.requires, c.args.cell.now.low_from_zero, c.args.cell.now.low_within) in
    simp to_z-of_z (above_lower c.args.cell.now.truth c.args.value c.args.base)

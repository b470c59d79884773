use Rattle.std.proofs.Common.{◌≡◌, FitsSigned, pos, ◌-ℤ◌, ap, ◌∙◌, arith, rules}
use Rattle.std.specs.Int.{w128}
use Rattle.std.proofs.lemmas.Int.{ints, to_z-of_z}
use Rattle.worlds.specs.NumberLists.{terms_of, number_given}
use Rattle.worlds.proofs.Bounds.{below_says}
use Rattle.worlds.proofs.world_check.reaches.Goals as goal

pub returns-in-Below : goal.returns-in-Below
returns-in-Below c =
    let by : FitsSigned w128 c.move_of-by.result = search rules in
    let den : FitsSigned w128 c.args.world.now.den = search rules in
    let down : FitsSigned w128 c.args.cell.now.down = search rules in
    let turned : FitsSigned w128 (pos 0 -ℤ c.args.cell.now.down) = omega (arith, ints, c.args.cell.now.down_from_zero) in
    let here = simp to_z-of_z at c.is_at_most.ensures in
    let same : c.move_of-by.result ≡ number_given (terms_of c.args.world.now.moves) c.args.number = c.move_of-by.ensures ∙ ap (λ ms. number_given (terms_of ms) c.args.number) c.as_slice.ensures in
    rw (c.in-Below.is, ← same) (below_says c.args.world.now.den c.args.cell.now.down (pos 0 -ℤ c.args.cell.now.down) c.move_of-by.result c.is_at_most.result (omega (arith, ints)) here)

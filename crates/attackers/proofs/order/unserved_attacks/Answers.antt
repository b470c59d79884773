use Rattle.std.proofs.Common.{◌<◌, ℕ, List, All, length, sym, subst}
use Rattle.sdc_base.specs.declared.side.Side.{Side}
use Rattle.attackers.proofs.AskedCells.{all_inside}
use Rattle.attackers.proofs.order.unserved_attacks.Goals as goal

pub add_unserved-requires-clause-asked : goal.add_unserved-requires-clause-asked
add_unserved-requires-clause-asked c =
    subst (λ (asked : List (ℕ × Side)). All (λ (one : ℕ × Side). one.0 < length c.args.cells.now) asked) (sym c.requires.asked) (all_inside c.args.cells.now)

use Rattle.std.proofs.Common.{refl}
use Rattle.certificate.specs.declared.certificate.WorldLine.{WorldLine}
use Rattle.attackers.proofs.Holding.{any_passing}
use Rattle.attackers.specs.KnownCells.{serves}
use Rattle.attackers.specs.Dropping.{stays}
use Rattle.attackers.proofs.lines.is_still_served.Goals as goal

pub returns-then-is_still_serving : goal.returns-then-is_still_serving
returns-then-is_still_serving c =
    λ _. any_passing (stays c.args.cell) (λ (line : WorldLine). serves c.args.cells.now c.args.soles.now c.args.attack line.world) c.args.lines.now c.lines.line-index c.line-item.result c.lines-test.true c.line-item.is (c.if-is_still_serving.ensures.stays refl) (c.if-is_still_serving.ensures.serves refl)

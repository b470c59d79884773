use Rattle.std.proofs.Common.{decimal}
use Rattle.std.specs.Fmt.{signed_decimal}
use Rattle.sdc_base.specs.Sides.{side_word}
use Rattle.certificate.proofs.AppendSteps.{world_appended}
use Rattle.certificate.proofs.writing.add_world.Goals as goal

pub returns-clause-text : goal.returns-clause-text
returns-clause-text c =
    rw (c.in_ok-add-4.ensures, c.in_ok-add_moves.ensures.text, c.as_slice.ensures, c.in_ok-add_integer.ensures.text, c.in_ok-add-3.ensures, c.side_word.ensures, c.in_ok-add-2.ensures, c.as_bytes.ensures.value, c.in_ok-head.ensures.ok, c.in_ok-add.ensures)
    (world_appended c.args.text.now c.args.word.now (decimal c.args.line.now.cell) (side_word c.args.line.now.side) (signed_decimal c.args.line.now.world.den) c.args.line.now.world.moves)

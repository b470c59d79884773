use Rattle.std.proofs.Common.{decimal}
use Rattle.std.specs.Fmt.{signed_decimal}
use Rattle.std.specs.Prelude.{codes}
use Rattle.sdc_base.specs.Sides.{side_word}
use Rattle.rounding_audit.specs.AuditTexts.{move_token}
use Rattle.rounding_audit.proofs.Joining.{line_appended}
use Rattle.rounding_audit.proofs.texts.add_world.Goals as goal

pub returns : goal.returns
returns c =
    rw (c.in_ok-add-2.ensures, c.in_ok-add_moves.ensures, c.as_slice.ensures, c.in_ok-add_integer.ensures, c.in_ok-add.ensures, c.as_bytes.ensures.value, c.in_ok-head.ensures.ok, c.word-word.ensures)
    (line_appended move_token c.args.text.now (codes "world") (decimal c.args.cell) (side_word c.args.side) (signed_decimal c.args.world.now.den) c.args.world.now.moves)

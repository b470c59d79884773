use Rattle.std.proofs.Common.{decimal}
use Rattle.std.specs.Fmt.{signed_decimal}
use Rattle.std.specs.Prelude.{codes}
use Rattle.sdc_base.specs.Sides.{side_word}
use Rattle.certificate.specs.Texts.{pair_token}
use Rattle.rounding_audit.proofs.Joining.{line_appended}
use Rattle.rounding_audit.proofs.texts.add_stop.Goals as goal

pub returns : goal.returns
returns c =
    rw (c.in_ok-add-2.ensures, c.in_ok-add_pairs.ensures, c.as_slice.ensures, c.in_ok-add_integer.ensures, c.in_ok-add.ensures, c.as_bytes.ensures.value, c.in_ok-head.ensures.ok, c.word-word.ensures)
    (line_appended pair_token c.args.text.now (codes "stop") (decimal c.args.cell) (side_word c.args.side) (signed_decimal c.args.stop.now.den) c.args.stop.now.by_relation)

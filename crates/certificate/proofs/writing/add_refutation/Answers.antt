use Rattle.std.proofs.Common.{decimal}
use Rattle.std.specs.Fmt.{signed_decimal}
use Rattle.sdc_base.specs.Sides.{side_word}
use Rattle.certificate.proofs.AppendSteps.{refuted_appended}
use Rattle.certificate.proofs.writing.add_refutation.Goals as goal

pub returns-clause-text : goal.returns-clause-text
returns-clause-text c =
    rw (c.in_ok-add-4.ensures, c.in_ok-add_pairs.ensures.text, c.as_slice.ensures, c.in_ok-add_integer.ensures.text, c.in_ok-add-3.ensures, c.side_word.ensures, c.in_ok-add-2.ensures, c.as_bytes.ensures.value, c.in_ok-cells.ensures.ok, c.in_ok-add.ensures)
    (refuted_appended c.args.text.now c.args.word.now (decimal c.args.refuted.now.subject) (decimal c.args.refuted.now.cell) (side_word c.args.refuted.now.side) (signed_decimal c.args.refuted.now.multipliers.den) c.args.refuted.now.multipliers.by_relation)

use Rattle.std.proofs.Common.{◌+◌, decimal, subst, List}
use Rattle.std.specs.Prelude.{codes}
use Rattle.std.specs.Fmt.{signed_decimal}
use Rattle.std.specs.List.{AllByRecursion}
use Rattle.sdc_base.specs.Forms.{Term}
use Rattle.sdc_base.specs.Sides.{side_word}
use Rattle.certificate.specs.Spelling.{IsTermWithinTypes}
use Rattle.certificate.proofs.ExtraSteps.{need_appended}
use Rattle.certificate.proofs.extra_writing.add_need.Goals as goal

pub returns-clause-text : goal.returns-clause-text
returns-clause-text c =
    rw (c.in_ok-add-2.ensures, c.in_ok-add_pairs.ensures.text, c.as_slice.ensures, c.in_ok-add_integer.ensures.text, c.in_ok-add.ensures, c.side_word.ensures, c.in_ok-add_need_head.ensures.text)
    (need_appended c.args.text.now (codes "need") (decimal c.args.need.now.subject) (decimal (c.args.need.now.row + 1)) (decimal c.args.need.now.cell) (side_word c.args.need.now.side) (signed_decimal c.args.need.now.multipliers.den) c.args.need.now.multipliers.by_relation)

pub returns-clause-wide : goal.returns-clause-wide
returns-clause-wide c = record {
  subject = c.in_ok-add_need_head.ensures.subject;
  cell = c.in_ok-add_need_head.ensures.cell;
  den = c.in_ok-add_integer.ensures.wide;
  terms = subst (λ (terms : List Term). AllByRecursion IsTermWithinTypes terms) c.as_slice.ensures c.in_ok-add_pairs.ensures.wide;
}

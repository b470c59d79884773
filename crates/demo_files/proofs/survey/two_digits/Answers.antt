use Rattle.std.proofs.Common.{◌∙◌, refl}
use Rattle.std.proofs.Padding.{styled_decimal_is, padded_integral_zeros}
use Rattle.demo_files.proofs.survey.two_digits.Goals as goal

pub returns : goal.returns
returns c = c.in_ok-format.ensures.ok ∙ rw (c.laid_out.ensures) (styled_decimal_is _ c.args.number ∙ padded_integral_zeros _ _ refl refl)

use Rattle.std.proofs.Common.{◌∙◌, arith, refl}
use Rattle.std.proofs.Padding.{styled_decimal_is, padded_integral_right}
use Rattle.demo_files.proofs.survey.seven_places.Goals as goal

pub returns : goal.returns
returns c = c.in_ok-format.ensures.ok ∙ rw (c.laid_out.ensures) (styled_decimal_is _ c.args.number ∙ padded_integral_right _ _ refl refl (λ h. absurd (omega (arith, h))) (λ h. absurd (omega (arith, h))) (omega arith))

use Rattle.std.proofs.Common.{◌≡◌, [], ◌∷◌, refl, ◌∙◌, arith}
use Rattle.std.specs.List.{IsDistinct}
use Rattle.std.specs.Str.{bytes_eq}
use Rattle.tests_inputs.proofs.record_layouts.flat_source.Goals as goal

apart : IsDistinct bytes_eq ((84 ∷ 111 ∷ 116 ∷ 97 ∷ 108 ∷ []) ∷ (98 ∷ []) ∷ [])
unfolding IsDistinct
apart = ((refl, tt), (tt, tt))

pub returns : goal.returns
returns c =
    let codes : c.push.new.self ≡ (98 ∷ []) ∷ [] = c.in_ok-push.ensures.ok ∙ rw (c.empty-codes.ensures, c.in_ok-from_slice.ensures) refl in
    rw (c.in_ok-total.ensures, codes) (apart, omega arith)

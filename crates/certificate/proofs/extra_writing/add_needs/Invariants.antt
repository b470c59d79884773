use Rattle.std.proofs.Common.{◌≡◌, ◌++◌, take, flat_map}
use Rattle.std.specs.List.{AllByRecursion}
use Rattle.certificate.specs.Texts.{line_text}
use Rattle.certificate.specs.ExtraTexts.{need_tokens, IsNeedWithinTypes}
use Rattle.certificate.proofs.extra_writing.add_needs.Given as goal

abbrev pub invariant-needs : goal.invariant-needs
invariant-needs l = record {
  text : l.text ≡ l.fn.text ++ flat_map (λ need. line_text (need_tokens need)) (take l.need-index l.needs);
  wide : AllByRecursion IsNeedWithinTypes (take l.need-index l.needs);
}

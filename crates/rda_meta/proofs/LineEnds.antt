-- Metadata are the same with every kind of line ends.
use Rattle.std.proofs.Common.{ℕ, List, [], ◌∷◌, ◌++◌, map, ap, sym, ◌∙◌}
use Rattle.std.specs.List.{AllByRecursion}
use Rattle.sdc_base.specs.Lines.{IsLine, HasNoFeed, text_of_lines, joined_with_returns}
use Rattle.sdc_base.specs.Blanks.{trim}
use Rattle.plain_text.specs.Laws.{AreReadAgain, AreReadWithReturns, IsLastRead}
use Rattle.rda_meta.specs.Laws.{IsLenientToLineEnds}
use Rattle.rda_meta.proofs.Lenient.{lenient_to_ends}

no-feeds : (texts : List (List ℕ)) → AllByRecursion IsLine texts → AllByRecursion HasNoFeed texts
no-feeds [] h = tt
no-feeds (text ∷ texts) h = (h.0.no_feed, no-feeds texts h.1)

one-more : (texts : List (List ℕ)) (last : List ℕ) → AllByRecursion IsLine texts → IsLine last → AllByRecursion IsLine (texts ++ last ∷ [])
one-more [] last h whole = (whole, tt)
one-more (text ∷ texts) last h whole = (h.0, one-more texts last h.1 whole)

pub line_ends : AreReadAgain → AreReadWithReturns → IsLastRead → IsLenientToLineEnds
line_ends feeds returns open-end texts h = (
  lenient_to_ends (joined_with_returns texts) (text_of_lines texts) (ap (λ (ls : List (List ℕ)). map trim ls) (returns texts (no-feeds texts h) ∙ sym (feeds texts h))),
  λ last whole some.
      lenient_to_ends (text_of_lines texts ++ last) (text_of_lines (texts ++ last ∷ []))
      (ap (λ (ls : List (List ℕ)). map trim ls) (open-end.feeds texts last h whole.no_feed some ∙ sym (feeds (texts ++ last ∷ []) (one-more texts last h whole)))),
)

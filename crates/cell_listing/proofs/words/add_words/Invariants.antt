use Rattle.std.proofs.Common.{◌≡◌, ◌++◌, map, take}
use Rattle.cell_listing.proofs.words.add_words.Given as goal

abbrev pub invariant-words : goal.invariant-words
invariant-words l = l.fields ≡ l.fn.fields ++ map (λ word. word.now) (take l.word-index l.words)

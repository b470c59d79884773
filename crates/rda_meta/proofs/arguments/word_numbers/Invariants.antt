use Rattle.std.proofs.Common.{◌≡◌, length}
use Rattle.rda_meta.specs.Arguments.{word_numbers}
use Rattle.rda_meta.proofs.NumberList.{with_front}
use Rattle.rda_meta.proofs.arguments.word_numbers.Given as goal

abbrev pub invariant-words : goal.invariant-words
invariant-words l = with_front l.numbers (word_numbers l.words) ≡ word_numbers l.fn.words

abbrev pub decreases-words : goal.decreases-words
decreases-words l = length l.words

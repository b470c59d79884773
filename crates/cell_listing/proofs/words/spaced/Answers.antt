use Rattle.std.proofs.Common.{◌≡◌, ◌+◌, ◌++◌, ◌∷◌, [], take, ap, sym, ◌∙◌, arith}
use Rattle.std.proofs.lemmas.List.{take_more}
use Rattle.cell_listing.specs.Columns.{blank_before, spaced}
use Rattle.cell_listing.proofs.SpacedWords.{spaced_more, taken}
use Rattle.cell_listing.proofs.words.spaced.Goals as goal

pub words-preserved : goal.words-preserved
words-preserved c =
    let words = c.args.words.now in
    let i = c.words.place in
    let word = c.as_slice.result.now in
    let more : take (i + 1) words ≡ take i words ++ word ∷ [] = take_more words i c.index-words-place.result c.words-test.true ∙ ap (λ w. take i words ++ w ∷ []) (sym (c.as_slice.ensures ∙ c.index-words-place.is)) in
    c.in_ok-append.ensures
    ∙ ap (λ text. (text ++ blank_before i) ++ word) c.words.invariant
    ∙ ap (λ n. (spaced (take i words) ++ blank_before n) ++ word) (sym (taken words i (omega (arith, c.words-test.true))))
    ∙ sym (spaced_more (take i words) word) ∙ ap spaced (sym more)

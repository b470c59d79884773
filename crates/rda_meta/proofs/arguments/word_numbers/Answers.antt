use Rattle.std.proofs.Common.{◌≡◌, None, Some, sym, ◌∙◌}
use Rattle.sdc_base.specs.Tokens.{number_in}
use Rattle.rda_meta.proofs.NumberList.{goes_on, stops, ends}
use Rattle.rda_meta.proofs.arguments.word_numbers.Goals as goal

pub returns-in_default-number_in : goal.returns-in_default-number_in
returns-in_default-number_in c =
    let none : None ≡ number_in 0 255 c.in-Some.word.now = cc in
    sym c.words.invariant ∙ stops c.words.numbers _ _ _ c.in-Some.ensures.word none

pub words-preserved : goal.words-preserved
words-preserved c =
    let some : Some c.in-Some-number_in.number ≡ number_in 0 255 c.in-Some.word.now = cc in
    rw c.in_ok-push.ensures.ok (goes_on c.words.numbers _ _ _ c.in-Some-number_in.number c.in-Some.ensures.word some ∙ c.words.invariant)

pub returns : goal.returns
returns c = sym c.words.invariant ∙ ends c.words.numbers _ c.in_default.ensures.end

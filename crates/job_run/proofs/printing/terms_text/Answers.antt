use Rattle.std.proofs.Common.{◌+◌, ◌++◌, List, ℕ, take, ap, ◌∙◌}
use Rattle.std.proofs.lemmas.List.{take_more}
use Rattle.job_run.proofs.TermTexts.{terms-more}
use Rattle.job_run.proofs.printing.terms_text.Goals as goal

pub terms-preserved : goal.terms-preserved
terms-preserved c =
    let more = take_more c.args.terms.now c.terms.term-index _ c.terms-test.true in
    c.in_ok-push_str.ensures.bytes
    ∙ ap (λ (t : List ℕ). c.terms.text.bytes.items ++ t) (c.as_str.ensures.value ∙ c.in_ok-more.ensures)
    ∙ terms-more c.terms.text.bytes.items (take c.terms.term-index c.args.terms.now) (take (c.terms.term-index + 1) c.args.terms.now) _ more c.terms.invariant

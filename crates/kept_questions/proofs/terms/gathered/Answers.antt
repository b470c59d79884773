use Rattle.std.proofs.Common.{◌∙◌, ap, List}
use Rattle.sdc_base.specs.Forms.{Term, coefficient}
use Rattle.kept_questions.proofs.TermSums.{reordered_at}
use Rattle.kept_questions.proofs.terms.gathered.Goals as goal

pub returns : goal.returns
returns c = λ place.
    c.in_ok-made.ensures place
    ∙ ap (λ (ts : List Term). coefficient ts place) c.as_slice-list.ensures.value
    ∙ reordered_at c.args.terms.items c.sort_by_key.new.self.items place c.in_ok-sort_by_key.ensures.permutation

use Rattle.std.proofs.Common.{◌∙◌, ap, List, pos, neg_ℤ, ◌+ℤ◌, ◌*ℤ◌}
use Rattle.sdc_base.specs.Forms.{Term, coefficient}
use Rattle.kept_questions.proofs.FormSums.{parts_next}
use Rattle.kept_questions.proofs.lists.push_parts.Goals as goal

pub parts-preserved : goal.parts-preserved
parts-preserved c = λ place.
    parts_next c.args.lists.now c.args.parts.now (coefficient c.args.terms.now.items place) (coefficient c.parts.terms.items place) (coefficient c.push_times.new.terms.items place) c.parts.part-index place 0 c.parts-test.true
    (c.in_ok-push_times.ensures place ∙ ap (λ (ts : List Term). coefficient c.parts.terms.items place +ℤ neg_ℤ (pos 1) *ℤ coefficient ts place) c.list_at-list.ensures) (c.parts.invariant place)

use Rattle.std.proofs.Common.{◌∙◌, ap, map, List, ℕ, pos, neg_ℤ, ◌+ℤ◌, ◌*ℤ◌}
use Rattle.sdc_base.specs.Forms.{Term, coefficient}
use Rattle.tableau.specs.Amounts.{value_of}
use Rattle.kept_questions.specs.TermLists.{moves_in}
use Rattle.kept_questions.proofs.FormSums.{form_value}
use Rattle.kept_questions.proofs.lists.form_list.Goals as goal

pub returns : goal.returns
returns c = λ place.
    c.in_ok-made.ensures place
    ∙ form_value c.args.lists.now c.args.relation.now (coefficient c.new-terms.result.items place) (coefficient c.push_times.new.terms.items place) (coefficient c.push_parts.new.terms.items place) place
    (ap (λ (ts : List Term). coefficient ts place) c.new-terms.ensures.items)
    (c.in_ok-push_times.ensures place ∙ ap (λ (ts : List Term). coefficient c.new-terms.result.items place +ℤ pos 1 *ℤ coefficient ts place) c.list_at-total.ensures)
    (c.in_ok-push_parts.ensures place ∙ ap (λ (ps : List ℕ). coefficient c.push_times.new.terms.items place +ℤ value_of (λ cell. moves_in c.args.lists.now cell place) (map (λ part. (part, neg_ℤ (pos 1))) ps)) c.as_slice-parts.ensures)

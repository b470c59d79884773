use Rattle.std.proofs.Common.{◌≡◌, ℕ, take, pos, ◌+ℤ◌, ◌*ℤ◌}
use Rattle.sdc_base.specs.Forms.{coefficient}
use Rattle.sdc_base.specs.Systems.{number_at}
use Rattle.sdc_base.specs.Totals.{sum_of}
use Rattle.interval_audit.specs.Labels.{form_at}
use Rattle.kept_questions.proofs.left_over.add_forms.Given as goal

abbrev pub invariant-met : goal.invariant-met
invariant-met l = (cell : ℕ) → number_at l.numbers.items cell ≡ number_at l.fn.numbers.items cell +ℤ sum_of (λ number. number_at l.weights number *ℤ coefficient (form_at l.relations (pos 1) number) cell) (take l.number-index l.met)

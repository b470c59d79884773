use Rattle.std.proofs.Common.{◌≡◌, ◌^◌, take, All, pos, neg_ℤ, ◌<ℤ◌}
use Rattle.sdc_base.specs.Forms.{Term}
use Rattle.sdc_base.specs.Systems.{number_at}
use Rattle.interval_audit.specs.Readings.{nonzero_terms}
use Rattle.kept_questions.proofs.stop_check.terms_of.Given as goal

abbrev pub invariant-met : goal.invariant-met
invariant-met l = record {
  terms : l.terms.items ≡ nonzero_terms (number_at l.weights) (take l.number-index l.met);
  held : All (λ (term : Term). neg_ℤ (pos (2 ^ 127)) <ℤ term.1) l.terms.items;
}

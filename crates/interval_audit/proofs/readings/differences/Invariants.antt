use Rattle.std.proofs.Common.{◌≡◌, ◌<◌, ◌+◌, ◌*◌, ◌^◌, ℕ, length, slice_index, take, All, pos, neg_ℤ, ◌-ℤ◌, ◌<ℤ◌}
use Rattle.sdc_base.specs.Forms.{Term}
use Rattle.sdc_base.specs.Systems.{Numbers, number_at}
use Rattle.interval_audit.specs.Readings.{nonzero_terms}
use Rattle.interval_audit.proofs.readings.differences.Given as goal

abbrev pub invariant-list : goal.invariant-list
invariant-list l = record {
  terms : (given : Numbers) → ((place : ℕ) → place < length l.list → given (slice_index l.list place) ≡ number_at l.numbers (l.plus + 2 * place) -ℤ number_at l.numbers (l.minus + 2 * place)) → l.terms.items ≡ nonzero_terms given (take l.place l.list);
  held : All (λ (term : Term). neg_ℤ (pos (2 ^ 127)) <ℤ term.1) l.terms.items;
}

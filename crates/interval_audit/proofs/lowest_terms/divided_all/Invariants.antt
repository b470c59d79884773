use Rattle.std.proofs.Common.{◌≡◌, ◌^◌, take, All, pos, neg_ℤ, ◌<ℤ◌}
use Rattle.sdc_base.specs.Forms.{Term}
use Rattle.interval_audit.specs.LowestTerms.{times_each}
use Rattle.interval_audit.proofs.lowest_terms.divided_all.Given as goal

abbrev pub invariant-terms : goal.invariant-terms
invariant-terms l = record {
  each : take l.term-index l.terms ≡ times_each (pos l.by) l.less.items;
  held : All (λ (term : Term). neg_ℤ (pos (2 ^ 127)) <ℤ term.1) l.less.items;
}

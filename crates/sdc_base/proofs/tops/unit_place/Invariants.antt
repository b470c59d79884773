use Rattle.std.proofs.Common.{◌≡◌, ℕ, ◌<◌, false, int_lt, slice_index_or}
use Rattle.sdc_base.specs.declared.tops.Unit.{Unit as Contribution}
use Rattle.sdc_base.proofs.tops.unit_place.Given as goal

abbrev pub invariant-loop-i : goal.invariant-loop-i
invariant-loop-i l = (k : ℕ) (d : Contribution) → k < l.i → int_lt (slice_index_or l.units k d).value l.new.value ≡ false

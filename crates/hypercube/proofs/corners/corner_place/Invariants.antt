use Rattle.std.proofs.Common.{◌≡◌, ℕ, ◌<◌, false, nat_lt, slice_index_or}
use Rattle.sdc_base.specs.declared.cube.Corner.{Corner}
use Rattle.hypercube.proofs.corners.corner_place.Given as goal

abbrev pub invariant-loop-i : goal.invariant-loop-i
invariant-loop-i l = (k : ℕ) (d : Corner) → k < l.i → nat_lt l.new.cell (slice_index_or l.corners k d).cell ≡ false

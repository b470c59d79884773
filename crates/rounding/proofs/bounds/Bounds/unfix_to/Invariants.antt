use Rattle.std.proofs.Common.{◌≡◌, ◌≤◌, length, take}
use Rattle.rounding.proofs.bounds.Bounds.unfix_to.Given as goal

abbrev pub invariant-fixes : goal.invariant-fixes
invariant-fixes l = record {
  front : l.self ≡ record l.fn.self { fixes = take (length l.self.fixes) l.fn.self.fixes };
  from : l.count ≤ length l.self.fixes;
}

abbrev pub decreases-fixes : goal.decreases-fixes
decreases-fixes l = length l.self.fixes

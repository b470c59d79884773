use Rattle.std.proofs.Common.{◌≡◌, ℕ, List, take}
use Rattle.std.specs.List.{flat_map}
use Rattle.sdc_base.specs.Forms.{Term, coefficient}
use Rattle.interval_audit.specs.CellNumbers.{AreCoefficients}
use Rattle.interval_audit.specs.Groups.{Group, members}
use Rattle.interval_audit.specs.Columns.{entries_for}
use Rattle.interval_audit.proofs.entries.entries_at.Given as goal

abbrev pub invariant-members : goal.invariant-members
invariant-members l = (group : Group) (n : ℕ) (terms : List Term) → l.members ≡ members group n → AreCoefficients l.numbers terms → l.entries.items ≡ flat_map (λ cell. entries_for group cell (coefficient terms cell)) (take l.place l.members)

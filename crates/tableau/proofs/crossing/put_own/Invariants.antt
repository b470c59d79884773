use Rattle.std.proofs.Common.{◌≡◌, ℕ, ℤ, ◌<◌, ◌≤◌, ◌-◌, ◌*ℤ◌}
use Rattle.sdc_base.specs.Forms.{coefficient}
use Rattle.tableau.specs.Entries.{AreEntriesFrom, AreEntriesBelow}
use Rattle.tableau.proofs.crossing.put_own.Given as goal

abbrev pub invariant-run : goal.invariant-run
invariant-run l = record {
  within : l.next ≤ l.place;
  behind : l.from ≤ l.next;
  passed : AreEntriesFrom l.next l.i l.own;
  puts : (numbers : ℕ → ℤ) → AreEntriesBelow l.from numbers l.fn.made.items → ((v : ℕ) → l.from ≤ v → v < l.place → numbers v ≡ coefficient l.own v *ℤ l.p) → AreEntriesBelow l.next numbers l.made.items;
}

abbrev pub decreases-run : goal.decreases-run
decreases-run l = l.place - l.next

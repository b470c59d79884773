use Rattle.std.proofs.Common.{◌≤◌, ◌-◌}
use Rattle.tableau.specs.Entries.{AreEntriesFrom, AreEntriesBelow, crossed_at}
use Rattle.tableau.proofs.crossing.crossed_row.Given as goal

abbrev pub invariant-merge : goal.invariant-merge
invariant-merge l = record {
  within : l.next ≤ l.width;
  own : AreEntriesFrom l.next l.i l.own;
  pivot : AreEntriesFrom l.next l.j l.pivot.bare.now;
  made : AreEntriesBelow l.next (crossed_at l.pivot.den l.times l.less l.pivot.column l.pivot.bare.now l.own) l.made.items;
}

abbrev pub decreases-merge : goal.decreases-merge
decreases-merge l = l.width - l.next

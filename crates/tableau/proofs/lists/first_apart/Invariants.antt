use Rattle.std.proofs.Common.{◌≡◌, ℕ, ◌+◌, ◌-◌, ◌<◌, ◌≤◌, length, slice_index, pos}
use Rattle.tableau.specs.Entries.{AreEntriesFrom}
use Rattle.tableau.specs.RowLists.{lead, list_size}
use Rattle.tableau.specs.SparseTables.{table_of}
use Rattle.tableau.proofs.lists.first_apart.Given as goal

abbrev pub invariant-merge : goal.invariant-merge
invariant-merge l = record {
  within : l.next ≤ l.width;
  passed : AreEntriesFrom l.next l.i l.entries;
  other_passed : AreEntriesFrom l.next l.j l.other_entries;
  short : l.apart ≤ list_size l.problem;
  own_up : l.problem.columns ≤ slice_index l.table.members.items l.one → l.apart ≤ slice_index l.table.members.items l.one - l.problem.columns + 1;
  other_up : l.problem.columns ≤ slice_index l.table.members.items l.other → l.apart ≤ slice_index l.table.members.items l.other - l.problem.columns + 1;
  same : (k : ℕ) → k < l.next → k < length l.table.others.items → l.problem.columns ≤ slice_index l.table.others.items k → slice_index l.table.others.items k - l.problem.columns + 1 < l.apart → lead l.problem (table_of l.table) l.column.place l.other l.one (slice_index l.table.others.items k - l.problem.columns + 1) ≡ pos 0;
}

abbrev pub decreases-merge : goal.decreases-merge
decreases-merge l = l.width - l.next

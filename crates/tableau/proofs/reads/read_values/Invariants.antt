use Rattle.std.proofs.Common.{◌≡◌, ℕ, ◌<◌, [], length, slice_index_or, pos}
use Rattle.sdc_base.specs.Systems.{number_at}
use Rattle.tableau.specs.SparseTables.{table_of}
use Rattle.tableau.proofs.ReadNumbers.{IsRead}
use Rattle.tableau.proofs.reads.read_values.Given as goal

abbrev pub invariant-loop-column : goal.invariant-loop-column
invariant-loop-column l = (k : ℕ) → k < l.column → slice_index_or l.values k (pos 0) ≡ pos 0

abbrev pub invariant-loop-k : goal.invariant-loop-k
invariant-loop-k l = IsRead l.k 0 l.table.members.items (λ i. number_at (slice_index_or (table_of l.table).rows i []) (length l.table.others.items)) l.values

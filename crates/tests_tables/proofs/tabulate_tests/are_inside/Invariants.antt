use Rattle.std.proofs.Common.{ℕ, ◌<◌, [], length, slice_index, slice_index_or}
use Rattle.tests_tables.proofs.tabulate_tests.are_inside.Given as goal

abbrev pub invariant-loop-k : goal.invariant-loop-k
invariant-loop-k l = (variable : ℕ) → variable < l.k → slice_index l.codes variable < length (slice_index_or l.book.trees variable [])

use Rattle.std.proofs.Common.{◌≡◌, ℕ, ◌<◌, ◌+◌, [], length, slice_index_or}
use Rattle.tests_releases.proofs.release_reading_tests.have_names.Given as goal

abbrev pub invariant-tables : goal.invariant-tables
invariant-tables l = (t : ℕ) → t < l.t → length (slice_index_or l.names t []) ≡ length (slice_index_or l.book.tables t []) + 1

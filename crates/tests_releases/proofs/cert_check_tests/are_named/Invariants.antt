use Rattle.std.proofs.Common.{◌≡◌, ◌<◌, ◌+◌, ℕ, [], length, get_or}
use Rattle.tests_releases.proofs.cert_check_tests.are_named.Given as goal

abbrev pub invariant-tables : goal.invariant-tables
invariant-tables l = (k : ℕ) → k < l.t → length (get_or l.names k []) ≡ length (get_or l.book.tables k []) + 1

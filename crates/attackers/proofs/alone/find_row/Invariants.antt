use Rattle.std.proofs.Common.{◌≡◌, ◌<◌, ℕ, false}
use Rattle.attackers.specs.Alone.{falls_at}
use Rattle.attackers.proofs.alone.find_row.Given as goal

abbrev pub invariant-rows : goal.invariant-rows
invariant-rows l = (k : ℕ) → k < l.place → falls_at l.book.trees l.rows l.name k ≡ false

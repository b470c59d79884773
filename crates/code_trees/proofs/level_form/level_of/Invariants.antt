use Rattle.std.proofs.Common.{ℕ, ◌<◌, get_or}
use Rattle.code_trees.proofs.level_form.level_of.Given as goal

abbrev pub invariant-loop-i : goal.invariant-loop-i
invariant-loop-i l = (k : ℕ) → k < l.i → get_or l.bounds k 0 < l.len

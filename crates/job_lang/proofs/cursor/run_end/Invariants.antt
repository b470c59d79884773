use Rattle.std.proofs.Common.{◌≡◌, ℕ, ◌<◌, get_or, false}
use Rattle.job_lang.specs.LineTokens.{is_break}
use Rattle.job_lang.proofs.cursor.run_end.Given as goal

abbrev pub invariant-loop-i : goal.invariant-loop-i
invariant-loop-i l = (k : ℕ) → k < l.i → is_break (get_or l.text k 0) ≡ false

use Rattle.std.proofs.Common.{◌≡◌, ℕ, ◌<◌, get_or, false}
use Rattle.sdc_base.specs.Blanks.{is_dark}
use Rattle.plain_text.proofs.blanks.without_front.Given as goal

abbrev pub invariant-loop-i : goal.invariant-loop-i
invariant-loop-i l = (k : ℕ) → k < l.i → is_dark (get_or l.bytes k 0) ≡ false

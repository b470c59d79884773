use Rattle.std.proofs.Common.{◌≡◌, ◌+◌, ◌≤◌, length, take}
use Rattle.std.specs.List.{suffix_len}
use Rattle.sdc_base.specs.Blanks.{is_blank}
use Rattle.plain_text.proofs.blanks.without_back.Given as goal

abbrev pub invariant-back : goal.invariant-back
invariant-back l = record { within : l.end ≤ length l.bytes; rest : l.end + suffix_len is_blank l.bytes ≡ length l.bytes + suffix_len is_blank (take l.end l.bytes) }

abbrev pub decreases-back : goal.decreases-back
decreases-back l = l.end

use Rattle.std.proofs.Common.{◌≡◌, ◌+◌, drop, false, option_map}
use Rattle.sdc_base.specs.Numbers.{place_of_stray_byte}
use Rattle.plain_text.proofs.units.first_stray.Given as goal

abbrev pub invariant-loop-i : goal.invariant-loop-i
invariant-loop-i l = place_of_stray_byte false l.bytes ≡ option_map (λ k. l.i + k) (place_of_stray_byte l.seen (drop l.i l.bytes))

use Rattle.std.proofs.Common.{◌≡◌, ◌++◌, flat_map, take}
use Rattle.std.specs.Prelude.{codes}
use Rattle.cell_intervals.specs.IntervalTexts.{line_text}
use Rattle.cell_intervals.proofs.texts.interval_text.Given as goal

abbrev pub invariant-intervals : goal.invariant-intervals
invariant-intervals l = l.text ≡ codes "cell,low,high\n" ++ flat_map line_text (take l.one-index l.intervals)

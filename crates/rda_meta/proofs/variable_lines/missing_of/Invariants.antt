use Rattle.std.proofs.Common.{◌≡◌, ◌+◌, ◌≤◌, ◌++◌, length, map}
use Rattle.sdc_base.specs.Blanks.{trim}
use Rattle.rda_meta.proofs.variable_lines.missing_of.Given as goal

abbrev pub invariant-words : goal.invariant-words
invariant-words l = record {
  codes : l.codes ++ map trim l.words ≡ map trim l.fn.words;
  count : length l.codes + length l.words ≡ length l.fn.words;
  few : length l.codes ≤ 2;
}

abbrev pub decreases-words : goal.decreases-words
decreases-words l = length l.words

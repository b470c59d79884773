use Rattle.std.proofs.Common.{◌≡◌, ◌+◌, ◌≤◌, false, [], length, drop}
use Rattle.std.specs.List.{list_any}
use Rattle.std.specs.Str.{bytes_eq}
use Rattle.sdc_base.specs.Trees.{codes}
use Rattle.code_trees.specs.Levels.{boundaries, codes_with_prefixes, first_level_fault}
use Rattle.code_trees.specs.Among.{AreAmong}
use Rattle.code_trees.proofs.level_form.gather.Given as goal

abbrev pub invariant-codes : goal.invariant-codes
invariant-codes l = record {
  few : length l.kept ≤ 5000;
  apart : list_any (bytes_eq l.total) l.kept ≡ false;
  among : AreAmong (codes l.seen) l.kept;
  kept : codes_with_prefixes (boundaries 0 l.widths) [] l.codes ≡ codes_with_prefixes (boundaries 0 l.widths) l.kept (drop l.code-index l.codes);
  told : first_level_fault l.total (boundaries 0 l.widths) 1 [] [] l.codes ≡ first_level_fault l.total (boundaries 0 l.widths) (length l.seen + 1) (codes l.seen) l.kept (drop l.code-index l.codes);
}

use Rattle.std.proofs.Common.{◌≡◌, ◌*◌, ◌≤◌, drop}
use Rattle.std.specs.List.{list_any}
use Rattle.std.specs.Str.{bytes_eq}
use Rattle.code_trees.specs.Levels.{boundaries, prefixes}
use Rattle.code_trees.proofs.level_code.begins_with_total.Given as goal

abbrev pub invariant-widths : goal.invariant-widths
invariant-widths l = record {
  few : l.end ≤ 255 * l.width-index;
  rest : list_any (bytes_eq l.total) (prefixes (boundaries 0 l.widths) l.code) ≡ list_any (bytes_eq l.total) (prefixes (boundaries l.end (drop l.width-index l.widths)) l.code);
}

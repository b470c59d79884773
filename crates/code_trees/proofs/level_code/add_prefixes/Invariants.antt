use Rattle.std.proofs.Common.{◌≡◌, ◌*◌, ◌≤◌, drop}
use Rattle.code_trees.specs.Levels.{boundaries, with_prefixes}
use Rattle.code_trees.proofs.level_code.add_prefixes.Given as goal

abbrev pub invariant-widths : goal.invariant-widths
invariant-widths l = record {
  few : l.end ≤ 255 * l.width-index;
  rest : with_prefixes (boundaries 0 l.widths) l.fn.kept l.code ≡ with_prefixes (boundaries l.end (drop l.width-index l.widths)) l.kept l.code;
}

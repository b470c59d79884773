use Rattle.std.proofs.Common.{◌≡◌, ◌*◌, ◌≤◌, ◌++◌, drop}
use Rattle.code_trees.specs.Levels.{boundaries}
use Rattle.code_trees.proofs.level_form.boundaries_of.Given as goal

abbrev pub invariant-widths : goal.invariant-widths
invariant-widths l = record { few : l.end ≤ 255 * l.width-index; rest : l.bounds.items ++ boundaries l.end (drop l.width-index l.widths) ≡ boundaries 0 l.widths }

use Rattle.std.proofs.Common.{◌≡◌, ◌++◌, List, length, map, take}
use Rattle.std.specs.List.{flat_map}
use Rattle.sdc_base.specs.declared.cell.Cell.{Cell}
use Rattle.interval_audit.specs.CellNumbers.{AreZeros}
use Rattle.interval_audit.specs.Groups.{Group, members}
use Rattle.interval_audit.specs.Labels.{forms_for}
use Rattle.interval_audit.specs.Problems.{row_of}
use Rattle.interval_audit.proofs.problem.push_all_forms.Given as goal

abbrev pub invariant-numbers : goal.invariant-numbers
invariant-numbers l = record {
  long : length l.scratch ≡ length l.fn.scratch;
  zeros : AreZeros l.scratch;
  rows : (cells : List Cell) (group : Group) → l.members ≡ members group l.system.cells → l.rows.items ≡ l.fn.rows.items ++ map (row_of l.system cells group) (flat_map forms_for (take l.number-index l.met));
}

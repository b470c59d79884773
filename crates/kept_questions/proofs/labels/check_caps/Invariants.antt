use Rattle.std.proofs.Common.{◌≡◌, length, take}
use Rattle.std.specs.List.{flat_map}
use Rattle.interval_audit.specs.Labels.{caps_for}
use Rattle.kept_questions.specs.Checks.{LabelsFit}
use Rattle.kept_questions.proofs.labels.check_caps.Given as goal

abbrev pub invariant-members : goal.invariant-members
invariant-members l = record {
  fit : LabelsFit l.checked 0 (flat_map (caps_for l.checked.cells.now) (take l.number-index l.members));
  next : l.place ≡ length (flat_map (caps_for l.checked.cells.now) (take l.number-index l.members));
}

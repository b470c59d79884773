use Rattle.std.proofs.Common.{◌≡◌, ◌+◌, length, take}
use Rattle.std.specs.List.{flat_map}
use Rattle.interval_audit.specs.Labels.{forms_for}
use Rattle.kept_questions.specs.Checks.{LabelsFit}
use Rattle.kept_questions.proofs.labels.check_forms.Given as goal

abbrev pub invariant-met : goal.invariant-met
invariant-met l = record {
  fit : LabelsFit l.checked l.first (flat_map forms_for (take l.number-index l.met));
  next : l.place ≡ l.first + length (flat_map forms_for (take l.number-index l.met));
}

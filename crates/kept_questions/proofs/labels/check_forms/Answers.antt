use Rattle.interval_audit.specs.Labels.{forms_for}
use Rattle.kept_questions.proofs.LabelChecks.{labels_next, places_next}
use Rattle.kept_questions.proofs.labels.check_forms.Goals as goal

pub met-preserved : goal.met-preserved
met-preserved c = record {
  fit = labels_next c.args.checked.now c.args.first c.met.place forms_for c.args.met.now c.met.number-index 0 c.met-test.true c.met.invariant.fit c.met.invariant.next c.in_ok-place.ensures.fit;
  next = places_next c.args.first c.met.place c.in_ok-place.place forms_for c.args.met.now c.met.number-index 0 c.met-test.true c.met.invariant.next c.in_ok-place.ensures.next;
}

use Rattle.std.proofs.Common.{◌≡◌, ◌+◌, length, take, arith}
use Rattle.std.specs.List.{flat_map}
use Rattle.interval_audit.specs.Labels.{caps_for}
use Rattle.kept_questions.proofs.LabelChecks.{labels_next, places_next}
use Rattle.kept_questions.proofs.labels.check_caps.Goals as goal

pub members-preserved : goal.members-preserved
members-preserved c =
    let before : c.members.place ≡ 0 + length (flat_map (caps_for c.args.checked.now.cells.now) (take c.members.number-index c.args.members.now)) = omega (arith, c.members.invariant.next) in
    let after : c.in_ok-place.place ≡ 0 + length (flat_map (caps_for c.args.checked.now.cells.now) (take (c.members.number-index + 1) c.args.members.now)) =
    places_next 0 c.members.place c.in_ok-place.place (caps_for c.args.checked.now.cells.now) c.args.members.now c.members.number-index 0 c.members-test.true before c.in_ok-place.ensures.next in
    record {
      fit = labels_next c.args.checked.now 0 c.members.place (caps_for c.args.checked.now.cells.now) c.args.members.now c.members.number-index 0 c.members-test.true c.members.invariant.fit before c.in_ok-place.ensures.fit;
      next = omega (arith, after);
    }

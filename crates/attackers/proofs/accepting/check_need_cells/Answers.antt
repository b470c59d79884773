use Rattle.std.proofs.Common.{◌≡◌, ◌∙◌, length, sym, ap, arith, Err}
use Rattle.worlds.specs.ProtectFaults.{line_number}
use Rattle.attackers.specs.declared.faults.ExtraFault.TheVariants as fault
use Rattle.attackers.proofs.Listed.{need_within, need_next, need_wrong, need_few}
use Rattle.attackers.proofs.accepting.check_need_cells.Goals as goal

pub returns-then-not-is_need_at : goal.returns-then-not-is_need_at
returns-then-not-is_need_at c =
    ap (λ n. Err (fault.NeedCell n)) c.number_of.ensures
    ∙ sym (need_wrong c.args.cells.now c.args.soles.now c.args.subjects.now c.args.needs.now c.loop-place.place c.index-needs-place.result c.loop-place-test.true c.index-needs-place.is (sym c.is_need_at.ensures ∙ c.if-not-is_need_at.true))
    ∙ c.loop-place.invariant.same

pub loop-place-preserved : goal.loop-place-preserved
loop-place-preserved c =
    let ok = sym c.is_need_at.ensures ∙ c.if-not-is_need_at.false in
    record {
      same = sym (need_next c.args.cells.now c.args.soles.now c.args.subjects.now c.args.needs.now c.loop-place.place c.index-needs-place.result c.loop-place-test.true c.index-needs-place.is ok) ∙ c.loop-place.invariant.same;
      within = omega (arith, need_within c.args.cells.now c.args.soles.now c.args.subjects.now c.loop-place.place c.index-needs-place.result ok);
    }

pub returns-then-needs-subjects : goal.returns-then-needs-subjects
returns-then-needs-subjects c =
    let same : c.loop-place.place ≡ length c.args.needs.now = omega (arith, c.loop-place-test.false, c.loop-place.auto.place-end) in
    ap (λ n. Err (fault.NeedCell n)) (c.number_of-then-needs-subjects.ensures ∙ ap line_number (sym same))
    ∙ sym (need_few c.args.cells.now c.args.soles.now c.args.subjects.now c.args.needs.now c.loop-place.place c.loop-place-test.false (omega (arith, same, c.if-needs-subjects.true)))
    ∙ c.loop-place.invariant.same

use Rattle.std.proofs.Common.{◌≡◌, ◌<◌, ◌≤◌, length, slice_index, slice_set, ap, arith, sym, ◌∙◌}
use Rattle.std.proofs.lemmas.List.{get_or_read, length-set}
use Rattle.sdc_base.proofs.Forest.{falls-set}
use Rattle.sdc_base.proofs.Shortening.{PointsPast, ends-past, forest-past, leads-past, meet-past}
use Rattle.sdc_base.proofs.connected.lowest.Goals as goal

pub steps-preserved : goal.steps-preserved
steps-preserved c =
    let lower = c.steps.lower.items in
    let at = c.steps.at in
    let next = c.index-next.result.now in
    let past = c.index-past.result.now in
    let inside = c.steps.invariant.within in
    let low = c.steps.invariant.falls at in
    let tested : c.index.result.now ≡ slice_index lower at = get_or_read lower at c.index.result.now inside c.index.ensures 0 in
    let next_is : next ≡ slice_index lower at = get_or_read lower at next inside c.index-next.ensures 0 in
    let next_inside : next < length lower = omega (arith, next_is, low, inside) in
    let past_is : past ≡ slice_index lower next = get_or_read lower next past next_inside c.index-past.ensures 0 in
    let lower_still = c.steps.invariant.falls next in
    let past_low : past ≤ at = omega (arith, past_is, lower_still, next_is, low) in
    let long : length (slice_set lower at past) ≡ length lower = length-set lower at past in
    let points : PointsPast lower at past = record { inside = inside; lower_next = omega (arith, tested, low, c.steps-test.true); then_past = sym (past_is ∙ ap (slice_index lower) next_is) } in
    record {
      forest = λ relations flags cells was. forest-past relations flags cells lower at past points (c.steps.invariant.forest relations flags cells was);
      kept = λ one other meet. meet-past lower at past c.steps.invariant.falls points one other (c.steps.invariant.kept one other meet);
      ends = λ root end. ends-past lower at past root points (c.steps.invariant.ends root end);
      falls = falls-set lower at past c.steps.invariant.falls past_low;
      long = long ∙ c.steps.invariant.long;
      leads = leads-past lower at past c.args.cell points c.steps.invariant.leads;
      within = omega (arith, past_low, inside, long);
    }

use Rattle.std.proofs.Common.{Bool, List, subst, sym}
use Rattle.sdc_base.specs.declared.side.Side.TheVariants.{Above, Below}
use Rattle.sdc_base.specs.declared.system.System.{System}
use Rattle.interval_audit.specs.Ends.{IsTrueEnd, IsWholeEnd}
use Rattle.cell_intervals.specs.Intervals.{HasWholeEnds, IsIntervalOf, IsWholeUpperEnd}
use Rattle.cell_intervals.specs.declared.interval.UpperEnd.{UpperEnd}
use Rattle.rounding_audit.proofs.Ending.{interval_closed, interval_high, interval_low}
use Rattle.rounding_audit.proofs.auditing.values_from.Goals as goal

pub interval_from-found-requires-clause-below : goal.interval_from-found-requires-clause-below
interval_from-found-requires-clause-below c =
    let r = c.args.reader.now in
    subst (λ (own : System). IsTrueEnd own r.known.now r.hidden.now.flags c.args.number Below c.args.ends.now.below) (sym c.system.ensures) c.requires.below

pub interval_from-found-requires-clause-above : goal.interval_from-found-requires-clause-above
interval_from-found-requires-clause-above c =
    let r = c.args.reader.now in
    subst (λ (own : System). IsTrueEnd own r.known.now r.hidden.now.flags c.args.number Above c.args.ends.now.above) (sym c.system.ensures) c.requires.above

pub unreachable-requires : goal.unreachable-requires
unreachable-requires c =
    let r = c.args.reader.now in
    let found = c.interval_from-found in
    let interval : IsIntervalOf r.system.now r.known.now r.hidden.now.flags found.result = subst (λ (own : System). IsIntervalOf own r.known.now r.hidden.now.flags found.result) c.system.ensures found.ensures.interval in
    interval_closed r.system.now r.cells.now r.values.now r.base r.known.now c.args.number found.result r.known_are r.truths found.ensures.number c.in_default.is
    (subst (λ (flags : List Bool). IsIntervalOf r.system.now r.known.now flags found.result) r.flags interval)

pub returns-clause-low : goal.returns-clause-low
returns-clause-low c =
    let r = c.args.reader.now in
    let found = c.interval_from-found in
    let interval : IsIntervalOf r.system.now r.known.now r.hidden.now.flags found.result = subst (λ (own : System). IsIntervalOf own r.known.now r.hidden.now.flags found.result) c.system.ensures found.ensures.interval in
    interval_low r.system.now r.known.now r.hidden.now.flags c.args.number found.result found.ensures.number interval

pub returns-clause-high : goal.returns-clause-high
returns-clause-high c =
    let r = c.args.reader.now in
    let found = c.interval_from-found in
    let interval : IsIntervalOf r.system.now r.known.now r.hidden.now.flags found.result = subst (λ (own : System). IsIntervalOf own r.known.now r.hidden.now.flags found.result) c.system.ensures found.ensures.interval in
    interval_high r.system.now r.known.now r.hidden.now.flags c.args.number found.result c.in-At.high found.ensures.number c.in-At.is interval

pub returns-clause-whole : goal.returns-clause-whole
returns-clause-whole c =
    let r = c.args.reader.now in
    let found = c.interval_from-found in
    let told : IsWholeEnd r.system.now r.known.now r.hidden.now.flags c.args.number Below c.args.ends.now.below → IsWholeEnd r.system.now r.known.now r.hidden.now.flags c.args.number Above c.args.ends.now.above → HasWholeEnds r.system.now r.known.now r.hidden.now.flags found.result =
    subst (λ (own : System). IsWholeEnd own r.known.now r.hidden.now.flags c.args.number Below c.args.ends.now.below → IsWholeEnd own r.known.now r.hidden.now.flags c.args.number Above c.args.ends.now.above → HasWholeEnds own r.known.now r.hidden.now.flags found.result) c.system.ensures found.ensures.whole in
    λ ends.
    let whole = told ends.below ends.above in
    let high = subst (λ (end : UpperEnd). IsWholeUpperEnd r.system.now r.known.now r.hidden.now.flags found.result.cell whole.cell end) c.in-At.is whole.high in
    (whole.low.0, high.0)

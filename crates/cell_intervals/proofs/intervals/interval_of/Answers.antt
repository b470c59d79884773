use Rattle.std.proofs.Common.{subst, sym}
use Rattle.sdc_base.specs.declared.side.Side.TheVariants.{Above, Below}
use Rattle.sdc_base.specs.declared.system.System.{System}
use Rattle.interval_audit.specs.Ends.{IsTrueEnd}
use Rattle.cell_intervals.specs.Intervals.{IsIntervalOf, KeepsWholeEnds}
use Rattle.cell_intervals.proofs.intervals.interval_of.Goals as goal

pub signed_interval-requires : goal.signed_interval-requires
signed_interval-requires c = record { ground = c.requires.ground; hidden = c.requires.hidden; some_steps = c.requires.limit }

pub interval_from-requires-clause-below : goal.interval_from-requires-clause-below
interval_from-requires-clause-below c =
    subst (λ (own : System). IsTrueEnd own c.args.cells.now c.args.hidden.now.flags c.args.cell Below c.in_ok-ends.ends.below) (sym c.system.ensures) c.in_ok-ends.ensures.below

pub interval_from-requires-clause-above : goal.interval_from-requires-clause-above
interval_from-requires-clause-above c =
    subst (λ (own : System). IsTrueEnd own c.args.cells.now c.args.hidden.now.flags c.args.cell Above c.in_ok-ends.ends.above) (sym c.system.ensures) c.in_ok-ends.ensures.above

pub returns-clause-right : goal.returns-clause-right
returns-clause-right c =
    subst (λ (own : System). IsIntervalOf own c.args.cells.now c.args.hidden.now.flags c.interval_from.result) c.system.ensures c.interval_from.ensures.interval

pub returns-clause-whole : goal.returns-clause-whole
returns-clause-whole c = λ signs are.
    subst (λ (own : System). KeepsWholeEnds own c.args.cells.now c.args.hidden.now.flags c.args.cell c.in_ok-ends.ends c.interval_from.result) c.system.ensures c.interval_from.ensures.whole
    (c.in_ok-ends.ensures.below_whole signs are) (c.in_ok-ends.ensures.above_whole signs are)

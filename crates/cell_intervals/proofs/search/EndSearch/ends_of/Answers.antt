use Rattle.std.proofs.Common.{subst}
use Rattle.sdc_base.specs.declared.side.Side.TheVariants.{Above, Below}
use Rattle.sdc_base.specs.declared.system.System.{System}
use Rattle.interval_audit.specs.Ends.{IsTrueEnd}
use Rattle.cell_intervals.proofs.search.EndSearch.ends_of.Goals as goal

pub signed_interval-requires : goal.signed_interval-requires
signed_interval-requires c = record { ground = c.requires.ground; hidden = c.requires.hidden; some_steps = c.requires.limit }

pub returns-in-Some-clause-below : goal.returns-in-Some-clause-below
returns-in-Some-clause-below c =
    subst (λ (own : System). IsTrueEnd own c.args.cells.now c.args.hidden.now.flags c.args.cell Below c.in-Some.ends.below) c.system-own.ensures c.in-Some.ensures.below

pub returns-in-Some-clause-above : goal.returns-in-Some-clause-above
returns-in-Some-clause-above c =
    subst (λ (own : System). IsTrueEnd own c.args.cells.now c.args.hidden.now.flags c.args.cell Above c.in-Some.ends.above) c.system-own.ensures c.in-Some.ensures.above

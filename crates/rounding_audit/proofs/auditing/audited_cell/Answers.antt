use Rattle.std.proofs.Common.{◌≡◌, Bool, List, subst, sym, true}
use Rattle.sdc_base.specs.HiddenSets.{is_hidden}
use Rattle.cell_intervals.specs.IntervalFaults.{HasBothEnds}
use Rattle.rounding_audit.proofs.ReaderWorlds.{hidden_all}
use Rattle.rounding_audit.proofs.auditing.audited_cell.Goals as goal

pub signed_interval-requires : goal.signed_interval-requires
signed_interval-requires c =
    let r = c.args.reader.now in
    record {
      ground = r.ground;
      hidden = subst (λ (flags : List Bool). is_hidden flags c.args.number ≡ true) (sym r.flags) (hidden_all r.system.now.cells c.args.number c.requires.inside);
      some_steps = c.requires.limit;
    }

pub returns-clause-ended : goal.returns-clause-ended
returns-clause-ended c =
    let r = c.args.reader.now in
    let ends = c.in_ok-ends.ends in
    let told = c.in_ok-ends.ensures in
    subst (λ (flags : List Bool). HasBothEnds r.system.now r.known.now flags c.args.number) r.flags (record {
      below = ends.below;
      above = ends.above;
      below_right = told.below;
      below_read = told.below_read;
      above_right = told.above;
      above_read = told.above_read;
    })

pub returns-clause-whole : goal.returns-clause-whole
returns-clause-whole c = λ signs are. c.cell_from.ensures.whole (record { below = c.in_ok-ends.ensures.below_whole signs are; above = c.in_ok-ends.ensures.above_whole signs are })

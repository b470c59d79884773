use Rattle.modular_plan.proofs.OpenCorners.{corners-may}
use Rattle.modular_plan.proofs.trails.trail_by.Goals as goal

pub returns-clause-corners : goal.returns-clause-corners
returns-clause-corners g c = corners-may c.args.book.now c.args.cells.now c.in_ok-trail.trail.steps c.in_ok-trail.ensures.whole_steps

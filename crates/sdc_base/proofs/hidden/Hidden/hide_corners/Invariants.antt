use Rattle.std.proofs.Common.{◌≡◌, take}
use Rattle.sdc_base.specs.HiddenSets.{hide_cells}
use Rattle.sdc_base.specs.Trails.{corners_of}
use Rattle.sdc_base.proofs.hidden.Hidden.hide_corners.Given as goal

abbrev pub invariant-loop-step : goal.invariant-loop-step
invariant-loop-step l = l.self.flags ≡ hide_cells l.fn.self.flags (corners_of (take l.step-index l.steps))

use Rattle.std.proofs.Common.{◌≡◌, take}
use Rattle.repair.specs.HidingOrder.{hide_subjects}
use Rattle.repair.proofs.planned.hide_subjects.Given as goal

abbrev pub invariant-loop-repair : goal.invariant-loop-repair
invariant-loop-repair l = l.hidden.flags ≡ hide_subjects l.fn.hidden.flags (take l.repair-index l.repairs)

use Rattle.std.proofs.Common.{◌≡◌, take}
use Rattle.attackers.specs.Extras.{subjects_of}
use Rattle.attackers.proofs.collecting.list_subjects.Given as goal

abbrev pub invariant-needs : goal.invariant-needs
invariant-needs l = l.cells ≡ subjects_of (take l.need-index l.needs)

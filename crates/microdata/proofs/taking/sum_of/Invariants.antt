use Rattle.std.proofs.Common.{◌≡◌, ◌*◌, ◌≤◌, sum, take}
use Rattle.microdata.proofs.taking.sum_of.Given as goal

abbrev pub invariant-widths : goal.invariant-widths
invariant-widths l = (l.sum ≡ sum (take l.width-index l.widths)) × (l.sum ≤ 255 * l.width-index)

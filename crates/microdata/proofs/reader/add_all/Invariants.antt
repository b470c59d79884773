use Rattle.std.proofs.Common.{◌≡◌, take}
use Rattle.microdata.proofs.reader.add_all.Given as goal

abbrev pub invariant-listed : goal.invariant-listed
invariant-listed l = l.codes ≡ take l.code-index l.listed

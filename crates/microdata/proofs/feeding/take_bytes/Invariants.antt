use Rattle.std.proofs.Common.{◌≡◌, ◌++◌, length, false}
use Rattle.sdc_base.specs.Lines.{HasNoFeed}
use Rattle.microdata.specs.Feeding.{is_too_long, SaysAsFrom}
use Rattle.microdata.specs.Keeping.{AreSoundRecords}
use Rattle.microdata.proofs.feeding.take_bytes.Given as goal

abbrev pub invariant-lines : goal.invariant-lines
invariant-lines l = record {
  sound : AreSoundRecords l.measures l.so_far;
  plain : HasNoFeed l.begun.items;
  short : is_too_long l.begun.items ≡ false;
  says : SaysAsFrom l.measures l.fn.so_far (l.fn.begun.items ++ l.piece) l.so_far (l.begun.items ++ l.rest);
}

abbrev pub decreases-lines : goal.decreases-lines
decreases-lines l = length l.rest

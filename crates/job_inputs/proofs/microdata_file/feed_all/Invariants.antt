use Rattle.std.proofs.Common.{◌≡◌, ℕ, ◌+◌, ◌-◌, ◌≤◌, List, [], Some}
use Rattle.office_io.specs.Shelves.{HasOnlyRead}
use Rattle.microdata.specs.Feeding.{HasRead}
use Rattle.microdata.specs.declared.layout.Layout.{Layout}
use Rattle.job_inputs.specs.ReadFiles.{limit}
use Rattle.job_inputs.proofs.Feeding.{IsFed}
use Rattle.job_inputs.proofs.microdata_file.feed_all.Given as goal

abbrev pub invariant-pieces : goal.invariant-pieces
invariant-pieces g l = record {
  short : l.taken ≤ limit;
  count : (g.S.Shelf.state l.shelf).taken ≡ l.taken;
  each_takes : (g.S.Shelf.state l.shelf).reads ≤ l.taken;
  empty : (g.S.Shelf.state l.shelf).empty_reads ≡ 0;
  fed : (layout : Layout) (bytes : List ℕ) → (g.S.Shelf.state l.fn.shelf).left ≡ Some bytes → HasRead l.fn.reader layout [] → IsFed layout bytes l.reader (g.S.Shelf.state l.shelf).left l.taken;
  some : (layout : Layout) → HasRead l.fn.reader layout [] → (bytes : List ℕ) × HasRead l.reader layout bytes;
  last : (g.S.Shelf.state l.shelf).last ≡ (g.S.Shelf.state l.fn.shelf).last;
  only_read : HasOnlyRead (g.S.Shelf.state l.fn.shelf) (g.S.Shelf.state l.shelf);
}

abbrev pub decreases-pieces : goal.decreases-pieces
decreases-pieces g l = limit + 1 - l.taken

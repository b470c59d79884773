use Rattle.std.proofs.Common.{◌≡◌, ◌+◌, ◌-◌, ◌≤◌, length}
use Rattle.sdc_base.specs.WhereTold.{WhereTold}
use Rattle.office_io.proofs.Told.{IsGot}
use Rattle.office_io.specs.Files.{held_name}
use Rattle.office_io.specs.Shelves.{HasOnlyRead}
use Rattle.office_io.proofs.reading.read_all.Given as goal

abbrev pub invariant-pieces : goal.invariant-pieces
invariant-pieces g l = record {
  got : length l.bytes.items ≤ l.limit;
  taken : (g.S.Shelf.state l.shelf).taken ≡ length l.bytes.items;
  reads : (g.S.Shelf.state l.shelf).reads ≤ length l.bytes.items;
  empty : (g.S.Shelf.state l.shelf).empty_reads ≡ 0;
  left : WhereTold (g.S.Shelf.state l.fn.shelf).files (λ fs. IsGot (fs l.fn.name) l.bytes.items (g.S.Shelf.state l.shelf).left);
  last : WhereTold (g.S.Shelf.state l.fn.shelf).files (λ fs. (g.S.Shelf.state l.shelf).last ≡ held_name fs l.fn.name);
  only_read : HasOnlyRead (g.S.Shelf.state l.fn.shelf) (g.S.Shelf.state l.shelf);
}

abbrev pub decreases-pieces : goal.decreases-pieces
decreases-pieces g l = l.limit + 1 - length l.bytes.items

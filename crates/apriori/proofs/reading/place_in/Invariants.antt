use Rattle.std.proofs.Common.{◌≡◌, length}
use Rattle.sdc_base.specs.Cells.{trees_of}
use Rattle.apriori.specs.KnownCells.{place_in}
use Rattle.apriori.proofs.Places.{behind, from}
use Rattle.apriori.proofs.reading.place_in.Given as goal

abbrev pub invariant-variables : goal.invariant-variables
invariant-variables l = record {
  told : behind l.place.items (from l.book.trees l.spanned l.at l.fields) ≡ place_in (trees_of l.book.trees l.spanned) l.fn.fields;
  count : length l.place.items ≡ l.at;
}

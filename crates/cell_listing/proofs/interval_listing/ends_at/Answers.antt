use Rattle.std.proofs.Common.{◌≡◌, List, Option, Some, slice_get, length, refl, ap, sym}
use Rattle.std.proofs.lemmas.Option.{slice_get_read}
use Rattle.cell_listing.specs.IntervalListings.{end_fields}
use Rattle.cell_listing.specs.declared.cell_range.CellRange.{CellRange}
use Rattle.cell_listing.proofs.Walking.{none_here}
use Rattle.cell_listing.proofs.interval_listing.ends_at.Goals as goal

pub returns-then-range-number : goal.returns-then-range-number
returns-then-range-number c =
    let looked = c.in-Some.ensures.lookup in
    let ranges : List CellRange = c.args.ranges.now in
    let here : slice_get ranges c.args.place ≡ Some c.in-Some.range.now = slice_get_read ranges (length ranges) c.args.place c.in-Some.range.now refl looked.3.0 looked.1 in
    ap (λ (range : Option CellRange). end_fields range) (sym (none_here ranges c.args.place c.args.number c.in-Some.range.now c.requires.next here c.if-range-number.true))

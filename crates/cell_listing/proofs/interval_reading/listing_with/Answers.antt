use Rattle.std.proofs.Common.{◌≡◌, ℕ, List, length, Err, ap, sym, subst, ◌∙◌}
use Rattle.std.proofs.lemmas.Result.{err_from_is_err_and}
use Rattle.linked_tables.specs.BookCells.{cells as cells_in}
use Rattle.cell_listing.specs.IntervalFiles.{hidden_in, IsIntervalFileOf}
use Rattle.cell_listing.specs.IntervalListings.{AscendFrom}
use Rattle.cell_listing.specs.Outcomes.{is_listed_hidden}
use Rattle.cell_listing.specs.declared.cell_range.CellRange.{CellRange}
use Rattle.cell_listing.proofs.HiddenNumbers.{hidden_of_read}
use Rattle.cell_listing.proofs.IntervalStops.{lines_stop}
use Rattle.cell_listing.proofs.Walking.{ascend_of}
use Rattle.cell_listing.proofs.interval_reading.listing_with.Goals as goal

pub interval_listing_for-requires-clause-ascending : goal.interval_listing_for-requires-clause-ascending
interval_listing_for-requires-clause-ascending c =
    let read = c.args.read.now in
    let its = subst (λ (cells : List ℕ). IsIntervalFileOf cells c.in_ok-ranges.ranges c.args.bytes.now) c.as_slice.ensures c.in_ok-ranges.ensures.ranges in
    subst (λ (ranges : List CellRange). AscendFrom 0 ranges) (sym c.as_slice-2.ensures)
    (ascend_of (is_listed_hidden read.certificate read.extra) 0 (length (cells_in read.job.book)) c.in_ok-ranges.ranges (its.cells ∙ c.in_ok-hidden.ensures))

pub returns-in_err-ranges : goal.returns-in_err-ranges
returns-in_err-ranges c = λ released got.
    let p = err_from_is_err_and c.from_residual-in_err-ranges.result c.from_residual-in_err-ranges.ensures.1 in
    let same : c.as_slice.result.now ≡ hidden_in released = c.as_slice.ensures ∙ c.in_ok-hidden.ensures ∙ hidden_of_read released c.args.read.now c.requires.ready got.is in
    rw (p.1, p.2) (lines_stop released c.as_slice.result.now c.args.bytes.now c.in_err-ranges.field-0.0 same (λ number is. c.in_err-ranges.ensures.none number (ap Err is)))

pub returns : goal.returns
returns c = λ released got.
    let same : c.as_slice.result.now ≡ hidden_in released = c.as_slice.ensures ∙ c.in_ok-hidden.ensures ∙ hidden_of_read released c.args.read.now c.requires.ready got.is in
    c.in_ok-listing.ensures.over_records released c.args.bytes.now got
    (subst (λ (ranges : List CellRange). IsIntervalFileOf (hidden_in released) ranges c.args.bytes.now) (sym c.as_slice-2.ensures) (subst (λ (cells : List ℕ). IsIntervalFileOf cells c.in_ok-ranges.ranges c.args.bytes.now) same c.in_ok-ranges.ensures.ranges))

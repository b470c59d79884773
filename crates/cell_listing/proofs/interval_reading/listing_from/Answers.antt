use Rattle.std.proofs.Common.{ℕ, List, Err, ap, subst}
use Rattle.std.proofs.lemmas.Result.{err_from_is_err_and}
use Rattle.cell_listing.specs.IntervalRuns.{IsListedWith}
use Rattle.cell_listing.proofs.IntervalStops.{file_ends, file_stops}
use Rattle.cell_listing.proofs.interval_reading.listing_from.Goals as goal

pub returns-in_err-bytes : goal.returns-in_err-bytes
returns-in_err-bytes g c = λ released got.
    let p = err_from_is_err_and c.from_residual.result c.from_residual.ensures.1 in
    let said = c.in_err-bytes.ensures in
    rw (p.1, p.2) (file_stops released c.args.file.now c.in_err-bytes.field-0.0 _ _ (record {
      absent = λ is. said.absent (ap Err is);
      failed = λ is. said.failed (ap Err is);
      taken = λ is. said.too_long.0 (ap Err is);
      longer = λ is. said.longer (ap Err is);
      looked_for = said.looked_for;
      only_read = said.only_read;
    }))

pub returns : goal.returns
returns g c = λ released got.
    let said = c.in_ok-bytes.ensures in
    file_ends released c.args.file.now c.in_ok-bytes.bytes c.listing_with.result _ _ said.whole_file said.looked_for said.only_read
    (subst (λ (bytes : List ℕ). IsListedWith released bytes c.listing_with.result) c.as_slice.ensures.value (c.listing_with.ensures released got))

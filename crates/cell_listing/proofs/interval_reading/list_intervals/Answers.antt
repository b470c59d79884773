use Rattle.std.proofs.Common.{Ok, Err, ap}
use Rattle.std.proofs.lemmas.Result.{err_from_is_err_and}
use Rattle.cell_listing.proofs.IntervalStops.{run_past, run_refused}
use Rattle.cell_listing.proofs.interval_reading.list_intervals.Goals as goal

pub listing_from-requires : goal.listing_from-requires
listing_from-requires g c = record { ready = c.in_ok-read.ensures.accepted.ready }

pub returns-in_err-read : goal.returns-in_err-read
returns-in_err-read g c =
    let p = err_from_is_err_and c.from_residual.result c.from_residual.ensures.1 in
    let said = c.in_err-read.ensures in
    rw (p.1, p.2) (run_refused c.args.name.now c.args.file.now c.in_err-read.field-0.0 _ _ (λ fs told. said.told fs told) (λ fs told input is. said.came_to fs told input (ap Err is)) said.shelf (λ input is. said.cause input (ap Err is)))

pub returns-in_err-listing : goal.returns-in_err-listing
returns-in_err-listing g c =
    let p = err_from_is_err_and c.from_residual-in_err-listing.result c.from_residual-in_err-listing.ensures.1 in
    let said = c.in_ok-read.ensures in
    rw (p.1, p.2) (run_past c.args.name.now c.args.file.now c.in_ok-read.read (Err c.in_err-listing.field-0.0) _ _ _ said.told said.accepted said.shelf.only_looked c.in_err-listing.ensures)

pub returns : goal.returns
returns g c =
    let said = c.in_ok-read.ensures in
    run_past c.args.name.now c.args.file.now c.in_ok-read.read (Ok c.in_ok-listing.listing) _ _ _ said.told said.accepted said.shelf.only_looked c.in_ok-listing.ensures

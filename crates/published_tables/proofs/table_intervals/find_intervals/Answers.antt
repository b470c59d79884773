use Rattle.std.proofs.Common.{Ok, refl}
use Rattle.std.proofs.lemmas.Result.{err_from_is_err_and}
use Rattle.job_inputs.proofs.Causes.{cause-as, come-on}
use Rattle.published_tables.proofs.Answering.{refused_for, shown_comes, shown_found}
use Rattle.published_tables.proofs.Coming.{ok_and}
use Rattle.published_tables.proofs.Stopping.{table_stops, table_found, table_cause, table_comes_to, shown_cause, shown_comes_to}
use Rattle.published_tables.specs.HiddenLines.{flags_in}
use Rattle.published_tables.specs.TableIntervals.{intervals_of_tables}
use Rattle.published_tables.specs.TablesOnShelf.{shelved_of, IntervalsComeTo, IsShelvedOf}
use Rattle.published_tables.specs.declared.interval_file.IntervalFile.{IntervalFile}
use Rattle.published_tables.proofs.table_intervals.find_intervals.Goals as goal

-- ---- the inputs and the tables' files

pub returns-in_err-shelved-clause-came_to : goal.returns-in_err-shelved-clause-came_to
returns-in_err-shelved-clause-came_to g c =
    λ fs told.
    let p = err_from_is_err_and c.from_residual.result c.from_residual.ensures.1 in
    rw (p.1, p.2) (come-on c.in_err-shelved.field-0.0 (IntervalsComeTo fs c.args.name.now c.args.out.now) (IntervalsComeTo fs c.args.name.now c.args.out.now) fs (g.S.Shelf.state c.read_shelved.new.shelf) (λ f held is. is) (c.in_err-shelved.ensures.came_to fs told))

pub returns-in_err-shelved-clause-cause : goal.returns-in_err-shelved-clause-cause
returns-in_err-shelved-clause-cause g c =
    let p = err_from_is_err_and c.from_residual.result c.from_residual.ensures.1 in
    rw (p.1, p.2) (cause-as c.in_err-shelved.field-0.0 (g.S.Shelf.state c.args.shelf.now) (g.S.Shelf.state c.read_shelved.new.shelf) c.in_err-shelved.ensures.cause)

-- ---- the tables

pub returns-in_err-hidden-clause-told : goal.returns-in_err-hidden-clause-told
returns-in_err-hidden-clause-told g c =
    λ fs told.
    let p = err_from_is_err_and c.from_residual-in_err-hidden.result c.from_residual-in_err-hidden.ensures.1 in
    let shelved = c.in_ok-shelved.shelved in
    let meant = shelved_of fs c.args.name.now c.args.out.now in
    let one = ok_and (λ it. IsShelvedOf it shelved) meant (c.in_ok-shelved.ensures.told fs told) in
    rw (p.1, p.2) (table_stops intervals_of_tables (flags_in shelved.job shelved.tables) meant c.in_err-hidden.field-0.0 c.in_err-hidden.ensures.exact (λ why first. refused_for intervals_of_tables meant one.0 shelved why one.1 one.2 first))

pub returns-in_err-hidden-clause-found : goal.returns-in_err-hidden-clause-found
returns-in_err-hidden-clause-found g c =
    let p = err_from_is_err_and c.from_residual-in_err-hidden.result c.from_residual-in_err-hidden.ensures.1 in
    let shelved = c.in_ok-shelved.shelved in
    let some = c.in_ok-shelved.ensures.settled in
    rw (p.1, p.2) (table_found intervals_of_tables (flags_in shelved.job shelved.tables) c.in_err-hidden.field-0.0 c.in_err-hidden.ensures.exact (λ why first. (some.0, some.2, refused_for intervals_of_tables (Ok some.0) some.0 shelved why refl some.1 first)))

pub returns-in_err-hidden-clause-came_to : goal.returns-in_err-hidden-clause-came_to
returns-in_err-hidden-clause-came_to g c =
    λ fs told.
    let p = err_from_is_err_and c.from_residual-in_err-hidden.result c.from_residual-in_err-hidden.ensures.1 in
    rw (p.1, p.2) (table_comes_to IntervalFile c.in_err-hidden.field-0.0 _ fs (g.S.Shelf.state c.read_shelved.new.shelf))

pub returns-in_err-hidden-clause-cause : goal.returns-in_err-hidden-clause-cause
returns-in_err-hidden-clause-cause g c =
    let p = err_from_is_err_and c.from_residual-in_err-hidden.result c.from_residual-in_err-hidden.ensures.1 in
    rw (p.1, p.2) (table_cause IntervalFile c.in_err-hidden.field-0.0 (g.S.Shelf.state c.args.shelf.now) (g.S.Shelf.state c.read_shelved.new.shelf))

-- ---- the hidden set

pub returns-clause-told : goal.returns-clause-told
returns-clause-told g c =
    λ fs told.
    let shelved = c.in_ok-shelved.shelved in
    let meant = shelved_of fs c.args.name.now c.args.out.now in
    let one = ok_and (λ it. IsShelvedOf it shelved) meant (c.in_ok-shelved.ensures.told fs told) in
    shown_comes intervals_of_tables meant one.0 shelved c.in_ok-hidden.hidden.flags c.file_for.result one.1 one.2 c.in_ok-hidden.ensures.exact c.file_for.ensures

pub returns-clause-found : goal.returns-clause-found
returns-clause-found g c =
    let some = c.in_ok-shelved.ensures.settled in
    shown_found intervals_of_tables some.0 c.in_ok-shelved.shelved c.in_ok-hidden.hidden.flags c.file_for.result some.2 some.1 c.in_ok-hidden.ensures.exact c.file_for.ensures

pub returns-clause-came_to : goal.returns-clause-came_to
returns-clause-came_to g c = λ fs told. shown_comes_to intervals_of_tables c.in_ok-shelved.shelved.job c.in_ok-hidden.hidden.flags c.file_for.result _ fs (g.S.Shelf.state c.read_shelved.new.shelf) c.file_for.ensures

pub returns-clause-cause : goal.returns-clause-cause
returns-clause-cause g c = shown_cause intervals_of_tables c.in_ok-shelved.shelved.job c.in_ok-hidden.hidden.flags c.file_for.result (g.S.Shelf.state c.args.shelf.now) (g.S.Shelf.state c.read_shelved.new.shelf) c.file_for.ensures

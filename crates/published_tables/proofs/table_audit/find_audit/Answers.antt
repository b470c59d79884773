use Rattle.std.proofs.Common.{List, Ok, refl, subst, ℤ}
use Rattle.std.proofs.lemmas.Result.{err_from_is_err_and}
use Rattle.job_inputs.proofs.Causes.{cause-as, come-on}
use Rattle.published_tables.proofs.Answering.{refused_for, shown_comes, shown_found}
use Rattle.published_tables.proofs.Coming.{ok_and}
use Rattle.published_tables.proofs.Stopping.{table_stops, table_found, table_cause, table_comes_to, shown_cause, shown_comes_to}
use Rattle.job_inputs.specs.declared.purpose.Purpose.TheVariants.{Audit}
use Rattle.published_tables.specs.TableAudits.{audit_of_tables}
use Rattle.published_tables.specs.TableFiles.{ComesFrom}
use Rattle.published_tables.specs.ShownValues.{values_read}
use Rattle.published_tables.specs.TablesOnShelf.{shelved_for, ComesFor, IsShelvedOf}
use Rattle.published_tables.specs.declared.audit_file.AuditFile.{AuditFile}
use Rattle.published_tables.proofs.table_audit.find_audit.Goals as goal

-- ---- the inputs and the tables' files

pub returns-in_err-shelved-clause-came_to : goal.returns-in_err-shelved-clause-came_to
returns-in_err-shelved-clause-came_to g c =
    λ fs told.
    let p = err_from_is_err_and c.from_residual.result c.from_residual.ensures.1 in
    rw (p.1, p.2) (come-on c.in_err-shelved.field-0.0 (ComesFor Audit fs c.args.name.now c.args.out.now) (ComesFor Audit fs c.args.name.now c.args.out.now) fs (g.S.Shelf.state c.read_shelved.new.shelf) (λ f held is. is) (c.in_err-shelved.ensures.came_to fs told))

pub returns-in_err-shelved-clause-cause : goal.returns-in_err-shelved-clause-cause
returns-in_err-shelved-clause-cause g c =
    let p = err_from_is_err_and c.from_residual.result c.from_residual.ensures.1 in
    rw (p.1, p.2) (cause-as c.in_err-shelved.field-0.0 (g.S.Shelf.state c.args.shelf.now) (g.S.Shelf.state c.read_shelved.new.shelf) c.in_err-shelved.ensures.cause)

-- ---- the tables

pub returns-in_err-values-clause-told : goal.returns-in_err-values-clause-told
returns-in_err-values-clause-told g c =
    λ fs told.
    let p = err_from_is_err_and c.from_residual-in_err-values.result c.from_residual-in_err-values.ensures.1 in
    let shelved = c.in_ok-shelved.shelved in
    let meant = shelved_for Audit fs c.args.name.now c.args.out.now in
    let one = ok_and (λ it. IsShelvedOf it shelved) meant (c.in_ok-shelved.ensures.told fs told) in
    rw (p.1, p.2) (table_stops audit_of_tables (values_read shelved.job shelved.tables) meant c.in_err-values.field-0.0 c.in_err-values.ensures.exact (λ why first. refused_for audit_of_tables meant one.0 shelved why one.1 one.2 first))

pub returns-in_err-values-clause-found : goal.returns-in_err-values-clause-found
returns-in_err-values-clause-found g c =
    let p = err_from_is_err_and c.from_residual-in_err-values.result c.from_residual-in_err-values.ensures.1 in
    let shelved = c.in_ok-shelved.shelved in
    let some = c.in_ok-shelved.ensures.settled in
    rw (p.1, p.2) (table_found audit_of_tables (values_read shelved.job shelved.tables) c.in_err-values.field-0.0 c.in_err-values.ensures.exact (λ why first. (some.0, some.2, refused_for audit_of_tables (Ok some.0) some.0 shelved why refl some.1 first)))

pub returns-in_err-values-clause-came_to : goal.returns-in_err-values-clause-came_to
returns-in_err-values-clause-came_to g c =
    λ fs told.
    let p = err_from_is_err_and c.from_residual-in_err-values.result c.from_residual-in_err-values.ensures.1 in
    rw (p.1, p.2) (table_comes_to AuditFile c.in_err-values.field-0.0 _ fs (g.S.Shelf.state c.read_shelved.new.shelf))

pub returns-in_err-values-clause-cause : goal.returns-in_err-values-clause-cause
returns-in_err-values-clause-cause g c =
    let p = err_from_is_err_and c.from_residual-in_err-values.result c.from_residual-in_err-values.ensures.1 in
    rw (p.1, p.2) (table_cause AuditFile c.in_err-values.field-0.0 (g.S.Shelf.state c.args.shelf.now) (g.S.Shelf.state c.read_shelved.new.shelf))

-- ---- the numbers

pub returns-clause-told : goal.returns-clause-told
returns-clause-told g c =
    λ fs told.
    let shelved = c.in_ok-shelved.shelved in
    let meant = shelved_for Audit fs c.args.name.now c.args.out.now in
    let one = ok_and (λ it. IsShelvedOf it shelved) meant (c.in_ok-shelved.ensures.told fs told) in
    shown_comes audit_of_tables meant one.0 shelved c.in_ok-values.values c.file_for.result one.1 one.2 c.in_ok-values.ensures.exact (subst (λ (values : List ℤ). ComesFrom audit_of_tables c.in_ok-shelved.shelved.job values c.file_for.result) c.as_slice.ensures c.file_for.ensures)

pub returns-clause-found : goal.returns-clause-found
returns-clause-found g c =
    let some = c.in_ok-shelved.ensures.settled in
    shown_found audit_of_tables some.0 c.in_ok-shelved.shelved c.in_ok-values.values c.file_for.result some.2 some.1 c.in_ok-values.ensures.exact (subst (λ (values : List ℤ). ComesFrom audit_of_tables c.in_ok-shelved.shelved.job values c.file_for.result) c.as_slice.ensures c.file_for.ensures)

pub returns-clause-came_to : goal.returns-clause-came_to
returns-clause-came_to g c = λ fs told. shown_comes_to audit_of_tables c.in_ok-shelved.shelved.job c.in_ok-values.values c.file_for.result _ fs (g.S.Shelf.state c.read_shelved.new.shelf) (subst (λ (values : List ℤ). ComesFrom audit_of_tables c.in_ok-shelved.shelved.job values c.file_for.result) c.as_slice.ensures c.file_for.ensures)

pub returns-clause-cause : goal.returns-clause-cause
returns-clause-cause g c = shown_cause audit_of_tables c.in_ok-shelved.shelved.job c.in_ok-values.values c.file_for.result (g.S.Shelf.state c.args.shelf.now) (g.S.Shelf.state c.read_shelved.new.shelf) (subst (λ (values : List ℤ). ComesFrom audit_of_tables c.in_ok-shelved.shelved.job values c.file_for.result) c.as_slice.ensures c.file_for.ensures)

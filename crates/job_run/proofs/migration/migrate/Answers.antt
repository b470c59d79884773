use Rattle.std.proofs.Common.{Result, sym, subst}
use Rattle.certificate.specs.declared.certificate.Certificate.{Certificate}
use Rattle.job_inputs.specs.CertificateFile.{IsSoundCertificate}
use Rattle.job_inputs.specs.ReadFiles.{output_limit}
use Rattle.job_inputs.specs.Reading.{IsReadFrom}
use Rattle.job_inputs.specs.declared.stop.InputStop.{InputStop}
use Rattle.job_run.specs.Migrations.{migrating_of, MigrationComesTo, IsMigrationOf}
use Rattle.job_run.specs.declared.report.Report.{Report}
use Rattle.job_run.proofs.Migrations.{put-migration, stopped-migration}
use Rattle.job_run.proofs.migration.migrate.Goals as goal

pub returns-in-Err-clause-migration : goal.returns-in-Err-clause-migration
returns-in-Err-clause-migration g c =
    let old = c.args.old.now in
    let new = c.args.new.now in
    let shelf = g.S.Shelf.state c.args.shelf.now in
    let shelved = g.S.Shelf.state c.read_old.new.shelf in
    let tray = g.T.Tray.state c.args.tray.now in
    let read = subst (λ (r : Result Certificate InputStop). IsReadFrom (λ certificate. certificate) (λ fs. migrating_of fs old new) (λ fs. MigrationComesTo old new) IsSoundCertificate output_limit r shelf shelved) c.in-Err.is c.read_old.ensures in
    subst (λ (a : Report). IsMigrationOf old new a shelf shelved tray tray) (sym c.from.ensures)
    (stopped-migration old new c.in-Err.stop shelf shelved tray read)

pub returns-in-Ok-clause-migration : goal.returns-in-Ok-clause-migration
returns-in-Ok-clause-migration g c =
    let old = c.args.old.now in
    let new = c.args.new.now in
    let shelf = g.S.Shelf.state c.args.shelf.now in
    let shelved = g.S.Shelf.state c.read_old.new.shelf in
    let read = subst (λ (r : Result Certificate InputStop). IsReadFrom (λ certificate. certificate) (λ fs. migrating_of fs old new) (λ fs. MigrationComesTo old new) IsSoundCertificate output_limit r shelf shelved) c.in-Ok.is c.read_old.ensures in
    put-migration old new c.in-Ok.certificate c.put_again.result shelf shelved _ _ read c.put_again.ensures

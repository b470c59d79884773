use Rattle.std.proofs.Common.{sym, ◌∙◌}
use Rattle.job_run.proofs.Migrations.{names-refused, file-read}
use Rattle.job_run.proofs.migration.read_old.Goals as goal

pub returns-then-equals : goal.returns-then-equals
returns-then-equals g c = names-refused c.args.old.now c.args.new.now (g.S.Shelf.state c.args.shelf.now) (sym c.equals.ensures.value ∙ c.if-equals.true)

pub returns : goal.returns
returns g c = file-read c.args.old.now c.args.new.now c.read_certificate_file.result _ _ (sym c.equals.ensures.value ∙ c.if-equals.false) c.read_certificate_file.ensures

use Rattle.std.proofs.Common.{◌≡◌, drop}
use Rattle.job_lang.specs.FilesApart.{no_same_name}
use Rattle.job_lang.proofs.closing.no_same_name.Given as goal

abbrev pub invariant-said : goal.invariant-said
invariant-said l = no_same_name l.all (drop l.statement-index l.all) ≡ no_same_name l.all l.all

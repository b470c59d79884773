use Rattle.std.proofs.Common.{◌≡◌, drop}
use Rattle.job_lang.specs.FilesApart.{no_stray}
use Rattle.job_lang.proofs.closing.no_stray.Given as goal

abbrev pub invariant-said : goal.invariant-said
invariant-said l = no_stray l.count (drop l.statement-index l.said) ≡ no_stray l.count l.said

use Rattle.std.proofs.Common.{◌≡◌, drop}
use Rattle.job_lang.specs.SpannedDepths.{no_outside}
use Rattle.job_lang.proofs.closing.no_outside.Given as goal

abbrev pub invariant-said : goal.invariant-said
invariant-said l = no_outside l.tables (drop l.statement-index l.said) ≡ no_outside l.tables l.said

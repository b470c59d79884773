use Rattle.std.proofs.Common.{◌≡◌, drop}
use Rattle.rda_meta.specs.Metadata.{no_clash}
use Rattle.rda_meta.proofs.reading.no_clash.Given as goal

abbrev pub invariant-entries : goal.invariant-entries
invariant-entries l = no_clash (drop l.entry-index l.entries) ≡ no_clash l.entries

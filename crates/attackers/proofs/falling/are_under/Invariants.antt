use Rattle.std.proofs.Common.{◌≡◌, drop}
use Rattle.sdc_base.specs.Records.{falls_in}
use Rattle.attackers.proofs.falling.are_under.Given as goal

abbrev pub invariant-variables : goal.invariant-variables
invariant-variables l =
    falls_in (drop l.variable l.book.trees) (drop l.variable l.name) (drop l.variable l.codes)
    ≡ falls_in l.book.trees l.name l.codes

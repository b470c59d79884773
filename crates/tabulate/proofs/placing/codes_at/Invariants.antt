use Rattle.std.proofs.Common.{◌≡◌, take}
use Rattle.tabulate.specs.RecordsByPlace.{codes_for}
use Rattle.tabulate.proofs.placing.codes_at.Given as goal

abbrev pub invariant-variables : goal.invariant-variables
invariant-variables l = l.place ≡ take l.k (codes_for l.book.trees l.codes l.table)

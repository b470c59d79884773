use Rattle.std.proofs.Common.{All, take}
use Rattle.apriori.specs.Settling.{IsReadyFor}
use Rattle.tests_apriori.proofs.apriori_tests.are_ready.Given as goal

abbrev pub invariant-marks : goal.invariant-marks
invariant-marks l = All (IsReadyFor l.rules) (take l.mark-index l.marks)

use Rattle.std.proofs.Common.{◌≡◌}
use Rattle.repair.specs.CellTrials.{HasTried}
use Rattle.repair.specs.Attempts.{IsReadyToTry}
use Rattle.repair.proofs.trying.try_all.Given as goal

abbrev pub invariant-cells : goal.invariant-cells
invariant-cells l = record {
  repairs : l.progress.reasons ≡ l.fn.progress.reasons;
  worlds : l.progress.tables ≡ l.fn.progress.tables;
  ready : IsReadyToTry l.task l.progress l.tried;
  tried : HasTried l.task l.fn.progress.hidden.flags l.number l.progress l.tried;
}

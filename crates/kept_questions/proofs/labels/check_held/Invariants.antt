use Rattle.std.proofs.Common.{◌≡◌, ℕ, ◌<◌, true}
use Rattle.interval_audit.specs.Groups.{group_of}
use Rattle.kept_questions.specs.Checks.{IsHeldBelow}
use Rattle.kept_questions.proofs.labels.check_held.Given as goal

abbrev pub invariant-cells : goal.invariant-cells
invariant-cells l = (cell : ℕ) → cell < l.cell → group_of l.of l.asked cell ≡ true → IsHeldBelow l.checked cell

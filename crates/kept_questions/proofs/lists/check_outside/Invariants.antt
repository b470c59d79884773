use Rattle.std.proofs.Common.{◌≡◌, ℕ, ◌<◌, [], false}
use Rattle.interval_audit.specs.Groups.{group_of}
use Rattle.kept_questions.specs.TermLists.{list_at}
use Rattle.kept_questions.proofs.lists.check_outside.Given as goal

abbrev pub invariant-cells : goal.invariant-cells
invariant-cells l = (cell : ℕ) → cell < l.cell → group_of l.of l.asked cell ≡ false → list_at l.lists cell ≡ []

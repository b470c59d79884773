use Rattle.std.proofs.Common.{◌≡◌, ℕ, ◌<◌, pos}
use Rattle.tableau.specs.Columns.{lead_in}
use Rattle.tableau.proofs.lists.compare_lists.Given as goal

abbrev pub invariant-loop-place : goal.invariant-loop-place
invariant-loop-place l = (i : ℕ) → i < l.place → lead_in l.column l.other l.one i ≡ pos 0

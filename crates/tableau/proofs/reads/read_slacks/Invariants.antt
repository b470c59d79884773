use Rattle.std.proofs.Common.{◌≡◌, ℕ, ◌<◌, slice_index_or, pos}
use Rattle.sdc_base.specs.Systems.{number_at}
use Rattle.tableau.specs.SparseTables.{table_of}
use Rattle.tableau.proofs.ReadNumbers.{IsRead}
use Rattle.tableau.proofs.reads.read_slacks.Given as goal

abbrev pub invariant-loop-slack : goal.invariant-loop-slack
invariant-loop-slack l = (k : ℕ) → k < l.slack → slice_index_or l.slacks k (pos 0) ≡ pos 0

abbrev pub invariant-loop-j : goal.invariant-loop-j
invariant-loop-j l = IsRead l.j l.problem.columns l.table.others.items (λ j. number_at (table_of l.table).objective j) l.slacks

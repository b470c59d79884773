-- How the answer of guarding becomes a guarded set, or the reason why there is none (own).
use Rattle.std.specs.Prelude.{◌≡◌, Bool, List, length, All, Result, Ok, Err}
use Rattle.sdc_base.specs.HiddenSets.{hide_cells}
use Rattle.cost_rule.specs.Costs.{AreCosted}
use Rattle.apriori.specs.CellLevels.{HasLevelsInRange}
use Rattle.attackers.specs.declared.extra.Guarded.{Guarded}
use Rattle.attackers.specs.declared.extra.Guarded.TheVariants as guarded
use Rattle.attackers.specs.declared.extra.GuardStop.{GuardStop}
use Rattle.certificate.specs.declared.certificate.Certificate.{Certificate}
use Rattle.repair.specs.HidingOrder.{Case}
use Rattle.contributor_protection.specs.ShownAgain.{shown_again}
use Rattle.contributor_protection.specs.declared.guarding.GuardedCells.{GuardedCells}
use Rattle.contributor_protection.specs.declared.guarding.ProtectedCells.{ProtectedCells}
use Rattle.contributor_protection.specs.declared.guarding.GuardFailure.{GuardFailure}
use Rattle.contributor_protection.specs.declared.guarding.GuardFailure.TheVariants as guard_failure

-- Protected cells fit together: there is a cell for each cell of the system and for each mark, the marks' costs can be
-- asked about, levels are within the limits of a job, and the hidden set is one of this system and these cells.
pub record FitTogether (protected : ProtectedCells) : Type 0 where
  pub one_each : length protected.cells.now ≡ protected.system.now.cells
  pub marks : length protected.cells.now ≡ length protected.book.now.marks
  pub costed : All (λ mark. AreCosted mark.facts) protected.book.now.marks
  pub levels : All HasLevelsInRange protected.cells.now
  pub of_system : protected.hidden_set.now.system ≡ protected.system.now
  pub of_cells : protected.hidden_set.now.cells ≡ protected.cells.now
  pub each_flag : length protected.hidden_set.now.hidden.flags ≡ length protected.cells.now

-- the answer as a guarded set of this certificate and these flags, or that no set guards
abbrev pub IsMadeOf : Certificate → List Bool → Guarded → Result GuardedCells GuardFailure → Type 0
IsMadeOf certificate flags answer (Ok made) = (answer ≡ guarded.Guards made.extra) × (made.certificate ≡ certificate)
    × (made.hidden.flags ≡ hide_cells flags made.extra.cells)
IsMadeOf certificate flags answer (Err (guard_failure.CannotAgainst found)) =
    answer ≡ guarded.CannotAgainst found.attack.row found.attack.cell found.attack.side found.multipliers
IsMadeOf certificate flags answer (Err (guard_failure.Undecided stopped against)) = ⊥
IsMadeOf certificate flags answer (Err guard_failure.Memory) = Unit {0}

-- guarding that stopped, with the repairs of the certificate and the cells that were shown again
abbrev pub IsStopOf : Case → Certificate → List Bool → GuardStop → GuardFailure → Type 0
IsStopOf c certificate flags stop (guard_failure.CannotAgainst found) = ⊥
IsStopOf c certificate flags stop (guard_failure.Undecided stopped against) = (stopped.fault ≡ stop.fault)
    × (against ≡ stop.against) × (stopped.repairs ≡ certificate.repairs)
    × (stopped.shown ≡ shown_again c certificate flags)
IsStopOf c certificate flags stop guard_failure.Memory = Unit {0}

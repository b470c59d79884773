-- What guarding against attacks works on (own).
use Rattle.std.specs.Prelude.{◌≡◌, ℕ, ◌≤◌, List, length, All, Option}
use Rattle.sdc_base.specs.declared.cell.Cell.{Cell}
use Rattle.sdc_base.specs.declared.system.System.{System}
use Rattle.repair.specs.KeptWorlds.{HasModestLevels}
use Rattle.attackers.specs.declared.attack.Attack.{Attack}
use Rattle.attackers.specs.KnownCells.{IsAttack}

-- what guarding works on fits together: one entry for each cell of the system, modest levels, and attacks
pub record IsContributorTask (system : System) (cells : List Cell) (soles : List (Option ℕ)) (prices : List ℕ)
    (attacks : List Attack) (limit : ℕ) : Type 0 where
  pub one_each : length cells ≡ system.cells
  pub priced : length prices ≡ system.cells
  pub modest : All HasModestLevels cells
  pub are_attacks : All (IsAttack cells soles) attacks
  pub some_steps : 1 ≤ limit

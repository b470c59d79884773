-- What guarding against a list of attacks comes to (own).
use Rattle.std.specs.Prelude.{◌≡◌, ℕ, Bool, List, length}
use Rattle.sdc_base.specs.HiddenSets.{IsPermitted, hide_cells}
use Rattle.worlds.specs.ProtectFaults.{asked_of}
use Rattle.certificate.specs.declared.certificate.WorldLine.{WorldLine}
use Rattle.certificate.specs.declared.extra.Extra.{Extra}
use Rattle.certificate.specs.declared.extra.ExtraNeed.{ExtraNeed}
use Rattle.repair.specs.HidingOrder.{IsSubset}
use Rattle.attackers.specs.declared.extra.Guarded.{Guarded}
use Rattle.attackers.specs.declared.extra.Guarded.TheVariants.{Guards, CannotAgainst}
use Rattle.attackers.specs.declared.contributor_task.ContributorTask.{ContributorTask}
use Rattle.attackers.specs.Extras.{subjects_of, IsInTurn, EachExtra}
use Rattle.attackers.specs.ContributorTasks.{case_of, AreGuardsOf, IsCannot}
use Rattle.attackers.specs.Dropping.{IsTried}
use Rattle.attackers.specs.Guarding.{guards_in_order}

-- An extra is what is left when all extra cells, which came in turn, have been tried: the cells that have needs, and the
-- guards in the order of what is asked.
pub record IsNarrowed (task : ContributorTask) (first : List Bool) (extra : Extra) : Type 0 where
  pub turns : List ExtraNeed
  pub in_turn : EachExtra (IsInTurn (case_of task) task.soles.now task.prices.now task.attacks.now) first turns
  pub larger : List Bool
  pub larger_is : larger ≡ hide_cells first (subjects_of turns)
  pub flags : List Bool
  pub guards : List WorldLine
  pub dropped : List ℕ
  pub tried : IsTried (case_of task) task.soles.now task.attacks.now first larger (length task.cells.now) flags
      extra.needs dropped
  pub holds : AreGuardsOf task flags task.attacks.now guards
  pub first_stays : IsSubset first flags
  pub each : length flags ≡ task.system.now.cells
  pub permitted : IsPermitted task.cells.now flags
  pub cells_are : extra.cells ≡ subjects_of extra.needs
  pub guards_are : extra.guards ≡ guards_in_order (asked_of 0 task.cells.now) guards

-- what guarding against the attacks comes to
abbrev pub IsOutcome : ContributorTask → List Bool → Guarded → Type 0
IsOutcome task first (Guards extra) = IsNarrowed task first extra
IsOutcome task first (CannotAgainst row cell side multipliers) =
    IsCannot (case_of task) task.soles.now task.attacks.now (record { row = row; cell = cell; side = side })
    multipliers

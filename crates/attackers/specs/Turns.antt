-- How the extra cells that guard came about (own).
use Rattle.std.specs.Prelude.{◌≡◌, ℕ, Bool, List, All, Option}
use Rattle.certificate.specs.declared.extra.Extra.{Extra}
use Rattle.certificate.specs.declared.extra.ExtraNeed.{ExtraNeed}
use Rattle.repair.specs.HidingOrder.{Case, IsSubset}
use Rattle.repair.specs.Needs.{set_when_tried}
use Rattle.attackers.specs.declared.attack.Attack.{Attack}
use Rattle.attackers.specs.declared.extra.Guarded.{Guarded}
use Rattle.attackers.specs.declared.extra.Guarded.TheVariants.{Guards, CannotAgainst}
use Rattle.attackers.specs.Extras.{subjects_of, IsInTurn, EachExtra}
use Rattle.sdc_base.specs.HiddenSets.{hide_cells}
use Rattle.attackers.specs.Dropping.{IsNeedFor}

-- a need is for the first attack that wasn't guarded against when its subject was tried
abbrev pub IsNeedWhenTried : Case → List (Option ℕ) → List Attack → List Bool → List Bool → ExtraNeed → Type 0
IsNeedWhenTried c soles attacks flags larger need =
    IsNeedFor c soles attacks (set_when_tried flags larger need.subject) need

-- Extra cells are what is left of cells that came in turn, when these were tried as shown in ascending order: no others
-- are hidden, and each that is left has its need, for the first attack that wasn't guarded against when it was tried.
pub record AreLeftOfTurns (c : Case) (soles : List (Option ℕ)) (prices : List ℕ) (attacks : List Attack)
    (first : List Bool) (extra : Extra) : Type 0 where
  pub turns : List ExtraNeed
  pub in_turn : EachExtra (IsInTurn c soles prices attacks) first turns
  pub within : IsSubset (hide_cells first extra.cells) (hide_cells first (subjects_of turns))
  pub each_needed : subjects_of extra.needs ≡ extra.cells
  pub are_needs : All (IsNeedWhenTried c soles attacks (hide_cells first extra.cells)
      (hide_cells first (subjects_of turns))) extra.needs

-- the same of what guarding comes to, where it is extra cells
abbrev pub IsLeftOfTurns : Case → List (Option ℕ) → List ℕ → List Attack → List Bool → Guarded → Type 0
IsLeftOfTurns c soles prices attacks first (Guards extra) = AreLeftOfTurns c soles prices attacks first extra
IsLeftOfTurns c soles prices attacks first (CannotAgainst row cell side multipliers) = Unit {0}

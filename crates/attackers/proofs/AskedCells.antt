-- What is asked about primary cells, and attacks on them.
use Rattle.std.proofs.Common.{◌≡◌, ◌&&◌, ◌<◌, ℕ, true, false, not, List, length, All, Option, Some, get_or, slice_get, subst}
use Rattle.std.specs.List.{list_any}
use Rattle.worlds.proofs.TrueTests.{and_true, not_true}
use Rattle.sdc_base.specs.declared.cell.Kind.TheVariants.{Primary}
use Rattle.sdc_base.specs.Kinds.{is_primary_at}
use Rattle.repair.specs.HidingOrder.{IsOfKind}
use Rattle.attackers.specs.declared.attack.Attack.{Attack}
use Rattle.attackers.specs.Alone.{is_sole}
use Rattle.attackers.specs.KnownCells.{is_known, IsAttack}
use Rattle.std.proofs.lemmas.Option.{slice_get-get_or, slice_get_within, get_or_from_slice_get}
use Rattle.sdc_base.specs.declared.cell.Cell.{Cell}
use Rattle.sdc_base.specs.declared.side.Side.{Side}
use Rattle.worlds.specs.ProtectFaults.{asked_of}
use Rattle.repair.proofs.Order.{asked_inside, primary_here}

-- all that is asked about are cells
pub all_inside : (cells : List Cell) → All (λ (one : ℕ × Side). one.0 < length cells) (asked_of 0 cells)
all_inside cells k d within = asked_inside cells k (get_or (asked_of 0 cells) k d) (slice_get-get_or (asked_of 0 cells) k d within)

-- what holds of an attack
pub record AttackSays (cells : List Cell) (soles : List (Option ℕ)) (attack : Attack) : Type 0 where
  pub primary : IsOfKind cells attack.cell Primary
  pub unknown : is_known soles attack.row attack.cell ≡ false
  pub makes_up : list_any (is_sole attack.row) soles ≡ true

pub attack_says : (cells : List Cell) (soles : List (Option ℕ)) (attack : Attack) → IsAttack cells soles attack → AttackSays cells soles attack
attack_says cells soles attack is =
    let one = and_true (is_primary_at cells attack.cell) (not (is_known soles attack.row attack.cell) && list_any (is_sole attack.row) soles) is in
    let two = and_true (not (is_known soles attack.row attack.cell)) (list_any (is_sole attack.row) soles) one.1 in
    record { primary = primary_here cells attack.cell one.0; unknown = not_true (is_known soles attack.row attack.cell) two.0; makes_up = two.1 }

-- the attack at a place
pub attack_at : (cells : List Cell) (soles : List (Option ℕ)) (attacks : List Attack) (place : ℕ) (attack : Attack) → All (IsAttack cells soles) attacks → slice_get attacks place ≡ Some attack → IsAttack cells soles attack
attack_at cells soles attacks place attack are stands =
    subst (IsAttack cells soles) (get_or_from_slice_get attacks place attack attack stands) (are place attack (slice_get_within attacks place attack stands))

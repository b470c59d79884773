-- Extra cells: cells hidden one after another against attacks, each against a refutation (own).
use Rattle.std.specs.Prelude.{◌≡◌, ℕ, Bool, List, map, slice_get, Some, Option}
use Rattle.worlds.specs.declared.multipliers.Multipliers.{Multipliers}
use Rattle.worlds.specs.RefutationFaults.{IsGivenRefutation}
use Rattle.repair.specs.HidingOrder.{Case, coefficients_for, IsCheapest}
use Rattle.repair.specs.LevelQuestions.{AreGiven}
use Rattle.repair.specs.Repairs.{EachInTurn}
use Rattle.attackers.specs.declared.attack.Attack.{Attack}
use Rattle.certificate.specs.declared.extra.ExtraNeed.{ExtraNeed}
use Rattle.attackers.specs.KnownCells.{without_known, with_known, target_of, GuardsBefore}

-- the attack for which an extra cell is hidden
abbrev pub attack_of : ExtraNeed → Attack
attack_of extra = record { row = extra.row; cell = extra.cell; side = extra.side }

-- the subjects of extra cells
abbrev pub subjects_of : List ExtraNeed → List ℕ
subjects_of extras = map (λ extra. extra.subject) extras

-- multipliers refute that the hidden set guards against an attack
abbrev pub Unguards : Case → List (Option ℕ) → List Bool → Attack → Multipliers → Type 0
Unguards c soles flags attack multipliers =
    IsGivenRefutation c.system c.cells (without_known soles attack.row flags) attack.cell attack.side multipliers

-- An extra cell is in turn for a hidden set, by an order of attacks: the set guards against all that stand before its
-- attack; the multipliers are what the question of its attack gives, and refute it; and the subject is the cheapest of
-- the cells that would break them, of those that the contributor doesn't know.
pub record IsInTurn (c : Case) (soles : List (Option ℕ)) (prices : List ℕ) (attacks : List Attack) (flags : List Bool)
    (extra : ExtraNeed) : Type 0 where
  pub place : ℕ
  pub stands : slice_get attacks place ≡ Some (attack_of extra)
  pub before : GuardsBefore c soles flags attacks place
  pub refutes : Unguards c soles flags (attack_of extra) extra.multipliers
  pub gives : AreGiven c.system c.cells (without_known soles extra.row flags) (target_of (attack_of extra))
      extra.multipliers
  pub cheapest : IsCheapest c.cells prices (with_known soles extra.row flags)
      (coefficients_for c.system (target_of (attack_of extra)) extra.multipliers) extra.subject

-- each extra cell is so for the hidden set that the earlier ones made of this one
abbrev pub EachExtra : (List Bool → ExtraNeed → Type 0) → List Bool → List ExtraNeed → Type 0
EachExtra Is flags extras = EachInTurn (λ extra. extra.subject) Is flags extras

-- the attack for which an extra cell is hidden stands at this place
abbrev pub IsForAttackAt : List Attack → ExtraNeed → ℕ → Type 0
IsForAttackAt attacks extra place = slice_get attacks place ≡ Some (attack_of extra)

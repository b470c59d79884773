-- Laws of contributors as attackers: extra cells without a fault have a text, and no attack is left out (own).
use Rattle.std.specs.Prelude.{◌≡◌, ◌<◌, ℕ, Bool, true, List, length, Option, Ok}
use Rattle.std.specs.List.{list_any}
use Rattle.certificate.specs.declared.certificate.WorldLine.{WorldLine}
use Rattle.certificate.specs.declared.extra.Extra.{Extra}
use Rattle.certificate.specs.Numerals.{greatest_number}
use Rattle.certificate.specs.ExtraTexts.{IsExtraSpellable}
use Rattle.repair.specs.HidingOrder.{Case}
use Rattle.attackers.specs.declared.attack.Attack.{Attack}
use Rattle.attackers.specs.Alone.{is_sole}
use Rattle.attackers.specs.KnownCells.{Guards, GuardsAll, IsAttack}
use Rattle.attackers.specs.AttackOrder.{attacks_of}
use Rattle.attackers.specs.ExtraFaults.{extra_fault}

-- each row that alone makes up a cell can be said, from 1
abbrev pub CanBeSaid : List (Option ℕ) → Type 0
CanBeSaid soles = (row : ℕ) → list_any (is_sole row) soles ≡ true → row < greatest_number

-- extra cells without a fault have a text, where the rows can be said
abbrev pub HaveText : Type 0
HaveText =
    (c : Case) (soles : List (Option ℕ)) (flags : List Bool) (worlds : List WorldLine) (extra : Extra)
    → length c.cells ≡ c.system.cells → CanBeSaid soles → extra_fault c soles flags worlds extra ≡ Ok tt
    → IsExtraSpellable extra

-- Where a hidden set guards against all listed attacks, it guards against each attack: none is left out.
abbrev pub GuardsEach : Type 0
GuardsEach =
    (c : Case) (soles : List (Option ℕ)) (flags : List Bool) → GuardsAll c soles flags (attacks_of c.cells soles)
    → (attack : Attack) → IsAttack c.cells soles attack → Guards c soles flags attack

-- What a contributor knows that alone makes up cells, and hidden sets that guard against it (own).
use Rattle.std.specs.Prelude.{◌≡◌, ℕ, ◌&&◌, ◌||◌, not, Bool, true, List, length, map, take, slice_index_or, All, Option, None}
use Rattle.std.specs.List.{list_any, range_with_len}
use Rattle.sdc_base.specs.declared.cell.Cell.{Cell}
use Rattle.sdc_base.specs.Kinds.{is_primary_at}
use Rattle.sdc_base.specs.declared.side.Side.{Side}
use Rattle.sdc_base.specs.HiddenSets.{is_hidden}
use Rattle.sdc_base.specs.Worlds.{Protects}
use Rattle.worlds.specs.declared.world.Move.{Move}
use Rattle.worlds.specs.declared.world.World.{World}
use Rattle.worlds.specs.ProtectFaults.{is_reaching}
use Rattle.certificate.specs.declared.certificate.WorldLine.{WorldLine}
use Rattle.repair.specs.HidingOrder.{Case}
use Rattle.attackers.specs.declared.attack.Attack.{Attack}
use Rattle.attackers.specs.Alone.{is_sole}

-- the contributor at this row alone makes up the cell, and so knows it
abbrev pub is_known : List (Option ℕ) → ℕ → ℕ → Bool
is_known soles row cell = is_sole row (slice_index_or soles cell None)

-- the cell is hidden, and the contributor doesn't know it
abbrev pub is_left : List (Option ℕ) → ℕ → List Bool → ℕ → Bool
is_left soles row flags cell = is_hidden flags cell && not (is_known soles row cell)

-- the hidden set without the cells that the contributor knows
abbrev pub without_known : List (Option ℕ) → ℕ → List Bool → List Bool
without_known soles row flags = map (is_left soles row flags) (range_with_len 0 (length flags))

-- the cell is hidden, or the contributor knows it
abbrev pub is_hidden_or_known : List (Option ℕ) → ℕ → List Bool → ℕ → Bool
is_hidden_or_known soles row flags cell = is_hidden flags cell || is_known soles row cell

-- the hidden set with them
abbrev pub with_known : List (Option ℕ) → ℕ → List Bool → List Bool
with_known soles row flags = map (is_hidden_or_known soles row flags) (range_with_len 0 (length flags))

-- what is asked about where a contributor attacks
abbrev pub target_of : Attack → ℕ × Side
target_of attack = (attack.cell, attack.side)

-- The hidden set guards against an attack: without what the contributor knows, the set still protects the cell to the
-- side. Not: the whole set does.
abbrev pub Guards : Case → List (Option ℕ) → List Bool → Attack → Type 0
Guards c soles flags attack =
    Protects c.system c.cells (without_known soles attack.row flags) attack.cell attack.side

-- the hidden set guards against all these attacks
abbrev pub GuardsAll : Case → List (Option ℕ) → List Bool → List Attack → Type 0
GuardsAll c soles flags attacks = All (Guards c soles flags) attacks

-- the hidden set guards against those that stand before this place
abbrev pub GuardsBefore : Case → List (Option ℕ) → List Bool → List Attack → ℕ → Type 0
GuardsBefore c soles flags attacks place = GuardsAll c soles flags (take place attacks)

-- an attack is by a contributor that alone makes up some cell, on a primary cell that it doesn't know
abbrev pub is_attack : List Cell → List (Option ℕ) → Attack → Bool
is_attack cells soles attack =
    is_primary_at cells attack.cell
    && (not (is_known soles attack.row attack.cell) && list_any (is_sole attack.row) soles)

-- it is one
abbrev pub IsAttack : List Cell → List (Option ℕ) → Attack → Type 0
IsAttack cells soles attack = is_attack cells soles attack ≡ true

-- some of these moves is one of a cell that the contributor knows
abbrev pub moves_known : List (Option ℕ) → ℕ → List Move → Bool
moves_known soles row moves = list_any (λ one. is_known soles row one.cell) moves

-- a world serves against an attack: it takes the cell as far as its level to the side, and moves no cell that the
-- contributor knows
abbrev pub serves : List Cell → List (Option ℕ) → Attack → World → Bool
serves cells soles attack world =
    is_reaching cells (target_of attack) world && not (moves_known soles attack.row world.moves)

-- some line's world serves against the attack
abbrev pub is_served : List Cell → List (Option ℕ) → Attack → List WorldLine → Bool
is_served cells soles attack lines = list_any (λ line. serves cells soles attack line.world) lines

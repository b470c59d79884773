-- Hidden sets without what a contributor knows, and with it.
use Rattle.std.proofs.Common.{◌≡◌, ◌≢◌, ℕ, zero, suc, ◌<◌, ◌≤◌, ◌==◌, ◌&&◌, ◌||◌, not, Bool, true, false, List, [], ◌∷◌, length, All, Option, nat_lt, pos, ◌*ℤ◌, ◌≤ℤ◌, refl, ap, sym, ◌∙◌, subst, arith}
use Rattle.std.specs.List.{list_any}
use Rattle.std.specs.Option.{option_map_or}
use Rattle.std.proofs.lemmas.Bool.Decides.{Decides-eqb, nat_tests}
use Rattle.std.proofs.lemmas.List.FromFn.{get_or-map-range_with_len, length-map-range_with_len}
use Rattle.std.proofs.lemmas.List.Elements.{All-head, All-tail}
use Rattle.sdc_base.specs.declared.cell.Cell.{Cell}
use Rattle.sdc_base.specs.HiddenSets.{is_hidden}
use Rattle.sdc_base.specs.Systems.{Numbers}
use Rattle.sdc_base.specs.Forms.{Term}
use Rattle.sdc_base.specs.Worlds.{level, level_at, amount_toward}
use Rattle.worlds.specs.declared.world.Move.{Move}
use Rattle.worlds.specs.declared.world.World.{World}
use Rattle.worlds.specs.NumberLists.{terms_of, number_given}
use Rattle.worlds.specs.ProtectFaults.{is_reaching}
use Rattle.worlds.specs.WorldFaults.{IsGivenWorld}
use Rattle.worlds.proofs.Bounds.{decides_le}
use Rattle.worlds.proofs.Lists.{each_given}
use Rattle.worlds.proofs.TrueTests.{and_true, both_true, not_true}
use Rattle.repair.specs.HidingOrder.{Case}
use Rattle.repair.proofs.Flags.{IsWithin, by_test, clash}
use Rattle.repair.proofs.Growing.{protects_more}
use Rattle.attackers.proofs.Resting.{unmoved}
use Rattle.attackers.proofs.AskedCells.{AttackSays, attack_says}
use Rattle.attackers.specs.declared.attack.Attack.{Attack}
use Rattle.attackers.specs.KnownCells.{is_known, is_left, without_known, is_hidden_or_known, with_known, target_of, Guards, GuardsAll, IsAttack, moves_known, serves}

-- ---- which cells are hidden

-- a cell behind the last flag isn't hidden
pub shown_past : (flags : List Bool) (k : ℕ) → length flags ≤ k → is_hidden flags k ≡ false
shown_past [] k past = refl
shown_past (flag ∷ flags) zero past = absurd (omega (arith, past))
shown_past (flag ∷ flags) (suc k) past = shown_past flags k (omega (arith, past))

pub length-without : (soles : List (Option ℕ)) (row : ℕ) (flags : List Bool) → length (without_known soles row flags) ≡ length flags
length-without soles row flags = length-map-range_with_len (is_left soles row flags) 0 (length flags)

pub length-with : (soles : List (Option ℕ)) (row : ℕ) (flags : List Bool) → length (with_known soles row flags) ≡ length flags
length-with soles row flags = length-map-range_with_len (is_hidden_or_known soles row flags) 0 (length flags)

pub left_says : (soles : List (Option ℕ)) (row : ℕ) (flags : List Bool) (k : ℕ) → is_hidden (without_known soles row flags) k ≡ is_left soles row flags k
left_says soles row flags k =
    by_test (nat_lt k (length flags)) (is_hidden (without_known soles row flags) k ≡ is_left soles row flags k)
    (λ is. get_or-map-range_with_len (is_left soles row flags) 0 (length flags) k k false (grind (arith, nat_tests, is)) (omega arith))
    (λ is.
    let past : length flags ≤ k = grind (arith, nat_tests, is) in
    shown_past (without_known soles row flags) k (omega (arith, past, length-without soles row flags))
    ∙ sym (ap (λ b. b && not (is_known soles row k)) (shown_past flags k past)))

pub closed_says : (soles : List (Option ℕ)) (row : ℕ) (flags : List Bool) (k : ℕ) → k < length flags → is_hidden (with_known soles row flags) k ≡ is_hidden_or_known soles row flags k
closed_says soles row flags k within = get_or-map-range_with_len (is_hidden_or_known soles row flags) 0 (length flags) k k false within (omega arith)

pub without_within : (soles : List (Option ℕ)) (row : ℕ) (flags : List Bool) → IsWithin (without_known soles row flags) flags
without_within soles row flags = record {
  hides = λ k is. (and_true (is_hidden flags k) (not (is_known soles row k)) (sym (left_says soles row flags k) ∙ is)).0;
}

pub without_more : (soles : List (Option ℕ)) (row : ℕ) (flags more : List Bool) → IsWithin flags more → IsWithin (without_known soles row flags) (without_known soles row more)
without_more soles row flags more within = record {
  hides = λ k is.
      let both = and_true (is_hidden flags k) (not (is_known soles row k)) (sym (left_says soles row flags k) ∙ is) in
      left_says soles row more k ∙ both_true (is_hidden more k) (not (is_known soles row k)) (within.hides k both.0) both.1;
}

-- ---- guarding

pub guards_more : (c : Case) (soles : List (Option ℕ)) (flags more : List Bool) (attack : Attack) → IsWithin flags more → Guards c soles flags attack → Guards c soles more attack
guards_more c soles flags more attack within is =
    protects_more c.system c.cells (without_known soles attack.row flags) (without_known soles attack.row more) attack.cell attack.side (without_more soles attack.row flags more within) is

pub all_guards_more : (c : Case) (soles : List (Option ℕ)) (flags more : List Bool) (attacks : List Attack) → IsWithin flags more → GuardsAll c soles flags attacks → GuardsAll c soles more attacks
all_guards_more c soles flags more attacks within all = λ k d inside. guards_more c soles flags more _ within (all k d inside)

or_false : (a b : Bool) → (a || b) ≡ false → (a ≡ false) × (b ≡ false)
or_false true b is = absurd cc
or_false false b is = (refl, is)

-- where no known cell is listed, a known cell isn't
none_listed : (soles : List (Option ℕ)) (row cell : ℕ) (moves : List Move) → is_known soles row cell ≡ true → moves_known soles row moves ≡ false → list_any (λ one. one.cell == cell) moves ≡ false
none_listed soles row cell [] known none = refl
none_listed soles row cell (one ∷ moves) known none =
    let both = or_false (is_known soles row one.cell) (moves_known soles row moves) none in
    let other : (one.cell == cell) ≡ false = by_test (one.cell == cell) ((one.cell == cell) ≡ false)
    (λ is. clash (is_known soles row cell) known (ap (λ k. is_known soles row k) (sym ((Decides-eqb one.cell cell).0 is)) ∙ both.0)) (λ is. is) in
    ap (λ b. b || list_any (λ (m : Move). m.cell == cell) moves) other ∙ none_listed soles row cell moves known both.1

-- a world that moves no known cell is one for the set without those
pub world_without : (c : Case) (soles : List (Option ℕ)) (row : ℕ) (flags : List Bool) (world : World) → moves_known soles row world.moves ≡ false → IsGivenWorld c.system c.cells flags world → IsGivenWorld c.system c.cells (without_known soles row flags) world
world_without c soles row flags world none is = record {
  listed = is.listed;
  is_world = record {
    positive = is.is_world.positive;
    shown_stay = λ k inside shown.
        by_test (is_known soles row k) (number_given (terms_of world.moves) k ≡ pos 0)
        (λ known. unmoved k world.moves (none_listed soles row k world.moves known none))
        (λ unknown.
        let left : (is_hidden flags k && true) ≡ false = ap (λ b. is_hidden flags k && not b) (sym unknown) ∙ sym (left_says soles row flags k) ∙ shown in
        is.is_world.shown_stay k inside (by_test (is_hidden flags k) (is_hidden flags k ≡ false) (λ h. clash (is_hidden flags k && true) (ap (λ b. b && true) h) left) (λ h. h)));
    relations_hold = is.is_world.relations_hold;
    bounds_hold = is.is_world.bounds_hold;
  };
}

-- a world that serves shows that the set guards against the attack
pub serving_guards : (c : Case) (soles : List (Option ℕ)) (flags : List Bool) (attack : Attack) (world : World) → IsAttack c.cells soles attack → IsGivenWorld c.system c.cells flags world → serves c.cells soles attack world ≡ true → Guards c soles flags attack
serving_guards c soles flags attack world attacks is does =
    let on : AttackSays c.cells soles attack = attack_says c.cells soles attack attacks in
    let both = and_true (is_reaching c.cells (target_of attack) world) (not (moves_known soles attack.row world.moves)) does in
    let own : IsGivenWorld c.system c.cells (without_known soles attack.row flags) world = world_without c soles attack.row flags world (not_true (moves_known soles attack.row world.moves) both.1) is in
    let cell : Cell = on.primary.cell in
    let moves : Numbers = number_given (terms_of world.moves) in
    let least : level_at c.cells attack.side attack.cell ≡ level attack.side cell = ap (λ o. option_map_or (level attack.side) o (pos 0)) on.primary.found in
    let reach : (world.den *ℤ level_at c.cells attack.side attack.cell) ≤ℤ amount_toward attack.side (moves attack.cell) = (decides_le (world.den *ℤ level_at c.cells attack.side attack.cell) (amount_toward attack.side (moves attack.cell))).0 both.0 in
    (world.den, moves, cell, own.is_world, on.primary.found, subst (λ l. (world.den *ℤ l) ≤ℤ amount_toward attack.side (moves attack.cell)) least reach)

-- ---- worlds of the set without what is known

-- a cell that a listed move names moves
none_moved : (size : ℕ) (known : ℕ → Bool) (numbers : Numbers) (moves : List Move) → ((k : ℕ) → k < size → known k ≡ true → numbers k ≡ pos 0) → All (λ (t : Term). numbers t.0 ≡ t.1) (terms_of moves) → All (λ (t : Term). t.0 < size) (terms_of moves) → All (λ (t : Term). t.1 ≢ pos 0) (terms_of moves) → list_any (λ (one : Move). known one.cell) moves ≡ false
none_moved size known numbers [] still told named counts = refl
none_moved size known numbers (one ∷ moves) still told named counts =
    let here : numbers one.cell ≡ one.by = All-head (λ (t : Term). numbers t.0 ≡ t.1) (one.cell, one.by) (terms_of moves) told in
    let inside : one.cell < size = All-head (λ (t : Term). t.0 < size) (one.cell, one.by) (terms_of moves) named in
    let moved : one.by ≢ pos 0 = All-head (λ (t : Term). t.1 ≢ pos 0) (one.cell, one.by) (terms_of moves) counts in
    let unknown : known one.cell ≡ false = by_test (known one.cell) (known one.cell ≡ false) (λ is. absurd (moved (sym here ∙ still one.cell inside is))) (λ is. is) in
    ap (λ b. b || list_any (λ (m : Move). known m.cell) moves) unknown
    ∙ none_moved size known numbers moves still (All-tail (λ (t : Term). numbers t.0 ≡ t.1) (one.cell, one.by) (terms_of moves) told) (All-tail (λ (t : Term). t.0 < size) (one.cell, one.by) (terms_of moves) named) (All-tail (λ (t : Term). t.1 ≢ pos 0) (one.cell, one.by) (terms_of moves) counts)

-- a world for the set without what is known moves no known cell
pub moves_none : (c : Case) (soles : List (Option ℕ)) (row : ℕ) (flags : List Bool) (world : World) → IsGivenWorld c.system c.cells (without_known soles row flags) world → moves_known soles row world.moves ≡ false
moves_none c soles row flags world is =
    none_moved c.system.cells (is_known soles row) (number_given (terms_of world.moves)) world.moves
    (λ k inside known. is.is_world.shown_stay k inside (left_says soles row flags k ∙ ap (λ b. is_hidden flags k && not b) known ∙ and_nothing (is_hidden flags k)))
    (each_given 0 (terms_of world.moves) is.listed.ascending) is.listed.named is.listed.counting
  where
    and_nothing : (b : Bool) → (b && false) ≡ false
    and_nothing true = refl
    and_nothing false = refl

-- so where it takes the cell as far as its level, it serves
pub world_serves : (c : Case) (soles : List (Option ℕ)) (flags : List Bool) (attack : Attack) (world : World) → IsGivenWorld c.system c.cells (without_known soles attack.row flags) world → is_reaching c.cells (target_of attack) world ≡ true → serves c.cells soles attack world ≡ true
world_serves c soles flags attack world is reaching =
    both_true (is_reaching c.cells (target_of attack) world) (not (moves_known soles attack.row world.moves)) reaching (ap not (moves_none c soles attack.row flags world is))

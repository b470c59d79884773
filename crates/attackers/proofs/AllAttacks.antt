-- All attacks: each is one, and sets with more cells hidden guard against more.
use Rattle.std.proofs.Common.{◌≡◌, ℕ, zero, suc, ◌<◌, inl, inr, ◌&&◌, ◌||◌, not, nat_lt, Bool, true, false, List, [], ◌∷◌, length, map, filter, fold, flat_map, get_or, All, Option, None, Some, refl, ap, sym, ◌∙◌, subst, arith, if◌then◌else◌}
use Rattle.std.specs.List.{list_any}
use Rattle.std.specs.Ordering.{nat_cmp}
use Rattle.std.specs.BTreeSet.{insert_key}
use Rattle.std.proofs.lemmas.Bool.Decides.{Decides-eqb, nat_tests}
use Rattle.std.proofs.lemmas.List.Elements.{All-nil, All-cons, All-head, All-tail, All-append}
use Rattle.std.proofs.lemmas.Map.Views.{All-insert_key}
use Rattle.std.proofs.lemmas.Option.{slice_get-get_or}
use Rattle.sdc_base.specs.declared.cell.Cell.{Cell}
use Rattle.sdc_base.specs.declared.side.Side.{Side}
use Rattle.sdc_base.specs.Kinds.{is_primary_at}
use Rattle.sdc_base.specs.HiddenSets.{is_hidden, hide, hide_cells}
use Rattle.worlds.specs.declared.world.World.{World}
use Rattle.worlds.specs.ProtectFaults.{asked_of}
use Rattle.worlds.proofs.TrueTests.{both_true, not_true}
use Rattle.repair.proofs.Flags.{IsWithin, by_test, clash, same_or_other, hidden_here, hidden_other, within_itself, within_both}
use Rattle.repair.proofs.Order.{asked_primary, primary_by}
use Rattle.attackers.specs.declared.attack.Attack.{Attack}
use Rattle.attackers.specs.Alone.{is_sole}
use Rattle.attackers.specs.KnownCells.{is_known, IsAttack, serves}
use Rattle.attackers.specs.AttackOrder.{with_row, sole_rows, attack_by, attacks_on, attacks_of, is_unserved, unserved_on, unserved_attacks}
use Rattle.attackers.proofs.Holding.{any_here}
use Rattle.attackers.proofs.Knowing.{shown_past}
use Rattle.attackers.proofs.Thinning.{thinned_both, IsThinned}

-- ---- larger sets

pub within_one : (flags : List Bool) (cell : ℕ) → IsWithin flags (hide flags cell)
within_one flags cell = record {
  hides = λ k is. elim (same_or_other k cell) [
    | inl same ↦
        let own : is_hidden flags cell ≡ true = subst (λ m. is_hidden flags m ≡ true) same is in
        let inside : cell < length flags = by_test (nat_lt cell (length flags)) (cell < length flags) (λ less. grind (arith, nat_tests, less)) (λ past. clash (is_hidden flags cell) own (shown_past flags cell (grind (arith, nat_tests, past)))) in
        subst (λ m. is_hidden (hide flags cell) m ≡ true) (sym same) (hidden_here flags cell inside)
    | inr other ↦ hidden_other flags cell k other ∙ is
  ];
}

pub within_cells : (flags : List Bool) (cells : List ℕ) → IsWithin flags (hide_cells flags cells)
within_cells flags [] = within_itself flags
within_cells flags (cell ∷ cells) = within_both flags (hide flags cell) (hide_cells (hide flags cell) cells) (within_one flags cell) (within_cells (hide flags cell) cells)

-- ---- rows

rows_from : (P : ℕ → Type 0) (soles : List (Option ℕ)) (rows : List ℕ) → All P rows → All (λ (sole : Option ℕ). (row : ℕ) → sole ≡ Some row → P row) soles → All P (fold with_row rows soles)
rows_from P [] rows first all = first
rows_from P (None ∷ soles) rows first all = rows_from P soles rows first (All-tail (λ (sole : Option ℕ). (row : ℕ) → sole ≡ Some row → P row) None soles all)
rows_from P (Some row ∷ soles) rows first all =
    rows_from P soles (insert_key nat_cmp rows row)
    (All-insert_key nat_cmp row P rows first (All-head (λ (sole : Option ℕ). (r : ℕ) → sole ≡ Some r → P r) (Some row) soles all row refl))
    (All-tail (λ (sole : Option ℕ). (r : ℕ) → sole ≡ Some r → P r) (Some row) soles all)

sole_here : (row : ℕ) (sole : Option ℕ) → sole ≡ Some row → is_sole row sole ≡ true
sole_here row sole is = ap (is_sole row) is ∙ (Decides-eqb row row).1 refl

-- each of the rows alone makes up some cell
pub rows_make_up : (soles : List (Option ℕ)) → All (λ row. list_any (is_sole row) soles ≡ true) (sole_rows soles)
rows_make_up soles =
    rows_from (λ row. list_any (is_sole row) soles ≡ true) soles [] (All-nil (λ row. list_any (is_sole row) soles ≡ true))
    (λ k d within row is. any_here (is_sole row) soles k (get_or soles k d) within (same_either soles k d within) (sole_here row (get_or soles k d) is))
  where
    same_either : (xs : List (Option ℕ)) (k : ℕ) (d : Option ℕ) → k < length xs → get_or xs k d ≡ get_or xs k (get_or xs k d)
    same_either [] k d within = refl
    same_either (x ∷ xs) zero d within = refl
    same_either (x ∷ xs) (suc k) d within = same_either xs k d (omega (arith, within))

-- ---- attacks

-- all that is asked about is primary
pub all_primary : (cells : List Cell) → All (λ (asked : ℕ × Side). is_primary_at cells asked.0 ≡ true) (asked_of 0 cells)
all_primary cells k d within = primary_by cells (get_or (asked_of 0 cells) k d).0 (asked_primary cells k (get_or (asked_of 0 cells) k d) (slice_get-get_or (asked_of 0 cells) k d within))

attack_is : (cells : List Cell) (soles : List (Option ℕ)) (row : ℕ) (asked : ℕ × Side) → list_any (is_sole row) soles ≡ true → is_primary_at cells asked.0 ≡ true → is_known soles row asked.0 ≡ false → IsAttack cells soles (attack_by row asked)
attack_is cells soles row asked makes primary unknown =
    both_true (is_primary_at cells asked.0) (not (is_known soles row asked.0) && list_any (is_sole row) soles) primary
    (both_true (not (is_known soles row asked.0)) (list_any (is_sole row) soles) (ap not unknown) makes)

attacks_on_are : (cells : List Cell) (soles : List (Option ℕ)) (row : ℕ) (asked : List (ℕ × Side)) → list_any (is_sole row) soles ≡ true → All (λ (one : ℕ × Side). is_primary_at cells one.0 ≡ true) asked → All (IsAttack cells soles) (attacks_on soles asked row)
attacks_on_are cells soles row [] makes all = All-nil (IsAttack cells soles)
attacks_on_are cells soles row (one ∷ asked) makes all =
    let rest : All (IsAttack cells soles) (attacks_on soles asked row) = attacks_on_are cells soles row asked makes (All-tail (λ (q : ℕ × Side). is_primary_at cells q.0 ≡ true) one asked all) in
    elim (is_known soles row one.0) as (λ b. is_known soles row one.0 ≡ b → All (IsAttack cells soles) (map (attack_by row) (if not b then one ∷ filter (λ (q : ℕ × Side). not (is_known soles row q.0)) asked else filter (λ (q : ℕ × Side). not (is_known soles row q.0)) asked))) [
      | true ↦ λ is. rest
      | false ↦ λ is. All-cons (IsAttack cells soles) (attack_by row one) (attacks_on soles asked row) (attack_is cells soles row one makes (All-head (λ (q : ℕ × Side). is_primary_at cells q.0 ≡ true) one asked all) is) rest
    ] refl

all_flat : {X Y : Type 0} (P : Y → Type 0) (Q : X → Type 0) (g : X → List Y) (xs : List X) → ((x : X) → Q x → All P (g x)) → All Q xs → All P (flat_map g xs)
all_flat P Q g [] f all = All-nil P
all_flat P Q g (x ∷ xs) f all = All-append P (g x) (flat_map g xs) (f x (All-head Q x xs all)) (all_flat P Q g xs f (All-tail Q x xs all))

-- each of all attacks is one
pub attacks_are : (cells : List Cell) (soles : List (Option ℕ)) → All (IsAttack cells soles) (attacks_of cells soles)
attacks_are cells soles =
    all_flat (IsAttack cells soles) (λ row. list_any (is_sole row) soles ≡ true) (attacks_on soles (asked_of 0 cells)) (sole_rows soles)
    (λ row makes. attacks_on_are cells soles row (asked_of 0 cells) makes (all_primary cells)) (rows_make_up soles)

-- ---- attacks against which the worlds don't serve

unserved_are_on : (cells : List Cell) (soles : List (Option ℕ)) (row : ℕ) (asked : List (ℕ × Side)) (worlds : List World) → list_any (is_sole row) soles ≡ true → All (λ (one : ℕ × Side). is_primary_at cells one.0 ≡ true) asked → All (IsAttack cells soles) (unserved_on cells soles asked worlds row)
unserved_are_on cells soles row [] worlds makes all = All-nil (IsAttack cells soles)
unserved_are_on cells soles row (one ∷ asked) [] makes all = All-nil (IsAttack cells soles)
unserved_are_on cells soles row (one ∷ asked) (world ∷ worlds) makes all =
    let rest : All (IsAttack cells soles) (unserved_on cells soles asked worlds row) = unserved_are_on cells soles row asked worlds makes (All-tail (λ (q : ℕ × Side). is_primary_at cells q.0 ≡ true) one asked all) in
    elim (is_unserved cells soles (attack_by row one) world) as (λ b. is_unserved cells soles (attack_by row one) world ≡ b → All (IsAttack cells soles) (if b then attack_by row one ∷ unserved_on cells soles asked worlds row else unserved_on cells soles asked worlds row)) [
      | true ↦ λ is.
          let unknown : is_known soles row one.0 ≡ false = not_true (is_known soles row one.0) (and_first (not (is_known soles row one.0)) (not (serves cells soles (attack_by row one) world)) is) in
          All-cons (IsAttack cells soles) (attack_by row one) (unserved_on cells soles asked worlds row) (attack_is cells soles row one makes (All-head (λ (q : ℕ × Side). is_primary_at cells q.0 ≡ true) one asked all) unknown) rest
      | false ↦ λ is. rest
    ] refl
  where
    and_first : (a b : Bool) → (a && b) ≡ true → a ≡ true
    and_first true b is = refl
    and_first false b is = absurd cc

pub unserved_are : (cells : List Cell) (soles : List (Option ℕ)) (worlds : List World) → All (IsAttack cells soles) (unserved_attacks cells soles worlds)
unserved_are cells soles worlds =
    all_flat (IsAttack cells soles) (λ row. list_any (is_sole row) soles ≡ true) (unserved_on cells soles (asked_of 0 cells) worlds) (sole_rows soles)
    (λ row makes. unserved_are_on cells soles row (asked_of 0 cells) worlds makes (all_primary cells)) (rows_make_up soles)

-- against all others some of the worlds serves
abbrev pub IsServedBy : List Cell → List (Option ℕ) → List World → Attack → Type 0
IsServedBy cells soles worlds attack =
    IsAttack cells soles attack × (list_any (serves cells soles attack) worlds ≡ true)

thinned_on : (cells : List Cell) (soles : List (Option ℕ)) (row : ℕ) (all : List World) (asked : List (ℕ × Side)) (worlds : List World) → list_any (is_sole row) soles ≡ true → All (λ (one : ℕ × Side). is_primary_at cells one.0 ≡ true) asked → ((attack : Attack) → list_any (serves cells soles attack) worlds ≡ true → list_any (serves cells soles attack) all ≡ true) → length worlds ≡ length asked → IsThinned (IsServedBy cells soles all) (attacks_on soles asked row) (unserved_on cells soles asked worlds row)
thinned_on cells soles row all [] worlds makes primary more count = refl
thinned_on cells soles row all (one ∷ asked) [] makes primary more count = absurd (omega (arith, count))
thinned_on cells soles row all (one ∷ asked) (world ∷ worlds) makes primary more count =
    let later : (attack : Attack) → list_any (serves cells soles attack) worlds ≡ true → list_any (serves cells soles attack) all ≡ true = λ attack is.
    more attack (by_test (serves cells soles attack world) ((serves cells soles attack world || list_any (serves cells soles attack) worlds) ≡ true) (λ here. ap (λ b. b || list_any (serves cells soles attack) worlds) here) (λ there. ap (λ b. b || list_any (serves cells soles attack) worlds) there ∙ is)) in
    let rest : IsThinned (IsServedBy cells soles all) (attacks_on soles asked row) (unserved_on cells soles asked worlds row) = thinned_on cells soles row all asked worlds makes (All-tail (λ (q : ℕ × Side). is_primary_at cells q.0 ≡ true) one asked primary) later (omega (arith, count)) in
    elim (is_known soles row one.0) as (λ known. is_known soles row one.0 ≡ known → IsThinned (IsServedBy cells soles all) (map (attack_by row) (if not known then one ∷ filter (λ (q : ℕ × Side). not (is_known soles row q.0)) asked else filter (λ (q : ℕ × Side). not (is_known soles row q.0)) asked)) (if not known && not (serves cells soles (attack_by row one) world) then attack_by row one ∷ unserved_on cells soles asked worlds row else unserved_on cells soles asked worlds row)) [
      | true ↦ λ is. rest
      | false ↦ λ is. elim (serves cells soles (attack_by row one) world) as (λ does. serves cells soles (attack_by row one) world ≡ does → IsThinned (IsServedBy cells soles all) (attack_by row one ∷ attacks_on soles asked row) (if not does then attack_by row one ∷ unserved_on cells soles asked worlds row else unserved_on cells soles asked worlds row)) [
        | true ↦ λ does. inl ((attack_is cells soles row one makes (All-head (λ (q : ℕ × Side). is_primary_at cells q.0 ≡ true) one asked primary) is, more (attack_by row one) (ap (λ b. b || list_any (serves cells soles (attack_by row one)) worlds) does)), rest)
        | false ↦ λ does. inr (unserved_on cells soles asked worlds row, refl, rest)
      ] refl
    ] refl

thinned_flat : (cells : List Cell) (soles : List (Option ℕ)) (asked : List (ℕ × Side)) (worlds : List World) (rows : List ℕ) → All (λ row. list_any (is_sole row) soles ≡ true) rows → All (λ (one : ℕ × Side). is_primary_at cells one.0 ≡ true) asked → length worlds ≡ length asked → IsThinned (IsServedBy cells soles worlds) (flat_map (attacks_on soles asked) rows) (flat_map (unserved_on cells soles asked worlds) rows)
thinned_flat cells soles asked worlds [] make primary count = refl
thinned_flat cells soles asked worlds (row ∷ rows) make primary count =
    thinned_both (IsServedBy cells soles worlds) (attacks_on soles asked row) (unserved_on cells soles asked worlds row) (flat_map (attacks_on soles asked) rows) (flat_map (unserved_on cells soles asked worlds) rows)
    (thinned_on cells soles row worlds asked worlds (All-head (λ r. list_any (is_sole r) soles ≡ true) row rows make) primary (λ attack is. is) count) (thinned_flat cells soles asked worlds rows (All-tail (λ r. list_any (is_sole r) soles ≡ true) row rows make) primary count)

-- those that are left are all against which no world serves
pub unserved_thinned : (cells : List Cell) (soles : List (Option ℕ)) (worlds : List World) → length worlds ≡ length (asked_of 0 cells) → IsThinned (IsServedBy cells soles worlds) (attacks_of cells soles) (unserved_attacks cells soles worlds)
unserved_thinned cells soles worlds count = thinned_flat cells soles (asked_of 0 cells) worlds (sole_rows soles) (rows_make_up soles) (all_primary cells) count

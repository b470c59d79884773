-- Each attack is among those that are listed.
use Rattle.std.proofs.Common.{◌≡◌, ℕ, zero, suc, ◌+◌, ◌==◌, ◌||◌, not, Bool, true, false, cond, Less, Equal, Greater, List, [], ◌∷◌, ◌++◌, map, filter, fold, flat_map, slice_get, Option, None, Some, refl, sym, subst, arith}
use Rattle.std.specs.List.{AllByRecursion, list_any}
use Rattle.std.specs.Ordering.{nat_cmp, match_ordering}
use Rattle.std.specs.BTreeSet.{insert_key}
use Rattle.std.proofs.lemmas.Bool.Decides.{Decides-eqb}
use Rattle.std.proofs.lemmas.List.Elements.{recursion_from_All}
use Rattle.std.proofs.lemmas.Map.Lookups.{exact_unsigned}
use Rattle.sdc_base.specs.Kinds.{is_primary}
use Rattle.sdc_base.specs.declared.cell.Cell.{Cell}
use Rattle.sdc_base.specs.declared.side.Side.{Side}
use Rattle.sdc_base.specs.declared.side.Side.TheVariants.{Above, Below}
use Rattle.worlds.specs.ProtectFaults.{asked_of}
use Rattle.attackers.specs.declared.attack.Attack.{Attack}
use Rattle.attackers.specs.Alone.{is_sole}
use Rattle.attackers.specs.KnownCells.{is_known, Guards}
use Rattle.attackers.specs.AttackOrder.{with_row, sole_rows, attack_by, attacks_on, attacks_of}
use Rattle.attackers.specs.Laws.{GuardsEach}
use Rattle.attackers.proofs.AskedCells.{attack_says}

-- ---- lists of lists, images and what passes a test

in_front : {X : Type 0} (P : X → Type 0) (xs ys : List X) → AllByRecursion P (xs ++ ys) → AllByRecursion P xs × AllByRecursion P ys
in_front P [] ys all = (tt, all)
in_front P (x ∷ xs) ys all = let rest = in_front P xs ys all.1 in ((all.0, rest.0), rest.1)

in_lists : {X Y : Type 0} (P : Y → Type 0) (f : X → List Y) (xs : List X) → AllByRecursion P (flat_map f xs) → AllByRecursion (λ x. AllByRecursion P (f x)) xs
in_lists P f [] all = tt
in_lists P f (x ∷ xs) all = let both = in_front P (f x) (flat_map f xs) all in (both.0, in_lists P f xs both.1)

in_image : {X Y : Type 0} (P : Y → Type 0) (f : X → Y) (xs : List X) → AllByRecursion P (map f xs) → AllByRecursion (λ x. P (f x)) xs
in_image P f [] all = tt
in_image P f (x ∷ xs) all = (all.0, in_image P f xs all.1)

in_passing : {X : Type 0} (P : X → Type 0) (test : X → Bool) (xs : List X) → AllByRecursion P (filter test xs) → AllByRecursion (λ x. test x ≡ true → P x) xs
in_passing P test [] all = tt
in_passing P test (x ∷ xs) all =
    elim (test x) as (λ t. AllByRecursion P (cond t (x ∷ filter test xs) (filter test xs)) → (t ≡ true → P x) × AllByRecursion (λ y. test y ≡ true → P y) xs) [
      | true ↦ λ a. ((λ is. a.0), in_passing P test xs a.1)
      | false ↦ λ a. ((λ no. absurd cc), in_passing P test xs a)
    ] all

-- ---- rows

inserted : (P : ℕ → Type 0) (rows : List ℕ) (row : ℕ) → AllByRecursion P (insert_key nat_cmp rows row) → P row × AllByRecursion P rows
inserted P [] row all = (all.0, tt)
inserted P (other ∷ rows) row all =
    let rest = λ (a : AllByRecursion P (insert_key nat_cmp rows row)). inserted P rows row a in
    elim (nat_cmp row other) as (λ o. nat_cmp row other ≡ o → AllByRecursion P (match_ordering o (row ∷ other ∷ rows) (other ∷ rows) (other ∷ insert_key nat_cmp rows row)) → P row × AllByRecursion P (other ∷ rows)) [
      | Less ↦ λ is a. (a.0, a.1)
      | Equal ↦ λ is a. (subst P (sym (exact_unsigned row other is)) a.0, a)
      | Greater ↦ λ is a. ((rest a.1).0, (a.0, (rest a.1).1))
    ] refl all

in_rows : (P : ℕ → Type 0) (soles : List (Option ℕ)) (rows : List ℕ) (row : ℕ) → AllByRecursion P (fold with_row rows soles) → AllByRecursion P rows × (list_any (is_sole row) soles ≡ true → P row)
in_rows P [] rows row all = (all, λ no. absurd cc)
in_rows P (None ∷ soles) rows row all = in_rows P soles rows row all
in_rows P (Some other ∷ soles) rows row all =
    let rest = in_rows P soles (insert_key nat_cmp rows other) row all in
    let put = inserted P rows other rest.0 in (
      put.1,
      elim (other == row) as (λ t. (other == row) ≡ t → (t || list_any (is_sole row) soles) ≡ true → P row) [
        | true ↦ λ same is. subst P ((Decides-eqb other row).0 same) put.0
        | false ↦ λ apart is. rest.1 is
      ] refl,
    )

-- ---- what is asked about

in_asked : (P : ℕ × Side → Type 0) (number : ℕ) (cells : List Cell) (place : ℕ) (one : Cell) (side : Side) → slice_get cells place ≡ Some one → is_primary one.kind ≡ true → AllByRecursion P (asked_of number cells) → P (number + place, side)
in_asked P number [] place one side found is all = absurd cc
in_asked P number (cell ∷ cells) zero one side found is all =
    let same : cell ≡ one = cc in
    let here : is_primary cell.kind ≡ true = subst (λ (x : Cell). is_primary x.kind ≡ true) (sym same) is in
    let number_is : number ≡ number + 0 = omega arith in
    subst (λ n. P (n, side)) number_is (by_side side (subst (λ t. AllByRecursion P (cond t ((number, Above) ∷ (number, Below) ∷ asked_of (number + 1) cells) (asked_of (number + 1) cells))) here all))
  where
    by_side : (side : Side) → AllByRecursion P ((number, Above) ∷ (number, Below) ∷ asked_of (number + 1) cells) → P (number, side)
    by_side Above a = a.0
    by_side Below a = a.1.0
in_asked P number (cell ∷ cells) (suc place) one side found is all =
    let number_is : number + 1 + place ≡ number + suc place = omega arith in
    let rest : AllByRecursion P (asked_of (number + 1) cells) =
    elim (is_primary cell.kind) as (λ t. AllByRecursion P (cond t ((number, Above) ∷ (number, Below) ∷ asked_of (number + 1) cells) (asked_of (number + 1) cells)) → AllByRecursion P (asked_of (number + 1) cells)) [
      | true ↦ λ a. a.1.1
      | false ↦ λ a. a
    ] all in
    subst (λ n. P (n, side)) number_is (in_asked P (number + 1) cells place one side found is rest)

-- ---- attacks

pub guards_each : GuardsEach
guards_each c soles flags all attack is =
    let P : Attack → Type 0 = Guards c soles flags in
    let says = attack_says c.cells soles attack is in
    let each = in_lists P (attacks_on soles (asked_of 0 c.cells)) (sole_rows soles) (recursion_from_All P (attacks_of c.cells soles) all) in
    let own = (in_rows (λ row. AllByRecursion P (attacks_on soles (asked_of 0 c.cells) row)) soles [] attack.row each).1 says.makes_up in
    let unknown = λ (one : ℕ × Side). not (is_known soles attack.row one.0) in
    let asked = in_passing (λ one. P (attack_by attack.row one)) unknown (asked_of 0 c.cells) (in_image P (attack_by attack.row) (filter unknown (asked_of 0 c.cells)) own) in
    let primary : is_primary says.primary.cell.kind ≡ true = rw (says.primary.is_kind) refl in
    let last = in_asked (λ one. unknown one ≡ true → P (attack_by attack.row one)) 0 c.cells attack.cell says.primary.cell attack.side says.primary.found primary asked in
    let number_is : 0 + attack.cell ≡ attack.cell = omega arith in
    subst (λ n. unknown (n, attack.side) ≡ true → P (attack_by attack.row (n, attack.side))) number_is last (rw (says.unknown) refl)

-- What the definitions come to.
use Rattle.std.proofs.Common.{◌≡◌, ◌⊎◌, inl, inr, ℕ, zero, suc, ◌+◌, ◌*◌, ◌<◌, ◌≤◌, ◌==◌, ◌||◌, Bool, true, false, List, [], ◌∷◌, length, length-set, map, fold, Some, slice_get, refl, ap, sym, ◌∙◌, subst, arith, if◌then◌else◌}
use Rattle.std.specs.List.{list_any}
use Rattle.std.proofs.lemmas.Bool.{or_cases}
use Rattle.std.proofs.lemmas.Bool.Decides.{Decides-eqb}
use Rattle.std.proofs.lemmas.List.{length-map}
use Rattle.sdc_base.specs.Kinds.{is_primary}
use Rattle.sdc_base.specs.declared.cell.Cell.{Cell}
use Rattle.sdc_base.specs.declared.cell.Kind.TheVariants.{Primary}
use Rattle.sdc_base.specs.declared.side.Side.{Side}
use Rattle.sdc_base.specs.declared.side.Side.TheVariants.{Above, Below}
use Rattle.sdc_base.specs.HiddenSets.{is_hidden, hide}
use Rattle.worlds.specs.declared.refuted.Refuted.{Refuted}
use Rattle.worlds.specs.ProtectFaults.{asked_of}
use Rattle.repair.specs.HidingOrder.{IsOfKind, planned_set, hide_subjects}
use Rattle.repair.specs.Laws.{IsAmong, OpenSetHolds, rank, QuestionsAreInOrder}
use Rattle.repair.proofs.Flags.{same_or_other, hidden_here, hidden_other, hidden_map, hidden_none, length-hidden}
use Rattle.repair.proofs.Order.{primary_is, asked_primary, asked_from}

-- ---- the open set

or_right : (a b : Bool) → b ≡ true → (a || b) ≡ true
or_right true b is = refl
or_right false b is = is

-- what is hidden was hidden, or is among those that were hidden
hidden_by : (flags : List Bool) (cells : List ℕ) (c : ℕ) → is_hidden (fold hide flags cells) c ≡ true → (is_hidden flags c ≡ true) ⊎ IsAmong cells c
hidden_by flags [] c is = inl is
hidden_by flags (cell ∷ cells) c is =
    elim (hidden_by (hide flags cell) cells c is) [
      | inl own ↦ elim (same_or_other c cell) [
        | inl same ↦ let test : (cell == c) ≡ true = (Decides-eqb cell c).1 (sym same) in inr (rw test refl)
        | inr other ↦ inl (sym (hidden_other flags cell c other) ∙ own)
      ]
      | inr rest ↦ inr (or_right (cell == c) (list_any (λ one. one == c) cells) rest)
    ]

still_hidden : (flags : List Bool) (cells : List ℕ) (c : ℕ) → c < length flags → is_hidden flags c ≡ true → is_hidden (fold hide flags cells) c ≡ true
still_hidden flags [] c inside is = is
still_hidden flags (cell ∷ cells) c inside is =
    still_hidden (hide flags cell) cells c (omega (arith, inside, length-set flags cell true)) (elim (same_or_other c cell) [
      | inl same ↦ ap (λ n. is_hidden (hide flags cell) n) same ∙ hidden_here flags cell (omega (arith, inside, same))
      | inr other ↦ hidden_other flags cell c other ∙ is
    ])

among_hidden : (flags : List Bool) (cells : List ℕ) (c : ℕ) → c < length flags → IsAmong cells c → is_hidden (fold hide flags cells) c ≡ true
among_hidden flags [] c inside is = absurd cc
among_hidden flags (cell ∷ cells) c inside is =
    elim (or_cases (cell == c) (list_any (λ one. one == c) cells) is) [
      | inl test ↦
          let same : cell ≡ c = (Decides-eqb cell c).0 test in
          still_hidden (hide flags cell) cells c (omega (arith, inside, length-set flags cell true)) (ap (λ n. is_hidden (hide flags cell) n) (sym same) ∙ hidden_here flags cell (omega (arith, inside, same)))
      | inr rest ↦ among_hidden (hide flags cell) cells c (omega (arith, inside, length-set flags cell true)) rest
    ]

by_subjects : (flags : List Bool) (repairs : List Refuted) → hide_subjects flags repairs ≡ fold hide flags (map (λ repair. repair.subject) repairs)
by_subjects flags [] = refl
by_subjects flags (repair ∷ repairs) = by_subjects (hide flags repair.subject) repairs

primary_flag : (cells : List Cell) (c : ℕ) → is_hidden (map (λ cell. is_primary cell.kind) cells) c ≡ true → IsOfKind cells c Primary
primary_flag cells c is =
    let found = hidden_none (λ cell. is_primary cell.kind) cells c is in
    record { cell = found.0; found = found.1; is_kind = primary_is found.0.kind found.2 }

pub open_set_holds : OpenSetHolds
open_set_holds cells corners repairs c inside =
    let flags : List Bool = map (λ (cell : Cell). is_primary cell.kind) cells in
    let subjects : List ℕ = map (λ (repair : Refuted). repair.subject) repairs in
    let planned : List Bool = planned_set cells corners in
    let long : length flags ≡ length cells = length-map cells (λ (cell : Cell). is_primary cell.kind) in
    let planned_long : length planned ≡ length flags = length-hidden flags corners in
    let same : hide_subjects planned repairs ≡ fold hide planned subjects = by_subjects planned repairs in (
      λ is. elim (hidden_by planned subjects c (sym (ap (λ (f : List Bool). is_hidden f c) same) ∙ is)) [
        | inl own ↦ elim (hidden_by flags corners c own) [
          | inl first ↦ inl (primary_flag cells c first)
          | inr among ↦ inr (inl among)
        ]
        | inr among ↦ inr (inr among)
      ],
      λ said. ap (λ (f : List Bool). is_hidden f c) same ∙ elim said [
        | inl own ↦ still_hidden planned subjects c (omega (arith, inside, long, planned_long)) (still_hidden flags corners c (omega (arith, inside, long)) (hidden_map (λ cell. is_primary cell.kind) cells c own.cell own.found ∙ ap is_primary own.is_kind))
        | inr more ↦ elim more [
          | inl among ↦ still_hidden planned subjects c (omega (arith, inside, long, planned_long)) (among_hidden flags corners c (omega (arith, inside, long)) among)
          | inr among ↦ among_hidden planned subjects c (omega (arith, inside, long, planned_long)) among
        ]
      ],
    )

-- ---- the order of questions

rank_from : (side : Side) (number n : ℕ) → number ≤ n → 2 * number ≤ rank (n, side)
rank_from Above number n from = omega (arith, from)
rank_from Below number n from = omega (arith, from)

-- no question of later cells comes first
later_from : (number : ℕ) (cells : List Cell) (asked : ℕ × Side) (place : ℕ) → slice_get (asked_of number cells) place ≡ Some asked → 2 * number ≤ rank asked
later_from number cells asked place stands =
    let is = asked_from number cells place asked stands in
    let same : rank (asked.0, asked.1) ≡ rank asked = refl in
    subst (λ r. 2 * number ≤ r) same (rank_from asked.1 number asked.0 (omega (arith, is.1)))

ascend_here : (number : ℕ) (rest : List (ℕ × Side)) (one other : ℕ × Side) (place later : ℕ) → ((asked : ℕ × Side) (k : ℕ) → slice_get rest k ≡ Some asked → 2 * (number + 1) ≤ rank asked) → ((p q : ℕ) → slice_get rest p ≡ Some one → slice_get rest q ≡ Some other → p < q → rank one < rank other) → slice_get ((number, Above) ∷ (number, Below) ∷ rest) place ≡ Some one → slice_get ((number, Above) ∷ (number, Below) ∷ rest) later ≡ Some other → place < later → rank one < rank other
ascend_here number rest one other place zero from up first second less = absurd (omega (arith, less))
ascend_here number rest one other zero (suc zero) from up first second less =
    let a : (number, Above) ≡ one = cc in
    let b : (number, Below) ≡ other = cc in
    omega (arith, ap rank a, ap rank b)
ascend_here number rest one other (suc place) (suc zero) from up first second less = absurd (omega (arith, less))
ascend_here number rest one other zero (suc (suc later)) from up first second less =
    let a : (number, Above) ≡ one = cc in
    omega (arith, ap rank a, from other later second)
ascend_here number rest one other (suc zero) (suc (suc later)) from up first second less =
    let a : (number, Below) ≡ one = cc in
    omega (arith, ap rank a, from other later second)
ascend_here number rest one other (suc (suc place)) (suc (suc later)) from up first second less = up place later first second (omega (arith, less))

ascend_from : (number : ℕ) (cells : List Cell) (one other : ℕ × Side) (place later : ℕ) → slice_get (asked_of number cells) place ≡ Some one → slice_get (asked_of number cells) later ≡ Some other → place < later → rank one < rank other
ascend_from number [] one other place later first second less = absurd cc
ascend_from number (cell ∷ cells) one other place later first second less =
    elim (is_primary cell.kind) as (λ b. slice_get (if b then (number, Above) ∷ (number, Below) ∷ asked_of (number + 1) cells else asked_of (number + 1) cells) place ≡ Some one → slice_get (if b then (number, Above) ∷ (number, Below) ∷ asked_of (number + 1) cells else asked_of (number + 1) cells) later ≡ Some other → rank one < rank other) [
      | true ↦ λ f s. ascend_here number (asked_of (number + 1) cells) one other place later (later_from (number + 1) cells) (λ p q. ascend_from (number + 1) cells one other p q) f s less
      | false ↦ λ f s. ascend_from (number + 1) cells one other place later f s less
    ] first second

side_place : (side : Side) (number : ℕ) (rest : List (ℕ × Side)) → (place : ℕ) × (slice_get ((number, Above) ∷ (number, Below) ∷ rest) place ≡ Some (number, side))
side_place Above number rest = (0, refl)
side_place Below number rest = (1, refl)

stands_from : (number : ℕ) (cells : List Cell) (i : ℕ) (side : Side) → IsOfKind cells i Primary → (place : ℕ) × (slice_get (asked_of number cells) place ≡ Some (number + i, side))
stands_from number [] i side is = absurd (let bad : slice_get [] i ≡ Some is.cell = is.found in cc)
stands_from number (cell ∷ cells) zero side is =
    let same : cell ≡ is.cell = let own : slice_get (cell ∷ cells) 0 ≡ Some is.cell = is.found in cc in
    let own : is_primary cell.kind ≡ true = ap (λ (c : Cell). is_primary c.kind) same ∙ ap is_primary is.is_kind in
    let list : asked_of number (cell ∷ cells) ≡ (number, Above) ∷ (number, Below) ∷ asked_of (number + 1) cells = ap (λ b. if b then (number, Above) ∷ (number, Below) ∷ asked_of (number + 1) cells else asked_of (number + 1) cells) own in
    let there = side_place side number (asked_of (number + 1) cells) in
    let here : number ≡ number + 0 = omega arith in
    (there.0, ap (λ (l : List (ℕ × Side)). slice_get l there.0) list ∙ there.1 ∙ ap (λ n. Some (n, side)) here)
stands_from number (cell ∷ cells) (suc i) side is =
    let rest = stands_from (number + 1) cells i side (record { cell = is.cell; found = is.found; is_kind = is.is_kind }) in
    let here : number + 1 + i ≡ number + suc i = omega arith in
    elim (is_primary cell.kind) as (λ b. (place : ℕ) × (slice_get (if b then (number, Above) ∷ (number, Below) ∷ asked_of (number + 1) cells else asked_of (number + 1) cells) place ≡ Some (number + suc i, side))) [
      | true ↦ (suc (suc rest.0), rest.1 ∙ ap (λ n. Some (n, side)) here)
      | false ↦ (rest.0, rest.1 ∙ ap (λ n. Some (n, side)) here)
    ]

pub questions_are_in_order : QuestionsAreInOrder
questions_are_in_order cells = record {
  primary = λ asked place stands. asked_primary cells place asked stands;
  each = λ number side is.
      let there = stands_from 0 cells number side is in
      let here : 0 + number ≡ number = omega arith in
      (there.0, there.1 ∙ ap (λ n. Some (n, side)) here);
  ascending = λ one other place later first second less. ascend_from 0 cells one other place later first second less;
}

-- The first fault of needs and of attacks, one after another; and what extra cells without a fault are.
use Rattle.std.proofs.Common.{◌≡◌, ℕ, ◌+◌, ◌<◌, ◌≤◌, ◌==◌, ◌&&◌, nat_lt, nat_le, not, Bool, true, false, List, [], ◌∷◌, ◌++◌, length, drop, get_or, flat_map, slice_get, All, Option, None, Some, Ok, Err, refl, ap, sym, ◌∙◌, subst, arith}
use Rattle.std.specs.Option.{option_map_or}
use Rattle.std.proofs.lemmas.Bool.Decides.{Decides-eqb, nat_tests}
use Rattle.std.proofs.lemmas.List.{drop_more, drop_all}
use Rattle.std.proofs.lemmas.List.Elements.{All-nil, All-cons, All-head, All-tail, All-weaker}
use Rattle.std.proofs.lemmas.Option.{slice_get-get_or, slice_get_past, slice_get_within}
use Rattle.sdc_base.specs.Steps.{◌>>=◌, refuse}
use Rattle.sdc_base.proofs.StepLemmas.{bind_ok}
use Rattle.sdc_base.specs.Kinds.{is_free}
use Rattle.sdc_base.specs.declared.cell.Cell.{Cell}
use Rattle.sdc_base.specs.declared.cell.Kind.TheVariants.{Free}
use Rattle.sdc_base.specs.HiddenSets.{is_hidden}
use Rattle.worlds.specs.ProtectFaults.{line_number}
use Rattle.worlds.proofs.TrueTests.{and_true, not_true}
use Rattle.worlds.proofs.WorldLaws.{not_refused}
use Rattle.certificate.specs.declared.certificate.WorldLine.{WorldLine}
use Rattle.repair.specs.HidingOrder.{IsOfKind, is_free_at}
use Rattle.repair.proofs.Flags.{by_test, clash}
use Rattle.repair.proofs.Repairing.{free_is}
use Rattle.attackers.specs.declared.attack.Attack.{Attack}
use Rattle.certificate.specs.declared.extra.ExtraNeed.{ExtraNeed}
use Rattle.attackers.specs.declared.faults.ExtraFault.TheVariants as fault
use Rattle.attackers.specs.KnownCells.{is_attack, is_served, IsAttack}
use Rattle.attackers.specs.Extras.{attack_of, subjects_of}
use Rattle.attackers.specs.ExtraFaults.{may_be_extra, cells_fault, is_need_of, is_need_at, need_cells_fault, open_fault, attacks_fault}
use Rattle.attackers.proofs.AskedCells.{AttackSays, attack_says}

-- ---- needs' cells

need_head : (cells : List Cell) (soles : List (Option ℕ)) (subjects : List ℕ) (needs : List ExtraNeed) (k : ℕ) (need : ExtraNeed) → k < length needs → need ≡ get_or needs k need → need_cells_fault cells soles k (drop k subjects) (drop k needs) ≡ need_cells_fault cells soles k (drop k subjects) (need ∷ drop (k + 1) needs)
need_head cells soles subjects needs k need within is =
    ap (λ (l : List ExtraNeed). need_cells_fault cells soles k (drop k subjects) l) (drop_more needs k need within ∙ ap (λ (n : ExtraNeed). n ∷ drop (k + 1) needs) (sym is))

here_is : (cells : List Cell) (soles : List (Option ℕ)) (subjects : List ℕ) (k : ℕ) (need : ExtraNeed) → k < length subjects → is_need_at cells soles subjects k need ≡ is_need_of cells soles (get_or subjects k 0) need
here_is cells soles subjects k need within = ap (λ o. option_map_or (λ subject. is_need_of cells soles subject need) o false) (slice_get-get_or subjects k 0 within)

nowhere_is : (cells : List Cell) (soles : List (Option ℕ)) (subjects : List ℕ) (k : ℕ) (need : ExtraNeed) → length subjects ≤ k → is_need_at cells soles subjects k need ≡ false
nowhere_is cells soles subjects k need past = ap (λ o. option_map_or (λ subject. is_need_of cells soles subject need) o false) (slice_get_past subjects k past)

-- there is a subject where the need is that of it
pub need_within : (cells : List Cell) (soles : List (Option ℕ)) (subjects : List ℕ) (k : ℕ) (need : ExtraNeed) → is_need_at cells soles subjects k need ≡ true → k < length subjects
need_within cells soles subjects k need is =
    by_test (nat_lt k (length subjects)) (k < length subjects) (λ less. grind (arith, nat_tests, less))
    (λ past. clash (is_need_at cells soles subjects k need) is (nowhere_is cells soles subjects k need (grind (arith, nat_tests, past))))

pub need_next : (cells : List Cell) (soles : List (Option ℕ)) (subjects : List ℕ) (needs : List ExtraNeed) (k : ℕ) (need : ExtraNeed) → k < length needs → need ≡ get_or needs k need → is_need_at cells soles subjects k need ≡ true → need_cells_fault cells soles k (drop k subjects) (drop k needs) ≡ need_cells_fault cells soles (k + 1) (drop (k + 1) subjects) (drop (k + 1) needs)
need_next cells soles subjects needs k need within is ok =
    let inside : k < length subjects = need_within cells soles subjects k need ok in
    let test : is_need_of cells soles (get_or subjects k 0) need ≡ true = sym (here_is cells soles subjects k need inside) ∙ ok in
    need_head cells soles subjects needs k need within is
    ∙ ap (λ (l : List ℕ). need_cells_fault cells soles k l (need ∷ drop (k + 1) needs)) (drop_more subjects k 0 inside)
    ∙ ap (λ b. refuse (fault.NeedCell (line_number k)) (not b) >>= λ _. need_cells_fault cells soles (k + 1) (drop (k + 1) subjects) (drop (k + 1) needs)) test

pub need_wrong : (cells : List Cell) (soles : List (Option ℕ)) (subjects : List ℕ) (needs : List ExtraNeed) (k : ℕ) (need : ExtraNeed) → k < length needs → need ≡ get_or needs k need → is_need_at cells soles subjects k need ≡ false → need_cells_fault cells soles k (drop k subjects) (drop k needs) ≡ Err (fault.NeedCell (line_number k))
need_wrong cells soles subjects needs k need within is wrong =
    need_head cells soles subjects needs k need within is
    ∙ by_test (nat_lt k (length subjects)) (need_cells_fault cells soles k (drop k subjects) (need ∷ drop (k + 1) needs) ≡ Err (fault.NeedCell (line_number k)))
    (λ less.
    let inside : k < length subjects = grind (arith, nat_tests, less) in
    let test : is_need_of cells soles (get_or subjects k 0) need ≡ false = sym (here_is cells soles subjects k need inside) ∙ wrong in
    ap (λ (l : List ℕ). need_cells_fault cells soles k l (need ∷ drop (k + 1) needs)) (drop_more subjects k 0 inside)
    ∙ ap (λ b. refuse (fault.NeedCell (line_number k)) (not b) >>= λ _. need_cells_fault cells soles (k + 1) (drop (k + 1) subjects) (drop (k + 1) needs)) test)
    (λ past. ap (λ (l : List ℕ). need_cells_fault cells soles k l (need ∷ drop (k + 1) needs)) (drop_all k subjects (grind (arith, nat_tests, past))))

pub need_few : (cells : List Cell) (soles : List (Option ℕ)) (subjects : List ℕ) (needs : List ExtraNeed) (k : ℕ) → length needs ≤ k → k < length subjects → need_cells_fault cells soles k (drop k subjects) (drop k needs) ≡ Err (fault.NeedCell (line_number k))
need_few cells soles subjects needs k past inside =
    ap (λ (l : List ExtraNeed). need_cells_fault cells soles k (drop k subjects) l) (drop_all k needs past)
    ∙ ap (λ (l : List ℕ). need_cells_fault cells soles k l []) (drop_more subjects k 0 inside)

-- ---- attacks

-- the attacks of one list, and then of another
pub attacks_both : (cells : List Cell) (soles : List (Option ℕ)) (lines : List WorldLine) (attacks more : List Attack) → attacks_fault cells soles lines (attacks ++ more) ≡ (attacks_fault cells soles lines attacks >>= λ _. attacks_fault cells soles lines more)
attacks_both cells soles lines [] more = refl
attacks_both cells soles lines (attack ∷ attacks) more =
    elim (is_served cells soles attack lines) as (λ b. (refuse (open_fault attack) (not b) >>= λ _. attacks_fault cells soles lines (attacks ++ more)) ≡ ((refuse (open_fault attack) (not b) >>= λ _. attacks_fault cells soles lines attacks) >>= λ _. attacks_fault cells soles lines more)) [
      | true ↦ attacks_both cells soles lines attacks more
      | false ↦ refl
    ]

-- those of one row, and then of the rows behind it
pub rows_next : (cells : List Cell) (soles : List (Option ℕ)) (lines : List WorldLine) (by : ℕ → List Attack) (rows : List ℕ) (i row : ℕ) → i < length rows → row ≡ get_or rows i 0 → attacks_fault cells soles lines (flat_map by (drop i rows)) ≡ (attacks_fault cells soles lines (by row) >>= λ _. attacks_fault cells soles lines (flat_map by (drop (i + 1) rows)))
rows_next cells soles lines by rows i row within is =
    ap (λ (l : List ℕ). attacks_fault cells soles lines (flat_map by l)) (drop_more rows i 0 within ∙ ap (λ n. n ∷ drop (i + 1) rows) (sym is))
    ∙ attacks_both cells soles lines (by row) (flat_map by (drop (i + 1) rows))

-- ---- what holds where there is no fault

not_false : (a : Bool) → not a ≡ false → a ≡ true
not_false true is = refl
not_false false is = absurd cc

-- a cell that may be extra is free, and isn't hidden
pub record ExtraSays (cells : List Cell) (flags : List Bool) (least cell : ℕ) : Type 0 where
  pub above : least ≤ cell
  pub is_free : IsOfKind cells cell Free
  pub shown : is_hidden flags cell ≡ false

free_here : (cells : List Cell) (cell : ℕ) → is_free_at cells cell ≡ true → IsOfKind cells cell Free
free_here cells cell is =
    elim (slice_get cells cell) as (λ o. slice_get cells cell ≡ o → option_map_or (λ (one : Cell). is_free one.kind) o false ≡ true → IsOfKind cells cell Free) [
      | None ↦ λ found test. absurd cc
      | Some one ↦ λ found test. record { cell = one; found = found; is_kind = free_is one.kind test }
    ] refl is

pub extra_says : (cells : List Cell) (flags : List Bool) (least cell : ℕ) → may_be_extra cells flags least cell ≡ true → ExtraSays cells flags least cell
extra_says cells flags least cell is =
    let one = and_true (nat_le least cell) (is_free_at cells cell && not (is_hidden flags cell)) is in
    let two = and_true (is_free_at cells cell) (not (is_hidden flags cell)) one.1 in
    record { above = grind (arith, nat_tests, one.0); is_free = free_here cells cell two.0; shown = not_true (is_hidden flags cell) two.1 }

-- extra cells without a fault
pub cells_say : (cells : List Cell) (flags : List Bool) (k least : ℕ) (extras : List ℕ) → cells_fault cells flags k least extras ≡ Ok tt → All (λ cell. ExtraSays cells flags 0 cell) extras
cells_say cells flags k least [] ok = All-nil (λ cell. ExtraSays cells flags 0 cell)
cells_say cells flags k least (cell ∷ more) ok =
    let parts = bind_ok (refuse (fault.Cell (line_number k)) (not (may_be_extra cells flags least cell))) (λ _. cells_fault cells flags (k + 1) (cell + 1) more) tt ok in
    let test : not (may_be_extra cells flags least cell) ≡ false = not_refused (fault.Cell (line_number k)) (not (may_be_extra cells flags least cell)) parts.1 in
    let says : ExtraSays cells flags least cell = extra_says cells flags least cell (not_false (may_be_extra cells flags least cell) test) in
    All-cons (λ c. ExtraSays cells flags 0 c) cell more (record { above = omega arith; is_free = says.is_free; shown = says.shown }) (cells_say cells flags (k + 1) (cell + 1) more parts.2)

-- needs whose cells have no fault
pub record NeedsSay (cells : List Cell) (soles : List (Option ℕ)) (subjects : List ℕ) (needs : List ExtraNeed) : Type 0 where
  pub same : subjects_of needs ≡ subjects
  pub on : All (λ (need : ExtraNeed). IsAttack cells soles (attack_of need)) needs

pub needs_say : (cells : List Cell) (soles : List (Option ℕ)) (k : ℕ) (subjects : List ℕ) (needs : List ExtraNeed) → need_cells_fault cells soles k subjects needs ≡ Ok tt → NeedsSay cells soles subjects needs
needs_say cells soles k [] [] ok = record { same = refl; on = All-nil (λ (need : ExtraNeed). IsAttack cells soles (attack_of need)) }
needs_say cells soles k [] (need ∷ needs) ok = absurd cc
needs_say cells soles k (subject ∷ subjects) [] ok = absurd cc
needs_say cells soles k (subject ∷ subjects) (need ∷ needs) ok =
    let parts = bind_ok (refuse (fault.NeedCell (line_number k)) (not (is_need_of cells soles subject need))) (λ _. need_cells_fault cells soles (k + 1) subjects needs) tt ok in
    let test : not (is_need_of cells soles subject need) ≡ false = not_refused (fault.NeedCell (line_number k)) (not (is_need_of cells soles subject need)) parts.1 in
    let both = and_true (need.subject == subject) (is_attack cells soles (attack_of need)) (not_false (is_need_of cells soles subject need) test) in
    let rest : NeedsSay cells soles subjects needs = needs_say cells soles (k + 1) subjects needs parts.2 in
    record {
      same = ap (λ n. n ∷ subjects_of needs) ((Decides-eqb need.subject subject).0 both.0) ∙ ap (λ (l : List ℕ). subject ∷ l) rest.same;
      on = All-cons (λ (n : ExtraNeed). IsAttack cells soles (attack_of n)) need needs both.1 rest.on;
    }

-- so their subjects and their cells are cells
pub need_cells_inside : (cells : List Cell) (soles : List (Option ℕ)) (needs : List ExtraNeed) → All (λ (need : ExtraNeed). IsAttack cells soles (attack_of need)) needs → All (λ (need : ExtraNeed). need.cell < length cells) needs
need_cells_inside cells soles needs all =
    All-weaker (λ (need : ExtraNeed). IsAttack cells soles (attack_of need)) (λ (need : ExtraNeed). need.cell < length cells)
    (λ need on. let says : AttackSays cells soles (attack_of need) = attack_says cells soles (attack_of need) on in slice_get_within cells need.cell says.primary.cell says.primary.found) needs all

pub subjects_inside : (size : ℕ) (needs : List ExtraNeed) → All (λ n. n < size) (subjects_of needs) → All (λ (need : ExtraNeed). need.subject < size) needs
subjects_inside size [] all = All-nil (λ (need : ExtraNeed). need.subject < size)
subjects_inside size (need ∷ needs) all =
    All-cons (λ (n : ExtraNeed). n.subject < size) need needs (All-head (λ n. n < size) need.subject (subjects_of needs) all) (subjects_inside size needs (All-tail (λ n. n < size) need.subject (subjects_of needs) all))

pub extras_inside : (cells : List Cell) (flags : List Bool) (extras : List ℕ) → All (λ cell. ExtraSays cells flags 0 cell) extras → All (λ n. n < length cells) extras
extras_inside cells flags extras all =
    All-weaker (λ cell. ExtraSays cells flags 0 cell) (λ n. n < length cells) (λ cell says. slice_get_within cells cell says.is_free.cell says.is_free.found) extras all

-- the cells of needs, and their subjects, are cells
pub cells_of_needs : (cells : List Cell) (soles : List (Option ℕ)) (subjects : List ℕ) (seen needs : List ExtraNeed) → seen ≡ needs → need_cells_fault cells soles 0 subjects seen ≡ Ok tt → All (λ (need : ExtraNeed). need.cell < length cells) needs
cells_of_needs cells soles subjects seen needs same ok =
    subst (λ (l : List ExtraNeed). All (λ (need : ExtraNeed). need.cell < length cells) l) same (need_cells_inside cells soles seen (needs_say cells soles 0 subjects seen ok).on)

pub subjects_of_needs : (cells : List Cell) (soles : List (Option ℕ)) (flags : List Bool) (extras subjects : List ℕ) (seen needs : List ExtraNeed) → subjects ≡ extras → seen ≡ needs → cells_fault cells flags 0 0 extras ≡ Ok tt → need_cells_fault cells soles 0 subjects seen ≡ Ok tt → All (λ (need : ExtraNeed). need.subject < length cells) needs
subjects_of_needs cells soles flags extras subjects seen needs same_subjects same fine ok =
    let says : NeedsSay cells soles subjects seen = needs_say cells soles 0 subjects seen ok in
    let inside : All (λ n. n < length cells) extras = extras_inside cells flags extras (cells_say cells flags 0 0 extras fine) in
    subst (λ (l : List ExtraNeed). All (λ (need : ExtraNeed). need.subject < length cells) l) same
    (subjects_inside (length cells) seen (subst (λ (l : List ℕ). All (λ n. n < length cells) l) (sym (says.same ∙ same_subjects)) inside))

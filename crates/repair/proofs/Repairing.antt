-- One repair after another.
use Rattle.std.proofs.Common.{◌≡◌, ◌≢◌, ℕ, zero, suc, ◌+◌, ◌<◌, ◌&&◌, not, Bool, true, false, List, [], ◌∷◌, ◌++◌, length, map, take, get_or, None, Some, slice_get, pos, refl, ap, sym, ◌∙◌, subst, arith}
use Rattle.std.specs.Ordering.{int_eq}
use Rattle.std.specs.Option.{option_map_or}
use Rattle.std.proofs.lemmas.Bool.Decides.{Decides-int_eq}
use Rattle.std.proofs.lemmas.List.{take_more}
use Rattle.std.proofs.lemmas.Option.{slice_get_within, slice_get-get_or, get_or_from_slice_get}
use Rattle.sdc_base.specs.Kinds.{is_free}
use Rattle.sdc_base.specs.declared.cell.Cell.{Cell}
use Rattle.sdc_base.specs.declared.cell.Kind.{Kind}
use Rattle.sdc_base.specs.declared.cell.Kind.TheVariants.{Primary, Free, Fixed}
use Rattle.sdc_base.specs.declared.side.Side.{Side}
use Rattle.sdc_base.specs.declared.system.System.{System}
use Rattle.sdc_base.specs.Systems.{Numbers}
use Rattle.sdc_base.specs.HiddenSets.{is_hidden, IsPermitted, full_set, hide, hide_cells}
use Rattle.sdc_base.specs.Worlds.{Protects}
use Rattle.worlds.specs.declared.multipliers.Multipliers.{Multipliers}
use Rattle.worlds.specs.declared.refuted.Refuted.{Refuted}
use Rattle.worlds.specs.declared.world.World.{World}
use Rattle.worlds.specs.ProtectFaults.{asked_of}
use Rattle.worlds.specs.RefutationFaults.{IsGivenRefutation}
use Rattle.worlds.proofs.TrueTests.{and_true, not_true}
use Rattle.worlds.proofs.RefutationLaws.{no_world}
use Rattle.interval_audit.specs.declared.answer.AskFault.{AskFault}
use Rattle.repair.specs.LevelQuestions.{AreGiven, IsGiven, HasCause}
use Rattle.repair.specs.HidingOrder.{Case, IsOfKind, hide_subjects, breaks, breaks_at, coefficients_for, NoneBreaks, IsCheapest, StandsAt}
use Rattle.repair.specs.Repairs.{cell_and_side, IsJustified, IsInOrder, EachInTurn, AreRepairs}
use Rattle.repair.specs.KeptWorlds.{IsServing, AreServed, AreServedBefore, IsRepaired, IsStopped}
use Rattle.repair.specs.Stops.{IsQuestion}
use Rattle.repair.specs.Verdicts.{IsCannot}
use Rattle.repair.proofs.Flags.{repaired_more, clash, within_full}
use Rattle.repair.proofs.Growing.{served_protect, served_push, protects_more, all_protected_more}
use Rattle.repair.proofs.Order.{asked_primary}
use Rattle.repair.proofs.Refuting.{refutes_full, stopping_refutes, reaching_test}

-- a list with one more item isn't empty, and its last item is that one
pub none_is_more : {X : Type 0} (xs : List X) (x : X) → [] ≡ xs ++ x ∷ [] → ⊥
none_is_more [] x is = cc
none_is_more (y ∷ xs) x is = cc

pub last_same : {X : Type 0} (xs ys : List X) (x y : X) → xs ++ x ∷ [] ≡ ys ++ y ∷ [] → x ≡ y
last_same [] [] x y is = cc
last_same [] (b ∷ ys) x y is = absurd (none_is_more ys y (let own : [] ≡ ys ++ y ∷ [] = cc in own))
last_same (a ∷ xs) [] x y is = absurd (none_is_more xs x (let own : [] ≡ xs ++ x ∷ [] = cc in own))
last_same (a ∷ xs) (b ∷ ys) x y is = last_same xs ys x y (let own : xs ++ x ∷ [] ≡ ys ++ y ∷ [] = cc in own)

-- one more that is so for the set that the others made
pub each_more : {R : Type 0} (subject : R → ℕ) (Is : List Bool → R → Type 0) (flags : List Bool) (all : List R) (one : R) → EachInTurn subject Is flags all → Is (hide_cells flags (map subject all)) one → EachInTurn subject Is flags (all ++ one ∷ [])
each_more subject Is flags [] one each is = (is, tt)
each_more subject Is flags (first ∷ all) one each is = (each.0, each_more subject Is (hide flags (subject first)) all one each.1 is)

by_subjects : (flags : List Bool) (repairs : List Refuted) → hide_subjects flags repairs ≡ hide_cells flags (map (λ (r : Refuted). r.subject) repairs)
by_subjects flags [] = refl
by_subjects flags (repair ∷ repairs) = by_subjects (hide flags repair.subject) repairs

-- before any repair
pub none_repaired : (c : Case) (prices : List ℕ) (planned : List Bool) → IsRepaired c prices planned planned [] 0
none_repaired c prices planned = record {
  hidden_is = refl;
  are_repairs = record { justified = tt; ordered = tt };
  onward = λ earlier last is. absurd (none_is_more earlier last is);
}

-- one repair more, of the question at this place
pub one_repaired : (c : Case) (prices : List ℕ) (planned flags : List Bool) (repairs : List Refuted) (place : ℕ) (repair : Refuted) → IsJustified c flags repair → IsInOrder c prices flags repair → StandsAt c.cells (cell_and_side repair) place → IsRepaired c prices planned flags repairs place → IsRepaired c prices planned (hide flags repair.subject) (repairs ++ repair ∷ []) place
one_repaired c prices planned flags repairs place repair justified ordered stands is =
    let set_is : flags ≡ hide_cells planned (map (λ (r : Refuted). r.subject) repairs) = is.hidden_is ∙ by_subjects planned repairs in
    record {
      hidden_is = ap (λ (f : List Bool). hide f repair.subject) is.hidden_is ∙ sym (repaired_more planned repairs repair);
      are_repairs = record {
        justified = each_more (λ (r : Refuted). r.subject) (IsJustified c) planned repairs repair is.are_repairs.justified (subst (λ (f : List Bool). IsJustified c f repair) set_is justified);
        ordered = each_more (λ (r : Refuted). r.subject) (IsInOrder c prices) planned repairs repair is.are_repairs.ordered (subst (λ (f : List Bool). IsInOrder c prices f repair) set_is ordered);
      };
      onward = λ earlier last same. (place, subst (λ (r : Refuted). StandsAt c.cells (cell_and_side r) place) (last_same repairs earlier repair last same) stands, omega arith);
    }

-- the next place
pub on_to_next : (c : Case) (prices : List ℕ) (planned flags : List Bool) (repairs : List Refuted) (place : ℕ) → IsRepaired c prices planned flags repairs place → IsRepaired c prices planned flags repairs (place + 1)
on_to_next c prices planned flags repairs place is = record {
  hidden_is = is.hidden_is;
  are_repairs = is.are_repairs;
  onward = λ earlier last same. let own = is.onward earlier last same in (own.0, own.1, omega (arith, own.2));
}

-- ---- the subject of a repair

pub free_is : (kind : Kind) → is_free kind ≡ true → kind ≡ Free
free_is Primary is = absurd cc
free_is Free is = refl
free_is Fixed is = absurd cc

-- a cell that would break a refutation is free and shown, and counts
pub record IsBreaking (cells : List Cell) (flags : List Bool) (counts : Numbers) (number : ℕ) : Type 0 where
  pub is_free : IsOfKind cells number Free
  pub shown : is_hidden flags number ≡ false
  pub counting : counts number ≢ pos 0

pub breaking_says : (cells : List Cell) (flags : List Bool) (counts : Numbers) (number : ℕ) → breaks_at cells flags counts number ≡ true → IsBreaking cells flags counts number
breaking_says cells flags counts number is =
    elim (slice_get cells number) as (λ o. slice_get cells number ≡ o → option_map_or (breaks (is_hidden flags number) (counts number)) o false ≡ true → IsBreaking cells flags counts number) [
      | None ↦ λ found bad. absurd cc
      | Some cell ↦ λ found own.
          let one = and_true (is_free cell.kind) (not (is_hidden flags number) && not (int_eq (counts number) (pos 0))) own in
          let two = and_true (not (is_hidden flags number)) (not (int_eq (counts number) (pos 0))) one.1 in
          record {
            is_free = record { cell = cell; found = found; is_kind = free_is cell.kind one.0 };
            shown = not_true (is_hidden flags number) two.0;
            counting = λ none. clash (int_eq (counts number) (pos 0)) ((Decides-int_eq (counts number) (pos 0)).1 none) (not_true (int_eq (counts number) (pos 0)) two.1);
          }
    ] refl is

-- the cheapest cell that would break them makes a repair
pub justified_by : (c : Case) (prices : List ℕ) (flags : List Bool) (place : ℕ) (question : ℕ × Side) (m : Multipliers) (subject : ℕ) (repair : Refuted) → repair ≡ record { subject = subject; cell = question.0; side = question.1; multipliers = m } → IsStopped c flags place question m → IsCheapest c.cells prices flags (coefficients_for c.system question m) subject → IsJustified c flags repair × IsInOrder c prices flags repair
justified_by c prices flags place question m subject repair made is cheapest =
    let own : IsBreaking c.cells flags (coefficients_for c.system question m) subject = breaking_says c.cells flags (coefficients_for c.system question m) subject cheapest.breaking in
    subst (λ r. IsJustified c flags r × IsInOrder c prices flags r) (sym made) (
      record {
        subject_free = own.is_free;
        subject_shown = own.shown;
        cell_primary = asked_primary c.cells place question is.stands;
        refutes = is.refutes;
        subject_counts = own.counting;
      },
      record { place = place; stands = is.stands; before = is.before; gives = is.gives; cheapest = cheapest },
    )

-- ---- no hidden set protects

pub hidden_cell : (cells : List Cell) (flags : List Bool) (number : ℕ) → length flags ≡ length cells → is_hidden flags number ≡ true → (cell : Cell) × (slice_get cells number ≡ Some cell)
hidden_cell [] [] number each is = absurd cc
hidden_cell [] (flag ∷ flags) number each is = absurd (omega (arith, each))
hidden_cell (cell ∷ cells) [] number each is = absurd cc
hidden_cell (cell ∷ cells) (flag ∷ flags) zero each is = (cell, refl)
hidden_cell (cell ∷ cells) (flag ∷ flags) (suc number) each is = hidden_cell cells flags number (omega (arith, each)) is

-- where no cell would break them, the multipliers show that no hidden set protects
pub cannot_by : (c : Case) (prices : List ℕ) (planned flags : List Bool) (repairs : List Refuted) (place : ℕ) (question : ℕ × Side) (m : Multipliers) → length c.cells ≡ c.system.cells → length flags ≡ c.system.cells → IsPermitted c.cells flags → flags ≡ hide_subjects planned repairs → AreRepairs c prices planned repairs → IsStopped c flags place question m → NoneBreaks c flags question m → IsCannot c prices planned question.0 question.1 m
cannot_by c prices planned flags repairs place question m one_each each permitted hidden_is are is none =
    let all : IsGivenRefutation c.system c.cells (full_set c.cells) question.0 question.1 m = refutes_full c.system c.cells flags question.0 question.1 m permitted none is.refutes in
    let primary : IsOfKind c.cells question.0 Primary = asked_primary c.cells place question is.stands in
    let inside : question.0 < c.system.cells = omega (arith, one_each, slice_get_within c.cells question.0 primary.cell primary.found) in
    let unprotected : ¬ Protects c.system c.cells (full_set c.cells) question.0 question.1 = no_world c.system c.cells (full_set c.cells) question.0 question.1 m one_each inside all in
    record {
      first = record {
        place = place;
        stands = is.stands;
        before = all_protected_more c flags (full_set c.cells) (take place (asked_of 0 c.cells)) (within_full c.cells flags (omega (arith, one_each, each)) permitted (λ n hidden. hidden_cell c.cells flags n (omega (arith, one_each, each)) hidden)) is.before;
        unprotected = unprotected;
      };
      refutes = all;
      repairs = repairs;
      are_repairs = are;
      stopped = subst (λ (f : List Bool). IsStopped c f place question m) hidden_is is;
      none_breaks = subst (λ (f : List Bool). NoneBreaks c f question m) hidden_is none;
      none_protects = λ other long own protects. unprotected (protects_more c.system c.cells other (full_set c.cells) question.0 question.1 (within_full c.cells other long own (λ n hidden. hidden_cell c.cells other n long hidden)) protects);
    }

pub cheapest_inside : (cells : List Cell) (prices : List ℕ) (flags : List Bool) (counts : Numbers) (number : ℕ) → IsCheapest cells prices flags counts number → number < length cells
cheapest_inside cells prices flags counts number is =
    let own : IsBreaking cells flags counts number = breaking_says cells flags counts number is.breaking in
    slice_get_within cells number own.is_free.cell own.is_free.found

-- a world that is answered serves the question at a place
pub serving_by : (c : Case) (flags : List Bool) (place : ℕ) (question : ℕ × Side) (world : World) → StandsAt c.cells question place → IsGiven (λ set. set ≡ flags) c.system c.cells question world → IsServing c flags question world
serving_by c flags place question world stands given = subst (λ (set : List Bool). IsServing c set question world) given.is_one (record {
  is_primary = asked_primary c.cells place question stands;
  is_world = given.is_right.is_world;
  reaching = reaching_test c.system c.cells given.set question given.question world given.is_asked given.is_right;
})

-- multipliers that are answered refute the level
pub given_refutes : (system : System) (cells : List Cell) (flags : List Bool) (question : ℕ × Side) (m : Multipliers) → AreGiven system cells flags question m → IsGivenRefutation system cells flags question.0 question.1 m
given_refutes system cells flags question m given = stopping_refutes system cells flags question given.question given.best given.world m given.is_asked given.is_right

-- the question at a place, with a cause in the hidden set
pub question_of : (c : Case) (flags : List Bool) (place : ℕ) (question : ℕ × Side) (worlds : List World) (limit : ℕ) (fault : AskFault) → StandsAt c.cells question place → AreServedBefore c flags place worlds → HasCause c.system c.cells flags question limit fault → IsQuestion c flags limit fault place
question_of c flags place question worlds limit fault stands served cause = record { asked = question; stands = stands; before = served_protect c flags (take place (asked_of 0 c.cells)) worlds served; cause = cause }

-- one question more has its world
pub one_served : (c : Case) (flags : List Bool) (place : ℕ) (question : ℕ × Side) (worlds : List World) (world : World) → StandsAt c.cells question place → IsServing c flags question world → AreServedBefore c flags place worlds → AreServedBefore c flags (place + 1) (worlds ++ world ∷ [])
one_served c flags place question worlds world stands serving served =
    let all : List (ℕ × Side) = asked_of 0 c.cells in
    let more : take (place + 1) all ≡ take place all ++ question ∷ [] =
    take_more all place question (slice_get_within all place question stands) ∙ ap (λ (q : ℕ × Side). take place all ++ q ∷ []) (get_or_from_slice_get all place question question stands) in
    subst (λ (qs : List (ℕ × Side)). AreServed c flags qs (worlds ++ world ∷ [])) (sym more) (served_push c flags (take place all) worlds question world served serving)

-- multipliers that stop the question at a place
pub stopped_by : (c : Case) (flags : List Bool) (place : ℕ) (question : ℕ × Side) (worlds : List World) (m : Multipliers) → StandsAt c.cells question place → AreServedBefore c flags place worlds → AreGiven c.system c.cells flags question m → IsStopped c flags place question m
stopped_by c flags place question worlds m stands served given = record {
  stands = stands;
  before = served_protect c flags (take place (asked_of 0 c.cells)) worlds served;
  refutes = given_refutes c.system c.cells flags question m given;
  gives = given;
}

-- the question that stands at a place of the list
pub stands_there : (cells : List Cell) (questions : List (ℕ × Side)) (place : ℕ) (d : ℕ × Side) → questions ≡ asked_of 0 cells → place < length questions → StandsAt cells (get_or questions place d) place
stands_there cells questions place d same within = subst (λ (l : List (ℕ × Side)). slice_get l place ≡ Some (get_or questions place d)) same (slice_get-get_or questions place d within)

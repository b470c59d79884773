-- The whole: where there is no first fault, the certificate is accepted in the subject's words.
use Rattle.std.proofs.Common.{◌≡◌, ℕ, ◌+◌, ◌==◌, ◌&&◌, ◌||◌, not, Bool, true, false, List, [], ◌∷◌, length, All, None, Some, Result, Ok, Err, refl, ap, sym, ◌∙◌, if◌then◌else◌}
use Rattle.std.specs.List.{list_all}
use Rattle.std.proofs.lemmas.Bool.Decides.{Decides-eqb}
use Rattle.sdc_base.specs.Answers.{Gives}
use Rattle.sdc_base.specs.Steps.{◌>>=◌, map_fault}
use Rattle.sdc_base.proofs.StepLemmas.{bind_ok}
use Rattle.sdc_base.specs.declared.cell.Cell.{Cell}
use Rattle.sdc_base.specs.declared.system.System.{System}
use Rattle.sdc_base.specs.declared.trail.PlanStep.{PlanStep}
use Rattle.worlds.specs.WorldFaults.{refuse_at}
use Rattle.worlds.specs.ProtectFaults.{line_number, primary_shown, fixed_hidden, asked_of}
use Rattle.worlds.proofs.TrueTests.{and_true}
use Rattle.worlds.proofs.WorldLaws.{not_refused, none_refused}
use Rattle.worlds.proofs.ProtectLaws.{start}
use Rattle.certificate.specs.declared.certificate.Certificate.{Certificate}
use Rattle.sdc_base.specs.Trails.{corners_of}
use Rattle.repair.specs.HidingOrder.{planned_set}
use Rattle.repair.specs.Needs.{others_hidden}
use Rattle.sdc_base.specs.HiddenSets.{is_hidden}
use Rattle.cert_check.specs.declared.faults.CheckFault.{CheckFault}
use Rattle.cert_check.specs.declared.faults.CheckFault.TheVariants as fault
use Rattle.cert_check.specs.declared.case.Case.{Case}
use Rattle.cert_check.specs.Counts.{is_cell_number, names_cells, stands_for_cell, counts_fit, counts_fault}
use Rattle.cert_check.specs.Methods.{same_method, lists_nothing, method_fault, rounds_cells}
use Rattle.cert_check.specs.Cases.{IsCase}
use Rattle.cert_check.specs.HiddenSet.{hidden_set, permitted_fault}
use Rattle.cert_check.specs.ReleaseLines.{tables_fault}
use Rattle.cert_check.specs.FirstDifference.{first_difference, same_numbers}
use Rattle.cert_check.specs.TrailSteps.{same_step, steps_fault}
use Rattle.cert_check.specs.RepairList.{repairs_fault}
use Rattle.cert_check.specs.OutsidePlan.{first_outside, outside_fault}
use Rattle.cert_check.specs.WorldList.{worlds_fault}
use Rattle.cert_check.specs.NeedList.{needs_fault}
use Rattle.cert_check.specs.RoundedRelease.{at_line, values_fault, rounded_fault}
use Rattle.cert_check.specs.FirstFault.{check_fault_of, open_set, hiding_fault, suppressed_fault, acceptance_fault}
use Rattle.cert_check.specs.Acceptance.{IsShown, IsAccepted, IsOfCase, IsRoundedRelease}
use Rattle.linked_tables.specs.BookCells.{IsBook}
use Rattle.release_writer.specs.ReleaseReading.{rounded_read}
use Rattle.cert_check.proofs.Roundings.{have_texts, read_ok, is_rounding, truths_each}
use Rattle.cert_check.proofs.SameMethods.{method_same, same_where, bare_where, nothing_listed}
use Rattle.cert_check.proofs.Accepted.{IsNamed, AreNeeded, each_world, protecting, needs_good, repairs_good, all_named, none_outside, tables_good}

-- repairs and needs name cells
record AreNamed (system : System) (c : Certificate) : Type 0 where
  repairs : All (IsNamed system.cells) c.repairs
  needs : All (IsNamed system.cells) c.needs

are_named : (system : System) (c : Certificate) → counts_fit system c ≡ true → AreNamed system c
are_named system c is =
    let n : ℕ = system.cells in
    let five : Bool = list_all (names_cells n) c.needs && list_all (stands_for_cell n) c.worlds in
    let four : Bool = list_all (names_cells n) c.repairs && five in
    let three : Bool = list_all (is_cell_number n) c.hidden && four in
    let two : Bool = (c.relations == length system.relations) && three in
    let a = and_true (c.cells == n) two is in
    let b = and_true (c.relations == length system.relations) three a.1 in
    let d = and_true (list_all (is_cell_number n) c.hidden) four b.1 in
    let e = and_true (list_all (names_cells n) c.repairs) five d.1 in
    let f = and_true (list_all (names_cells n) c.needs) (list_all (stands_for_cell n) c.worlds) e.1 in
    record { repairs = all_named n c.repairs e.0; needs = all_named n c.needs f.0 }

-- ---- the same steps

pub numbers_same : (xs ys : List ℕ) → same_numbers xs ys ≡ true → xs ≡ ys
numbers_same [] [] is = refl
numbers_same [] (y ∷ ys) is = absurd cc
numbers_same (x ∷ xs) [] is = absurd cc
numbers_same (x ∷ xs) (y ∷ ys) is =
    let parts = and_true (x == y) (same_numbers xs ys) is in
    ap (λ n. n ∷ xs) ((Decides-eqb x y).0 parts.0) ∙ ap (λ (l : List ℕ). y ∷ l) (numbers_same xs ys parts.1)

abbrev made : ℕ → List ℕ → ℕ → List ℕ → PlanStep
made table parents cell corners = record { table = table; parents = parents; cell = cell; corners = corners }

step_same : (one other : PlanStep) → same_step one other ≡ true → one ≡ other
step_same one other is =
    let corners : Bool = same_numbers one.corners other.corners in
    let a = and_true (one.table == other.table) ((one.cell == other.cell) && (same_numbers one.parents other.parents && corners)) is in
    let b = and_true (one.cell == other.cell) (same_numbers one.parents other.parents && corners) a.1 in
    let d = and_true (same_numbers one.parents other.parents) corners b.1 in
    ap (λ t. made t one.parents one.cell one.corners) ((Decides-eqb one.table other.table).0 a.0)
    ∙ ap (λ (p : List ℕ). made other.table p one.cell one.corners) (numbers_same one.parents other.parents d.0)
    ∙ ap (λ k. made other.table other.parents k one.corners) ((Decides-eqb one.cell other.cell).0 b.0)
    ∙ ap (λ (cs : List ℕ). made other.table other.parents other.cell cs) (numbers_same one.corners other.corners d.1)

steps_same : (k : ℕ) (steps trail : List PlanStep) → first_difference same_step k steps trail ≡ None → steps ≡ trail
steps_same k [] [] none = refl
steps_same k [] (other ∷ trail) none = absurd cc
steps_same k (one ∷ steps) [] none = absurd cc
steps_same k (one ∷ steps) (other ∷ trail) none =
    elim (same_step one other) as (λ b. same_step one other ≡ b → (if b then first_difference same_step (k + 1) steps trail else Some k) ≡ None → one ∷ steps ≡ other ∷ trail) [
      | true ↦ λ is later. ap (λ s. s ∷ steps) (step_same one other is) ∙ ap (λ (l : List PlanStep). other ∷ l) (steps_same (k + 1) steps trail later)
      | false ↦ λ is bad. absurd cc
    ] refl none

shown_where : (case : Case) (release : List (List ℕ)) (c : Certificate) (flags : List Bool) → IsCase case release → counts_fit case.system.now c ≡ true → suppressed_fault case release flags c ≡ Ok tt → IsShown case release c flags
shown_where case release c flags is_case counted ok =
    let each : length case.cells.now ≡ case.system.now.cells = is_case.each_cell in
    let cells : List Cell = case.cells.now in
    let system : System = case.system.now in
    let named : AreNamed system c = are_named system c counted in
    let five : Result (Unit {0}) CheckFault = needs_fault system cells flags c.needs in
    let four : Result (Unit {0}) CheckFault = worlds_fault system cells flags c.worlds >>= λ _. five in
    let three : Result (Unit {0}) CheckFault = hiding_fault case flags c >>= λ _. four in
    let two : Result (Unit {0}) CheckFault = tables_fault case.book.now flags case.decimals 0 case.book.now.tables case.names.now release >>= λ _. three in
    let first = bind_ok (permitted_fault cells flags) (λ _. two) tt ok in
    let tables = bind_ok (tables_fault case.book.now flags case.decimals 0 case.book.now.tables case.names.now release) (λ _. three) tt first.2 in
    let hiding = bind_ok (hiding_fault case flags c) (λ _. four) tt tables.2 in
    let worlds = bind_ok (worlds_fault system cells flags c.worlds) (λ _. five) tt hiding.2 in
    let permitted = bind_ok (refuse_at fault.PrimaryShown (primary_shown flags 0 cells)) (λ _. refuse_at fault.FixedHidden (fixed_hidden flags 0 cells)) tt first.1 in
    let planned : List Bool = planned_set cells (corners_of case.trail.now.steps) in
    let steps = bind_ok (steps_fault case.trail.now.steps c.steps) (λ _. repairs_fault system cells planned 0 c.repairs >>= λ _. outside_fault (open_set case c) flags) tt hiding.1 in
    let repairs = bind_ok (repairs_fault system cells planned 0 c.repairs) (λ _. outside_fault (open_set case c) flags) tt steps.2 in
    let needed : AreNeeded system cells flags (others_hidden flags 0 cells) c.needs = needs_good system cells flags 0 (others_hidden flags 0 cells) c.needs each named.needs worlds.2 in
    record {
      protecting = protecting system cells flags c.worlds each (none_refused fault.PrimaryShown (primary_shown flags 0 cells) permitted.1) (none_refused fault.FixedHidden (fixed_hidden flags 0 cells) permitted.2) worlds.1;
      worlds = each_world system cells flags 0 (asked_of 0 cells) c.worlds each worlds.1;
      tables = tables_good case.book.now flags case.decimals 0 case.book.now.tables case.names.now release is_case.names.lists is_case.tables tables.1;
      steps = steps_same 0 c.steps case.trail.now.steps (none_refused (λ k. fault.Step (line_number k)) (first_difference same_step 0 c.steps case.trail.now.steps) steps.1);
      repairs = repairs_good system cells planned 0 c.repairs each named.repairs repairs.1;
      within = λ cell is. start (λ n. is_hidden (open_set case c) n ≡ true) cell (none_outside (open_set case c) 0 flags (none_refused fault.Outside (first_outside (open_set case c) 0 flags) repairs.2) cell is);
      subjects = needed.same;
      needs = needed.each;
    }

not_false : (a : Bool) → not a ≡ false → a ≡ true
not_false true is = refl
not_false false is = absurd cc

-- what is left of a good certificate behind its counts and its method
record IsBegun (case : Case) (release : List (List ℕ)) (c : Certificate) : Type 0 where
  counted : counts_fit case.system.now c ≡ true
  method : (not (same_method case.method c.method) || (rounds_cells case.method && not (lists_nothing c))) ≡ false
  rest : (if rounds_cells case.method then rounded_fault case release else suppressed_fault case release (hidden_set case.system.now.cells c.hidden) c) ≡ Ok tt

begun : (case : Case) (release : List (List ℕ)) (c : Certificate) → acceptance_fault case release c ≡ Ok tt → IsBegun case release c
begun case release c ok =
    let last : Result (Unit {0}) CheckFault = if rounds_cells case.method then rounded_fault case release else suppressed_fault case release (hidden_set case.system.now.cells c.hidden) c in
    let wrong : Bool = not (same_method case.method c.method) || (rounds_cells case.method && not (lists_nothing c)) in
    let one = bind_ok (counts_fault case.system.now c) (λ _. method_fault case.method c >>= λ _. last) tt ok in
    let two = bind_ok (method_fault case.method c) (λ _. last) tt one.2 in
    record {
      counted = not_false (counts_fit case.system.now c) (not_refused fault.Counts (not (counts_fit case.system.now c)) one.1);
      method = not_refused fault.Method wrong two.1;
      rest = two.2;
    }

-- where there is no fault, and the method hides cells, the certificate is accepted
pub accepted_where : (case : Case) (release : List (List ℕ)) (c : Certificate) → IsCase case release → rounds_cells case.method ≡ false → acceptance_fault case release c ≡ Ok tt → IsAccepted case release c
accepted_where case release c is_case hides ok =
    let flags : List Bool = hidden_set case.system.now.cells c.hidden in
    let is : IsBegun case release c = begun case release c ok in
    let own : suppressed_fault case release flags c ≡ Ok tt = sym (ap (λ b. if b then rounded_fault case release else suppressed_fault case release flags c) hides) ∙ is.rest in
    shown_where case release c flags is_case is.counted own

-- and where the method rounds, the tables show a rounding
pub rounded_where : (case : Case) (release : List (List ℕ)) (c : Certificate) → IsBook case.book.now → IsCase case release → rounds_cells case.method ≡ true → acceptance_fault case release c ≡ Ok tt → IsRoundedRelease case release c
rounded_where case release c book is_case rounded ok =
    let is : IsBegun case release c = begun case release c ok in
    let own : rounded_fault case release ≡ Ok tt = sym (ap (λ b. if b then rounded_fault case release else suppressed_fault case release (hidden_set case.system.now.cells c.hidden) c) rounded) ∙ is.rest in
    let bare : lists_nothing c ≡ true = bare_where (same_method case.method c.method) (rounds_cells case.method) (lists_nothing c) rounded is.method in
    let values = bind_ok (map_fault at_line (rounded_read case.book.now case.names.now case.decimals release)) (λ values. values_fault case.system.now case.cells.now case.base values) tt own in
    let told = have_texts case.book.now case.names.now case.decimals release values.0 book.one_each is_case.names.lists is_case.tables (read_ok (rounded_read case.book.now case.names.now case.decimals release) values.0 values.1) in
    record {
      values = values.0;
      released = told.released;
      tables = told.texts;
      rounding = is_rounding case.system.now case.cells.now case.base values.0 is_case.each_cell (told.each ∙ truths_each case.book.now.marks case.cells.now is_case.truths ∙ is_case.each_cell) values.2;
      lists_nothing = nothing_listed c bare;
    }

-- method and counts are the case's
pub of_case_where : (case : Case) (release : List (List ℕ)) (c : Certificate) → acceptance_fault case release c ≡ Ok tt → IsOfCase case c
of_case_where case release c ok =
    let is : IsBegun case release c = begun case release c ok in
    let n : ℕ = case.system.now.cells in
    let three : Bool = list_all (is_cell_number n) c.hidden && (list_all (names_cells n) c.repairs && (list_all (names_cells n) c.needs && list_all (stands_for_cell n) c.worlds)) in
    let a = and_true (c.cells == n) ((c.relations == length case.system.now.relations) && three) is.counted in
    let b = and_true (c.relations == length case.system.now.relations) three a.1 in
    record {
      same_method = sym (method_same case.method c.method (same_where (same_method case.method c.method) (rounds_cells case.method && not (lists_nothing c)) is.method));
      same_cells = (Decides-eqb c.cells n).0 a.0;
      same_relations = (Decides-eqb c.relations (length case.system.now.relations)).0 b.0;
    }

-- what a good answer gives
pub accepted_by : (answer meant : Result (Unit {0}) CheckFault) (P : Type 0) → Gives check_fault_of (λ u. u) answer meant → (meant ≡ Ok tt → P) → answer ≡ Ok tt → P
accepted_by (Ok u) meant P gives goes ok = goes gives
accepted_by (Err e) meant P gives goes ok = absurd cc

-- The whole: what a protection wrote is accepted.
use Rattle.std.proofs.Common.{◌≡◌, ℕ, ◌+◌, ◌<◌, ◌==◌, ◌&&◌, ◌||◌, not, Bool, true, false, List, length, map, All, None, Result, Ok, refl, ap, sym, ◌∙◌, subst, arith, if◌then◌else◌}
use Rattle.std.specs.List.{list_all}
use Rattle.std.proofs.lemmas.Bool.Decides.{Decides-eqb}
use Rattle.sdc_base.specs.HiddenSets.{is_hidden, IsPermitted}
use Rattle.sdc_base.specs.Steps.{◌>>=◌, refuse}
use Rattle.sdc_base.proofs.StepLemmas.{bind_ok}
use Rattle.sdc_base.specs.declared.cell.Cell.{Cell}
use Rattle.sdc_base.specs.declared.method.Method.{Method}
use Rattle.sdc_base.specs.declared.side.Side.{Side}
use Rattle.sdc_base.specs.declared.system.System.{System}
use Rattle.sdc_base.specs.declared.trail.PlanStep.{PlanStep}
use Rattle.worlds.specs.declared.faults.ProtectFault.{ProtectFault}
use Rattle.worlds.specs.declared.faults.ProtectFault.TheVariants as protect
use Rattle.worlds.specs.declared.world.World.{World}
use Rattle.worlds.specs.WorldFaults.{refuse_at}
use Rattle.worlds.specs.ProtectFaults.{line_number, primary_shown, fixed_hidden, asked_of, lines_fault as worlds_lines}
use Rattle.worlds.specs.Protection.{Protection}
use Rattle.worlds.proofs.TrueTests.{both_true}
use Rattle.worlds.proofs.WorldLaws.{then_ok, passes, passes_none, none_refused}
use Rattle.certificate.specs.declared.certificate.Certificate.{Certificate}
use Rattle.release_writer.specs.ReadingLaws.{AreTexts}
use Rattle.release_writer.specs.ShownCells.{open_truth}
use Rattle.sdc_base.specs.Trails.{corners_of}
use Rattle.repair.specs.HidingOrder.{Case as HidingCase, protected_case, planned_set, hide_subjects}
use Rattle.repair.specs.KeptWorlds.{AreServed}
use Rattle.repair.specs.Needs.{others_hidden}
use Rattle.repair.specs.Verdicts.{IsProtected, AreNeeds}
use Rattle.repair.proofs.Passing.{served_pass}
use Rattle.cert_check.specs.declared.case.Case.{Case}
use Rattle.cert_check.specs.declared.faults.CheckFault.{CheckFault}
use Rattle.cert_check.specs.declared.faults.CheckFault.TheVariants as fault
use Rattle.cert_check.specs.Counts.{is_cell_number, names_cells, stands_for_cell, counts_fit, counts_fault}
use Rattle.cert_check.specs.FirstDifference.{first_difference}
use Rattle.cert_check.specs.FirstFault.{open_set, hiding_fault, suppressed_fault}
use Rattle.cert_check.specs.HiddenSet.{hidden_set, permitted_fault}
use Rattle.cert_check.specs.Methods.{same_method, rounds_cells, lists_nothing, method_fault}
use Rattle.cert_check.specs.NeedList.{each_need_fault, needs_fault}
use Rattle.cert_check.specs.OutsidePlan.{first_outside, outside_fault}
use Rattle.cert_check.specs.ReleaseLines.{tables_fault}
use Rattle.cert_check.specs.RepairList.{repairs_fault}
use Rattle.cert_check.specs.RoundedRelease.{rounded_fault}
use Rattle.cert_check.specs.TrailSteps.{same_step, steps_fault}
use Rattle.cert_check.specs.WorldList.{lines_fault, worlds_fault}
use Rattle.cert_check.specs.WrittenLaws.{SpeaksOf, ProtectedIsAccepted}
use Rattle.cert_check.proofs.SubjectLists.{subjects_below, asked_are_cells}
use Rattle.cert_check.proofs.Written.{all_below, repairs_are_cells, needs_are_cells, worlds_are_cells, method_itself, texts_pass, steps_themselves, repairs_pass, subset_passes, worlds_pass, needs_pass}

-- a set that serves all that is asked is permitted
record HasNoFault (cells : List Cell) (flags : List Bool) : Type 0 where
  hidden : primary_shown flags 0 cells ≡ None
  shown : fixed_hidden flags 0 cells ≡ None

permitted_passes : (c : HidingCase) (flags : List Bool) (worlds : List World) → length c.cells ≡ c.system.cells → IsPermitted c.cells flags → AreServed c flags (asked_of 0 c.cells) worlds → HasNoFault c.cells flags
permitted_passes c flags worlds each permitted are =
    let asked : List (ℕ × Side) = asked_of 0 c.cells in
    let last : Result (Unit {0}) ProtectFault = refuse protect.Count (not (length worlds == length asked)) >>= λ _. worlds_lines c.system c.cells flags 0 asked worlds in
    let first = bind_ok (refuse_at protect.PrimaryShown (primary_shown flags 0 c.cells)) (λ _. refuse_at protect.FixedHidden (fixed_hidden flags 0 c.cells) >>= λ _. last) tt (served_pass c flags worlds each permitted are) in
    let second = bind_ok (refuse_at protect.FixedHidden (fixed_hidden flags 0 c.cells)) (λ _. last) tt first.2 in
    record { hidden = none_refused protect.PrimaryShown (primary_shown flags 0 c.cells) first.1; shown = none_refused protect.FixedHidden (fixed_hidden flags 0 c.cells) second.1 }

counts_pass : (case : Case) (prices : List ℕ) (planned : List Bool) (protected : Protection) (c : Certificate) → length case.cells.now ≡ case.system.now.cells → SpeaksOf case protected c
    → IsProtected (protected_case case.system.now case.cells.now) prices planned protected c.repairs → AreNeeds (protected_case case.system.now case.cells.now) protected.hidden.flags (hide_subjects planned c.repairs) c.needs → counts_fit case.system.now c ≡ true
counts_pass case prices planned protected c each is protects needs =
    let n : ℕ = case.system.now.cells in
    let cells : List Cell = case.cells.now in
    let own : HidingCase = protected_case case.system.now cells in
    let subjects : All (λ subject. subject < n) (map (λ need. need.subject) c.needs) =
    subst (All (λ subject. subject < n)) (sym needs.each_needed) (subst (λ m. All (λ subject. subject < m) (others_hidden protected.hidden.flags 0 cells)) each (subjects_below protected.hidden.flags cells)) in
    let asked : All (λ one. one.0 < n) (asked_of 0 cells) = subst (λ m. All (λ (one : ℕ × Side). one.0 < m) (asked_of 0 cells)) each (asked_are_cells cells) in
    let a : (c.cells == n) ≡ true = (Decides-eqb c.cells n).1 is.of_case.same_cells in
    let b : (c.relations == length case.system.now.relations) ≡ true = (Decides-eqb c.relations (length case.system.now.relations)).1 is.of_case.same_relations in
    let d : list_all (is_cell_number n) c.hidden ≡ true = all_below n c.hidden is.hidden_cells in
    let e : list_all (names_cells n) c.repairs ≡ true = repairs_are_cells own n planned c.repairs each protects.are_repairs.justified in
    let f : list_all (names_cells n) c.needs ≡ true = needs_are_cells own n protected.hidden.flags (hide_subjects planned c.repairs) c.needs each subjects needs.are_needs in
    let g : list_all (stands_for_cell n) c.worlds ≡ true = worlds_are_cells n c.worlds (subst (All (λ (one : ℕ × Side). one.0 < n)) (sym is.questions) asked) in
    let five : Bool = list_all (names_cells n) c.needs && list_all (stands_for_cell n) c.worlds in
    let four : Bool = list_all (names_cells n) c.repairs && five in
    let three : Bool = list_all (is_cell_number n) c.hidden && four in
    both_true (c.cells == n) ((c.relations == length case.system.now.relations) && three) a
    (both_true (c.relations == length case.system.now.relations) three b
    (both_true (list_all (is_cell_number n) c.hidden) four d
    (both_true (list_all (names_cells n) c.repairs) five e (both_true (list_all (names_cells n) c.needs) (list_all (stands_for_cell n) c.worlds) f g))))

method_passes : (one : Method) (c : Certificate) → c.method ≡ one → rounds_cells one ≡ false → method_fault one c ≡ Ok tt
method_passes one c same hides =
    let right : same_method one c.method ≡ true = ap (same_method one) same ∙ method_itself one in
    passes fault.Method (not (same_method one c.method) || (rounds_cells one && not (lists_nothing c))) (rw (right, hides) refl)

hiding_passes : (case : Case) (prices : List ℕ) (protected : Protection) (c : Certificate) → length case.cells.now ≡ case.system.now.cells → c.steps ≡ case.trail.now.steps
    → IsProtected (protected_case case.system.now case.cells.now) prices (planned_set case.cells.now (corners_of case.trail.now.steps)) protected c.repairs → hiding_fault case protected.hidden.flags c ≡ Ok tt
hiding_passes case prices protected c each steps protects =
    let flags : List Bool = protected.hidden.flags in
    let planned : List Bool = planned_set case.cells.now (corners_of case.trail.now.steps) in
    let none : first_difference same_step 0 c.steps case.trail.now.steps ≡ None = ap (λ (l : List PlanStep). first_difference same_step 0 l case.trail.now.steps) steps ∙ steps_themselves 0 case.trail.now.steps in
    let zero_first : (i : ℕ) → is_hidden flags i ≡ true → is_hidden (open_set case c) (0 + i) ≡ true = λ i is. let same : i ≡ 0 + i = omega arith in subst (λ n. is_hidden (open_set case c) n ≡ true) same (protects.within i is) in
    then_ok (steps_fault case.trail.now.steps c.steps) (λ _. repairs_fault case.system.now case.cells.now planned 0 c.repairs >>= λ _. outside_fault (open_set case c) flags) tt tt
    (passes_none (λ k. fault.Step (line_number k)) (first_difference same_step 0 c.steps case.trail.now.steps) none)
    (then_ok (repairs_fault case.system.now case.cells.now planned 0 c.repairs) (λ _. outside_fault (open_set case c) flags) tt tt
    (repairs_pass (protected_case case.system.now case.cells.now) planned 0 c.repairs each protects.are_repairs.justified)
    (passes_none fault.Outside (first_outside (open_set case c) 0 flags) (subset_passes (open_set case c) 0 flags zero_first)))

suppressed_passes : (case : Case) (release : List (List ℕ)) (prices : List ℕ) (protected : Protection) (c : Certificate) → length case.cells.now ≡ case.system.now.cells → SpeaksOf case protected c
    → IsProtected (protected_case case.system.now case.cells.now) prices (planned_set case.cells.now (corners_of case.trail.now.steps)) protected c.repairs
    → AreNeeds (protected_case case.system.now case.cells.now) protected.hidden.flags (open_set case c) c.needs
    → AreTexts case.book.now case.decimals (open_truth case.book.now.marks protected.hidden.flags) case.book.now.tables case.names.now release
    → suppressed_fault case release protected.hidden.flags c ≡ Ok tt
suppressed_passes case release prices protected c each is protects needs texts =
    let cells : List Cell = case.cells.now in
    let system : System = case.system.now in
    let flags : List Bool = protected.hidden.flags in
    let own : HidingCase = protected_case system cells in
    let asked : List (ℕ × Side) = asked_of 0 cells in
    let permitted : HasNoFault cells flags = permitted_passes own flags protected.worlds each protects.protecting.permitted protects.served in
    let five : Result (Unit {0}) CheckFault = needs_fault system cells flags c.needs in
    let four : Result (Unit {0}) CheckFault = worlds_fault system cells flags c.worlds >>= λ _. five in
    let three : Result (Unit {0}) CheckFault = hiding_fault case flags c >>= λ _. four in
    let two : Result (Unit {0}) CheckFault = tables_fault case.book.now flags case.decimals 0 case.book.now.tables case.names.now release >>= λ _. three in
    let second : permitted_fault cells flags ≡ Ok tt =
    then_ok (refuse_at fault.PrimaryShown (primary_shown flags 0 cells)) (λ _. refuse_at fault.FixedHidden (fixed_hidden flags 0 cells)) tt tt
    (passes_none fault.PrimaryShown (primary_shown flags 0 cells) permitted.hidden) (passes_none fault.FixedHidden (fixed_hidden flags 0 cells) permitted.shown) in
    let lines : List (ℕ × Side) = map (λ line. (line.cell, line.side)) c.worlds in
    let served : AreServed own flags lines (map (λ line. line.world) c.worlds) =
    subst (λ (l : List World). AreServed own flags lines l) (sym is.worlds) (subst (λ (l : List (ℕ × Side)). AreServed own flags l protected.worlds) (sym is.questions) protects.served) in
    let worlds : worlds_fault system cells flags c.worlds ≡ Ok tt = subst (λ (l : List (ℕ × Side)). lines_fault system cells flags 0 l c.worlds ≡ Ok tt) is.questions (worlds_pass own flags 0 c.worlds each served) in
    let needed : five ≡ Ok tt = ap (λ (l : List ℕ). each_need_fault system cells flags 0 l c.needs) (sym needs.each_needed) ∙ needs_pass own flags (open_set case c) 0 c.needs each needs.are_needs in
    then_ok (permitted_fault cells flags) (λ _. two) tt tt second
    (then_ok (tables_fault case.book.now flags case.decimals 0 case.book.now.tables case.names.now release) (λ _. three) tt tt (texts_pass case.book.now flags case.decimals 0 case.book.now.tables case.names.now release texts)
    (then_ok (hiding_fault case flags c) (λ _. four) tt tt (hiding_passes case prices protected c each is.steps protects)
    (then_ok (worlds_fault system cells flags c.worlds) (λ _. five) tt tt worlds needed)))

pub protected_is_accepted : ProtectedIsAccepted
protected_is_accepted case release prices protected c is_case hides protects speaks texts =
    let each : length case.cells.now ≡ case.system.now.cells = is_case.each_cell in
    let planned : List Bool = planned_set case.cells.now (corners_of case.trail.now.steps) in
    let counts : counts_fit case.system.now c ≡ true = counts_pass case prices planned protected c each speaks protects.0 protects.1 in
    let good : suppressed_fault case release protected.hidden.flags c ≡ Ok tt = suppressed_passes case release prices protected c each speaks protects.0 protects.1 texts in
    let last : Result (Unit {0}) CheckFault = if rounds_cells case.method then rounded_fault case release else suppressed_fault case release (hidden_set case.system.now.cells c.hidden) c in
    let own : last ≡ Ok tt = ap (λ b. if b then rounded_fault case release else suppressed_fault case release (hidden_set case.system.now.cells c.hidden) c) hides ∙ ap (λ (flags : List Bool). suppressed_fault case release flags c) speaks.hidden ∙ good in
    then_ok (counts_fault case.system.now c) (λ _. method_fault case.method c >>= λ _. last) tt tt (passes fault.Counts (not (counts_fit case.system.now c)) (ap not counts))
    (then_ok (method_fault case.method c) (λ _. last) tt tt (method_passes case.method c speaks.of_case.same_method hides) own)

-- What a protection wrote has no fault.
use Rattle.std.proofs.Common.{◌≡◌, ◌≢◌, ℕ, suc, ◌+◌, ◌<◌, ◌==◌, ◌&&◌, nat_lt, not, Bool, true, false, cond, List, [], ◌∷◌, ◌++◌, filter, fold, replicate, length, map, All, None, Some, Result, Ok, slice_get, ℤ, pos, refl, ap, sym, ◌∙◌, subst, arith, if◌then◌else◌}
use Rattle.std.specs.List.{list_all, range_with_len}
use Rattle.std.specs.Option.{option_map_or}
use Rattle.std.specs.Ordering.{int_eq}
use Rattle.std.proofs.lemmas.Bool.Decides.{Decides-eqb, Decides-int_eq, nat_tests}
use Rattle.std.proofs.lemmas.List.{append_assoc, length-append}
use Rattle.std.proofs.lemmas.List.Elements.{All-head, All-tail}
use Rattle.std.proofs.lemmas.Option.{slice_get_within}
use Rattle.std.proofs.Math.Seq.{set-append_seam}
use Rattle.sdc_base.specs.HiddenSets.{is_hidden, hide, show}
use Rattle.sdc_base.specs.Kinds.{is_free}
use Rattle.sdc_base.specs.Steps.{◌>>=◌, refuse, map_fault}
use Rattle.sdc_base.specs.declared.cell.Cell.{Cell}
use Rattle.sdc_base.specs.declared.dimension.Dimension.{Dimension}
use Rattle.sdc_base.specs.declared.cell.Kind.{Kind}
use Rattle.sdc_base.specs.declared.cell.Kind.TheVariants.{Primary, Free}
use Rattle.sdc_base.specs.declared.side.Side.{Side}
use Rattle.sdc_base.specs.declared.side.Side.TheVariants.{Above, Below}
use Rattle.sdc_base.specs.declared.system.System.{System}
use Rattle.sdc_base.specs.declared.trail.PlanStep.{PlanStep}
use Rattle.sdc_base.specs.declared.method.Method.{Method}
use Rattle.sdc_base.specs.declared.method.Method.TheVariants as method
use Rattle.linked_tables.specs.BookViews.{BookView}
use Rattle.release_writer.specs.ReadingLaws.{AreTexts}
use Rattle.release_writer.specs.ShownCells.{open_truth}
use Rattle.worlds.specs.declared.refuted.Refuted.{Refuted}
use Rattle.worlds.specs.WorldFaults.{world_fault}
use Rattle.worlds.specs.ProtectFaults.{line_number, is_reaching}
use Rattle.worlds.specs.RefutationFaults.{refutation_fault}
use Rattle.worlds.proofs.TrueTests.{both_true}
use Rattle.worlds.proofs.WorldLaws.{then_ok, passes, passes_none, world_law}
use Rattle.worlds.proofs.RefutationLaws.{refutation_law}
use Rattle.certificate.specs.declared.certificate.WorldLine.{WorldLine}
use Rattle.repair.specs.HidingOrder.{Case, IsOfKind, coefficients_for}
use Rattle.repair.specs.KeptWorlds.{IsServing, AreServed}
use Rattle.repair.specs.Repairs.{cell_and_side, IsJustified, EachRepair}
use Rattle.repair.specs.Needs.{IsNeed}
use Rattle.cert_check.specs.declared.faults.CheckFault.{CheckFault}
use Rattle.cert_check.specs.declared.faults.CheckFault.TheVariants as fault
use Rattle.cert_check.specs.Counts.{is_cell_number, names_cells, stands_for_cell}
use Rattle.cert_check.specs.FirstDifference.{first_difference, same_numbers}
use Rattle.cert_check.specs.Methods.{same_method}
use Rattle.cert_check.specs.NeedList.{need_fault, each_need_fault}
use Rattle.cert_check.specs.OutsidePlan.{first_outside}
use Rattle.cert_check.specs.ReleaseLines.{line_after, differing_line, hiding_text, table_fault, tables_fault}
use Rattle.cert_check.specs.RepairList.{may_repair, subject_counts, repair_fault, repairs_fault}
use Rattle.cert_check.specs.TrailSteps.{same_step}
use Rattle.cert_check.specs.WrittenLaws.{NumbersGiveTheSet}
use Rattle.cert_check.specs.WorldList.{same_side, is_for, line_fault, lines_fault}

-- ---- counts

below : (a b : ℕ) → a < b → nat_lt a b ≡ true
below a b h = grind (arith, nat_tests, h)

pub all_below : (n : ℕ) (numbers : List ℕ) → All (λ number. number < n) numbers → list_all (is_cell_number n) numbers ≡ true
all_below n [] within = refl
all_below n (number ∷ numbers) within =
    let P : ℕ → Type 0 = λ one. one < n in
    both_true (nat_lt number n) (list_all (is_cell_number n) numbers) (below number n (All-head P number numbers within)) (all_below n numbers (All-tail P number numbers within))

kind_within : (cells : List Cell) (number : ℕ) (kind : Kind) → IsOfKind cells number kind → number < length cells
kind_within cells number kind is = slice_get_within cells number is.cell is.found

pub repairs_are_cells : (c : Case) (n : ℕ) (flags : List Bool) (repairs : List Refuted) → length c.cells ≡ n → EachRepair (IsJustified c) flags repairs → list_all (names_cells n) repairs ≡ true
repairs_are_cells c n flags [] each are = refl
repairs_are_cells c n flags (repair ∷ repairs) each are =
    let subject : repair.subject < n = omega (arith, each, kind_within c.cells repair.subject Free are.0.subject_free) in
    let cell : repair.cell < n = omega (arith, each, kind_within c.cells repair.cell Primary are.0.cell_primary) in
    both_true (names_cells n repair) (list_all (names_cells n) repairs)
    (both_true (nat_lt repair.subject n) (nat_lt repair.cell n) (below repair.subject n subject) (below repair.cell n cell))
    (repairs_are_cells c n (hide flags repair.subject) repairs each are.1)

pub needs_are_cells : (c : Case) (n : ℕ) (flags larger : List Bool) (needs : List Refuted) → length c.cells ≡ n → All (λ subject. subject < n) (map (λ need. need.subject) needs) → All (IsNeed c flags larger) needs → list_all (names_cells n) needs ≡ true
needs_are_cells c n flags larger [] each subjects are = refl
needs_are_cells c n flags larger (need ∷ needs) each subjects are =
    let P : ℕ → Type 0 = λ subject. subject < n in
    let later : List ℕ = map (λ (one : Refuted). one.subject) needs in
    let own : IsNeed c flags larger need = All-head (IsNeed c flags larger) need needs are in
    let cell : need.cell < n = omega (arith, each, kind_within c.cells need.cell Primary own.cell_primary) in
    both_true (names_cells n need) (list_all (names_cells n) needs)
    (both_true (nat_lt need.subject n) (nat_lt need.cell n) (below need.subject n (All-head P need.subject later subjects)) (below need.cell n cell))
    (needs_are_cells c n flags larger needs each (All-tail P need.subject later subjects) (All-tail (IsNeed c flags larger) need needs are))

pub worlds_are_cells : (n : ℕ) (lines : List WorldLine) → All (λ (one : ℕ × Side). one.0 < n) (map (λ (line : WorldLine). (line.cell, line.side)) lines) → list_all (stands_for_cell n) lines ≡ true
worlds_are_cells n [] within = refl
worlds_are_cells n (line ∷ lines) within =
    let P : ℕ × Side → Type 0 = λ one. one.0 < n in
    let later : List (ℕ × Side) = map (λ (one : WorldLine). (one.cell, one.side)) lines in
    both_true (nat_lt line.cell n) (list_all (stands_for_cell n) lines) (below line.cell n (All-head P (line.cell, line.side) later within)) (worlds_are_cells n lines (All-tail P (line.cell, line.side) later within))

-- ---- the method

pub method_itself : (one : Method) → same_method one one ≡ true
method_itself method.Modular = refl
method_itself (method.Gh n) = (Decides-eqb n n).1 refl
method_itself (method.Rnd b) = (Decides-int_eq b b).1 refl

-- ---- the hidden set

flag_seam : (front rest : List Bool) (b : Bool) → is_hidden (front ++ b ∷ rest) (length front) ≡ b
flag_seam [] rest b = refl
flag_seam (a ∷ front) rest b = flag_seam front rest b

by_flag : (front rest : List Bool) (b : Bool) (a : ℕ) (whole start : List Bool) → is_hidden whole a ≡ b → a ≡ length front → start ≡ front ++ false ∷ replicate (length rest) false
    → ((made : List Bool) → made ≡ front ++ b ∷ replicate (length rest) false → fold hide made (filter (is_hidden whole) (range_with_len (a + 1) (length rest))) ≡ whole)
    → fold hide start (filter (is_hidden whole) (range_with_len a (length (b ∷ rest)))) ≡ whole
by_flag front rest true a whole start own at begins step =
    let made : hide start a ≡ front ++ true ∷ replicate (length rest) false = ap (λ (l : List Bool). hide l a) begins ∙ ap (λ n. hide (front ++ false ∷ replicate (length rest) false) n) at ∙ set-append_seam front false (replicate (length rest) false) true in
    ap (λ t. fold hide start (cond t (a ∷ filter (is_hidden whole) (range_with_len (a + 1) (length rest))) (filter (is_hidden whole) (range_with_len (a + 1) (length rest))))) own ∙ step (hide start a) made
by_flag front rest false a whole start own at begins step =
    ap (λ t. fold hide start (cond t (a ∷ filter (is_hidden whole) (range_with_len (a + 1) (length rest))) (filter (is_hidden whole) (range_with_len (a + 1) (length rest))))) own ∙ step start begins

-- the flags behind some of them, hidden one after another
numbers_hide : (front rest : List Bool) (a : ℕ) (whole start : List Bool) → a ≡ length front → whole ≡ front ++ rest → start ≡ front ++ replicate (length rest) false → fold hide start (filter (is_hidden whole) (range_with_len a (length rest))) ≡ whole
numbers_hide front [] a whole start at is begins = begins ∙ sym is
numbers_hide front (b ∷ rest) a whole start at is begins =
    let own : is_hidden whole a ≡ b = ap (λ (l : List Bool). is_hidden l a) is ∙ ap (λ n. is_hidden (front ++ b ∷ rest) n) at ∙ flag_seam front rest b in
    let next : a + 1 ≡ length (front ++ b ∷ []) = omega (arith, at, length-append front (b ∷ [])) in
    let all : whole ≡ (front ++ b ∷ []) ++ rest = is ∙ sym (append_assoc front (b ∷ []) rest) in
    let step : (made : List Bool) → made ≡ front ++ b ∷ replicate (length rest) false → fold hide made (filter (is_hidden whole) (range_with_len (a + 1) (length rest))) ≡ whole =
    λ made same. numbers_hide (front ++ b ∷ []) rest (a + 1) whole made next all (same ∙ sym (append_assoc front (b ∷ []) (replicate (length rest) false))) in
    by_flag front rest b a whole start own at begins step

-- the numbers of a set's cells give that set
pub numbers_give_the_set : NumbersGiveTheSet
numbers_give_the_set flags = numbers_hide [] flags 0 flags (replicate (length flags) false) refl refl refl

-- ---- tables

pub text_itself : (line : ℕ) (text : List ℕ) → differing_line line text text ≡ None
text_itself line [] = refl
text_itself line (b ∷ text) = ap (λ t. if t then differing_line (line_after b line) text text else Some line) ((Decides-eqb b b).1 refl) ∙ text_itself (line_after b line) text

pub texts_pass : (book : BookView) (flags : List Bool) (decimals t : ℕ) (tables : List (List Dimension)) (names : List (List (List ℕ))) (files : List (List ℕ)) → AreTexts book decimals (open_truth book.marks flags) tables names files → tables_fault book flags decimals t tables names files ≡ Ok tt
texts_pass book flags decimals t [] names files are = refl
texts_pass book flags decimals t (table ∷ tables) [] files are = refl
texts_pass book flags decimals t (table ∷ tables) (own ∷ names) [] are = refl
texts_pass book flags decimals t (table ∷ tables) (own ∷ names) (bytes ∷ files) are =
    let text : List ℕ = hiding_text book flags decimals table own in
    let none : differing_line 1 bytes text ≡ None = ap (λ (l : List ℕ). differing_line 1 l text) are.0 ∙ text_itself 1 text in
    then_ok (table_fault book flags decimals t table own bytes) (λ _. tables_fault book flags decimals (t + 1) tables names files) tt tt
    (passes_none (λ line. fault.Release t (line_number line)) (differing_line 1 bytes text) none) (texts_pass book flags decimals (t + 1) tables names files are.1)

-- ---- steps

numbers_themselves : (xs : List ℕ) → same_numbers xs xs ≡ true
numbers_themselves [] = refl
numbers_themselves (x ∷ xs) = both_true (x == x) (same_numbers xs xs) ((Decides-eqb x x).1 refl) (numbers_themselves xs)

step_itself : (one : PlanStep) → same_step one one ≡ true
step_itself one =
    both_true (one.table == one.table) ((one.cell == one.cell) && (same_numbers one.parents one.parents && same_numbers one.corners one.corners)) ((Decides-eqb one.table one.table).1 refl)
    (both_true (one.cell == one.cell) (same_numbers one.parents one.parents && same_numbers one.corners one.corners) ((Decides-eqb one.cell one.cell).1 refl)
    (both_true (same_numbers one.parents one.parents) (same_numbers one.corners one.corners) (numbers_themselves one.parents) (numbers_themselves one.corners)))

pub steps_themselves : (k : ℕ) (steps : List PlanStep) → first_difference same_step k steps steps ≡ None
steps_themselves k [] = refl
steps_themselves k (one ∷ steps) = ap (λ b. if b then first_difference same_step (k + 1) steps steps else Some k) (step_itself one) ∙ steps_themselves (k + 1) steps

-- ---- repairs

unless_none : (count : ℤ) → count ≢ pos 0 → not (int_eq count (pos 0)) ≡ true
unless_none count other = elim (int_eq count (pos 0)) as (λ b. int_eq count (pos 0) ≡ b → not b ≡ true) [
  | true ↦ λ is. absurd (other ((Decides-int_eq count (pos 0)).0 is))
  | false ↦ λ is. refl
] refl

repair_passes : (c : Case) (flags : List Bool) (k : ℕ) (repair : Refuted) → length c.cells ≡ c.system.cells → IsJustified c flags repair → repair_fault c.system c.cells flags k repair ≡ Ok tt
repair_passes c flags k repair each is =
    let system : System = c.system in
    let cells : List Cell = c.cells in
    let free : option_map_or (λ (cell : Cell). is_free cell.kind) (slice_get cells repair.subject) false ≡ true =
    ap (λ o. option_map_or (λ (cell : Cell). is_free cell.kind) o false) is.subject_free.found ∙ ap is_free is.subject_free.is_kind in
    let may : may_repair cells flags repair.subject ≡ true = both_true (option_map_or (λ (cell : Cell). is_free cell.kind) (slice_get cells repair.subject) false) (not (is_hidden flags repair.subject)) free (ap not is.subject_shown) in
    let count : ℤ = coefficients_for system (cell_and_side repair) repair.multipliers repair.subject in
    let counts : subject_counts system repair ≡ true = unless_none count is.subject_counts in
    let refuted : refutation_fault system cells flags repair.cell repair.side repair.multipliers ≡ Ok tt = (refutation_law system cells flags repair.cell repair.side repair.multipliers (omega (arith, each, kind_within cells repair.cell Primary is.cell_primary))).1 is.refutes in
    let last : Result (Unit {0}) CheckFault = refuse (fault.RepairCell k) (not (subject_counts system repair)) in
    let check : Result (Unit {0}) CheckFault = map_fault (fault.Repair k) (refutation_fault system cells flags repair.cell repair.side repair.multipliers) in
    then_ok (refuse (fault.RepairCell k) (not (may_repair cells flags repair.subject))) (λ _. check >>= λ _. last) tt tt
    (passes (fault.RepairCell k) (not (may_repair cells flags repair.subject)) (ap not may))
    (then_ok check (λ _. last) tt tt (ap (map_fault (fault.Repair k)) refuted) (passes (fault.RepairCell k) (not (subject_counts system repair)) (ap not counts)))

pub repairs_pass : (c : Case) (flags : List Bool) (k : ℕ) (repairs : List Refuted) → length c.cells ≡ c.system.cells → EachRepair (IsJustified c) flags repairs → repairs_fault c.system c.cells flags k repairs ≡ Ok tt
repairs_pass c flags k [] each are = refl
repairs_pass c flags k (repair ∷ repairs) each are =
    then_ok (repair_fault c.system c.cells flags (line_number k) repair) (λ _. repairs_fault c.system c.cells (hide flags repair.subject) (k + 1) repairs) tt tt
    (repair_passes c flags (line_number k) repair each are.0) (repairs_pass c (hide flags repair.subject) (k + 1) repairs each are.1)

-- ---- cells outside

pub subset_passes : (larger : List Bool) (number : ℕ) (flags : List Bool) → ((i : ℕ) → is_hidden flags i ≡ true → is_hidden larger (number + i) ≡ true) → first_outside larger number flags ≡ None
subset_passes larger number [] within = refl
subset_passes larger number (hidden ∷ flags) within =
    let rest : first_outside larger (number + 1) flags ≡ None = subset_passes larger (number + 1) flags (λ i is. let same : number + suc i ≡ number + 1 + i = omega arith in subst (λ n. is_hidden larger n ≡ true) same (within (suc i) is)) in
    elim hidden as (λ b. hidden ≡ b → (if b && not (is_hidden larger number) then Some number else first_outside larger (number + 1) flags) ≡ None) [
      | true ↦ λ is. let same : number + 0 ≡ number = omega arith in let here : is_hidden larger number ≡ true = subst (λ n. is_hidden larger n ≡ true) same (within 0 is) in rw here rest
      | false ↦ λ is. rest
    ] refl

-- ---- worlds

side_itself : (side : Side) → same_side side side ≡ true
side_itself Above = refl
side_itself Below = refl

line_passes : (c : Case) (flags : List Bool) (k : ℕ) (line : WorldLine) → length c.cells ≡ c.system.cells → IsServing c flags (line.cell, line.side) line.world → line_fault c.system c.cells flags k (line.cell, line.side) line ≡ Ok tt
line_passes c flags k line each is =
    let asked : ℕ × Side = (line.cell, line.side) in
    let stands : is_for asked line ≡ true = both_true (line.cell == line.cell) (same_side line.side line.side) ((Decides-eqb line.cell line.cell).1 refl) (side_itself line.side) in
    let none : world_fault c.system c.cells flags line.world ≡ Ok tt = (world_law c.system c.cells flags line.world each).1 is.is_world in
    let last : Result (Unit {0}) CheckFault = refuse (fault.NotReached asked.0 asked.1) (not (is_reaching c.cells asked line.world)) in
    let check : Result (Unit {0}) CheckFault = map_fault (fault.World k) (world_fault c.system c.cells flags line.world) in
    then_ok (refuse (fault.WorldCell k) (not (is_for asked line))) (λ _. check >>= λ _. last) tt tt
    (passes (fault.WorldCell k) (not (is_for asked line)) (ap not stands))
    (then_ok check (λ _. last) tt tt (ap (map_fault (fault.World k)) none) (passes (fault.NotReached asked.0 asked.1) (not (is_reaching c.cells asked line.world)) (ap not is.reaching)))

pub worlds_pass : (c : Case) (flags : List Bool) (k : ℕ) (lines : List WorldLine) → length c.cells ≡ c.system.cells → AreServed c flags (map (λ line. (line.cell, line.side)) lines) (map (λ line. line.world) lines) → lines_fault c.system c.cells flags k (map (λ line. (line.cell, line.side)) lines) lines ≡ Ok tt
worlds_pass c flags k [] each are = refl
worlds_pass c flags k (line ∷ lines) each are =
    then_ok (line_fault c.system c.cells flags (line_number k) (line.cell, line.side) line) (λ _. lines_fault c.system c.cells flags (k + 1) (map (λ (one : WorldLine). (one.cell, one.side)) lines) lines) tt tt
    (line_passes c flags (line_number k) line each are.0) (worlds_pass c flags (k + 1) lines each are.1)

-- ---- needs

need_passes : (c : Case) (flags larger : List Bool) (k : ℕ) (need : Refuted) → length c.cells ≡ c.system.cells → IsNeed c flags larger need → need_fault c.system c.cells flags k need.subject need ≡ Ok tt
need_passes c flags larger k need each is =
    let refuted : refutation_fault c.system c.cells (show flags need.subject) need.cell need.side need.multipliers ≡ Ok tt =
    (refutation_law c.system c.cells (show flags need.subject) need.cell need.side need.multipliers (omega (arith, each, kind_within c.cells need.cell Primary is.cell_primary))).1 is.refutes in
    then_ok (refuse (fault.NeedCell k) (not (need.subject == need.subject))) (λ _. map_fault (fault.Need k) (refutation_fault c.system c.cells (show flags need.subject) need.cell need.side need.multipliers)) tt tt
    (passes (fault.NeedCell k) (not (need.subject == need.subject)) (ap not ((Decides-eqb need.subject need.subject).1 refl))) (ap (map_fault (fault.Need k)) refuted)

pub needs_pass : (c : Case) (flags larger : List Bool) (k : ℕ) (needs : List Refuted) → length c.cells ≡ c.system.cells → All (IsNeed c flags larger) needs → each_need_fault c.system c.cells flags k (map (λ need. need.subject) needs) needs ≡ Ok tt
needs_pass c flags larger k [] each are = refl
needs_pass c flags larger k (need ∷ needs) each are =
    then_ok (need_fault c.system c.cells flags (line_number k) need.subject need) (λ _. each_need_fault c.system c.cells flags (k + 1) (map (λ (one : Refuted). one.subject) needs) needs) tt tt
    (need_passes c flags larger (line_number k) need each (All-head (IsNeed c flags larger) need needs are)) (needs_pass c flags larger (k + 1) needs each (All-tail (IsNeed c flags larger) need needs are))

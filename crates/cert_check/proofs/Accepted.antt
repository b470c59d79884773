-- A certificate without a fault shows that the release is protected.
use Rattle.std.proofs.Common.{◌≡◌, ◌≢◌, ◌<◌, ◌+◌, ◌==◌, ◌&&◌, ℕ, zero, suc, not, Bool, true, false, List, [], ◌∷◌, length, map, All, Option, None, Some, Result, Ok, Err, slice_get, ℤ, pos, ◌*ℤ◌, ◌≤ℤ◌, arith, refl, ap, sym, ◌∙◌, if◌then◌else◌}
use Rattle.std.specs.Option.{option_map_or}
use Rattle.std.specs.Ordering.{int_eq}
use Rattle.std.specs.List.{list_all}
use Rattle.std.proofs.lemmas.Int.{ints}
use Rattle.std.proofs.lemmas.Bool.Decides.{Decides-eqb, Decides-int_eq}
use Rattle.std.proofs.lemmas.List.Elements.{All-nil, All-head, All-tail, All-cons}
use Rattle.sdc_base.specs.Steps.{◌>>=◌, refuse, map_fault}
use Rattle.sdc_base.proofs.StepLemmas.{bind_ok}
use Rattle.sdc_base.proofs.WeakDual.{there}
use Rattle.sdc_base.specs.declared.cell.Cell.{Cell}
use Rattle.sdc_base.specs.declared.dimension.Dimension.{Dimension}
use Rattle.sdc_base.specs.declared.cell.Kind.{Kind}
use Rattle.sdc_base.specs.declared.cell.Kind.TheVariants.{Primary, Free, Fixed}
use Rattle.sdc_base.specs.declared.side.Side.{Side}
use Rattle.sdc_base.specs.declared.side.Side.TheVariants.{Above, Below}
use Rattle.sdc_base.specs.declared.system.System.{System}
use Rattle.sdc_base.specs.Totals.{sum_below}
use Rattle.sdc_base.specs.Forms.{coefficient}
use Rattle.sdc_base.specs.HiddenSets.{is_hidden, hide, show}
use Rattle.sdc_base.specs.Kinds.{is_free}
use Rattle.sdc_base.specs.Systems.{Numbers}
use Rattle.sdc_base.specs.Worlds.{level, level_at, amount_toward}
use Rattle.sdc_base.specs.Refutations.{share, share_at}
use Rattle.worlds.specs.declared.refuted.Refuted.{Refuted}
use Rattle.worlds.specs.declared.multipliers.Multipliers.{Multipliers}
use Rattle.worlds.specs.declared.world.World.{World}
use Rattle.worlds.specs.NumberLists.{terms_of, number_given}
use Rattle.worlds.specs.WorldFaults.{world_fault}
use Rattle.worlds.specs.ProtectFaults.{line_number, primary_shown, fixed_hidden, asked_of, is_reaching, IsProtecting, lines_fault as worlds_lines}
use Rattle.worlds.specs.RefutationFaults.{terms_added, refutation_fault, IsGivenRefutation}
use Rattle.worlds.proofs.Bounds.{decides_le}
use Rattle.worlds.proofs.TrueTests.{and_true, not_true}
use Rattle.worlds.proofs.WorldLaws.{not_refused, none_refused, world_law}
use Rattle.worlds.proofs.ProtectLaws.{protect_law}
use Rattle.worlds.proofs.RefutationLaws.{refutation_law}
use Rattle.certificate.specs.declared.certificate.WorldLine.{WorldLine}
use Rattle.repair.specs.HidingOrder.{IsOfKind, coefficients_for, protected_case}
use Rattle.repair.specs.Repairs.{cell_and_side, IsJustified, EachRepair}
use Rattle.repair.proofs.Fewer.{share_from_zero}
use Rattle.cert_check.specs.declared.faults.CheckFault.{CheckFault}
use Rattle.cert_check.specs.declared.faults.CheckFault.TheVariants as fault
use Rattle.cert_check.specs.ReleaseLines.{differing_line, line_after, hiding_text, table_fault, tables_fault}
use Rattle.cert_check.specs.RepairList.{may_repair, subject_counts, repair_fault, repairs_fault}
use Rattle.cert_check.specs.OutsidePlan.{first_outside}
use Rattle.cert_check.specs.WorldList.{same_side, is_for, line_fault, lines_fault}
use Rattle.cert_check.specs.NeedList.{need_fault, each_need_fault}
use Rattle.cert_check.specs.Counts.{names_cells}
use Rattle.cert_check.specs.Acceptance.{IsWorldFor, EachWorld, IsNeeded}
use Rattle.linked_tables.specs.BookViews.{BookView}
use Rattle.release_writer.specs.ShownCells.{open_truth}
use Rattle.release_writer.specs.ReadingLaws.{AreTexts}
use Rattle.repair.proofs.Repairing.{free_is}

-- ---- steps

seen : {E F : Type 0} (view : E → F) (r : Result (Unit {0}) E) → map_fault view r ≡ Ok tt → r ≡ Ok tt
seen view (Ok u) ok = refl
seen view (Err e) ok = absurd cc

not_false : (a : Bool) → not a ≡ false → a ≡ true
not_false true is = refl
not_false false is = absurd cc

-- ---- worlds

side_is : (one other : Side) → same_side one other ≡ true → one ≡ other
side_is Above Above is = refl
side_is Above Below is = absurd cc
side_is Below Above is = absurd cc
side_is Below Below is = refl

pub record IsLineGood (system : System) (cells : List Cell) (flags : List Bool) (one : ℕ × Side) (line : WorldLine) : Type 0 where
  pub stands_for : is_for one line ≡ true
  pub no_fault : world_fault system cells flags line.world ≡ Ok tt
  pub reaching : is_reaching cells one line.world ≡ true

line_good : (system : System) (cells : List Cell) (flags : List Bool) (k : ℕ) (one : ℕ × Side) (line : WorldLine) → line_fault system cells flags k one line ≡ Ok tt → IsLineGood system cells flags one line
line_good system cells flags k one line ok =
    let first = bind_ok (refuse (fault.WorldCell k) (not (is_for one line))) (λ _. map_fault (fault.World k) (world_fault system cells flags line.world) >>= λ _. refuse (fault.NotReached one.0 one.1) (not (is_reaching cells one line.world))) tt ok in
    let second = bind_ok (map_fault (fault.World k) (world_fault system cells flags line.world)) (λ _. refuse (fault.NotReached one.0 one.1) (not (is_reaching cells one line.world))) tt first.2 in
    record {
      stands_for = not_false (is_for one line) (not_refused (fault.WorldCell k) (not (is_for one line)) first.1);
      no_fault = seen (fault.World k) (world_fault system cells flags line.world) second.1;
      reaching = not_false (is_reaching cells one line.world) (not_refused (fault.NotReached one.0 one.1) (not (is_reaching cells one line.world)) second.2);
    }

world_for : (system : System) (cells : List Cell) (flags : List Bool) (one : ℕ × Side) (line : WorldLine) → length cells ≡ system.cells → IsLineGood system cells flags one line → IsWorldFor system cells flags one line
world_for system cells flags one line each good =
    let both = and_true (line.cell == one.0) (same_side line.side one.1) good.stands_for in
    record {
      of_cell = (Decides-eqb line.cell one.0).0 both.0;
      of_side = side_is line.side one.1 both.1;
      is_world = (world_law system cells flags line.world each).0 good.no_fault;
      reaches = (decides_le (line.world.den *ℤ level_at cells one.1 one.0) (amount_toward one.1 (number_given (terms_of line.world.moves) one.0))).0 good.reaching;
    }

pub each_world : (system : System) (cells : List Cell) (flags : List Bool) (k : ℕ) (asked : List (ℕ × Side)) (lines : List WorldLine) → length cells ≡ system.cells → lines_fault system cells flags k asked lines ≡ Ok tt → EachWorld system cells flags asked lines
each_world system cells flags k [] [] each ok = tt
each_world system cells flags k [] (line ∷ lines) each ok = absurd cc
each_world system cells flags k (one ∷ asked) [] each ok = absurd cc
each_world system cells flags k (one ∷ asked) (line ∷ lines) each ok =
    let parts = bind_ok (line_fault system cells flags (line_number k) one line) (λ _. lines_fault system cells flags (k + 1) asked lines) tt ok in
    (world_for system cells flags one line each (line_good system cells flags (line_number k) one line parts.1), each_world system cells flags (k + 1) asked lines each parts.2)

-- the worlds alone have no fault either
pub worlds_pass : (system : System) (cells : List Cell) (flags : List Bool) (k : ℕ) (asked : List (ℕ × Side)) (lines : List WorldLine) → lines_fault system cells flags k asked lines ≡ Ok tt → worlds_lines system cells flags k asked (map (λ line. line.world) lines) ≡ Ok tt
worlds_pass system cells flags k [] [] ok = refl
worlds_pass system cells flags k [] (line ∷ lines) ok = refl
worlds_pass system cells flags k (one ∷ asked) [] ok = refl
worlds_pass system cells flags k (one ∷ asked) (line ∷ lines) ok =
    let parts = bind_ok (line_fault system cells flags (line_number k) one line) (λ _. lines_fault system cells flags (k + 1) asked lines) tt ok in
    let good : IsLineGood system cells flags one line = line_good system cells flags (line_number k) one line parts.1 in
    rw (good.no_fault, good.reaching) (worlds_pass system cells flags (k + 1) asked lines parts.2)

pub as_many : (system : System) (cells : List Cell) (flags : List Bool) (k : ℕ) (asked : List (ℕ × Side)) (lines : List WorldLine) → lines_fault system cells flags k asked lines ≡ Ok tt → length (map (λ (line : WorldLine). line.world) lines) ≡ length asked
as_many system cells flags k [] [] ok = refl
as_many system cells flags k [] (line ∷ lines) ok = absurd cc
as_many system cells flags k (one ∷ asked) [] ok = absurd cc
as_many system cells flags k (one ∷ asked) (line ∷ lines) ok =
    let parts = bind_ok (line_fault system cells flags (line_number k) one line) (λ _. lines_fault system cells flags (k + 1) asked lines) tt ok in
    omega (arith, as_many system cells flags (k + 1) asked lines parts.2)

pub protecting : (system : System) (cells : List Cell) (flags : List Bool) (lines : List WorldLine) → length cells ≡ system.cells → primary_shown flags 0 cells ≡ None → fixed_hidden flags 0 cells ≡ None → lines_fault system cells flags 0 (asked_of 0 cells) lines ≡ Ok tt → IsProtecting system cells flags
protecting system cells flags lines each hidden shown ok =
    let worlds : List World = map (λ line. line.world) lines in
    let count : (length worlds == length (asked_of 0 cells)) ≡ true = (Decides-eqb (length worlds) (length (asked_of 0 cells))).1 (as_many system cells flags 0 (asked_of 0 cells) lines ok) in
    protect_law system cells flags worlds each (rw (hidden, shown, count) (worlds_pass system cells flags 0 (asked_of 0 cells) lines ok))

-- ---- a refuted cell is primary

sum_from_zero : (n : ℕ) (f : ℕ → ℤ) → ((c : ℕ) → pos 0 ≤ℤ f c) → pos 0 ≤ℤ sum_below n f
sum_from_zero zero f each = omega (arith, ints)
sum_from_zero (suc n) f each = omega (arith, ints, sum_from_zero n f each, each n)

at_from_zero : (cells : List Cell) (flags : List Bool) (k : Numbers) (n : ℕ) → pos 0 ≤ℤ share_at cells flags k n
at_from_zero cells flags k n =
    elim (slice_get cells n) as (λ o. pos 0 ≤ℤ option_map_or (share (is_hidden flags n) (k n)) o (pos 0)) [
      | None ↦ omega (arith, ints)
      | Some cell ↦ share_from_zero (is_hidden flags n) (k n) cell
    ]

none_times : (q : ℤ) → q *ℤ pos 0 ≡ pos 0
none_times q = omega (arith, ints)

no_level : (side : Side) (cell : Cell) → cell.kind ≢ Primary → level side cell ≡ pos 0
no_level Above cell other = cell.other_up other
no_level Below cell other = cell.other_down other

primary_or : (kind : Kind) → (kind ≢ Primary → kind ≡ Primary) → kind ≡ Primary
primary_or Primary h = refl
primary_or Free h = h (λ is. absurd cc)
primary_or Fixed h = h (λ is. absurd cc)

-- only of a primary cell is there something to refute
pub refuted_primary : (system : System) (cells : List Cell) (flags : List Bool) (number : ℕ) (side : Side) (m : Multipliers) → number < length cells → IsGivenRefutation system cells flags number side m → IsOfKind cells number Primary
refuted_primary system cells flags number side m inside is =
    let found : (cell : Cell) × (slice_get cells number ≡ Some cell) = there cells number inside in
    let k : Numbers = coefficient (terms_added system number side m) in
    let sum : pos 0 ≤ℤ sum_below (length cells) (share_at cells flags k) = sum_from_zero (length cells) (share_at cells flags k) (at_from_zero cells flags k) in
    record {
      cell = found.0;
      found = found.1;
      is_kind = primary_or found.0.kind (λ other.
          let least : level_at cells side number ≡ pos 0 = ap (λ o. option_map_or (level side) o (pos 0)) found.1 ∙ no_level side found.0 other in
          let none : m.den *ℤ level_at cells side number ≡ pos 0 = ap (λ l. m.den *ℤ l) least ∙ none_times m.den in
          absurd (omega (arith, ints, sum, none, is.is_refutation.below)));
    }

-- ---- needs

pub record IsNamed (size : ℕ) (one : Refuted) : Type 0 where
  pub subject : one.subject < size
  pub cell : one.cell < size

pub need_good : (system : System) (cells : List Cell) (flags : List Bool) (k subject : ℕ) (need : Refuted) → length cells ≡ system.cells → IsNamed system.cells need → need_fault system cells flags k subject need ≡ Ok tt → (need.subject ≡ subject) × IsNeeded system cells flags need
need_good system cells flags k subject need each named ok =
    let parts = bind_ok (refuse (fault.NeedCell k) (not (need.subject == subject))) (λ _. map_fault (fault.Need k) (refutation_fault system cells (show flags need.subject) need.cell need.side need.multipliers)) tt ok in
    let test : (need.subject == subject) ≡ true = not_false (need.subject == subject) (not_refused (fault.NeedCell k) (not (need.subject == subject)) parts.1) in
    let refutes : IsGivenRefutation system cells (show flags need.subject) need.cell need.side need.multipliers =
    (refutation_law system cells (show flags need.subject) need.cell need.side need.multipliers named.cell).0 (seen (fault.Need k) (refutation_fault system cells (show flags need.subject) need.cell need.side need.multipliers) parts.2) in
    ((Decides-eqb need.subject subject).0 test, record { cell_primary = refuted_primary system cells (show flags need.subject) need.cell need.side need.multipliers (omega (arith, each, named.cell)) refutes; refutes = refutes })

pub record AreNeeded (system : System) (cells : List Cell) (flags : List Bool) (subjects : List ℕ) (needs : List Refuted) : Type 0 where
  pub same : map (λ (need : Refuted). need.subject) needs ≡ subjects
  pub each : All (IsNeeded system cells flags) needs

pub needs_good : (system : System) (cells : List Cell) (flags : List Bool) (k : ℕ) (subjects : List ℕ) (needs : List Refuted) → length cells ≡ system.cells → All (IsNamed system.cells) needs → each_need_fault system cells flags k subjects needs ≡ Ok tt → AreNeeded system cells flags subjects needs
needs_good system cells flags k [] [] each named ok = record { same = refl; each = All-nil (IsNeeded system cells flags) }
needs_good system cells flags k [] (need ∷ needs) each named ok = absurd cc
needs_good system cells flags k (subject ∷ subjects) [] each named ok = absurd cc
needs_good system cells flags k (subject ∷ subjects) (need ∷ needs) each named ok =
    let parts = bind_ok (need_fault system cells flags (line_number k) subject need) (λ _. each_need_fault system cells flags (k + 1) subjects needs) tt ok in
    let good = need_good system cells flags (line_number k) subject need each (All-head (IsNamed system.cells) need needs named) parts.1 in
    let later : AreNeeded system cells flags subjects needs = needs_good system cells flags (k + 1) subjects needs each (All-tail (IsNamed system.cells) need needs named) parts.2 in
    record {
      same = ap (λ n. n ∷ map (λ (one : Refuted). one.subject) needs) good.0 ∙ ap (λ (l : List ℕ). subject ∷ l) later.same;
      each = All-cons (IsNeeded system cells flags) need needs good.1 later.each;
    }

-- ---- repairs

free_at : (cells : List Cell) (number : ℕ) → option_map_or (λ (cell : Cell). is_free cell.kind) (slice_get cells number) false ≡ true → IsOfKind cells number Free
free_at cells number is =
    elim (slice_get cells number) as (λ o. slice_get cells number ≡ o → option_map_or (λ (cell : Cell). is_free cell.kind) o false ≡ true → IsOfKind cells number Free) [
      | None ↦ λ found bad. absurd cc
      | Some cell ↦ λ found good. record { cell = cell; found = found; is_kind = free_is cell.kind good }
    ] refl is

pub repair_good : (system : System) (cells : List Cell) (flags : List Bool) (k : ℕ) (repair : Refuted) → length cells ≡ system.cells → IsNamed system.cells repair → repair_fault system cells flags k repair ≡ Ok tt → IsJustified (protected_case system cells) flags repair
repair_good system cells flags k repair each named ok =
    let last : Result (Unit {0}) CheckFault = refuse (fault.RepairCell k) (not (subject_counts system repair)) in
    let check : Result (Unit {0}) CheckFault = map_fault (fault.Repair k) (refutation_fault system cells flags repair.cell repair.side repair.multipliers) in
    let first = bind_ok (refuse (fault.RepairCell k) (not (may_repair cells flags repair.subject))) (λ _. check >>= λ _. last) tt ok in
    let second = bind_ok check (λ _. last) tt first.2 in
    let may : may_repair cells flags repair.subject ≡ true = not_false (may_repair cells flags repair.subject) (not_refused (fault.RepairCell k) (not (may_repair cells flags repair.subject)) first.1) in
    let both = and_true (option_map_or (λ (cell : Cell). is_free cell.kind) (slice_get cells repair.subject) false) (not (is_hidden flags repair.subject)) may in
    let counts : subject_counts system repair ≡ true = not_false (subject_counts system repair) (not_refused (fault.RepairCell k) (not (subject_counts system repair)) second.2) in
    let count : ℤ = coefficients_for system (cell_and_side repair) repair.multipliers repair.subject in
    let refutes : IsGivenRefutation system cells flags repair.cell repair.side repair.multipliers =
    (refutation_law system cells flags repair.cell repair.side repair.multipliers named.cell).0 (seen (fault.Repair k) (refutation_fault system cells flags repair.cell repair.side repair.multipliers) second.1) in
    record {
      subject_free = free_at cells repair.subject both.0;
      subject_shown = not_true (is_hidden flags repair.subject) both.1;
      cell_primary = refuted_primary system cells flags repair.cell repair.side repair.multipliers (omega (arith, each, named.cell)) refutes;
      refutes = refutes;
      subject_counts = λ is. let test : int_eq count (pos 0) ≡ true = (Decides-int_eq count (pos 0)).1 is in let other : int_eq count (pos 0) ≡ false = not_true (int_eq count (pos 0)) counts in let bad : true ≡ false = sym test ∙ other in absurd cc;
    }

pub repairs_good : (system : System) (cells : List Cell) (flags : List Bool) (k : ℕ) (repairs : List Refuted) → length cells ≡ system.cells → All (IsNamed system.cells) repairs → repairs_fault system cells flags k repairs ≡ Ok tt → EachRepair (IsJustified (protected_case system cells)) flags repairs
repairs_good system cells flags k [] each named ok = tt
repairs_good system cells flags k (repair ∷ repairs) each named ok =
    let parts = bind_ok (repair_fault system cells flags (line_number k) repair) (λ _. repairs_fault system cells (hide flags repair.subject) (k + 1) repairs) tt ok in (
      repair_good system cells flags (line_number k) repair each (All-head (IsNamed system.cells) repair repairs named) parts.1,
      repairs_good system cells (hide flags repair.subject) (k + 1) repairs each (All-tail (IsNamed system.cells) repair repairs named) parts.2,
    )

pub all_named : (size : ℕ) (refuted : List Refuted) → list_all (names_cells size) refuted ≡ true → All (IsNamed size) refuted
all_named size [] is = All-nil (IsNamed size)
all_named size (one ∷ refuted) is =
    let parts = and_true (names_cells size one) (list_all (names_cells size) refuted) is in
    All-cons (IsNamed size) one refuted (grind (arith, parts.0)) (all_named size refuted parts.1)

-- ---- cells outside

here_hidden : (a larger : Bool) (number : ℕ) (rest : Option ℕ) → a ≡ true → (if a && not larger then Some number else rest) ≡ None → larger ≡ true
here_hidden true true number rest is none = refl
here_hidden true false number rest is none = absurd cc
here_hidden false larger number rest is none = absurd cc

rest_none : (a : Bool) (number : ℕ) (rest : Option ℕ) → (if a then Some number else rest) ≡ None → rest ≡ None
rest_none true number rest none = absurd cc
rest_none false number rest none = none

pub none_outside : (larger : List Bool) (number : ℕ) (flags : List Bool) → first_outside larger number flags ≡ None → (i : ℕ) → is_hidden flags i ≡ true → is_hidden larger (number + i) ≡ true
none_outside larger number [] none i is = absurd cc
none_outside larger number (hidden ∷ flags) none zero is =
    let here : number + 0 ≡ number = omega arith in
    ap (is_hidden larger) here ∙ here_hidden hidden (is_hidden larger number) number (first_outside larger (number + 1) flags) is none
none_outside larger number (hidden ∷ flags) none (suc i) is =
    let same : number + suc i ≡ number + 1 + i = omega arith in
    ap (is_hidden larger) same ∙ none_outside larger (number + 1) flags (rest_none (hidden && not (is_hidden larger number)) number (first_outside larger (number + 1) flags) none) i is

-- ---- tables

pub texts_same : (line : ℕ) (xs ys : List ℕ) → differing_line line xs ys ≡ None → xs ≡ ys
texts_same line [] [] none = refl
texts_same line [] (y ∷ ys) none = absurd cc
texts_same line (x ∷ xs) [] none = absurd cc
texts_same line (x ∷ xs) (y ∷ ys) none =
    elim (x == y) as (λ b. (x == y) ≡ b → (if b then differing_line (line_after x line) xs ys else Some line) ≡ None → x ∷ xs ≡ y ∷ ys) [
      | true ↦ λ is later. ap (λ n. n ∷ xs) ((Decides-eqb x y).0 is) ∙ ap (λ (l : List ℕ). y ∷ l) (texts_same (line_after x line) xs ys later)
      | false ↦ λ is bad. absurd cc
    ] refl none

pub tables_good : (book : BookView) (flags : List Bool) (decimals t : ℕ) (tables : List (List Dimension)) (names : List (List (List ℕ))) (files : List (List ℕ)) → length names ≡ length tables → length files ≡ length tables → tables_fault book flags decimals t tables names files ≡ Ok tt → AreTexts book decimals (open_truth book.marks flags) tables names files
tables_good book flags decimals t [] names files named written ok = tt
tables_good book flags decimals t (table ∷ tables) [] files named written ok = absurd (omega (arith, named))
tables_good book flags decimals t (table ∷ tables) (own ∷ names) [] named written ok = absurd (omega (arith, written))
tables_good book flags decimals t (table ∷ tables) (own ∷ names) (bytes ∷ files) named written ok =
    let text : List ℕ = hiding_text book flags decimals table own in
    let parts = bind_ok (table_fault book flags decimals t table own bytes) (λ _. tables_fault book flags decimals (t + 1) tables names files) tt ok in (
      texts_same 1 bytes text (none_refused (λ line. fault.Release t (line_number line)) (differing_line 1 bytes text) parts.1),
      tables_good book flags decimals (t + 1) tables names files (omega (arith, named)) (omega (arith, written)) parts.2,
    )

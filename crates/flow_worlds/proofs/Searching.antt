-- Searches over open steps, step by step.
use Rattle.std.proofs.Common.{◌≡◌, ◌≢◌, ◌⊎◌, inl, inr, ℕ, zero, suc, ◌+◌, ◌<◌, ◌≤◌, ◌==◌, ◌||◌, eqb, Bool, true, false, List, [], ◌∷◌, ◌++◌, length, length-append, take, replicate, All, map, get_or, ℤ, arith, refl, ap, sym, subst, ◌∙◌, get_or-set_other, get_or-set_same}
use Rattle.std.proofs.Math.ListN.{set, length-set}
use Rattle.std.specs.List.{Contains, IsDistinct, list_any}
use Rattle.std.proofs.lemmas.Bool.{cases_lt}
use Rattle.std.proofs.lemmas.Bool.Decides.{Decides-eqb, nat_tests}
use Rattle.std.proofs.lemmas.List.Elements.{All-head, All-tail, All-cons, All-nil, All-push, All-weaker, All-get_or, All-map, All-contains, All-more, Contains-get_or}
use Rattle.std.proofs.lemmas.List.Quantifiers.{all_pairs_push}
use Rattle.std.proofs.lemmas.Map.Keys.{IsDistinct-from_apart}
use Rattle.std.proofs.lemmas.Map.Steps.{length-le_from_distinct_below}
use Rattle.sdc_base.specs.HiddenSets.{is_hidden}
use Rattle.signed_network.specs.declared.arcs.Arc.{Arc}
use Rattle.flow_worlds.specs.declared.steps.Step.{Step}
use Rattle.flow_worlds.specs.declared.search.Visit.{Visit}
use Rattle.flow_worlds.specs.declared.search.Search.{Search}
use Rattle.flow_worlds.specs.declared.task.Task.{Task}
use Rattle.signed_network.specs.Arcs.{arc_at}
use Rattle.signed_network.specs.Networks.{Touches}
use Rattle.signed_network.specs.Networks.{cells_at}
use Rattle.flow_worlds.specs.Steps.{step_of, step_from}
use Rattle.flow_worlds.specs.Tasks.{IsTask}
use Rattle.flow_worlds.specs.Searches.{AreVisits, Grows, IsGone, IsOpenStep, IsSearch, IsSearchOf, StaysAt, StaysOver, is_open, is_reached, visit_at, visited}
use Rattle.signed_network.proofs.Arcing.{arcs_within}
use Rattle.flow_worlds.proofs.Circling.{start_of, end_of, start_is, end_is}
use Rattle.flow_worlds.proofs.Listed.{get_or_any}

-- ---- flags

pub reached_here : (reached : List Bool) (point : ℕ) → point < length reached → is_reached (set reached point true) point ≡ true
reached_here reached point inside = get_or-set_same reached point true false inside

pub reached_still : (reached : List Bool) (point other : ℕ) → point < length reached → is_reached reached other ≡ true → is_reached (set reached point true) other ≡ true
reached_still reached point other inside is =
    elim (other == point) as (λ b. (other == point) ≡ b → is_reached (set reached point true) other ≡ true) [
      | true ↦ λ test. ap (λ (p : ℕ). is_reached (set reached point true) p) ((Decides-eqb other point).0 test) ∙ reached_here reached point inside
      | false ↦ λ test. let apart : other ≢ point = grind (arith, nat_tests, test) in get_or-set_other reached point other true false apart ∙ is
    ] refl

pub reached_before : (reached : List Bool) (point other : ℕ) → is_reached (set reached point true) other ≡ true → (other ≡ point) ⊎ (is_reached reached other ≡ true)
reached_before reached point other is =
    elim (other == point) as (λ b. (other == point) ≡ b → (other ≡ point) ⊎ (is_reached reached other ≡ true)) [
      | true ↦ λ test. inl ((Decides-eqb other point).0 test)
      | false ↦ λ test. let apart : other ≢ point = grind (arith, nat_tests, test) in inr (sym (get_or-set_other reached point other true false apart) ∙ is)
    ] refl

none_reached : (n point : ℕ) → is_reached (replicate n false) point ≡ false
none_reached zero zero = refl
none_reached zero (suc point) = refl
none_reached (suc n) zero = refl
none_reached (suc n) (suc point) = none_reached n point

-- ---- visits

visit_before : (visits : List Visit) (visit : Visit) (k : ℕ) → k < length visits → visit_at (visits ++ visit ∷ []) k ≡ visit_at visits k
visit_before [] visit k inside = absurd (omega arith)
visit_before (one ∷ visits) visit zero inside = refl
visit_before (one ∷ visits) visit (suc k) inside = visit_before visits visit k (omega arith)

visit_last : (visits : List Visit) (visit : Visit) → visit_at (visits ++ visit ∷ []) (length visits) ≡ visit
visit_last [] visit = refl
visit_last (one ∷ visits) visit = visit_last visits visit

longer : (visits : List Visit) (visit : Visit) → length (visits ++ visit ∷ []) ≡ length visits + 1
longer visits visit = length-append visits (visit ∷ []) ∙ omega arith

-- ---- where steps lead

pub from_start : (point cell : ℕ) (arc : Arc) → Touches arc point → (step_from point cell arc).start ≡ point
from_start point cell arc touches = by (arc.from == point) refl touches
  where
    by : (b : Bool) → (arc.from == point) ≡ b → Touches arc point → (step_of cell arc b).start ≡ point
    by true test touches = (Decides-eqb arc.from point).0 test
    by false test (inl from) = absurd (let yes : (arc.from == point) ≡ true = (Decides-eqb arc.from point).1 from in let clash : true ≡ false = sym yes ∙ test in cc)
    by false test (inr to) = to

pub of_cell : (cell : ℕ) (arc : Arc) (up : Bool) → (step_of cell arc up).cell ≡ cell
of_cell cell arc true = refl
of_cell cell arc false = refl

pub of_up : (cell : ℕ) (arc : Arc) (up : Bool) → (step_of cell arc up).up ≡ up
of_up cell arc true = refl
of_up cell arc false = refl

pub of_along : (cell : ℕ) (arc : Arc) (up : Bool) → step_of cell arc up ≡ step_of (step_of cell arc up).cell arc (step_of cell arc up).up
of_along cell arc true = refl
of_along cell arc false = refl

one_of_ends : (arc : Arc) (up other : Bool) → (end_of arc up ≡ start_of arc other) ⊎ (end_of arc up ≡ end_of arc other)
one_of_ends arc true true = inr refl
one_of_ends arc true false = inl refl
one_of_ends arc false true = inl refl
one_of_ends arc false false = inr refl

end_within : (task : Task) (step : Step) → IsTask task → step.cell < length task.arcs.now → step ≡ step_of step.cell (arc_at task.arcs.now step.cell) step.up → step.end < length task.touching.now
end_within task step is known along =
    let within = arcs_within task.system.now.relations task.signs.now task.system.now.cells task.arcs.now is.are_arcs step.cell known in
    let points = is.points in
    by step.up (end_is (arc_at task.arcs.now step.cell) step along) within.0 within.1 points
  where
    by : (up : Bool) → step.end ≡ end_of (arc_at task.arcs.now step.cell) up → (arc_at task.arcs.now step.cell).from < length task.system.now.relations + 1 → (arc_at task.arcs.now step.cell).to < length task.system.now.relations + 1 → length task.touching.now ≡ length task.system.now.relations + 1 → step.end < length task.touching.now
    by true end from to points = omega (arith, end, to, points)
    by false end from to points = omega (arith, end, from, points)

pub open_end_within : (task : Task) (moves : List ℤ) (forward : Bool) (step : Step) → IsTask task → IsOpenStep task moves forward step → step.end < length task.touching.now
open_end_within task moves forward step is opened = end_within task step is opened.known opened.along

pub open_start_within : (task : Task) (moves : List ℤ) (forward : Bool) (step : Step) → IsTask task → IsOpenStep task moves forward step → step.start < length task.touching.now
open_start_within task moves forward step is opened =
    let within = arcs_within task.system.now.relations task.signs.now task.system.now.cells task.arcs.now is.are_arcs step.cell opened.known in
    by step.up (start_is (arc_at task.arcs.now step.cell) step opened.along) within.0 within.1 is.points
  where
    by : (up : Bool) → step.start ≡ start_of (arc_at task.arcs.now step.cell) up → (arc_at task.arcs.now step.cell).from < length task.system.now.relations + 1 → (arc_at task.arcs.now step.cell).to < length task.system.now.relations + 1 → length task.touching.now ≡ length task.system.now.relations + 1 → step.start < length task.touching.now
    by true start from to points = omega (arith, start, from, points)
    by false start from to points = omega (arith, start, to, points)

no_visit : Visit
no_visit = record { step = record { cell = 0; up = false; start = 0; end = 0 }; before = 0 }

open_at : (task : Task) (moves : List ℤ) (forward : Bool) (visits : List Visit) (k : ℕ) → k < length visits → All (λ (v : Visit). IsOpenStep task moves forward v.step) visits → IsOpenStep task moves forward (visited visits k)
open_at task moves forward visits k inside all = All-get_or (λ (v : Visit). IsOpenStep task moves forward v.step) visits k (record { step = record { cell = 0; up = false; start = 0; end = 0 }; before = 0 }) inside all

pub visit_end_within : (task : Task) (moves : List ℤ) (forward : Bool) (first : Step) (search : Search) (k : ℕ) → IsTask task → IsSearchOf task moves forward first search → k < length search.visits.items → (visited search.visits.items k).end < length task.touching.now
visit_end_within task moves forward first search k is has inside = open_end_within task moves forward (visited search.visits.items k) is (open_at task moves forward search.visits.items k inside has.open_steps)

-- ---- few visits

any_below : (n q : ℕ) (xs : List ℕ) → All (λ x. x < n) xs → list_any (eqb q) xs ≡ true → q < n
any_below n q [] below any = absurd (let clash : false ≡ true = any in cc)
any_below n q (x ∷ xs) below any =
    elim (eqb q x) as (λ b. eqb q x ≡ b → (b || list_any (eqb q) xs) ≡ true → q < n) [
      | true ↦ λ test _. (let same : q ≡ x = (Decides-eqb q x).0 test in omega (arith, same, All-head (λ x. x < n) x xs below))
      | false ↦ λ test rest. any_below n q xs (All-tail (λ x. x < n) x xs below) rest
    ] refl any

cell_at : (visits : List Visit) (k d : ℕ) (one : Visit) → k < length visits → get_or (map (λ (v : Visit). v.step.cell) visits) k d ≡ (get_or visits k one).step.cell
cell_at [] k d one inside = absurd (omega arith)
cell_at (visit ∷ visits) zero d one inside = refl
cell_at (visit ∷ visits) (suc k) d one inside = cell_at visits k d one (omega arith)

cells_many : (visits : List Visit) → length (map (λ (v : Visit). v.step.cell) visits) ≡ length visits
cells_many [] = refl
cells_many (visit ∷ visits) = omega (arith, cells_many visits)

visits_few : (n : ℕ) (visits : List Visit) → AreVisits visits → All (λ (v : Visit). v.step.cell < n) visits → length visits ≤ n
visits_few n visits are below =
    let one : Visit = record { step = record { cell = 0; up = false; start = 0; end = 0 }; before = 0 } in
    let cells : List ℕ = map (λ (v : Visit). v.step.cell) visits in
    let many : length cells ≡ length visits = cells_many visits in
    let distinct : IsDistinct eqb cells =
    IsDistinct-from_apart eqb cells (λ i j d less inside.
    let there : j < length visits = omega (arith, many, inside) in
    let here : i < length visits = omega (arith, less, there) in
    let differ : get_or cells i d ≢ get_or cells j d = λ same. are.apart i j one less there (sym (cell_at visits i d one here) ∙ same ∙ cell_at visits j d one there) in
    grind (arith, nat_tests, differ)) in
    omega (arith, many, length-le_from_distinct_below cells n distinct (λ q. any_below n q cells (All-map (λ (x : ℕ). x < n) (λ (v : Visit). v.step.cell) visits below)))

pub search_few : (task : Task) (moves : List ℤ) (forward : Bool) (first : Step) (search : Search) → IsSearchOf task moves forward first search → length search.visits.items ≤ length task.arcs.now
search_few task moves forward first search has =
    visits_few (length task.arcs.now) search.visits.items has.are_visits (All-weaker (λ (v : Visit). IsOpenStep task moves forward v.step) (λ (v : Visit). v.step.cell < length task.arcs.now) (λ (v : Visit) opened. opened.known) search.visits.items has.open_steps)

-- ---- the first step

pub begun : (task : Task) (moves : List ℤ) (forward : Bool) (first : Step) (visits : List Visit) (reached : List Bool) (before : ℕ) → IsTask task → IsOpenStep task moves forward first → visits ≡ record { step = first; before = before } ∷ [] → reached ≡ set (replicate (length task.touching.now) false) first.end true → length reached ≡ length task.touching.now → IsSearch task moves forward first visits reached
begun task moves forward first visits reached before is opened one is_set points =
    let n : ℕ = length task.touching.now in
    let inside : first.end < length (replicate n false) = omega (arith, open_end_within task moves forward first is opened, flags n) in
    subst (λ (vs : List Visit). IsSearch task moves forward first vs reached) (sym one)
    (subst (λ (fs : List Bool). length fs ≡ n → IsSearch task moves forward first (record { step = first; before = before } ∷ []) fs) (sym is_set) (λ many. record {
      points = many;
      are_visits = record {
        some = omega arith;
        apart = λ i j d less within. absurd (omega (arith, less, within));
        back = λ place above within. absurd (omega (arith, above, within));
      };
      begins = refl;
      open_steps = All-cons (λ (v : Visit). IsOpenStep task moves forward v.step) (record { step = first; before = before }) [] opened (All-nil (λ (v : Visit). IsOpenStep task moves forward v.step));
      met = λ place within. here place within inside;
      only = λ point reached_is. elim (reached_before (replicate n false) first.end point reached_is) as (λ _. (place : ℕ) × (place < 1) × ((visited (record { step = first; before = before } ∷ []) place).end ≡ point)) [
        | inl same ↦ (0, omega arith, sym same)
        | inr old ↦ absurd (let clash : true ≡ false = sym old ∙ none_reached n point in cc)
      ];
      least = λ inside_set closed starts point reached_is. elim (reached_before (replicate n false) first.end point reached_is) as (λ _. inside_set point ≡ true) [
        | inl same ↦ ap (λ (p : ℕ). inside_set p) same ∙ starts
        | inr old ↦ absurd (let clash : true ≡ false = sym old ∙ none_reached n point in cc)
      ];
    }) points)
  where
    flags : (m : ℕ) → length (replicate m false) ≡ m
    flags zero = refl
    flags (suc m) = omega (arith, flags m)

    here : (place : ℕ) → place < 1 → first.end < length (replicate (length task.touching.now) false) → is_reached (set (replicate (length task.touching.now) false) first.end true) (visited (record { step = first; before = before } ∷ []) place).end ≡ true
    here zero within inside = reached_here (replicate (length task.touching.now) false) first.end inside
    here (suc place) within inside = absurd (omega (arith, within))

-- ---- one step more

-- a step that is gone next: from a point that is reached, over a cell other than the asked one, to a point that isn't
pub record IsNext (task : Task) (moves : List ℤ) (forward : Bool) (visits : List Visit) (reached : List Bool) (place cell : ℕ) (step : Step) : Type 0 where
  pub inside : place < length visits
  pub known : cell < length task.arcs.now
  pub hidden : is_hidden task.flags.now cell ≡ true
  pub touches : Touches (arc_at task.arcs.now cell) (visited visits place).end
  pub other : cell ≢ task.asked.cell
  pub is : step ≡ step_from (visited visits place).end cell (arc_at task.arcs.now cell)
  pub opened : is_open forward task.cells.now moves step ≡ true
  pub unmet : is_reached reached step.end ≡ false

next_cell : (task : Task) (moves : List ℤ) (forward : Bool) (visits : List Visit) (reached : List Bool) (place cell : ℕ) (step : Step) → IsNext task moves forward visits reached place cell step → step.cell ≡ cell
next_cell task moves forward visits reached place cell step next = ap (λ (s : Step). s.cell) next.is ∙ of_cell cell (arc_at task.arcs.now cell) ((arc_at task.arcs.now cell).from == (visited visits place).end)

next_along : (task : Task) (moves : List ℤ) (forward : Bool) (visits : List Visit) (reached : List Bool) (place cell : ℕ) (step : Step) → IsNext task moves forward visits reached place cell step → step ≡ step_of step.cell (arc_at task.arcs.now step.cell) step.up
next_along task moves forward visits reached place cell step next =
    let arc : Arc = arc_at task.arcs.now cell in
    let up : Bool = arc.from == (visited visits place).end in
    let cell_is = next_cell task moves forward visits reached place cell step next in
    let up_is : step.up ≡ up = ap (λ (s : Step). s.up) next.is ∙ of_up cell arc up in
    next.is ∙ ap (λ (u : Bool). step_of cell arc u) (sym up_is) ∙ ap (λ (c : ℕ). step_of c (arc_at task.arcs.now c) step.up) (sym cell_is)

next_open : (task : Task) (moves : List ℤ) (forward : Bool) (visits : List Visit) (reached : List Bool) (place cell : ℕ) (step : Step) → IsNext task moves forward visits reached place cell step → IsOpenStep task moves forward step
next_open task moves forward visits reached place cell step next =
    let cell_is = next_cell task moves forward visits reached place cell step next in
    record {
      known = omega (arith, cell_is, next.known);
      hidden = ap (λ (c : ℕ). is_hidden task.flags.now c) cell_is ∙ next.hidden;
      along = next_along task moves forward visits reached place cell step next;
      opened = next.opened;
    }

next_start : (task : Task) (moves : List ℤ) (forward : Bool) (visits : List Visit) (reached : List Bool) (place cell : ℕ) (step : Step) → IsNext task moves forward visits reached place cell step → step.start ≡ (visited visits place).end
next_start task moves forward visits reached place cell step next = ap (λ (s : Step). s.start) next.is ∙ from_start (visited visits place).end cell (arc_at task.arcs.now cell) next.touches

-- the next step's cell wasn't gone over
fresh_cell : (task : Task) (moves : List ℤ) (forward : Bool) (first : Step) (visits : List Visit) (reached : List Bool) (place cell : ℕ) (step : Step) → first.cell ≡ task.asked.cell → IsSearch task moves forward first visits reached → IsNext task moves forward visits reached place cell step → (k : ℕ) → k < length visits → (visited visits k).cell ≢ step.cell
fresh_cell task moves forward first visits reached place cell step asked has next zero inside same =
    next.other (sym (next_cell task moves forward visits reached place cell step next) ∙ sym same ∙ ap (λ (s : Step). s.cell) has.begins ∙ asked)
fresh_cell task moves forward first visits reached place cell step asked has next (suc k) inside same =
    let old : Step = visited visits (suc k) in
    let opened = open_at task moves forward visits (suc k) inside has.open_steps in
    let arc : Arc = arc_at task.arcs.now old.cell in
    let back = has.are_visits.back (suc k) (omega arith) inside in
    let along : step ≡ step_of step.cell arc step.up = subst (λ (c : ℕ). step ≡ step_of step.cell (arc_at task.arcs.now c) step.up) (sym same) (next_along task moves forward visits reached place cell step next) in
    let start_met : is_reached reached old.start ≡ true = ap (λ (p : ℕ). is_reached reached p) back.1 ∙ has.met (visit_at visits (suc k)).before (omega (arith, back.0, inside)) in
    let end_met : is_reached reached old.end ≡ true = has.met (suc k) inside in
    let met : is_reached reached step.end ≡ true =
    elim (one_of_ends arc step.up old.up) as (λ _. is_reached reached step.end ≡ true) [
      | inl at_start ↦ ap (λ (p : ℕ). is_reached reached p) (end_is arc step along ∙ at_start ∙ sym (start_is arc old opened.along)) ∙ start_met
      | inr at_end ↦ ap (λ (p : ℕ). is_reached reached p) (end_is arc step along ∙ at_end ∙ sym (end_is arc old opened.along)) ∙ end_met
    ] in
    let clash : true ≡ false = sym met ∙ next.unmet in cc

pub gone_on : (task : Task) (moves : List ℤ) (forward : Bool) (first : Step) (visits after : List Visit) (reached flags : List Bool) (place cell : ℕ) (step : Step) → IsTask task → first.cell ≡ task.asked.cell → IsSearch task moves forward first visits reached → IsNext task moves forward visits reached place cell step
    → after ≡ visits ++ record { step = step; before = place } ∷ [] → flags ≡ set reached step.end true → IsSearch task moves forward first after flags
gone_on task moves forward first visits after reached flags place cell step is asked has next pushed is_set =
    let visit : Visit = record { step = step; before = place } in
    let opened = next_open task moves forward visits reached place cell step next in
    let end_inside : step.end < length reached = omega (arith, open_end_within task moves forward step is opened, has.points) in
    subst (λ (vs : List Visit). IsSearch task moves forward first vs flags) (sym pushed)
    (subst (λ (fs : List Bool). IsSearch task moves forward first (visits ++ visit ∷ []) fs) (sym is_set) (record {
      points = length-set reached step.end true ∙ has.points;
      are_visits = record {
        some = omega (arith, longer visits visit);
        apart = all_pairs_push (λ (one other : Visit). one.step.cell ≢ other.step.cell) visits visit has.are_visits.apart
            (λ k d inside same. fresh_cell task moves forward first visits reached place cell step asked has next k inside (ap (λ (v : Visit). v.step.cell) (get_or_any visits k (record { step = record { cell = 0; up = false; start = 0; end = 0 }; before = 0 }) d inside) ∙ same));
        back = λ k above inside. elim (cases_lt k (length visits)) as (λ _. ((visit_at (visits ++ visit ∷ []) k).before < k) × ((visited (visits ++ visit ∷ []) k).start ≡ (visited (visits ++ visit ∷ []) (visit_at (visits ++ visit ∷ []) k).before).end)) [
          | inl old ↦
              let back = has.are_visits.back k above old in
              let same : visit_at (visits ++ visit ∷ []) k ≡ visit_at visits k = visit_before visits visit k old in
              let earlier : visit_at (visits ++ visit ∷ []) (visit_at visits k).before ≡ visit_at visits (visit_at visits k).before = visit_before visits visit (visit_at visits k).before (omega (arith, back.0, old)) in (
                omega (arith, back.0, ap (λ (v : Visit). v.before) same),
                ap (λ (v : Visit). v.step.start) same ∙ back.1 ∙ sym (ap (λ (v : Visit). v.step.end) earlier) ∙ ap (λ (v : Visit). (visited (visits ++ visit ∷ []) v.before).end) (sym same),
              )
          | inr new ↦
              let at : k ≡ length visits = omega (arith, inside, longer visits visit, new) in
              let same : visit_at (visits ++ visit ∷ []) k ≡ visit = ap (λ (i : ℕ). visit_at (visits ++ visit ∷ []) i) at ∙ visit_last visits visit in
              let earlier : visit_at (visits ++ visit ∷ []) place ≡ visit_at visits place = visit_before visits visit place next.inside in
              let less = next.inside in (
                omega (arith, less, at, ap (λ (v : Visit). v.before) same),
                ap (λ (v : Visit). v.step.start) same ∙ next_start task moves forward visits reached place cell step next ∙ sym (ap (λ (v : Visit). v.step.end) earlier) ∙ ap (λ (v : Visit). (visited (visits ++ visit ∷ []) v.before).end) (sym same),
              )
        ];
      };
      begins = ap (λ (v : Visit). v.step) (visit_before visits visit 0 has.are_visits.some) ∙ has.begins;
      open_steps = All-push (λ (v : Visit). IsOpenStep task moves forward v.step) visits visit has.open_steps opened;
      met = λ k inside. elim (cases_lt k (length visits)) as (λ _. is_reached (set reached step.end true) (visited (visits ++ visit ∷ []) k).end ≡ true) [
        | inl old ↦ ap (λ (v : Visit). is_reached (set reached step.end true) v.step.end) (visit_before visits visit k old) ∙ reached_still reached step.end (visited visits k).end end_inside (has.met k old)
        | inr new ↦
            let at : k ≡ length visits = omega (arith, inside, longer visits visit, new) in
            ap (λ (v : Visit). is_reached (set reached step.end true) v.step.end) (ap (λ (i : ℕ). visit_at (visits ++ visit ∷ []) i) at ∙ visit_last visits visit) ∙ reached_here reached step.end end_inside
      ];
      only = λ point met. elim (reached_before reached step.end point met) as (λ _. (k : ℕ) × (k < length (visits ++ visit ∷ [])) × ((visited (visits ++ visit ∷ []) k).end ≡ point)) [
        | inl same ↦ (length visits, omega (arith, longer visits visit), ap (λ (v : Visit). v.step.end) (visit_last visits visit) ∙ sym same)
        | inr old ↦ let at = has.only point old in (at.0, omega (arith, at.1, longer visits visit), ap (λ (v : Visit). v.step.end) (visit_before visits visit at.0 at.1) ∙ at.2)
      ];
      least = λ inside closed starts point met. elim (reached_before reached step.end point met) as (λ _. inside point ≡ true) [
        | inl same ↦
            let from : inside (visited visits place).end ≡ true = has.least inside closed starts (visited visits place).end (has.met place next.inside) in
            let to : inside (step_from (visited visits place).end cell (arc_at task.arcs.now cell)).end ≡ true = closed (visited visits place).end from cell next.known next.hidden next.touches next.other (ap (λ (s : Step). is_open forward task.cells.now moves s) (sym next.is) ∙ next.opened) in
            ap inside (same ∙ ap (λ (s : Step). s.end) next.is) ∙ to
        | inr old ↦ has.least inside closed starts point old
      ];
    }))

-- what was gone and reached stays
pub grown : (before after : Search) (visit : Visit) (point : ℕ) → after.visits.items ≡ before.visits.items ++ visit ∷ [] → after.reached.items ≡ set before.reached.items point true → point < length before.reached.items → Grows before after
grown before after visit point pushed is_set inside = record {
  longer = omega (arith, ap (λ (vs : List Visit). length vs) pushed, longer before.visits.items visit);
  same = λ k there. ap (λ (vs : List Visit). visit_at vs k) pushed ∙ visit_before before.visits.items visit k there;
  stays = λ p met. ap (λ (fs : List Bool). is_reached fs p) is_set ∙ reached_still before.reached.items point p inside met;
}

pub grown_none : (search : Search) → Grows search search
grown_none search = record { longer = omega arith; same = λ k there. refl; stays = λ p met. met }

pub grown_on : (one two three : Search) → Grows one two → Grows two three → Grows one three
grown_on one two three first second = record {
  longer = omega (arith, first.longer, second.longer);
  same = λ k there. second.same k (omega (arith, there, first.longer)) ∙ first.same k there;
  stays = λ p met. second.stays p (first.stays p met);
}

pub stays_grown : (task : Task) (moves : List ℤ) (forward : Bool) (before after : Search) (point cell : ℕ) → Grows before after → StaysOver task moves forward (is_reached before.reached.items) point cell → StaysOver task moves forward (is_reached after.reached.items) point cell
stays_grown task moves forward before after point cell grows stays = λ other opened. grows.stays (step_from point cell (arc_at task.arcs.now cell)).end (stays other opened)

pub stays_at_grown : (task : Task) (moves : List ℤ) (forward : Bool) (before after : Search) (point : ℕ) → Grows before after → StaysAt task moves forward (is_reached before.reached.items) point → StaysAt task moves forward (is_reached after.reached.items) point
stays_at_grown task moves forward before after point grows stays = λ cell known hidden touches. stays_grown task moves forward before after point cell grows (stays cell known hidden touches)

-- all cells at a point are gone over
pub all_over : (task : Task) (moves : List ℤ) (forward : Bool) (search : Search) (point : ℕ) (cells : List ℕ) → IsTask task → cells ≡ cells_at task.touching.now point → All (StaysOver task moves forward (is_reached search.reached.items) point) cells → StaysAt task moves forward (is_reached search.reached.items) point
all_over task moves forward search point cells is at all = λ cell known hidden touches.
    All-contains (StaysOver task moves forward (is_reached search.reached.items) point) cells cell all (subst (λ (cs : List ℕ). Contains cs cell) (sym at) (is.touched.all point cell known hidden touches))

pub more_over : (task : Task) (moves : List ℤ) (forward : Bool) (before after : Search) (point : ℕ) (cells : List ℕ) (k : ℕ) → k < length cells → Grows before after → StaysOver task moves forward (is_reached after.reached.items) point (get_or cells k 0) → All (StaysOver task moves forward (is_reached before.reached.items) point) (take k cells) → All (StaysOver task moves forward (is_reached after.reached.items) point) (take (k + 1) cells)
more_over task moves forward before after point cells k inside grows here all =
    All-more (StaysOver task moves forward (is_reached after.reached.items) point) cells k 0 inside (All-weaker (StaysOver task moves forward (is_reached before.reached.items) point) (StaysOver task moves forward (is_reached after.reached.items) point) (λ (cell : ℕ) stays. stays_grown task moves forward before after point cell grows stays) (take k cells) all) here

-- all points that are reached are gone on from
pub all_gone : (task : Task) (moves : List ℤ) (forward : Bool) (first : Step) (search : Search) (place : ℕ) → IsSearchOf task moves forward first search → length search.visits.items ≤ place → ((k : ℕ) → k < place → StaysAt task moves forward (is_reached search.reached.items) (visited search.visits.items k).end) → IsGone task moves forward search
all_gone task moves forward first search place has past stays = λ point met.
    let at = has.only point met in
    subst (λ (p : ℕ). StaysAt task moves forward (is_reached search.reached.items) p) at.2 (stays at.0 (omega (arith, at.1, past)))

pub more_gone : (task : Task) (moves : List ℤ) (forward : Bool) (before after : Search) (place : ℕ) → place < length before.visits.items → Grows before after → StaysAt task moves forward (is_reached after.reached.items) (visited before.visits.items place).end → ((k : ℕ) → k < place → StaysAt task moves forward (is_reached before.reached.items) (visited before.visits.items k).end)
    → (k : ℕ) → k < place + 1 → StaysAt task moves forward (is_reached after.reached.items) (visited after.visits.items k).end
more_gone task moves forward before after place inside grows here earlier k below =
    elim (cases_lt k place) as (λ _. StaysAt task moves forward (is_reached after.reached.items) (visited after.visits.items k).end) [
      | inl less ↦ subst (λ (v : Visit). StaysAt task moves forward (is_reached after.reached.items) v.step.end) (sym (grows.same k (omega (arith, less, inside)))) (stays_at_grown task moves forward before after (visited before.visits.items k).end grows (earlier k less))
      | inr not_less ↦
          let at : place ≡ k = omega (arith, below, not_less) in
          subst (λ (i : ℕ). StaysAt task moves forward (is_reached after.reached.items) (visited after.visits.items i).end) at
          (subst (λ (v : Visit). StaysAt task moves forward (is_reached after.reached.items) v.step.end) (sym (grows.same place inside)) here)
    ]

pub many_flags : (n : ℕ) → length (replicate n false) ≡ n
many_flags zero = refl
many_flags (suc n) = omega (arith, many_flags n)

-- ---- reads

pub read_visit : (visits : List Visit) (k : ℕ) (visit : Visit) → k < length visits → visit ≡ get_or visits k visit → visit ≡ visit_at visits k
read_visit visits k visit inside is = is ∙ get_or_any visits k visit (record { step = record { cell = 0; up = false; start = 0; end = 0 }; before = 0 }) inside

pub flag_unmet : (flags : List Bool) (k : ℕ) (flag : Bool) → flag ≡ get_or flags k flag → flag ≡ false → is_reached flags k ≡ false
flag_unmet flags k flag is down = ap (λ (b : Bool). get_or flags k b) (sym down) ∙ sym is ∙ down

pub flag_met : (flags : List Bool) (k : ℕ) (flag : Bool) → k < length flags → flag ≡ get_or flags k flag → flag ≡ true → is_reached flags k ≡ true
flag_met flags k flag inside is up = get_or_any flags k false flag inside ∙ sym is ∙ up

pub read_cells : (touching : List (List ℕ)) (point : ℕ) (item cells : List ℕ) → point < length touching → item ≡ get_or touching point item → cells ≡ item → cells ≡ cells_at touching point
read_cells touching point item cells inside read is = is ∙ read ∙ get_or_any touching point item [] inside

pub cell_there : (task : Task) (point : ℕ) (cells : List ℕ) (k : ℕ) → IsTask task → cells ≡ cells_at task.touching.now point → k < length cells → (get_or cells k 0 < length task.arcs.now) × (is_hidden task.flags.now (get_or cells k 0) ≡ true) × Touches (arc_at task.arcs.now (get_or cells k 0)) point
cell_there task point cells k is at inside = is.touched.only point (get_or cells k 0) (subst (λ (cs : List ℕ). Contains cs (get_or cells k 0)) at (Contains-get_or cells k 0 inside))

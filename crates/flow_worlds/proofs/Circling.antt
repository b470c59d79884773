-- The steps that lead back from a visit to the first one.
use Rattle.std.proofs.Common.{◌≡◌, ◌≢◌, ℕ, ◌<◌, ◌≤◌, Bool, true, false, List, [], ◌∷◌, ◌++◌, length, length-append, All, ℤ, pos, ◌+ℤ◌, ◌-ℤ◌, ◌*ℤ◌, arith, refl, ap, sym, subst, ◌∙◌}
use Rattle.std.specs.List.{AllPairs}
use Rattle.std.proofs.lemmas.Int.{ints}
use Rattle.std.proofs.lemmas.List.Elements.{All-nil, All-push, All-weaker, All-get_or}
use Rattle.std.proofs.lemmas.List.Quantifiers.{all_pairs_push}
use Rattle.sdc_base.specs.Signs.{number_with_sign}
use Rattle.sdc_base.proofs.WholeNumbers.{minus_times}
use Rattle.sdc_base.proofs.TotalLemmas.{sum_of-append, sum_of-cons}
use Rattle.signed_network.specs.declared.arcs.Arc.{Arc}
use Rattle.flow_worlds.specs.declared.steps.Step.{Step}
use Rattle.flow_worlds.specs.declared.search.Visit.{Visit}
use Rattle.flow_worlds.specs.declared.search.Search.{Search}
use Rattle.flow_worlds.specs.declared.task.Task.{Task}
use Rattle.signed_network.specs.Arcs.{arc_at, at_point, brings_to}
use Rattle.flow_worlds.specs.Steps.{step_of, turn_of}
use Rattle.flow_worlds.specs.Searches.{AreVisits, IsOpenStep, IsSearchOf, visit_at, visited}
use Rattle.flow_worlds.specs.Circuits.{AreAlong, Carries, IsCircuit, IsVisited, brought, step_at}
use Rattle.flow_worlds.proofs.Turns.{Apart}

-- ---- where a step starts and ends

abbrev pub start_of : Arc → Bool → ℕ
start_of arc true = arc.from
start_of arc false = arc.to

abbrev pub end_of : Arc → Bool → ℕ
end_of arc true = arc.to
end_of arc false = arc.from

starts_at : (cell : ℕ) (arc : Arc) (up : Bool) → (step_of cell arc up).start ≡ start_of arc up
starts_at cell arc true = refl
starts_at cell arc false = refl

ends_at : (cell : ℕ) (arc : Arc) (up : Bool) → (step_of cell arc up).end ≡ end_of arc up
ends_at cell arc true = refl
ends_at cell arc false = refl

pub start_is : (arc : Arc) (step : Step) → step ≡ step_of step.cell arc step.up → step.start ≡ start_of arc step.up
start_is arc step along = ap (λ (s : Step). s.start) along ∙ starts_at step.cell arc step.up

pub end_is : (arc : Arc) (step : Step) → step ≡ step_of step.cell arc step.up → step.end ≡ end_of arc step.up
end_is arc step along = ap (λ (s : Step). s.end) along ∙ ends_at step.cell arc step.up

turn_brings : (arc : Arc) (up : Bool) (point : ℕ) → number_with_sign up (pos 1) *ℤ brings_to arc point ≡ at_point (end_of arc up) point -ℤ at_point (start_of arc up) point
turn_brings arc true point = omega (arith, ints)
turn_brings arc false point = omega (arith, ints, minus_times (pos 1) (brings_to arc point))

step_brings : (arc : Arc) (step : Step) (point : ℕ) → step ≡ step_of step.cell arc step.up → turn_of step *ℤ brings_to arc point ≡ at_point step.end point -ℤ at_point step.start point
step_brings arc step point along =
    turn_brings arc step.up point ∙ omega (arith, ints, ap (λ (p : ℕ). at_point p point) (start_is arc step along), ap (λ (p : ℕ). at_point p point) (end_is arc step along))

-- ---- one step more

no_visit : Visit
no_visit = record { step = record { cell = 0; up = false; start = 0; end = 0 }; before = 0 }

brought_push : (arcs : List Arc) (steps : List Step) (step : Step) (point : ℕ) → brought arcs (steps ++ step ∷ []) point ≡ brought arcs steps point +ℤ turn_of step *ℤ brings_to (arc_at arcs step.cell) point
brought_push arcs steps step point =
    sum_of-append (λ (s : Step). turn_of s *ℤ brings_to (arc_at arcs s.cell) point) steps (step ∷ []) ∙ omega (arith, ints, sum_of-cons (λ (s : Step). turn_of s *ℤ brings_to (arc_at arcs s.cell) point) step [])

along_at : (arcs : List Arc) (visits : List Visit) (k : ℕ) → k < length visits → AreAlong arcs visits → visited visits k ≡ step_of (visited visits k).cell (arc_at arcs (visited visits k).cell) (visited visits k).up
along_at arcs visits k inside along = All-get_or (λ (v : Visit). v.step ≡ step_of v.step.cell (arc_at arcs v.step.cell) v.step.up) visits k (record { step = record { cell = 0; up = false; start = 0; end = 0 }; before = 0 }) inside along

-- steps from the visit at a place on to the one at which they begin
pub record IsLedBack (visits : List Visit) (place at : ℕ) (steps : List Step) : Type 0 where
  pub inside : at < length visits
  pub each : All (IsVisited visits) steps
  pub apart : AllPairs Apart steps
  pub before : All (λ (s : Step). (j : ℕ) → j ≤ at → s.cell ≢ (visited visits j).cell) steps
  pub carries : (arcs : List Arc) → AreAlong arcs visits → (point : ℕ) → brought arcs steps point ≡ at_point (visited visits place).end point -ℤ at_point (visited visits at).end point

pub led_start : (visits : List Visit) (place : ℕ) (steps : List Step) → place < length visits → steps ≡ [] → IsLedBack visits place place steps
led_start visits place steps inside none =
    subst (λ (ss : List Step). IsLedBack visits place place ss) (sym none) (record {
      inside = inside;
      each = All-nil (IsVisited visits);
      apart = λ i j d less within. absurd (omega (arith, within));
      before = All-nil (λ (s : Step). (j : ℕ) → j ≤ place → s.cell ≢ (visited visits j).cell);
      carries = λ arcs along point. omega (arith, ints);
    })

-- with the step at the place the steps are apart, and each is one of the visits
pub record IsPushed (visits : List Visit) (place at : ℕ) (steps : List Step) : Type 0 where
  pub each : All (IsVisited visits) steps
  pub apart : AllPairs Apart steps
  pub carries : (arcs : List Arc) → AreAlong arcs visits → (point : ℕ) → brought arcs steps point ≡ at_point (visited visits place).end point -ℤ at_point (visited visits at).start point

pub pushed : (visits : List Visit) (place at : ℕ) (steps after : List Step) (step : Step) → IsLedBack visits place at steps → step ≡ visited visits at → after ≡ steps ++ step ∷ [] → IsPushed visits place at after
pushed visits place at steps after step led is so =
    subst (IsPushed visits place at) (sym so) (record {
      each = All-push (IsVisited visits) steps step led.each (at, led.inside, sym is);
      apart = all_pairs_push Apart steps step led.apart (λ k d inside. λ same. All-get_or (λ (s : Step). (j : ℕ) → j ≤ at → s.cell ≢ (visited visits j).cell) steps k d inside led.before at (omega arith) (same ∙ ap (λ (s : Step). s.cell) is));
      carries = λ arcs along point.
          let here = along_at arcs visits at led.inside along in
          let own : turn_of step *ℤ brings_to (arc_at arcs step.cell) point ≡ at_point (visited visits at).end point -ℤ at_point (visited visits at).start point =
          ap (λ (s : Step). turn_of s *ℤ brings_to (arc_at arcs s.cell) point) is ∙ step_brings (arc_at arcs (visited visits at).cell) (visited visits at) point here in
          brought_push arcs steps step point ∙ omega (arith, ints, led.carries arcs along point, own);
    })

cells_differ : (visits : List Visit) (i j : ℕ) → AreVisits visits → i < j → j < length visits → (visited visits i).cell ≢ (visited visits j).cell
cells_differ visits i j are less inside = are.apart i j (record { step = record { cell = 0; up = false; start = 0; end = 0 }; before = 0 }) less inside

-- and one goes on from the visit before
pub led_on : (visits : List Visit) (place at : ℕ) (steps after : List Step) (visit : Visit) → AreVisits visits → IsLedBack visits place at steps → 0 < at → visit ≡ visit_at visits at → after ≡ steps ++ visit.step ∷ [] → IsLedBack visits place visit.before after
led_on visits place at steps after visit are led some is so =
    let back = are.back at some led.inside in
    let less : visit.before < at = omega (arith, back.0, ap (λ (v : Visit). v.before) is) in
    let step_is : visit.step ≡ visited visits at = ap (λ (v : Visit). v.step) is in
    let more : IsPushed visits place at after = pushed visits place at steps after visit.step led step_is so in
    let start : (visited visits at).start ≡ (visited visits visit.before).end = back.1 ∙ ap (λ (v : Visit). (visited visits v.before).end) (sym is) in
    let P : Step → Type 0 = λ s. (j : ℕ) → j ≤ visit.before → s.cell ≢ (visited visits j).cell in
    let older : All P steps = All-weaker (λ (s : Step). (j : ℕ) → j ≤ at → s.cell ≢ (visited visits j).cell) P (λ (s : Step) apart j below. apart j (omega (arith, below, less))) steps led.before in
    let newest : P visit.step = λ j below same. cells_differ visits j at are (omega (arith, below, less)) led.inside (sym (sym (ap (λ (s : Step). s.cell) step_is) ∙ same)) in
    record {
      inside = omega (arith, less, led.inside);
      each = more.each;
      apart = more.apart;
      before = subst (λ (ss : List Step). All P ss) (sym so) (All-push P steps visit.step older newest);
      carries = λ arcs along point. more.carries arcs along point ∙ omega (arith, ints, ap (λ (p : ℕ). at_point p point) start);
    }

-- the last one pushed stands at the end
pub last_at : (steps after : List Step) (step : Step) → after ≡ steps ++ step ∷ [] → (k : ℕ) × (k < length after) × (step_at after k ≡ step)
last_at steps after step so =
    subst (λ (ss : List Step). (k : ℕ) × (k < length ss) × (step_at ss k ≡ step)) (sym so) (length steps, omega (arith, length-append steps (step ∷ [])), there steps)
  where
    there : (ss : List Step) → step_at (ss ++ step ∷ []) (length ss) ≡ step
    there [] = refl
    there (s ∷ ss) = there ss

-- ---- a circuit

pub circuit_is : (task : Task) (moves : List ℤ) (search : Search) (steps : List Step) (place : ℕ) → IsSearchOf task moves true task.asked search → place < length search.visits.items → (visited search.visits.items place).end ≡ task.asked.start
    → All (IsVisited search.visits.items) steps → AllPairs Apart steps → ((k : ℕ) × (k < length steps) × (step_at steps k ≡ visited search.visits.items 0)) → ((arcs : List Arc) → AreAlong arcs search.visits.items → Carries arcs steps (visited search.visits.items 0).start (visited search.visits.items place).end) → IsCircuit task moves steps
circuit_is task moves search steps place is inside at each apart first carries =
    let visits : List Visit = search.visits.items in
    let along : AreAlong task.arcs.now visits = All-weaker (λ (v : Visit). IsOpenStep task moves true v.step) (λ (v : Visit). v.step ≡ step_of v.step.cell (arc_at task.arcs.now v.step.cell) v.step.up) (λ (v : Visit) opened. opened.along) visits is.open_steps in
    record {
      open_steps = All-weaker (IsVisited visits) (IsOpenStep task moves true)
          (λ (s : Step) found. subst (IsOpenStep task moves true) found.2 (All-get_or (λ (v : Visit). IsOpenStep task moves true v.step) visits found.0 (record { step = record { cell = 0; up = false; start = 0; end = 0 }; before = 0 }) found.1 is.open_steps)) steps each;
      apart = apart;
      asked = (first.0, first.1, first.2 ∙ is.begins);
      round = λ point. carries task.arcs.now along point ∙ omega (arith, ints, ap (λ (p : ℕ). at_point p point) at, ap (λ (s : Step). at_point s.start point) is.begins);
    }

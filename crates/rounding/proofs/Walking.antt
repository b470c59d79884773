-- Walks from point to point, until one is met again.
use Rattle.std.proofs.Common.{◌≡◌, ◌≢◌, ◌⊎◌, inl, inr, ℕ, zero, suc, ◌+◌, ◌<◌, ◌≤◌, true, false, List, [], ◌∷◌, ◌++◌, length, All, map, drop, get_or, Some, ℤ, pos, arith, refl, sym, subst, ◌∙◌, eqb, ◌||◌}
use Rattle.std.specs.List.{AllPairs, IsDistinct, list_any}
use Rattle.std.proofs.lemmas.Bool.Decides.{Decides-eqb, nat_tests}
use Rattle.std.proofs.lemmas.List.Elements.{All-head, All-tail, All-cons, All-nil, All-push, All-pop, All-drop, All-weaker, All-get_or, All-map}
use Rattle.std.proofs.lemmas.List.Quantifiers.{all_pairs_push}
use Rattle.std.proofs.lemmas.Map.Keys.{IsDistinct-from_apart}
use Rattle.std.proofs.lemmas.Map.Steps.{length-le_from_distinct_below}
use Rattle.signed_network.specs.declared.arcs.Arc.{Arc}
use Rattle.rounding.specs.declared.steps.Step.{Step}
use Rattle.signed_network.specs.Arcs.{arc_at}
use Rattle.signed_network.specs.Networks.{Touches}
use Rattle.rounding.specs.Circuits.{IsMove, AreMoves, IsAlong, IsChainOfSteps, start_at, GoesRound}

abbrev pub Walked : List Arc → Step → Type 0
Walked arcs step = (step.cell < length arcs) × IsAlong (arc_at arcs step.cell) step

abbrev pub Apart : Step → Step → Type 0
Apart one other = one.cell ≢ other.cell

-- ---- chains

chained_push : (from to : ℕ) (steps : List Step) (step : Step) → IsChainOfSteps from steps to → step.start ≡ to → IsChainOfSteps from (steps ++ step ∷ []) step.end
chained_push from to [] step chained is = (is ∙ sym chained, refl)
chained_push from to (first ∷ steps) step chained is = (chained.0, chained_push first.end to steps step chained.1 is)

chained_drop : (from to : ℕ) (steps : List Step) (place : ℕ) → place < length steps → IsChainOfSteps from steps to → IsChainOfSteps (start_at steps place) (drop place steps) to
chained_drop from to [] place inside chained = absurd (omega arith)
chained_drop from to (step ∷ steps) zero inside chained = (refl, chained.1)
chained_drop from to (step ∷ steps) (suc place) inside chained = chained_drop step.end to steps place (omega arith) chained.1

first_unmet : (from to point : ℕ) (steps : List Step) → IsChainOfSteps from steps to → All (λ (s : Step). s.start ≢ point) steps → to ≢ point → from ≢ point
first_unmet from to point [] chained unmet last = λ same. last (sym chained ∙ same)
first_unmet from to point (step ∷ steps) chained unmet last = λ same. All-head (λ (s : Step). s.start ≢ point) step steps unmet (chained.0 ∙ same)

-- a point from which no step starts, and at which they don't end up, is one where none ends
ends_unmet : (from to point : ℕ) (steps : List Step) → IsChainOfSteps from steps to → All (λ (s : Step). s.start ≢ point) steps → to ≢ point → All (λ (s : Step). s.end ≢ point) steps
ends_unmet from to point [] chained unmet last = All-nil (λ (s : Step). s.end ≢ point)
ends_unmet from to point (step ∷ steps) chained unmet last =
    let rest : All (λ (s : Step). s.start ≢ point) steps = All-tail (λ (s : Step). s.start ≢ point) step steps unmet in
    All-cons (λ (s : Step). s.end ≢ point) step steps (first_unmet step.end to point steps chained.1 rest last) (ends_unmet step.end to point steps chained.1 rest last)

-- ---- steps over one arc

touched_by : (arc : Arc) (step : Step) (point : ℕ) → IsAlong arc step → Touches arc point → (step.start ≡ point) ⊎ (step.end ≡ point)
touched_by arc step point (inl (_, start, end)) (inl from) = inl (start ∙ from)
touched_by arc step point (inl (_, start, end)) (inr to) = inr (end ∙ to)
touched_by arc step point (inr (_, start, end)) (inl from) = inr (end ∙ from)
touched_by arc step point (inr (_, start, end)) (inr to) = inl (start ∙ to)

starts_on : (arc : Arc) (step : Step) → IsAlong arc step → Touches arc step.start
starts_on arc step (inl (_, start, end)) = inl (sym start)
starts_on arc step (inr (_, start, end)) = inr (sym start)

-- a step that misses the point where another starts goes over another cell
missed : (arcs : List Arc) (one next : Step) → Walked arcs one → Walked arcs next → one.start ≢ next.start → one.end ≢ next.start → one.cell ≢ next.cell
missed arcs one next (_, along) (_, next_along) start end same =
    elim (touched_by (arc_at arcs one.cell) one next.start along (subst (λ (c : ℕ). Touches (arc_at arcs c) next.start) (sym same) (starts_on (arc_at arcs next.cell) next next_along))) as (λ _. ⊥) [
      | inl at ↦ start at
      | inr at ↦ end at
    ]

-- ---- few steps

any_below : (n q : ℕ) (xs : List ℕ) → All (λ x. x < n) xs → list_any (eqb q) xs ≡ true → q < n
any_below n q [] below any = absurd (let clash : false ≡ true = any in cc)
any_below n q (x ∷ xs) below any =
    elim (eqb q x) as (λ b. eqb q x ≡ b → (b || list_any (eqb q) xs) ≡ true → q < n) [
      | true ↦ λ test _. (let same : q ≡ x = (Decides-eqb q x).0 test in omega (arith, same, All-head (λ x. x < n) x xs below))
      | false ↦ λ test rest. any_below n q xs (All-tail (λ x. x < n) x xs below) rest
    ] refl any

cell_at : (steps : List Step) (k d : ℕ) (one : Step) → k < length steps → get_or (map (λ (s : Step). s.cell) steps) k d ≡ (get_or steps k one).cell
cell_at [] k d one inside = absurd (omega arith)
cell_at (step ∷ steps) zero d one inside = refl
cell_at (step ∷ steps) (suc k) d one inside = cell_at steps k d one (omega arith)

cells_many : (steps : List Step) → length (map (λ (s : Step). s.cell) steps) ≡ length steps
cells_many [] = refl
cells_many (step ∷ steps) = omega (arith, cells_many steps)

pub steps_few : (n : ℕ) (steps : List Step) → AllPairs Apart steps → All (λ (s : Step). s.cell < n) steps → length steps ≤ n
steps_few n steps apart below =
    let one : Step = record { cell = 0; turn = pos 0; start = 0; end = 0 } in
    let cells : List ℕ = map (λ (s : Step). s.cell) steps in
    let many : length cells ≡ length steps = cells_many steps in
    let distinct : IsDistinct eqb cells =
    IsDistinct-from_apart eqb cells (λ i j d less inside.
    let there : j < length steps = omega (arith, many, inside) in
    let here : i < length steps = omega (arith, less, there) in
    let differ : get_or cells i d ≢ get_or cells j d = λ same. apart i j one less there (sym (cell_at steps i d one here) ∙ same ∙ cell_at steps j d one there) in
    grind (arith, nat_tests, differ)) in
    omega (arith, many, length-le_from_distinct_below cells n distinct (λ q. any_below n q cells (All-map (λ (x : ℕ). x < n) (λ (s : Step). s.cell) steps below)))

-- ---- the walk

-- steps to a point where the next starts, which wasn't met and whose cell isn't among them
pub record IsOnTheWay (arcs : List Arc) (base : ℤ) (numbers : List ℤ) (from : ℕ) (steps : List Step) (step : Step) : Type 0 where
  pub along : All (Walked arcs) steps
  pub chained : IsChainOfSteps from steps step.start
  pub moved : AreMoves base numbers steps
  pub next_along : Walked arcs step
  pub next_moved : IsMove base numbers step
  pub fresh : All (λ s. s.cell ≢ step.cell) steps
  pub unmet : All (λ s. s.start ≢ step.start) steps

-- the steps with the next one
record AreWalked (arcs : List Arc) (base : ℤ) (numbers : List ℤ) (from : ℕ) (steps : List Step) (to : ℕ) : Type 0 where
  along : All (Walked arcs) steps
  chained : IsChainOfSteps from steps to
  moved : AreMoves base numbers steps

pushed : (arcs : List Arc) (base : ℤ) (numbers : List ℤ) (from : ℕ) (steps : List Step) (step : Step) → IsOnTheWay arcs base numbers from steps step → AreWalked arcs base numbers from (steps ++ step ∷ []) step.end
pushed arcs base numbers from steps step way = record {
  along = All-push (Walked arcs) steps step way.along way.next_along;
  chained = chained_push from step.start steps step way.chained refl;
  moved = record {
    each = All-push (IsMove base numbers) steps step way.moved.each way.next_moved;
    once = all_pairs_push Apart steps step way.moved.once (λ k d inside. All-get_or (λ (s : Step). s.cell ≢ step.cell) steps k d inside way.fresh);
  };
}

pub starts : (arcs : List Arc) (base : ℤ) (numbers : List ℤ) (from : ℕ) (steps : List Step) (step : Step) → steps ≡ [] → step.start ≡ from → Walked arcs step → IsMove base numbers step → IsOnTheWay arcs base numbers from steps step
starts arcs base numbers from steps step none is along moved =
    subst (λ (ss : List Step). IsOnTheWay arcs base numbers from ss step) (sym none) (record {
      along = All-nil (Walked arcs);
      chained = sym is;
      moved = record { each = All-nil (IsMove base numbers); once = λ i j d less inside. absurd (omega (arith, inside)) };
      next_along = along;
      next_moved = moved;
      fresh = All-nil (λ (s : Step). s.cell ≢ step.cell);
      unmet = All-nil (λ (s : Step). s.start ≢ step.start);
    })

pairs_drop : (n : ℕ) (steps : List Step) → AllPairs Apart steps → AllPairs Apart (drop n steps)
pairs_drop zero steps apart = apart
pairs_drop (suc n) [] apart = apart
pairs_drop (suc n) (step ∷ steps) apart = pairs_drop n steps (λ i j d less inside. apart (suc i) (suc j) d (omega arith) (omega arith))

-- a step that ends where an earlier one starts goes round
pub goes_round : (arcs : List Arc) (base : ℤ) (numbers : List ℤ) (from : ℕ) (steps after : List Step) (step : Step) (place : ℕ) → IsOnTheWay arcs base numbers from steps step → after ≡ steps ++ step ∷ [] → place < length after → start_at after place ≡ step.end → GoesRound arcs base numbers after place
goes_round arcs base numbers from steps after step place way is inside at =
    let walked : AreWalked arcs base numbers from after step.end = subst (λ (ss : List Step). AreWalked arcs base numbers from ss step.end) (sym is) (pushed arcs base numbers from steps step way) in
    record {
      place_inside = inside;
      walked = record { along = All-drop (Walked arcs) place after walked.along; chained = subst (λ (p : ℕ). IsChainOfSteps (start_at after place) (drop place after) p) (sym at) (chained_drop from step.end after place inside walked.chained) };
      moved = record { each = All-drop (IsMove base numbers) place after walked.moved.each; once = pairs_drop place after walked.moved.once };
    }

-- where no step starts at the end of the last one, the last one doesn't either
pub ends_apart : (steps after : List Step) (step : Step) → after ≡ steps ++ step ∷ [] → All (λ (s : Step). s.start ≢ step.end) after → All (λ (s : Step). s.start ≢ step.end) steps × (step.start ≢ step.end)
ends_apart steps after step is unmet =
    let both = All-pop (λ (s : Step). s.start ≢ step.end) after steps (Some step) is unmet in
    (both.0, both.1)

-- else the walk goes on over another cell
pub goes_on : (arcs : List Arc) (base : ℤ) (numbers : List ℤ) (from : ℕ) (steps after : List Step) (step next : Step) → IsOnTheWay arcs base numbers from steps step → after ≡ steps ++ step ∷ [] → All (λ (s : Step). s.start ≢ step.end) after
    → next.start ≡ step.end → next.cell ≢ step.cell → Walked arcs next → IsMove base numbers next → IsOnTheWay arcs base numbers from after next
goes_on arcs base numbers from steps after step next way is unmet at other along moved =
    let walked : AreWalked arcs base numbers from after step.end = subst (λ (ss : List Step). AreWalked arcs base numbers from ss step.end) (sym is) (pushed arcs base numbers from steps step way) in
    let both = ends_apart steps after step is unmet in
    let ends : All (λ (s : Step). s.end ≢ step.end) steps = ends_unmet from step.start step.end steps way.chained both.0 both.1 in
    record {
      along = walked.along;
      chained = subst (λ (p : ℕ). IsChainOfSteps from after p) (sym at) walked.chained;
      moved = walked.moved;
      next_along = along;
      next_moved = moved;
      fresh = subst (λ (ss : List Step). All (λ (s : Step). s.cell ≢ next.cell) ss) (sym is) (All-push (λ (s : Step). s.cell ≢ next.cell) steps step (each_missed steps way.along both.0 ends) (λ same. other (sym same)));
      unmet = All-weaker (λ (s : Step). s.start ≢ step.end) (λ (s : Step). s.start ≢ next.start) (λ s apart same. apart (same ∙ at)) after unmet;
    }
  where
    each_missed : (ss : List Step) → All (Walked arcs) ss → All (λ (s : Step). s.start ≢ step.end) ss → All (λ (s : Step). s.end ≢ step.end) ss → All (λ (s : Step). s.cell ≢ next.cell) ss
    each_missed [] walked starts ends = All-nil (λ (s : Step). s.cell ≢ next.cell)
    each_missed (s ∷ ss) walked starts ends =
        All-cons (λ (s : Step). s.cell ≢ next.cell) s ss
        (missed arcs s next (All-head (Walked arcs) s ss walked) along (λ same. All-head (λ (s : Step). s.start ≢ step.end) s ss starts (same ∙ at)) (λ same. All-head (λ (s : Step). s.end ≢ step.end) s ss ends (same ∙ at)))
        (each_missed ss (All-tail (Walked arcs) s ss walked) (All-tail (λ (s : Step). s.start ≢ step.end) s ss starts) (All-tail (λ (s : Step). s.end ≢ step.end) s ss ends))

-- a walk that goes on is shorter than there are cells
pub walk_short : (arcs : List Arc) (base : ℤ) (numbers : List ℤ) (from : ℕ) (steps : List Step) (step : Step) → IsOnTheWay arcs base numbers from steps step → length steps < length arcs
walk_short arcs base numbers from steps step way =
    let walked : AreWalked arcs base numbers from (steps ++ step ∷ []) step.end = pushed arcs base numbers from steps step way in
    let few = steps_few (length arcs) (steps ++ step ∷ []) walked.moved.once (All-weaker (Walked arcs) (λ (s : Step). s.cell < length arcs) (λ s one. one.0) (steps ++ step ∷ []) walked.along) in
    omega (arith, few, longer steps)
  where
    longer : (ss : List Step) → length (ss ++ step ∷ []) ≡ length ss + 1
    longer [] = refl
    longer (s ∷ ss) = omega (arith, longer ss)

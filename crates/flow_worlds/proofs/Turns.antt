-- The turns of steps that move each cell once.
use Rattle.std.proofs.Common.{◌≡◌, ◌≢◌, ◌⊎◌, inl, inr, ℕ, zero, suc, ◌<◌, ◌==◌, true, false, List, [], ◌∷◌, ◌++◌, length, length-take, All, get_or, take, pos, ◌+ℤ◌, arith, refl, ap, sym, ◌∙◌, if◌then◌else◌}
use Rattle.std.specs.List.{AllPairs}
use Rattle.std.proofs.lemmas.Int.{ints}
use Rattle.std.proofs.lemmas.Bool.Decides.{Decides-eqb, nat_tests}
use Rattle.std.proofs.lemmas.List.{get_or-take}
use Rattle.std.proofs.lemmas.List.Elements.{All-head, All-tail, All-cons, All-nil, All-get_or}
use Rattle.sdc_base.specs.Forms.{Term, coefficient}
use Rattle.sdc_base.proofs.TotalLemmas.{sum_of-cons}
use Rattle.flow_worlds.specs.declared.steps.Step.{Step}
use Rattle.flow_worlds.specs.Steps.{turn_of, turns_of}
use Rattle.flow_worlds.specs.Circuits.{step_at}

abbrev pub Apart : Step → Step → Type 0
Apart one other = one.cell ≢ other.cell

own_turn : (step : Step) (c : ℕ) → step.cell ≡ c → (if step.cell == c then turn_of step else pos 0) ≡ turn_of step
own_turn step c same = let test : (step.cell == c) ≡ true = grind (arith, nat_tests, same) in rw test refl

no_turn : (step : Step) (c : ℕ) → step.cell ≢ c → (if step.cell == c then turn_of step else pos 0) ≡ pos 0
no_turn step c apart = let test : (step.cell == c) ≡ false = grind (arith, nat_tests, apart) in rw test refl

turns_cons : (step : Step) (steps : List Step) (c : ℕ) → coefficient (turns_of (step ∷ steps)) c ≡ (if step.cell == c then turn_of step else pos 0) +ℤ coefficient (turns_of steps) c
turns_cons step steps c = sum_of-cons (λ (t : Term). if t.0 == c then t.1 else pos 0) (step.cell, turn_of step) (turns_of steps)

pub turns_push : (steps : List Step) (step : Step) (c : ℕ) → coefficient (turns_of (steps ++ step ∷ [])) c ≡ coefficient (turns_of steps) c +ℤ (if step.cell == c then turn_of step else pos 0)
turns_push [] step c = turns_cons step [] c ∙ omega (arith, ints)
turns_push (first ∷ steps) step c = turns_cons first (steps ++ step ∷ []) c ∙ omega (arith, ints, turns_push steps step c, turns_cons first steps c)

pub unmoved : (steps : List Step) (c : ℕ) → All (λ (s : Step). s.cell ≢ c) steps → coefficient (turns_of steps) c ≡ pos 0
unmoved [] c apart = refl
unmoved (step ∷ steps) c apart =
    turns_cons step steps c
    ∙ omega (arith, ints, no_turn step c (All-head (λ (s : Step). s.cell ≢ c) step steps apart), unmoved steps c (All-tail (λ (s : Step). s.cell ≢ c) step steps apart))

-- the rest of steps over cells that are apart
rest_apart : (step : Step) (steps : List Step) → AllPairs Apart (step ∷ steps) → AllPairs Apart steps
rest_apart step steps apart = λ i j d less inside. apart (suc i) (suc j) d (omega arith) (omega arith)

others_apart : (step : Step) (steps : List Step) → AllPairs Apart (step ∷ steps) → All (λ (s : Step). s.cell ≢ step.cell) steps
others_apart step steps apart = λ i d inside. λ same. apart 0 (suc i) d (omega arith) (omega arith) (sym same)

no_step : Step
no_step = record { cell = 0; up = false; start = 0; end = 0 }

pub turn_at : (steps : List Step) (place : ℕ) → place < length steps → AllPairs Apart steps → coefficient (turns_of steps) (step_at steps place).cell ≡ turn_of (step_at steps place)
turn_at [] place inside apart = absurd (omega arith)
turn_at (step ∷ steps) zero inside apart = turns_cons step steps step.cell ∙ omega (arith, ints, own_turn step step.cell refl, unmoved steps step.cell (others_apart step steps apart))
turn_at (step ∷ steps) (suc place) inside apart =
    let there : place < length steps = omega arith in
    let one : Step = record { cell = 0; up = false; start = 0; end = 0 } in
    let differ : step.cell ≢ (step_at steps place).cell = λ same. All-get_or (λ (s : Step). s.cell ≢ step.cell) steps place one there (others_apart step steps apart) (sym same) in
    turns_cons step steps (step_at steps place).cell ∙ omega (arith, ints, no_turn step (step_at steps place).cell differ, turn_at steps place there (rest_apart step steps apart))

-- some step goes over the cell, or none does
met_or_not : (steps : List Step) (c : ℕ) → ((j : ℕ) × ((j < length steps) × ((step_at steps j).cell ≡ c))) ⊎ All (λ (s : Step). s.cell ≢ c) steps
met_or_not [] c = inr (All-nil (λ (s : Step). s.cell ≢ c))
met_or_not (step ∷ steps) c =
    elim (step.cell == c) as (λ b. (step.cell == c) ≡ b → ((j : ℕ) × ((j < length (step ∷ steps)) × ((step_at (step ∷ steps) j).cell ≡ c))) ⊎ All (λ (s : Step). s.cell ≢ c) (step ∷ steps)) [
      | true ↦ λ test. inl (0, (omega arith, (Decides-eqb step.cell c).0 test))
      | false ↦ λ test.
          let apart : step.cell ≢ c = grind (arith, nat_tests, test) in
          elim (met_or_not steps c) as (λ _. ((j : ℕ) × ((j < length (step ∷ steps)) × ((step_at (step ∷ steps) j).cell ≡ c))) ⊎ All (λ (s : Step). s.cell ≢ c) (step ∷ steps)) [
            | inl (j, (inside, is)) ↦ inl (suc j, (omega (arith, inside), is))
            | inr none ↦ inr (All-cons (λ (s : Step). s.cell ≢ c) step steps apart none)
          ]
    ] refl

-- a cell is moved by one of the steps, by its turn
pub record IsMovedAt (steps : List Step) (c j : ℕ) : Type 0 where
  pub inside : j < length steps
  pub is : (step_at steps j).cell ≡ c
  pub turn : coefficient (turns_of steps) c ≡ turn_of (step_at steps j)

-- or not at all
pub moved_or_not : (steps : List Step) (c : ℕ) → AllPairs Apart steps → ((j : ℕ) × IsMovedAt steps c j) ⊎ (coefficient (turns_of steps) c ≡ pos 0)
moved_or_not steps c apart =
    elim (met_or_not steps c) as (λ _. ((j : ℕ) × IsMovedAt steps c j) ⊎ (coefficient (turns_of steps) c ≡ pos 0)) [
      | inl (j, (inside, is)) ↦ inl (j, record { inside = inside; is = is; turn = ap (λ (i : ℕ). coefficient (turns_of steps) i) (sym is) ∙ turn_at steps j inside apart })
      | inr none ↦ inr (unmoved steps c none)
    ]

-- the cell of a step hasn't been moved by earlier ones
pub earlier_unmoved : (steps : List Step) (k : ℕ) → k < length steps → AllPairs Apart steps → coefficient (turns_of (take k steps)) (step_at steps k).cell ≡ pos 0
earlier_unmoved steps k inside apart =
    unmoved (take k steps) (step_at steps k).cell
    (λ i d within. λ same.
    let short : i < k = omega (arith, within, length-take k steps) in
    let one : get_or (take k steps) i d ≡ get_or steps i d = get_or-take k steps i d short in
    let other : get_or steps k d ≡ step_at steps k = any_default steps k d inside in
    apart i k d short inside (ap (λ (s : Step). s.cell) (sym one) ∙ same ∙ ap (λ (s : Step). s.cell) (sym other)))
  where
    any_default : (xs : List Step) (i : ℕ) (d : Step) → i < length xs → get_or xs i d ≡ step_at xs i
    any_default [] i d there = absurd (omega arith)
    any_default (x ∷ xs) zero d there = refl
    any_default (x ∷ xs) (suc i) d there = any_default xs i d (omega arith)

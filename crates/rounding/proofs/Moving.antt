-- The turns of steps that move each cell once, and what going so far does.
use Rattle.std.proofs.Common.{◌≡◌, ◌≢◌, ◌⊎◌, inl, inr, ℕ, zero, suc, ◌+◌, ◌*◌, ◌<◌, ◌≤◌, ◌^◌, ◌==◌, Bool, true, false, List, [], ◌∷◌, ◌++◌, length, All, take, ℤ, pos, negsuc, neg_ℤ, ◌+ℤ◌, ◌*ℤ◌, ◌≤ℤ◌, arith, refl, ap, sym, subst, ◌∙◌, if◌then◌else◌, FitsSigned}
use Rattle.std.proofs.Math.ListN.{set}
use Rattle.std.proofs.Math.IntN.{*ℤ_comm}
use Rattle.std.specs.List.{AllPairs}
use Rattle.std.specs.Int.{w128}
use Rattle.std.proofs.lemmas.Int.{ints}
use Rattle.std.proofs.lemmas.Bool.{cases_lt}
use Rattle.std.proofs.lemmas.Bool.Decides.{Decides-eqb, nat_tests}
use Rattle.std.proofs.lemmas.List.{take_all, take_more}
use Rattle.std.proofs.lemmas.List.Elements.{All-head, All-tail, All-cons, All-nil, All-get_or, All-more, All-weaker}
use Rattle.sdc_base.specs.Forms.{Term, coefficient}
use Rattle.sdc_base.specs.Systems.{number_at}
use Rattle.sdc_base.proofs.TotalLemmas.{sum_of-cons}
use Rattle.sdc_base.proofs.WholeNumbers.{distrib}
use Rattle.signed_network.specs.declared.arcs.Arc.{Arc}
use Rattle.rounding.specs.declared.steps.Step.{Step}
use Rattle.rounding.specs.Neighbours.{is_multiple}
use Rattle.rounding.specs.Choices.{unrounded_cells}
use Rattle.sdc_base.specs.Truths.{IsTruth}
use Rattle.signed_network.specs.Balances.{IsBalanced, numbers_after_turns}
use Rattle.rounding.specs.Rings.{IsBeside, AreBeside, KeepMultiples, room}
use Rattle.rounding.specs.Circuits.{IsMove, AreMoves, IsWalk, step_at, room_of, turns_of}
use Rattle.rounding.proofs.Adjacency.{left_within}
use Rattle.rounding.proofs.FormLemmas.{Changed}
use Rattle.rounding.proofs.SumSteps.{changed_by_set}
use Rattle.rounding.proofs.Walking.{Apart}
use Rattle.rounding.proofs.Rings.{from_none, up_room, down_room, not_none, moved_beside, multiple_stays_put, one_becomes, IsTurn}
use Rattle.rounding.proofs.Fewer.{fewer_from}
use Rattle.signed_network.proofs.Balances.{gone_balanced}
use Rattle.rounding.proofs.Balances.{circuit_balanced}

-- ---- turns

own_turn : (step : Step) (c : ℕ) → step.cell ≡ c → (if step.cell == c then step.turn else pos 0) ≡ step.turn
own_turn step c same = let test : (step.cell == c) ≡ true = grind (arith, nat_tests, same) in rw test refl

no_turn : (step : Step) (c : ℕ) → step.cell ≢ c → (if step.cell == c then step.turn else pos 0) ≡ pos 0
no_turn step c apart = let test : (step.cell == c) ≡ false = grind (arith, nat_tests, apart) in rw test refl

turns_cons : (step : Step) (steps : List Step) (c : ℕ) → coefficient (turns_of (step ∷ steps)) c ≡ (if step.cell == c then step.turn else pos 0) +ℤ coefficient (turns_of steps) c
turns_cons step steps c = sum_of-cons (λ (t : Term). if t.0 == c then t.1 else pos 0) (step.cell, step.turn) (turns_of steps)

turns_push : (steps : List Step) (step : Step) (c : ℕ) → coefficient (turns_of (steps ++ step ∷ [])) c ≡ coefficient (turns_of steps) c +ℤ (if step.cell == c then step.turn else pos 0)
turns_push [] step c = turns_cons step [] c ∙ omega (arith, ints)
turns_push (first ∷ steps) step c = turns_cons first (steps ++ step ∷ []) c ∙ omega (arith, ints, turns_push steps step c, turns_cons first steps c)

unmoved : (steps : List Step) (c : ℕ) → All (λ (s : Step). s.cell ≢ c) steps → coefficient (turns_of steps) c ≡ pos 0
unmoved [] c apart = refl
unmoved (step ∷ steps) c apart =
    turns_cons step steps c
    ∙ omega (arith, ints, no_turn step c (All-head (λ (s : Step). s.cell ≢ c) step steps apart), unmoved steps c (All-tail (λ (s : Step). s.cell ≢ c) step steps apart))

-- the rest of steps over cells that are apart
rest_apart : (step : Step) (steps : List Step) → AllPairs Apart (step ∷ steps) → AllPairs Apart steps
rest_apart step steps apart = λ i j d less inside. apart (suc i) (suc j) d (omega arith) (omega arith)

others_apart : (step : Step) (steps : List Step) → AllPairs Apart (step ∷ steps) → All (λ (s : Step). s.cell ≢ step.cell) steps
others_apart step steps apart = λ i d inside. λ same. apart 0 (suc i) d (omega arith) (omega arith) (sym same)

turn_at : (steps : List Step) (place : ℕ) → place < length steps → AllPairs Apart steps → coefficient (turns_of steps) (step_at steps place).cell ≡ (step_at steps place).turn
turn_at [] place inside apart = absurd (omega arith)
turn_at (step ∷ steps) zero inside apart = turns_cons step steps step.cell ∙ omega (arith, ints, own_turn step step.cell refl, unmoved steps step.cell (others_apart step steps apart))
turn_at (step ∷ steps) (suc place) inside apart =
    let there : place < length steps = omega arith in
    let one : Step = record { cell = 0; turn = pos 0; start = 0; end = 0 } in
    let differ : step.cell ≢ (step_at steps place).cell = λ same. All-get_or (λ (s : Step). s.cell ≢ step.cell) steps place one there (others_apart step steps apart) (sym same) in
    turns_cons step steps (step_at steps place).cell ∙ omega (arith, ints, no_turn step (step_at steps place).cell differ, turn_at steps place there (rest_apart step steps apart))

-- some step goes over the cell, or none does
met_or_not : (steps : List Step) (c : ℕ) → ((j : ℕ) × ((j < length steps) × ((step_at steps j).cell ≡ c))) ⊎ All (λ (s : Step). s.cell ≢ c) steps
met_or_not [] c = inr (All-nil (λ (s : Step). s.cell ≢ c))
met_or_not (step ∷ steps) c =
    elim (step.cell == c) as (λ b. (step.cell == c) ≡ b → ((j : ℕ) × ((j < length (step ∷ steps)) × ((step_at (step ∷ steps) j).cell ≡ c))) ⊎ All (λ (s : Step). s.cell ≢ c) (step ∷ steps)) [
      | true ↦ λ test. inl (0, (omega arith, (Decides-eqb step.cell c).0 test))
      | false ↦ λ test.
          let apart : step.cell ≢ c = grind (arith, nat_tests, test) in
          elim (met_or_not steps c) as (λ _. ((j : ℕ) × ((j < length (step ∷ steps)) × ((step_at (step ∷ steps) j).cell ≡ c))) ⊎ All (λ (s : Step). s.cell ≢ c) (step ∷ steps)) [
            | inl (j, (inside, is)) ↦ inl (suc j, (omega (arith, inside), is))
            | inr none ↦ inr (All-cons (λ (s : Step). s.cell ≢ c) step steps apart none)
          ]
    ] refl

-- a cell is moved by one of the steps, by its turn, or not at all
moved_or_not : (base : ℤ) (numbers : List ℤ) (steps : List Step) (c : ℕ) → AreMoves base numbers steps → ((j : ℕ) × ((j < length steps) × ((step_at steps j).cell ≡ c) × (coefficient (turns_of steps) c ≡ (step_at steps j).turn))) ⊎ (coefficient (turns_of steps) c ≡ pos 0)
moved_or_not base numbers steps c moves =
    elim (met_or_not steps c) as (λ _. ((j : ℕ) × ((j < length steps) × ((step_at steps j).cell ≡ c) × (coefficient (turns_of steps) c ≡ (step_at steps j).turn))) ⊎ (coefficient (turns_of steps) c ≡ pos 0)) [
      | inl (j, (inside, is)) ↦ inl (j, (inside, is, ap (λ (i : ℕ). coefficient (turns_of steps) i) (sym is) ∙ turn_at steps j inside moves.once))
      | inr none ↦ inr (unmoved steps c none)
    ]

at_place : (P : Step → Type 0) (steps : List Step) (j : ℕ) → j < length steps → All P steps → P (step_at steps j)
at_place P steps j inside all = All-get_or P steps j (record { cell = 0; turn = pos 0; start = 0; end = 0 }) inside all

turned_from : (base : ℤ) (numbers : List ℤ) (steps : List Step) (c : ℕ) → AreMoves base numbers steps → IsTurn base (number_at numbers c) (coefficient (turns_of steps) c)
turned_from base numbers steps c moves =
    elim (moved_or_not base numbers steps c moves) as (λ _. IsTurn base (number_at numbers c) (coefficient (turns_of steps) c)) [
      | inl (j, (inside, is, turn)) ↦
          let one = at_place (IsMove base numbers) steps j inside moves.each in
          inr (ap (λ (i : ℕ). is_multiple base (number_at numbers i)) (sym is) ∙ one.partly, subst (λ (z : ℤ). (z ≡ pos 1) ⊎ (z ≡ negsuc 0)) (sym turn) one.turned)
      | inr none ↦ inl none
    ]

room_left : (base : ℤ) (numbers : List ℤ) (steps : List Step) (c : ℕ) (by : ℤ) → AreMoves base numbers steps → All (λ (s : Step). by ≤ℤ room_of base numbers s) steps → (coefficient (turns_of steps) c ≡ pos 0 → ⊥) → by ≤ℤ room base (number_at numbers c) (coefficient (turns_of steps) c)
room_left base numbers steps c by moves least moves_it =
    elim (moved_or_not base numbers steps c moves) as (λ _. by ≤ℤ room base (number_at numbers c) (coefficient (turns_of steps) c)) [
      | inl (j, (inside, is, turn)) ↦
          subst (λ (i : ℕ). by ≤ℤ room base (number_at numbers i) (coefficient (turns_of steps) c)) is
          (subst (λ (z : ℤ). by ≤ℤ room base (number_at numbers (step_at steps j).cell) z) (sym turn) (at_place (λ (s : Step). by ≤ℤ room_of base numbers s) steps j inside least))
      | inr none ↦ absurd (moves_it none)
    ]

-- ---- numbers

pub truth_from : (truths : List ℤ) (base : ℤ) (numbers : List ℤ) (c : ℕ) → AreBeside truths base numbers → c < length truths → IsTruth (number_at truths c)
truth_from truths base numbers c are below = All-get_or IsTruth truths c (pos 0) below are.within

pub number_from : (truths : List ℤ) (base : ℤ) (numbers : List ℤ) (c : ℕ) → AreBeside truths base numbers → c < length truths → pos 0 ≤ℤ number_at numbers c
number_from truths base numbers c are below = from_none base (number_at truths c) (number_at numbers c) are.from_one (truth_from truths base numbers c are below).from_zero (are.beside c below)

past_end : (xs : List ℤ) (c : ℕ) → length xs ≤ c → number_at xs c ≡ pos 0
past_end [] zero past = refl
past_end [] (suc c) past = refl
past_end (x ∷ xs) zero past = absurd (omega arith)
past_end (x ∷ xs) (suc c) past = past_end xs c (omega arith)

-- numbers beside truths are from 0 to 2^100
pub in_range : (truths : List ℤ) (base : ℤ) (numbers : List ℤ) → AreBeside truths base numbers → (c : ℕ) → (pos 0 ≤ℤ number_at numbers c) × (number_at numbers c ≤ℤ pos (2 ^ 100))
in_range truths base numbers are c =
    elim (cases_lt c (length truths)) as (λ _. (pos 0 ≤ℤ number_at numbers c) × (number_at numbers c ≤ℤ pos (2 ^ 100))) [
      | inl below ↦
          let truth = truth_from truths base numbers c are below in
          let within = left_within base (number_at truths c) are.from_one truth.from_zero in
          let beside = are.beside c below in
          let high = beside.high in
          let most = are.to_most in
          let to = truth.at_most in
          (number_from truths base numbers c are below, omega (arith, ints, high, within.0, most, to))
      | inr past ↦ let none = past_end numbers c (omega (arith, are.each, past)) in (omega (arith, ints, none), omega (arith, ints, none))
    ]

pub room_within : (truths : List ℤ) (base : ℤ) (numbers : List ℤ) (c : ℕ) (turn : ℤ) → AreBeside truths base numbers → c < length numbers → (turn ≡ pos 1) ⊎ (turn ≡ negsuc 0) → (pos 0 ≤ℤ room base (number_at numbers c) turn) × (room base (number_at numbers c) turn ≤ℤ pos (10 ^ 22))
room_within truths base numbers c turn are below way =
    let within = left_within base (number_at numbers c) are.from_one (number_from truths base numbers c are (omega (arith, are.each, below))) in
    let most = are.to_most in
    elim way as (λ _. (pos 0 ≤ℤ room base (number_at numbers c) turn) × (room base (number_at numbers c) turn ≤ℤ pos (10 ^ 22))) [
      | inl up ↦ let is = up_room base (number_at numbers c) turn up in (omega (arith, ints, is, within.1), omega (arith, ints, is, within.0, most))
      | inr down_so ↦ let is = down_room base (number_at numbers c) turn down_so in (omega (arith, ints, is, within.0), omega (arith, ints, is, within.1, most))
    ]

-- ---- going

-- what going round by the least room does
pub record HasGone (truths : List ℤ) (base : ℤ) (before after : List ℤ) (steps : List Step) : Type 0 where
  pub beside : AreBeside truths base after
  pub multiples : KeepMultiples base before after
  pub fewer : length (unrounded_cells base 0 after) < length (unrounded_cells base 0 before)

pub goes : (truths : List ℤ) (base by : ℤ) (before after : List ℤ) (steps : List Step) (place : ℕ) → AreBeside truths base before → AreMoves base before steps → place < length steps → All (λ (s : Step). room_of base before (step_at steps place) ≤ℤ room_of base before s) steps
    → by ≡ room_of base before (step_at steps place) → length after ≡ length before → ((c : ℕ) → number_at after c ≡ numbers_after_turns by (number_at before) (coefficient (turns_of steps)) c) → HasGone truths base before after steps
goes truths base by before after steps place are moves inside least is each gone_is =
    let one : Step = step_at steps place in
    let own = at_place (IsMove base before) steps place inside moves.each in
    let within = room_within truths base before one.cell one.turn are own.inside own.turned in
    let near : All (λ (s : Step). by ≤ℤ room_of base before s) steps = subst (λ (z : ℤ). All (λ (s : Step). z ≤ℤ room_of base before s) steps) (sym is) least in
    let from : pos 0 ≤ℤ by = omega (arith, ints, is, within.0) in
    let keeps : KeepMultiples base before after = λ c below whole. ap (λ (z : ℤ). is_multiple base z) (gone_is c ∙ multiple_stays_put base (number_at before c) (coefficient (turns_of steps) c) by (turned_from base before steps c moves) whole) ∙ whole in
    let turn : coefficient (turns_of steps) one.cell ≡ one.turn = turn_at steps place inside moves.once in
    let becomes : is_multiple base (number_at after one.cell) ≡ true =
    ap (λ (z : ℤ). is_multiple base z) (gone_is one.cell ∙ ap (λ (z : ℤ). number_at before one.cell +ℤ by *ℤ z) turn ∙ ap (λ (z : ℤ). number_at before one.cell +ℤ z *ℤ one.turn) is)
    ∙ one_becomes base (number_at before one.cell) one.turn are.from_one (number_from truths base before one.cell are (omega (arith, are.each, own.inside))) (inr (own.partly, own.turned)) (not_none one.turn own.turned) in
    record {
      beside = record {
        from_one = are.from_one;
        to_most = are.to_most;
        within = are.within;
        each = each ∙ are.each;
        beside = λ c below. subst (IsBeside base (number_at truths c)) (sym (gone_is c)) (moved_beside base (number_at truths c) (number_at before c) (coefficient (turns_of steps) c) by are.from_one (truth_from truths base before c are below).from_zero (are.beside c below) (turned_from base before steps c moves) from (room_left base before steps c by moves near));
      };
      multiples = keeps;
      fewer = fewer_from base 0 before after one.cell each keeps own.inside own.partly becomes;
    }

pub goes_balanced : (arcs : List Arc) (points point : ℕ) (by : ℤ) (before after : List ℤ) (steps : List Step) → IsWalk arcs point steps point → IsBalanced arcs points (number_at before) → ((c : ℕ) → number_at after c ≡ numbers_after_turns by (number_at before) (coefficient (turns_of steps)) c) → IsBalanced arcs points (number_at after)
goes_balanced arcs points point by before after steps walk balanced is =
    gone_balanced arcs points by (number_at before) (coefficient (turns_of steps)) (number_at after) balanced (circuit_balanced arcs points point steps walk) is

-- ---- the loop over the steps

pub none_gone : (by : ℤ) (numbers : List ℤ) (c : ℕ) → number_at numbers c ≡ numbers_after_turns by (number_at numbers) (coefficient (turns_of [])) c
none_gone by numbers c = let none : by *ℤ pos 0 ≡ pos 0 = *ℤ_comm by (pos 0) ∙ omega (arith, ints) in omega (arith, ints, none)

one_further : (by number turned turn : ℤ) (b : Bool) → (number +ℤ by *ℤ turned) +ℤ (if b then by *ℤ turn else pos 0) ≡ number +ℤ by *ℤ (turned +ℤ (if b then turn else pos 0))
one_further by number turned turn true = omega (arith, ints, distrib by turned turn)
one_further by number turned turn false = let none : by *ℤ pos 0 ≡ pos 0 = *ℤ_comm by (pos 0) ∙ omega (arith, ints) in omega (arith, ints, distrib by turned (pos 0), none)

pub gone_more : (by : ℤ) (before now : List ℤ) (steps : List Step) (k : ℕ) (to : ℤ) → k < length steps → (step_at steps k).cell < length now → to ≡ number_at now (step_at steps k).cell +ℤ by *ℤ (step_at steps k).turn
    → ((c : ℕ) → number_at now c ≡ numbers_after_turns by (number_at before) (coefficient (turns_of (take k steps))) c) → (c : ℕ) → number_at (set now (step_at steps k).cell to) c ≡ numbers_after_turns by (number_at before) (coefficient (turns_of (take (k + 1) steps))) c
gone_more by before now steps k to inside below is gone_is c =
    let step : Step = step_at steps k in
    let changed : Changed step.cell (by *ℤ step.turn) (number_at now) (number_at (set now step.cell to)) = changed_by_set now step.cell to (by *ℤ step.turn) below (omega (arith, ints, is)) in
    changed c
    ∙ ap (λ (z : ℤ). z +ℤ (if step.cell == c then by *ℤ step.turn else pos 0)) (gone_is c)
    ∙ one_further by (number_at before c) (coefficient (turns_of (take k steps)) c) step.turn (step.cell == c)
    ∙ ap (λ (z : ℤ). number_at before c +ℤ by *ℤ z) (sym (turns_push (take k steps) step c) ∙ ap (λ (ss : List Step). coefficient (turns_of ss) c) (sym (take_more steps k (record { cell = 0; turn = pos 0; start = 0; end = 0 }) inside)))

pub gone_whole : (by : ℤ) (before now : List ℤ) (steps : List Step) (k : ℕ) → length steps ≤ k → ((c : ℕ) → number_at now c ≡ numbers_after_turns by (number_at before) (coefficient (turns_of (take k steps))) c) → (c : ℕ) → number_at now c ≡ numbers_after_turns by (number_at before) (coefficient (turns_of steps)) c
gone_whole by before now steps k past gone_is c = gone_is c ∙ ap (λ (ss : List Step). numbers_after_turns by (number_at before) (coefficient (turns_of ss)) c) (take_all k steps past)

-- so much, up or down
pub moved_within : (by turn : ℤ) → (turn ≡ pos 1) ⊎ (turn ≡ negsuc 0) → pos 0 ≤ℤ by → by ≤ℤ pos (10 ^ 22) → (neg_ℤ (pos (10 ^ 22)) ≤ℤ (by *ℤ turn)) × ((by *ℤ turn) ≤ℤ pos (10 ^ 22))
moved_within by turn (inl up) from to =
    let is : by *ℤ turn ≡ by = ap (λ (z : ℤ). by *ℤ z) up ∙ *ℤ_comm by (pos 1) ∙ omega (arith, ints) in
    (omega (arith, ints, is, from), omega (arith, ints, is, to))
moved_within by turn (inr down_so) from to =
    let is : by *ℤ turn ≡ neg_ℤ by = ap (λ (z : ℤ). by *ℤ z) down_so ∙ *ℤ_comm by (negsuc 0) ∙ omega (arith, ints) in
    (omega (arith, ints, is, to), omega (arith, ints, is, from))

-- numbers that have changed so many times
pub record AreNearRange (numbers : List ℤ) (times : ℕ) : Type 0 where
  pub low : (c : ℕ) → neg_ℤ (pos (10 ^ 22 * times)) ≤ℤ number_at numbers c
  pub high : (c : ℕ) → number_at numbers c ≤ℤ pos (2 ^ 100 + 10 ^ 22 * times)

pub near_start : (numbers : List ℤ) → ((c : ℕ) → (pos 0 ≤ℤ number_at numbers c) × (number_at numbers c ≤ℤ pos (2 ^ 100))) → AreNearRange numbers 0
near_start numbers within = record { low = λ c. omega (arith, ints, (within c).0); high = λ c. omega (arith, ints, (within c).1) }

pub near_more : (now : List ℤ) (cell : ℕ) (to by : ℤ) (times : ℕ) → cell < length now → to ≡ number_at now cell +ℤ by → neg_ℤ (pos (10 ^ 22)) ≤ℤ by → by ≤ℤ pos (10 ^ 22) → AreNearRange now times → AreNearRange (set now cell to) (times + 1)
near_more now cell to by times below is low high near =
    let changed : Changed cell by (number_at now) (number_at (set now cell to)) = changed_by_set now cell to by below (omega (arith, ints, is)) in
    record {
      low = λ c. (let part = picked (cell == c) in omega (arith, ints, changed c, near.low c, part.0));
      high = λ c. (let part = picked (cell == c) in omega (arith, ints, changed c, near.high c, part.1));
    }
  where
    picked : (b : Bool) → (neg_ℤ (pos (10 ^ 22)) ≤ℤ (if b then by else pos 0)) × ((if b then by else pos 0) ≤ℤ pos (10 ^ 22))
    picked true = (low, high)
    picked false = (omega (arith, ints), omega (arith, ints))

pub turn_fits : (turn : ℤ) → (turn ≡ pos 1) ⊎ (turn ≡ negsuc 0) → FitsSigned w128 turn
turn_fits turn (inl up) = omega (arith, ints, up)
turn_fits turn (inr down_so) = omega (arith, ints, down_so)

-- ---- the step with the least room

pub least_more : (base : ℤ) (numbers : List ℤ) (steps : List Step) (least after place : ℕ) → place < length steps → room_of base numbers (step_at steps after) ≤ℤ room_of base numbers (step_at steps least) → room_of base numbers (step_at steps after) ≤ℤ room_of base numbers (step_at steps place)
    → All (λ (s : Step). room_of base numbers (step_at steps least) ≤ℤ room_of base numbers s) (take place steps) → All (λ (s : Step). room_of base numbers (step_at steps after) ≤ℤ room_of base numbers s) (take (place + 1) steps)
least_more base numbers steps least after place inside one other before =
    All-more (λ (s : Step). room_of base numbers (step_at steps after) ≤ℤ room_of base numbers s) steps place (record { cell = 0; turn = pos 0; start = 0; end = 0 }) inside
    (All-weaker (λ (s : Step). room_of base numbers (step_at steps least) ≤ℤ room_of base numbers s) (λ (s : Step). room_of base numbers (step_at steps after) ≤ℤ room_of base numbers s) (λ s more. omega (arith, ints, one, more)) (take place steps) before) other

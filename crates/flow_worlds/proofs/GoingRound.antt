-- Going round by as much as all cells can go.
use Rattle.std.proofs.Common.{◌≡◌, inl, inr, ℕ, ◌+◌, ◌<◌, ◌≤◌, ◌==◌, Bool, true, false, List, [], length, All, slice_get, Some, take, ℤ, pos, negsuc, neg_ℤ, ◌+ℤ◌, ◌-ℤ◌, ◌*ℤ◌, ◌≤ℤ◌, arith, refl, ap, sym, subst, ◌∙◌, if◌then◌else◌, ◌^◌, FitsSigned}
use Rattle.std.proofs.Math.ListN.{set}
use Rattle.std.proofs.Math.IntN.{*ℤ_comm}
use Rattle.std.specs.List.{AllPairs}
use Rattle.std.specs.Int.{w128}
use Rattle.std.proofs.lemmas.Int.{ints}
use Rattle.std.proofs.lemmas.List.{take_all, take_more}
use Rattle.std.proofs.lemmas.List.Elements.{All-get_or, All-map, All-weaker, All-more}
use Rattle.sdc_base.specs.declared.cell.Cell.{Cell}
use Rattle.sdc_base.specs.Forms.{Term, coefficient}
use Rattle.sdc_base.specs.HiddenSets.{is_hidden}
use Rattle.sdc_base.specs.Signs.{number_with_sign}
use Rattle.sdc_base.specs.Systems.{number_at}
use Rattle.sdc_base.specs.Totals.{sum_below}
use Rattle.sdc_base.specs.Worlds.{IsWithinBounds}
use Rattle.sdc_base.proofs.WholeNumbers.{distrib}
use Rattle.sdc_base.proofs.TotalLemmas.{sum_of-map}
use Rattle.sdc_base.proofs.WeakDual.{by_cells}
use Rattle.signed_network.specs.declared.arcs.Arc.{Arc}
use Rattle.signed_network.specs.Arcs.{arc_at, brings_to}
use Rattle.flow_worlds.specs.declared.steps.Step.{Step}
use Rattle.flow_worlds.specs.declared.task.Task.{Task}
use Rattle.flow_worlds.specs.Steps.{turn_of, turns_of}
use Rattle.signed_network.specs.Balances.{numbers_after_turns}
use Rattle.flow_worlds.specs.Flows.{IsFlowOf}
use Rattle.flow_worlds.specs.Searches.{IsOpenStep}
use Rattle.flow_worlds.specs.Circuits.{CanGo, IsCircuit, brought, step_at}
use Rattle.flow_worlds.specs.Tasks.{IsTask}
use Rattle.flow_worlds.proofs.Rooming.{kept, from_low, to_high, by_turn_up, by_turn_down}
use Rattle.flow_worlds.proofs.Listed.{changed_by_set}
use Rattle.flow_worlds.proofs.Turns.{Apart, moved_or_not, turn_at, turns_push, earlier_unmoved}
use Rattle.signed_network.proofs.Balances.{gone_balanced}

-- what steps bring to a point is what their turns do
turns_bring : (arcs : List Arc) (steps : List Step) (point : ℕ) → All (λ (s : Step). s.cell < length arcs) steps → sum_below (length arcs) (λ cell. coefficient (turns_of steps) cell *ℤ brings_to (arc_at arcs cell) point) ≡ brought arcs steps point
turns_bring arcs steps point known =
    by_cells (length arcs) (λ cell. brings_to (arc_at arcs cell) point) (turns_of steps) (All-map (λ (t : Term). t.0 < length arcs) (λ (step : Step). (step.cell, turn_of step)) steps known)
    ∙ sum_of-map (λ (t : Term). t.1 *ℤ brings_to (arc_at arcs t.0) point) (λ (step : Step). (step.cell, turn_of step)) steps

no_step : Step
no_step = record { cell = 0; up = false; start = 0; end = 0 }

-- ---- the loop over the steps

none_by : (by : ℤ) → by *ℤ pos 0 ≡ pos 0
none_by by = *ℤ_comm by (pos 0) ∙ omega (arith, ints)

pub none_gone : (by : ℤ) (numbers : List ℤ) (c : ℕ) → number_at numbers c ≡ numbers_after_turns by (number_at numbers) (coefficient (turns_of [])) c
none_gone by numbers c = omega (arith, ints, none_by by)

one_further : (by number turned turn : ℤ) (b : Bool) → (number +ℤ by *ℤ turned) +ℤ (if b then by *ℤ turn else pos 0) ≡ number +ℤ by *ℤ (turned +ℤ (if b then turn else pos 0))
one_further by number turned turn true = omega (arith, ints, distrib by turned turn)
one_further by number turned turn false = omega (arith, ints, distrib by turned (pos 0), none_by by)

pub gone_more : (by : ℤ) (before now : List ℤ) (steps : List Step) (k : ℕ) (to : ℤ) → k < length steps → (step_at steps k).cell < length now → to ≡ number_at now (step_at steps k).cell +ℤ by *ℤ turn_of (step_at steps k)
    → ((c : ℕ) → number_at now c ≡ numbers_after_turns by (number_at before) (coefficient (turns_of (take k steps))) c) → (c : ℕ) → number_at (set now (step_at steps k).cell to) c ≡ numbers_after_turns by (number_at before) (coefficient (turns_of (take (k + 1) steps))) c
gone_more by before now steps k to inside below is gone_is c =
    let step : Step = step_at steps k in
    changed_by_set now step.cell to (by *ℤ turn_of step) below (omega (arith, ints, is)) c
    ∙ ap (λ (z : ℤ). z +ℤ (if step.cell == c then by *ℤ turn_of step else pos 0)) (gone_is c)
    ∙ one_further by (number_at before c) (coefficient (turns_of (take k steps)) c) (turn_of step) (step.cell == c)
    ∙ ap (λ (z : ℤ). number_at before c +ℤ by *ℤ z) (sym (turns_push (take k steps) step c) ∙ ap (λ (ss : List Step). coefficient (turns_of ss) c) (sym (take_more steps k (record { cell = 0; up = false; start = 0; end = 0 }) inside)))

pub gone_whole : (by : ℤ) (before now : List ℤ) (steps : List Step) (k : ℕ) → length steps ≤ k → ((c : ℕ) → number_at now c ≡ numbers_after_turns by (number_at before) (coefficient (turns_of (take k steps))) c) → (c : ℕ) → number_at now c ≡ numbers_after_turns by (number_at before) (coefficient (turns_of steps)) c
gone_whole by before now steps k past gone_is c = gone_is c ∙ ap (λ (ss : List Step). numbers_after_turns by (number_at before) (coefficient (turns_of ss)) c) (take_all k steps past)

-- the cell of the next step has its old number
pub still_there : (by : ℤ) (before now : List ℤ) (steps : List Step) (k : ℕ) → k < length steps → AllPairs Apart steps → ((c : ℕ) → number_at now c ≡ numbers_after_turns by (number_at before) (coefficient (turns_of (take k steps))) c) → number_at now (step_at steps k).cell ≡ number_at before (step_at steps k).cell
still_there by before now steps k inside apart gone_is =
    gone_is (step_at steps k).cell ∙ ap (λ (z : ℤ). number_at before (step_at steps k).cell +ℤ by *ℤ z) (earlier_unmoved steps k inside apart) ∙ omega (arith, ints, none_by by)

-- ---- the least room

-- a cell that can go so far can go less far
less_far : (cell : Cell) (by room less : ℤ) (up : Bool) → pos 0 ≤ℤ less → less ≤ℤ room → IsWithinBounds cell (pos 1) by → IsWithinBounds cell (pos 1) (by +ℤ room *ℤ number_with_sign up (pos 1)) → IsWithinBounds cell (pos 1) (by +ℤ less *ℤ number_with_sign up (pos 1))
less_far cell by room less true some most here there =
    let far = by_turn_up by room true refl in
    let near = by_turn_up by less true refl in
    kept cell (by +ℤ less *ℤ pos 1) (omega (arith, ints, from_low cell by here, near, some))
    (λ high is. omega (arith, ints, to_high cell (by +ℤ room *ℤ pos 1) high there is, far, near, most))
less_far cell by room less false some most here there =
    let far = by_turn_down by room false refl in
    let near = by_turn_down by less false refl in
    kept cell (by +ℤ less *ℤ negsuc 0) (omega (arith, ints, from_low cell (by +ℤ room *ℤ negsuc 0) there, far, near, most))
    (λ high is. omega (arith, ints, to_high cell by high here is, near, some))

pub can_go_less : (cells : List Cell) (moves : List ℤ) (by less : ℤ) (step : Step) → ((number : ℕ) (cell : Cell) → slice_get cells number ≡ Some cell → IsWithinBounds cell (pos 1) (number_at moves number)) → pos 0 ≤ℤ less → less ≤ℤ by → CanGo cells moves by step → CanGo cells moves less step
can_go_less cells moves by less step bounds some most can cell found = less_far cell (number_at moves step.cell) by less step.up some most (bounds step.cell cell found) (can cell found)

pub least_more : (cells : List Cell) (moves : List ℤ) (by less : ℤ) (steps : List Step) (k : ℕ) → k < length steps → ((number : ℕ) (cell : Cell) → slice_get cells number ≡ Some cell → IsWithinBounds cell (pos 1) (number_at moves number)) → pos 0 ≤ℤ less → less ≤ℤ by → All (CanGo cells moves by) (take k steps) → CanGo cells moves less (step_at steps k) → All (CanGo cells moves less) (take (k + 1) steps)
least_more cells moves by less steps k inside bounds some most before here =
    All-more (CanGo cells moves less) steps k (record { cell = 0; up = false; start = 0; end = 0 }) inside (All-weaker (CanGo cells moves by) (CanGo cells moves less) (λ (s : Step) can. can_go_less cells moves by less s bounds some most can) (take k steps) before) here

-- what is kept of the cell that is read is kept of the cell that is found
pub can_go : (cells : List Cell) (moves : List ℤ) (by : ℤ) (step : Step) (cell : Cell) → slice_get cells step.cell ≡ Some cell → IsWithinBounds cell (pos 1) (number_at moves step.cell +ℤ by *ℤ turn_of step) → CanGo cells moves by step
can_go cells moves by step cell found within other there = subst (λ (one : Cell). IsWithinBounds one (pos 1) (number_at moves step.cell +ℤ by *ℤ turn_of step)) (let both : Some cell ≡ Some other = sym found ∙ there in cc) within

-- ---- round

step_in : (P : Step → Type 0) (steps : List Step) (j : ℕ) → j < length steps → All P steps → P (step_at steps j)
step_in P steps j inside all = All-get_or P steps j (record { cell = 0; up = false; start = 0; end = 0 }) inside all

not_moved : (by number turn : ℤ) → turn ≡ pos 0 → number +ℤ by *ℤ turn ≡ number
not_moved by number turn none = ap (λ z. number +ℤ by *ℤ z) none ∙ omega (arith, ints, none_by by)

moved_near : (by number : ℤ) (up : Bool) (amount : ℤ) → pos 0 ≤ℤ by → neg_ℤ amount ≤ℤ number → number ≤ℤ amount → (neg_ℤ (amount +ℤ by) ≤ℤ (number +ℤ by *ℤ number_with_sign up (pos 1))) × ((number +ℤ by *ℤ number_with_sign up (pos 1)) ≤ℤ (amount +ℤ by))
moved_near by number true amount some low high = let is = by_turn_up number by true refl in (omega (arith, ints, is, some, low), omega (arith, ints, is, some, high))
moved_near by number false amount some low high = let is = by_turn_down number by false refl in (omega (arith, ints, is, some, low), omega (arith, ints, is, some, high))

pub near_fits : (by number : ℤ) (up : Bool) (amount target : ℤ) → pos 0 ≤ℤ by → by ≤ℤ (target -ℤ amount) → pos 0 ≤ℤ amount → target ≤ℤ pos (2 ^ 110) → neg_ℤ amount ≤ℤ number → number ≤ℤ amount → FitsSigned w128 (number +ℤ by *ℤ number_with_sign up (pos 1))
near_fits by number up amount target some most from to low high = let near = moved_near by number up amount some low high in omega (arith, ints, near.0, near.1, most, from, to)

asked_moved : (by number amount : ℤ) (up : Bool) → number_with_sign up number ≡ amount → number_with_sign up (number +ℤ by *ℤ number_with_sign up (pos 1)) ≡ amount +ℤ by
asked_moved by number amount true is = omega (arith, ints, is, by_turn_up number by true refl)
asked_moved by number amount false is = omega (arith, ints, is, by_turn_down number by false refl)

pub goes_round : (task : Task) (amount by : ℤ) (before after : List ℤ) (steps : List Step) → IsTask task → IsFlowOf task amount before → IsCircuit task before steps → pos 0 ≤ℤ by → All (CanGo task.cells.now before by) steps → length after ≡ length before
    → ((c : ℕ) → number_at after c ≡ numbers_after_turns by (number_at before) (coefficient (turns_of steps)) c) → IsFlowOf task (amount +ℤ by) after
goes_round task amount by before after steps is_task has circuit some can each gone_is =
    let known : All (λ (s : Step). s.cell < length task.arcs.now) steps = All-weaker (IsOpenStep task before true) (λ (s : Step). s.cell < length task.arcs.now) (λ (s : Step) opened. opened.known) steps circuit.open_steps in
    let asked : ℕ = circuit.asked.0 in
    let asked_inside : asked < length steps = circuit.asked.1 in
    let asked_is : step_at steps asked ≡ task.asked = circuit.asked.2 in
    let asked_turn : coefficient (turns_of steps) task.asked.cell ≡ turn_of task.asked = subst (λ (s : Step). coefficient (turns_of steps) s.cell ≡ turn_of s) asked_is (turn_at steps asked asked_inside circuit.apart) in
    record {
      flow = record {
        each = each ∙ has.flow.each;
        balanced = gone_balanced task.arcs.now (length task.system.now.relations) by (number_at before) (coefficient (turns_of steps)) (number_at after) has.flow.balanced (λ point inside. turns_bring task.arcs.now steps point known ∙ circuit.round point) gone_is;
        shown_stay = λ c shown.
            elim (moved_or_not steps c circuit.apart) as (λ _. number_at after c ≡ pos 0) [
              | inl (j, moved) ↦
                  let opened : IsOpenStep task before true (step_at steps j) = step_in (IsOpenStep task before true) steps j moved.inside circuit.open_steps in
                  absurd (let clash : true ≡ false = sym opened.hidden ∙ ap (λ (i : ℕ). is_hidden task.flags.now i) moved.is ∙ shown in cc)
              | inr none ↦ gone_is c ∙ not_moved by (number_at before c) (coefficient (turns_of steps) c) none ∙ has.flow.shown_stay c shown
            ];
        bounds_hold = λ c cell found.
            elim (moved_or_not steps c circuit.apart) as (λ _. IsWithinBounds cell (pos 1) (number_at after c)) [
              | inl (j, moved) ↦
                  let step : Step = step_at steps j in
                  let within : IsWithinBounds cell (pos 1) (number_at before step.cell +ℤ by *ℤ turn_of step) = step_in (CanGo task.cells.now before by) steps j moved.inside can cell (ap (λ (i : ℕ). slice_get task.cells.now i) moved.is ∙ found) in
                  let here : number_at before step.cell +ℤ by *ℤ turn_of step ≡ number_at after c = ap (λ (i : ℕ). number_at before i +ℤ by *ℤ turn_of step) moved.is ∙ ap (λ z. number_at before c +ℤ by *ℤ z) (sym moved.turn) ∙ sym (gone_is c) in
                  subst (λ z. IsWithinBounds cell (pos 1) z) here within
              | inr none ↦ subst (λ z. IsWithinBounds cell (pos 1) z) (sym (gone_is c ∙ not_moved by (number_at before c) (coefficient (turns_of steps) c) none)) (has.flow.bounds_hold c cell found)
            ];
      };
      asked = ap (number_with_sign task.asked.up) (gone_is task.asked.cell ∙ ap (λ z. number_at before task.asked.cell +ℤ by *ℤ z) asked_turn) ∙ asked_moved by (number_at before task.asked.cell) amount task.asked.up has.asked;
      low = λ c. (near c).0;
      high = λ c. (near c).1;
    }
  where
    near : (c : ℕ) → (neg_ℤ (amount +ℤ by) ≤ℤ number_at after c) × (number_at after c ≤ℤ (amount +ℤ by))
    near c =
        elim (moved_or_not steps c circuit.apart) as (λ _. (neg_ℤ (amount +ℤ by) ≤ℤ number_at after c) × (number_at after c ≤ℤ (amount +ℤ by))) [
          | inl (j, moved) ↦
              let both = moved_near by (number_at before c) (step_at steps j).up amount some (has.low c) (has.high c) in
              let is = gone_is c ∙ ap (λ z. number_at before c +ℤ by *ℤ z) moved.turn in
              (omega (arith, ints, is, both.0), omega (arith, ints, is, both.1))
          | inr none ↦
              let is = gone_is c ∙ not_moved by (number_at before c) (coefficient (turns_of steps) c) none in
              (omega (arith, ints, is, has.low c, some), omega (arith, ints, is, has.high c, some))
        ]

-- What a flow and a cut answer.
use Rattle.std.proofs.Common.{◌≡◌, inl, inr, ℕ, zero, suc, ◌<◌, ◌≤◌, ◌^◌, Bool, true, false, List, [], ◌∷◌, length, ℤ, pos, negsuc, ◌*ℤ◌, ◌≤ℤ◌, ◌<ℤ◌, arith, refl, ap, sym, subst, ◌∙◌, replicate}
use Rattle.std.proofs.lemmas.Int.{ints}
use Rattle.std.proofs.lemmas.Bool.{cases_lt}
use Rattle.sdc_base.specs.declared.side.Side.{Side}
use Rattle.sdc_base.specs.declared.side.Side.TheVariants.{Above, Below}
use Rattle.sdc_base.specs.Forms.{Term, coefficient, weighted_forms}
use Rattle.sdc_base.specs.HiddenSets.{is_hidden}
use Rattle.sdc_base.specs.Refutations.{AreBounded, bound_sum}
use Rattle.sdc_base.specs.Signs.{number_with_sign}
use Rattle.sdc_base.specs.Systems.{Numbers, number_at}
use Rattle.sdc_base.specs.Worlds.{IsWorld, amount_toward}
use Rattle.sdc_base.proofs.WholeNumbers.{minus_times}
use Rattle.worlds.specs.NumberLists.{IsListed, terms_of, number_given}
use Rattle.worlds.specs.RefutationFaults.{IsHeldSum, terms_added}
use Rattle.worlds.specs.declared.multipliers.Multipliers.{Multipliers}
use Rattle.worlds.specs.declared.world.World.{World}
use Rattle.sdc_base.specs.Totals.{sum_below}
use Rattle.flow_worlds.specs.declared.task.Task.{Task}
use Rattle.signed_network.specs.Arcs.{arc_at, brings_to}
use Rattle.flow_worlds.specs.Cuts.{IsCut, IsOne}
use Rattle.flow_worlds.specs.FlowAnswers.{AreWholeMultipliersAt, IsWholeWorldAt}
use Rattle.flow_worlds.specs.Flows.{IsFlow, IsFlowOf}
use Rattle.flow_worlds.specs.Steps.{is_up, turn_of}
use Rattle.flow_worlds.specs.Tasks.{IsTask}
use Rattle.flow_worlds.proofs.Rooming.{kept}
use Rattle.signed_network.proofs.Balances.{balanced_holds}
use Rattle.flow_worlds.proofs.Tightness.{IsSettled, sum_is, bounded_is, held_is}

toward_is : (side : Side) (z : ℤ) → amount_toward side z ≡ number_with_sign (is_up side) z
toward_is Above z = refl
toward_is Below z = refl

-- ---- worlds

flow_world : (task : Task) (moves : List ℤ) → IsTask task → IsFlow task moves → IsWorld task.system.now task.cells.now task.flags.now (pos 1) (number_at moves)
flow_world task moves is flow = record {
  positive = omega (arith, ints);
  shown_stay = λ cell _ shown. flow.shown_stay cell shown;
  relations_hold = balanced_holds task.system.now.relations task.signs.now task.system.now.cells task.arcs.now (length task.system.now.relations) (number_at moves) is.are_arcs task.system.now.named (omega arith) flow.balanced;
  bounds_hold = flow.bounds_hold;
}

pub world_is : (task : Task) (amount : ℤ) (moves : List ℤ) (world : World) (side : Side) → IsTask task → IsFlowOf task amount moves → world.den ≡ pos 1 → IsListed (length moves) (terms_of world.moves) → ((cell : ℕ) → number_given (terms_of world.moves) cell ≡ number_at moves cell) → is_up side ≡ task.asked.up → IsWholeWorldAt task.system.now task.cells.now task.flags.now task.asked.cell side amount world
world_is task amount moves world side is has whole listed given way =
    let same : number_given (terms_of world.moves) ≡ number_at moves = λ i c. given c i in
    let many : length moves ≡ task.system.now.cells = has.flow.each ∙ is.ground.each_cell in
    record {
      is_world = record {
        listed = subst (λ (n : ℕ). IsListed n (terms_of world.moves)) many listed;
        is_world = subst (λ (d : ℤ). IsWorld task.system.now task.cells.now task.flags.now d (number_given (terms_of world.moves))) (sym whole) (subst (λ (numbers : Numbers). IsWorld task.system.now task.cells.now task.flags.now (pos 1) numbers) (sym same) (flow_world task moves is has.flow));
      };
      whole = whole;
      exactly = ap (amount_toward side) (given task.asked.cell) ∙ toward_is side (number_at moves task.asked.cell) ∙ ap (λ (u : Bool). number_with_sign u (number_at moves task.asked.cell)) way ∙ has.asked;
    }

-- ---- multipliers

turn_one : (up : Bool) → IsOne (number_with_sign up (pos 1))
turn_one true = inl refl
turn_one false = inr refl

turn_moved : (up : Bool) (z : ℤ) → number_with_sign up (pos 1) *ℤ z ≡ number_with_sign up z
turn_moved true z = omega (arith, ints)
turn_moved false z = omega (arith, ints, minus_times (pos 1) z)

past_shown : (flags : List Bool) (n : ℕ) → length flags ≤ n → is_hidden flags n ≡ false
past_shown [] zero past = refl
past_shown [] (suc n) past = refl
past_shown (flag ∷ flags) zero past = absurd (omega (arith, past))
past_shown (flag ∷ flags) (suc n) past = past_shown flags n (omega (arith, past))

pub hidden_known : (flags : List Bool) (n : ℕ) → is_hidden flags n ≡ true → n < length flags
hidden_known flags n hidden =
    elim (cases_lt n (length flags)) as (λ _. n < length flags) [
      | inl below ↦ below
      | inr past ↦ absurd (let clash : true ≡ false = sym hidden ∙ past_shown flags n past in cc)
    ]

settled : (task : Task) (amount : ℤ) (moves : List ℤ) (multipliers : Multipliers) → IsTask task → IsFlowOf task amount moves → pos 0 ≤ℤ amount → amount ≤ℤ pos (2 ^ 110) → IsCut task moves multipliers → IsSettled task.system.now task.cells.now task.flags.now (number_at moves) task.asked.cell (turn_of task.asked) amount multipliers.by_relation
settled task amount moves multipliers is has from to cut = record {
  each = is.ground.each_cell;
  asked_inside = (let below = hidden_known task.flags.now task.asked.cell is.asked_hidden in omega (arith, below, is.ground.each_cell, is.ground.each_flag));
  shown = has.flow.shown_stay;
  hold = (flow_world task moves is has.flow).relations_hold;
  one = turn_one task.asked.up;
  moved = turn_moved task.asked.up (number_at moves task.asked.cell) ∙ has.asked;
  from_zero = from;
  to_2_110 = to;
  listed = cut.listed;
  ones = cut.ones;
  tight = cut.tight;
}

pub multipliers_are : (task : Task) (amount : ℤ) (moves : List ℤ) (multipliers : Multipliers) (side : Side) → IsTask task → IsFlowOf task amount moves → pos 0 ≤ℤ amount → amount ≤ℤ pos (2 ^ 110) → IsCut task moves multipliers → is_up side ≡ task.asked.up → AreWholeMultipliersAt task.system.now task.cells.now task.flags.now task.asked.cell side amount multipliers
multipliers_are task amount moves multipliers side is has from to cut way =
    let all = settled task amount moves multipliers is has from to cut in
    let turn : amount_toward side multipliers.den ≡ turn_of task.asked = ap (amount_toward side) cut.whole ∙ toward_is side (pos 1) ∙ ap (λ (u : Bool). number_with_sign u (pos 1)) way in
    let terms : terms_added task.system.now task.asked.cell side multipliers ≡ (task.asked.cell, turn_of task.asked) ∷ weighted_forms task.system.now.relations multipliers.by_relation = ap (λ (z : ℤ). (task.asked.cell, z) ∷ weighted_forms task.system.now.relations multipliers.by_relation) turn in
    record {
      whole = cut.whole;
      ones = cut.ones;
      is_sum = record {
        positive = omega (arith, ints, cut.whole);
        listed = cut.listed;
        bounded = subst (λ (ts : List Term). AreBounded task.cells.now task.flags.now (coefficient ts)) (sym terms) (bounded_is task.system.now task.cells.now task.flags.now (number_at moves) task.asked.cell (turn_of task.asked) amount multipliers.by_relation all);
        sum_held = subst (λ (ts : List Term). IsHeldSum task.cells.now task.flags.now ts) (sym terms) (held_is task.system.now task.cells.now task.flags.now (number_at moves) task.asked.cell (turn_of task.asked) amount multipliers.by_relation all);
      };
      equal = ap (λ (ts : List Term). bound_sum task.cells.now task.flags.now (coefficient ts)) terms ∙ sum_is task.system.now task.cells.now task.flags.now (number_at moves) task.asked.cell (turn_of task.asked) amount multipliers.by_relation all;
    }

-- ---- the loop

-- a whole number from 0, as a natural
abbrev pub natural : ℤ → ℕ
natural (pos n) = n
natural (negsuc n) = 0

pub natural_less : (x y : ℤ) → pos 0 ≤ℤ x → x <ℤ y → natural x < natural y
natural_less (pos m) (pos n) from less = omega (arith, ints, less)
natural_less (pos m) (negsuc n) from less = absurd (omega (arith, ints, less))
natural_less (negsuc m) y from less = absurd (omega (arith, ints, from))

-- no cell moves
none_of : (n c : ℕ) → number_at (replicate n (pos 0)) c ≡ pos 0
none_of zero zero = refl
none_of zero (suc c) = refl
none_of (suc n) zero = refl
none_of (suc n) (suc c) = none_of n c

none_carried : (z : ℤ) → pos 0 *ℤ z ≡ pos 0
none_carried z = omega (arith, ints)

sum_of_none : (n : ℕ) (f : ℕ → ℤ) → ((c : ℕ) → f c ≡ pos 0) → sum_below n f ≡ pos 0
sum_of_none zero f none = refl
sum_of_none (suc n) f none = omega (arith, ints, sum_of_none n f none, none n)

many_numbers : (n : ℕ) → length (replicate n (pos 0)) ≡ n
many_numbers zero = refl
many_numbers (suc n) = omega (arith, many_numbers n)

signed_zero : (up : Bool) (z : ℤ) → z ≡ pos 0 → number_with_sign up z ≡ pos 0
signed_zero true z none = none
signed_zero false z none = omega (arith, ints, none)

pub still_flow : (task : Task) (moves : List ℤ) → moves ≡ replicate (length task.cells.now) (pos 0) → IsFlowOf task (pos 0) moves
still_flow task moves same = subst (λ (ms : List ℤ). IsFlowOf task (pos 0) ms) (sym same) (record {
  flow = record {
    each = many_numbers (length task.cells.now);
    balanced = λ point inside. sum_of_none (length task.arcs.now) (λ cell. number_at (replicate (length task.cells.now) (pos 0)) cell *ℤ brings_to (arc_at task.arcs.now cell) point) (λ cell. ap (λ z. z *ℤ brings_to (arc_at task.arcs.now cell) point) (none_of (length task.cells.now) cell) ∙ none_carried (brings_to (arc_at task.arcs.now cell) point));
    shown_stay = λ cell shown. none_of (length task.cells.now) cell;
    bounds_hold = λ number cell found. (let none = none_of (length task.cells.now) number in let within = cell.low_within in kept cell (number_at (replicate (length task.cells.now) (pos 0)) number) (omega (arith, ints, none, within)) (λ high is. (let beyond : cell.truth ≤ℤ high = cell.high_beyond high is in omega (arith, ints, none, beyond))));
  };
  asked = signed_zero task.asked.up (number_at (replicate (length task.cells.now) (pos 0)) task.asked.cell) (none_of (length task.cells.now) task.asked.cell);
  low = λ cell. omega (arith, ints, none_of (length task.cells.now) cell);
  high = λ cell. omega (arith, ints, none_of (length task.cells.now) cell);
})

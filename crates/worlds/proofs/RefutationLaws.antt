-- The first fault of a refutation is none exactly where what is given is a refutation, and no number on the way is too wide.
use Rattle.std.proofs.Common.{◌≡◌, ◌↔◌, ℕ, zero, suc, ◌+◌, ◌<◌, ◌≤◌, Bool, true, false, not, List, [], ◌∷◌, ◌++◌, length, nat_lt, get_or, replicate, All, Option, Some, Result, Ok, Err, FitsSigned, slice_get, ℤ, pos, ◌*ℤ◌, ◌≤ℤ◌, ◌<ℤ◌, int_lt, arith, refl, ap, sym, ◌∙◌, subst, IsOk}
use Rattle.std.specs.Int.{w128}
use Rattle.std.proofs.lemmas.Int.{ints}
use Rattle.std.proofs.lemmas.List.{get_or-replicate, get_or_past, get_or_default, same_lists, length-replicate}
use Rattle.std.specs.Option.{option_map_or}
use Rattle.std.proofs.lemmas.Bool.Decides.{nat_tests}
use Rattle.std.proofs.lemmas.Option.{slice_get_within, slice_get_read}
use Rattle.std.proofs.lemmas.List.Elements.{All-cons}
use Rattle.sdc_base.specs.Steps.{◌>>=◌, refuse}
use Rattle.sdc_base.proofs.StepLemmas.{bind_ok}
use Rattle.sdc_base.proofs.WeakDual.{duality, weighted_inside}
use Rattle.sdc_base.specs.declared.cell.Cell.{Cell}
use Rattle.sdc_base.specs.declared.relation.Relation.{Relation}
use Rattle.sdc_base.specs.declared.side.Side.{Side}
use Rattle.sdc_base.specs.declared.system.System.{System}
use Rattle.sdc_base.specs.Totals.{sum_below}
use Rattle.sdc_base.specs.Forms.{Term, weighted_forms, coefficient}
use Rattle.sdc_base.specs.Systems.{Numbers, number_at}
use Rattle.sdc_base.specs.Worlds.{Protects, level, level_at, amount_toward}
use Rattle.sdc_base.specs.Refutations.{refuting_terms, share_at, bound_sum, AreBounded}
use Rattle.worlds.specs.declared.faults.RefutationFault.{RefutationFault}
use Rattle.worlds.specs.declared.faults.RefutationFault.TheVariants as fault
use Rattle.worlds.specs.declared.multipliers.Multipliers.{Multipliers}
use Rattle.worlds.specs.NumberLists.{IsListed, first_misplaced}
use Rattle.worlds.specs.WorldFaults.{refuse_at}
use Rattle.worlds.specs.BoundedNumbers.{within_128_bits, numbers_with_terms}
use Rattle.worlds.specs.RefutationFaults.{summed_from, sum_of_bounds, refutation_fault, terms_added, IsHeldSum, IsGivenSum, IsGivenRefutation}
use Rattle.worlds.proofs.TrueTests.{ok_some}
use Rattle.worlds.proofs.Lists.{listed_where_none, none_where_listed}
use Rattle.worlds.proofs.WorldLaws.{then_ok, not_refused, passes, none_refused, passes_none, from_one, below_one}
use Rattle.worlds.proofs.Held.{held_says, held_passes, Gathering, gathered_says, gathered_ends}
use Rattle.worlds.proofs.BoundSums.{Summed, summed_says, summed_ends, summed_same}

past : (n cell : ℕ) → nat_lt cell n ≡ false → n ≤ cell
past n cell is = grind (arith, nat_tests, is)

-- before anything is added
pub zeros_none : (n cell : ℕ) → number_at (replicate n (pos 0)) cell ≡ pos 0
zeros_none n cell =
    elim (nat_lt cell n) as (λ b. nat_lt cell n ≡ b → number_at (replicate n (pos 0)) cell ≡ pos 0) [
      | true ↦ λ is. get_or-replicate n cell (pos 0) (pos 0) (grind (arith, nat_tests, is))
      | false ↦ λ is. get_or_past (replicate n (pos 0)) cell (pos 0) (omega (arith, length-replicate n (pos 0), past n cell is))
    ] refl

-- numbers that are all 0
pub none_are_zeros : (n : ℕ) (numbers : List ℤ) → length numbers ≡ n → ((cell : ℕ) → number_at numbers cell ≡ pos 0) → numbers ≡ replicate n (pos 0)
none_are_zeros n numbers long none =
    same_lists numbers (replicate n (pos 0)) (long ∙ sym (length-replicate n (pos 0)))
    (λ k d within. get_or_default numbers k d (pos 0) within ∙ none k ∙ sym (get_or-replicate n k (pos 0) d (omega (arith, long, within))))

append_nil : (l : List Term) → l ++ [] ≡ l
append_nil [] = refl
append_nil (t ∷ l) = ap (λ (r : List Term). t ∷ r) (append_nil l)

-- what is asked and the weighted forms, added one after the other
pub gathered_both : (zeros first after : List ℤ) (relations : List Relation) (asked : ℕ) (side : Side) (q : ℤ) (multipliers : List Term) → numbers_with_terms zeros ((asked, amount_toward side q) ∷ weighted_forms relations multipliers) ≡ numbers_with_terms first (weighted_forms relations multipliers) → ((rest : List Term) → numbers_with_terms first (weighted_forms relations multipliers ++ rest) ≡ numbers_with_terms after rest) → numbers_with_terms zeros (refuting_terms relations asked side q multipliers) ≡ Ok after
gathered_both zeros first after relations asked side q multipliers one both =
    one ∙ ap (numbers_with_terms first) (sym (append_nil (weighted_forms relations multipliers))) ∙ both []

pub gathered_stops : (zeros first : List ℤ) (relations : List Relation) (asked : ℕ) (side : Side) (q : ℤ) (multipliers : List Term) (fault : RefutationFault) → numbers_with_terms zeros ((asked, amount_toward side q) ∷ weighted_forms relations multipliers) ≡ numbers_with_terms first (weighted_forms relations multipliers) → ((rest : List Term) → numbers_with_terms first (weighted_forms relations multipliers ++ rest) ≡ Err fault) → numbers_with_terms zeros (refuting_terms relations asked side q multipliers) ≡ Err fault
gathered_stops zeros first relations asked side q multipliers fault one both =
    one ∙ ap (numbers_with_terms first) (sym (append_nil (weighted_forms relations multipliers))) ∙ both []

lt_test : (a b : ℤ) → a <ℤ b → int_lt a b ≡ true
lt_test a b less = grind (arith, ints, less)

not_false : (a : Bool) → not a ≡ false → a ≡ true
not_false true is = refl
not_false false is = absurd cc

-- all cells are the cells from the first one on
pub from_start : (cells : List Cell) (i : ℕ) (cell : Cell) → slice_get cells i ≡ Some cell → slice_get cells (0 + i) ≡ Some cell
from_start cells i cell found = subst (λ n. slice_get cells n ≡ Some cell) (omega arith) found

-- ---- the bound sum

-- what a bound sum says of the multipliers
record SumGiven (system : System) (cells : List Cell) (flags : List Bool) (asked : ℕ) (side : Side) (m : Multipliers) (sum : ℤ) : Type 0 where
  pub positive : pos 1 ≤ℤ m.den
  pub listed : IsListed (length system.relations) m.by_relation
  pub bounded : AreBounded cells flags (coefficient (terms_added system asked side m))
  pub sum_held : IsHeldSum cells flags (terms_added system asked side m)
  pub is_sum : sum ≡ bound_sum cells flags (coefficient (terms_added system asked side m))

pub terms_inside : (system : System) (asked : ℕ) (side : Side) (m : Multipliers) → asked < system.cells → All (λ (t : Term). t.0 < length (replicate system.cells (pos 0))) (terms_added system asked side m)
terms_inside system asked side m inside =
    subst (λ n. All (λ (t : Term). t.0 < n) (terms_added system asked side m)) (sym (length-replicate system.cells (pos 0)))
    (All-cons (λ (t : Term). t.0 < system.cells) (asked, amount_toward side m.den) (weighted_forms system.relations m.by_relation) inside (weighted_inside system.cells system.relations m.by_relation system.named))

-- the numbers of the cells behind all that is added are their coefficients
pub added_up : (system : System) (asked : ℕ) (side : Side) (m : Multipliers) (n : ℕ) (relations : List Relation) (den : ℤ) (listed : List Term) (after : List ℤ) → asked < system.cells → n ≡ system.cells → relations ≡ system.relations → den ≡ m.den → listed ≡ m.by_relation → numbers_with_terms (replicate n (pos 0)) (refuting_terms relations asked side den listed) ≡ Ok after → (cell : ℕ) → number_at after cell ≡ coefficient (terms_added system asked side m) cell
added_up system asked side m n relations den listed after inside sized related counted read ok =
    let own : numbers_with_terms (replicate system.cells (pos 0)) (terms_added system asked side m) ≡ Ok after =
    subst (λ z. numbers_with_terms (replicate z (pos 0)) (terms_added system asked side m) ≡ Ok after) sized
    (subst (λ (rs : List Relation). numbers_with_terms (replicate n (pos 0)) (refuting_terms rs asked side m.den m.by_relation) ≡ Ok after) related
    (subst (λ d. numbers_with_terms (replicate n (pos 0)) (refuting_terms relations asked side d m.by_relation) ≡ Ok after) counted
    (subst (λ (ts : List Term). numbers_with_terms (replicate n (pos 0)) (refuting_terms relations asked side den ts) ≡ Ok after) read ok))) in
    let gathering : Gathering [] (terms_added system asked side m) after = gathered_says (replicate system.cells (pos 0)) [] (terms_added system asked side m) after (terms_inside system asked side m inside) (zeros_none system.cells) own in
    gathering.sums

sums_all : (cells : List Cell) (flags : List Bool) (k : Numbers) → Summed cells flags k 0 (length cells) → (n : ℕ) → n ≤ length cells → FitsSigned w128 (sum_below n (share_at cells flags k))
sums_all cells flags k all zero most = omega (arith, ints)
sums_all cells flags k all (suc n) most = all.sums (suc n) (omega arith) most

sum_from : (system : System) (cells : List Cell) (flags : List Bool) (asked : ℕ) (side : Side) (m : Multipliers) (sum : ℤ) → asked < system.cells → sum_of_bounds system cells flags asked side m ≡ Ok sum → SumGiven system cells flags asked side m sum
sum_from system cells flags asked side m sum inside ok =
    let n : ℕ = system.cells in
    let terms : List Term = terms_added system asked side m in
    let k : Numbers = coefficient terms in
    let zeros : List ℤ = replicate n (pos 0) in
    let place : Option ℕ = first_misplaced (length system.relations) 0 0 m.by_relation in
    let last : List ℤ → Result ℤ RefutationFault = λ cs. summed_from flags (number_at cs) 0 (pos 0) cells in
    let one = bind_ok (refuse fault.Den (int_lt m.den (pos 1))) (λ _. refuse_at fault.Order place >>= λ _. numbers_with_terms zeros terms >>= last) sum ok in
    let two = bind_ok (refuse_at fault.Order place) (λ _. numbers_with_terms zeros terms >>= last) sum one.2 in
    let three = bind_ok (numbers_with_terms zeros terms) last sum two.2 in
    let gathering : Gathering [] terms three.0 = gathered_says zeros [] terms three.0 (terms_inside system asked side m inside) (zeros_none n) three.1 in
    let own : summed_from flags k 0 (pos 0) cells ≡ Ok sum = sym (summed_same flags (number_at three.0) k 0 (pos 0) cells gathering.sums) ∙ three.2 in
    let none : 0 + length cells ≡ length cells = omega arith in
    let all = summed_says cells flags k 0 cells (pos 0) sum (from_start cells) refl own in
    let rests : Summed cells flags k 0 (length cells) = subst (λ z. Summed cells flags k 0 z) none all.1 in
    record {
      positive = from_one m.den (not_refused fault.Den (int_lt m.den (pos 1)) one.1);
      listed = listed_where_none (length system.relations) m.by_relation (none_refused fault.Order place two.1);
      bounded = λ number cell found. rests.bounds number cell (omega arith) (slice_get_within cells number cell found) found;
      sum_held = record {
        coefficients_held = gathering.are_held;
        shares_held = λ number below. rests.shares number (omega arith) below;
        sums_held = sums_all cells flags k rests;
      };
      is_sum = all.0 ∙ ap (λ z. sum_below z (share_at cells flags k)) none;
    }

sum_ends : (system : System) (cells : List Cell) (flags : List Bool) (asked : ℕ) (side : Side) (m : Multipliers) → asked < system.cells → pos 1 ≤ℤ m.den → IsListed (length system.relations) m.by_relation → AreBounded cells flags (coefficient (terms_added system asked side m)) → IsHeldSum cells flags (terms_added system asked side m) → sum_of_bounds system cells flags asked side m ≡ Ok (bound_sum cells flags (coefficient (terms_added system asked side m)))
sum_ends system cells flags asked side m inside positive listed bounded held_sum =
    let n : ℕ = system.cells in
    let terms : List Term = terms_added system asked side m in
    let k : Numbers = coefficient terms in
    let zeros : List ℤ = replicate n (pos 0) in
    let place : Option ℕ = first_misplaced (length system.relations) 0 0 m.by_relation in
    let total : ℤ = bound_sum cells flags k in
    let last : List ℤ → Result ℤ RefutationFault = λ cs. summed_from flags (number_at cs) 0 (pos 0) cells in
    let ended = gathered_ends zeros [] terms (terms_inside system asked side m inside) (zeros_none n) held_sum.coefficients_held in
    let gathering : Gathering [] terms ended.0 = gathered_says zeros [] terms ended.0 (terms_inside system asked side m inside) (zeros_none n) ended.1 in
    let none : 0 + length cells ≡ length cells = omega arith in
    let all : Summed cells flags k 0 (0 + length cells) = record {
      shares = λ number low below. held_sum.shares_held number (omega (arith, below));
      sums = λ number low most. held_sum.sums_held number (omega (arith, most));
      bounds = λ number cell low below found. bounded number cell found;
    } in
    let own : summed_from flags k 0 (pos 0) cells ≡ Ok total = summed_ends cells flags k 0 cells (pos 0) (from_start cells) refl all ∙ ap (λ z. Ok (sum_below z (share_at cells flags k))) none in
    then_ok (refuse fault.Den (int_lt m.den (pos 1))) (λ _. refuse_at fault.Order place >>= λ _. numbers_with_terms zeros terms >>= last) tt total
    (passes fault.Den (int_lt m.den (pos 1)) (below_one m.den positive))
    (then_ok (refuse_at fault.Order place) (λ _. numbers_with_terms zeros terms >>= last) tt total
    (passes_none fault.Order place (none_where_listed (length system.relations) m.by_relation listed))
    (then_ok (numbers_with_terms zeros terms) last ended.0 total ended.1
    (summed_same flags (number_at ended.0) k 0 (pos 0) cells gathering.sums ∙ own)))

pub sum_law : (system : System) (cells : List Cell) (flags : List Bool) (asked : ℕ) (side : Side) (m : Multipliers) (sum : ℤ) → asked < system.cells → sum_of_bounds system cells flags asked side m ≡ Ok sum → sum ≡ bound_sum cells flags (coefficient (terms_added system asked side m))
sum_law system cells flags asked side m sum inside ok = (sum_from system cells flags asked side m sum inside ok).is_sum

pub given_law : (system : System) (cells : List Cell) (flags : List Bool) (asked : ℕ) (side : Side) (m : Multipliers) → asked < system.cells → IsOk (sum_of_bounds system cells flags asked side m) ↔ IsGivenSum system cells flags asked side m
given_law system cells flags asked side m inside =
    ok_some (IsGivenSum system cells flags asked side m) (sum_of_bounds system cells flags asked side m)
    (λ sum ok. let given : SumGiven system cells flags asked side m sum = sum_from system cells flags asked side m sum inside ok in record { positive = given.positive; listed = given.listed; bounded = given.bounded; sum_held = given.sum_held })
    (λ given. (bound_sum cells flags (coefficient (terms_added system asked side m)), sum_ends system cells flags asked side m inside given.positive given.listed given.bounded given.sum_held))

-- ---- the whole

refutation_from : (system : System) (cells : List Cell) (flags : List Bool) (asked : ℕ) (side : Side) (m : Multipliers) → asked < system.cells → refutation_fault system cells flags asked side m ≡ Ok tt → IsGivenRefutation system cells flags asked side m
refutation_from system cells flags asked side m inside ok =
    let product : ℤ = m.den *ℤ level_at cells side asked in
    let one = bind_ok (sum_of_bounds system cells flags asked side m) (λ sum. within_128_bits asked product >>= λ most. refuse fault.NotBelow (not (int_lt sum most))) tt ok in
    let two = bind_ok (within_128_bits asked product) (λ most. refuse fault.NotBelow (not (int_lt one.0 most))) tt one.2 in
    let given : SumGiven system cells flags asked side m one.0 = sum_from system cells flags asked side m one.0 inside one.1 in
    let level : (two.0 ≡ product) × FitsSigned w128 product = held_says asked product two.0 two.1 in
    let test : int_lt one.0 two.0 ≡ true = not_false (int_lt one.0 two.0) (not_refused fault.NotBelow (not (int_lt one.0 two.0)) two.2) in
    let less : one.0 <ℤ two.0 = grind (arith, ints, test) in
    record {
      listed = given.listed;
      is_refutation = record {
        q_positive = given.positive;
        bounded = given.bounded;
        below = omega (arith, ints, less, given.is_sum, level.0);
      };
      sum_held = given.sum_held;
      product_held = level.1;
    }

refutation_ends : (system : System) (cells : List Cell) (flags : List Bool) (asked : ℕ) (side : Side) (m : Multipliers) → asked < system.cells → IsGivenRefutation system cells flags asked side m → refutation_fault system cells flags asked side m ≡ Ok tt
refutation_ends system cells flags asked side m inside is =
    let product : ℤ = m.den *ℤ level_at cells side asked in
    let sum : ℤ = bound_sum cells flags (coefficient (terms_added system asked side m)) in
    let own = is.is_refutation in
    let less : sum <ℤ product = own.below in
    let test : not (int_lt sum product) ≡ false = ap not (lt_test sum product less) in
    then_ok (sum_of_bounds system cells flags asked side m) (λ sum. within_128_bits asked product >>= λ most. refuse fault.NotBelow (not (int_lt sum most))) sum tt
    (sum_ends system cells flags asked side m inside own.q_positive is.listed own.bounded is.sum_held)
    (then_ok (within_128_bits asked product) (λ most. refuse fault.NotBelow (not (int_lt sum most))) product tt
    (held_passes asked product is.product_held) (passes fault.NotBelow (not (int_lt sum product)) test))

pub refutation_law : (system : System) (cells : List Cell) (flags : List Bool) (asked : ℕ) (side : Side) (m : Multipliers) → asked < system.cells → (refutation_fault system cells flags asked side m ≡ Ok tt) ↔ IsGivenRefutation system cells flags asked side m
refutation_law system cells flags asked side m inside = (refutation_from system cells flags asked side m inside, refutation_ends system cells flags asked side m inside)

-- a refutation leaves no world that takes the cell as far as its level
pub no_world : (system : System) (cells : List Cell) (flags : List Bool) (asked : ℕ) (side : Side) (m : Multipliers) → length cells ≡ system.cells → asked < system.cells → IsGivenRefutation system cells flags asked side m → ¬ Protects system cells flags asked side
no_world system cells flags asked side m one_each inside is protects =
    let least : level_at cells side asked ≡ level side protects.2 = ap (λ o. option_map_or (level side) o (pos 0)) protects.4 in
    let below : amount_toward side (protects.1 asked) <ℤ (protects.0 *ℤ level_at cells side asked) =
    duality system cells flags asked side (level_at cells side asked) m.den m.by_relation one_each inside is.is_refutation protects.0 protects.1 protects.3 in
    let same : protects.0 *ℤ level_at cells side asked ≡ protects.0 *ℤ level side protects.2 = ap (λ l. protects.0 *ℤ l) least in
    let reaches : (protects.0 *ℤ level side protects.2) ≤ℤ amount_toward side (protects.1 asked) = protects.5 in
    absurd (omega (arith, ints, below, same, reaches))

-- ---- what the checker comes to

-- the level of the cell that was read
pub level_read : (cells : List Cell) (side : Side) (asked : ℕ) (cell : Cell) → asked < length cells → cell ≡ get_or cells asked cell → level_at cells side asked ≡ level side cell
level_read cells side asked cell within is = ap (λ o. option_map_or (level side) o (pos 0)) (slice_get_read cells (length cells) asked cell refl within is)

pub fault_behind_product : (system : System) (cells : List Cell) (flags : List Bool) (asked : ℕ) (side : Side) (m : Multipliers) (sum most : ℤ) → sum_of_bounds system cells flags asked side m ≡ Ok sum → within_128_bits asked (m.den *ℤ level_at cells side asked) ≡ Ok most → refutation_fault system cells flags asked side m ≡ refuse fault.NotBelow (not (int_lt sum most))
fault_behind_product system cells flags asked side m sum most one two = rw (one, two) refl

pub fault_of_product : (system : System) (cells : List Cell) (flags : List Bool) (asked : ℕ) (side : Side) (m : Multipliers) (sum : ℤ) (stop : RefutationFault) → sum_of_bounds system cells flags asked side m ≡ Ok sum → within_128_bits asked (m.den *ℤ level_at cells side asked) ≡ Err stop → refutation_fault system cells flags asked side m ≡ Err stop
fault_of_product system cells flags asked side m sum stop one two = rw (one, two) refl

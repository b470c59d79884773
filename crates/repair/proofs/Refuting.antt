-- Multipliers that stop a question refute its level; and where no cell breaks them, they refute it for the full set.
use Rattle.std.proofs.Common.{◌≡◌, ℕ, ◌&&◌, not, Bool, true, false, List, length, None, Some, slice_get, FitsSigned, ℤ, pos, ◌*ℤ◌, ◌-ℤ◌, ◌≤ℤ◌, ◌<ℤ◌, refl, ap, sym, ◌∙◌, subst, arith}
use Rattle.std.specs.Int.{w128}
use Rattle.std.specs.Ordering.{int_eq}
use Rattle.std.specs.Option.{option_map_or}
use Rattle.std.proofs.Math.IntN.{*ℤ_comm}
use Rattle.std.proofs.lemmas.Int.{ints}
use Rattle.std.proofs.lemmas.Bool.Decides.{Decides-int_eq}
use Rattle.sdc_base.specs.Kinds.{is_free}
use Rattle.sdc_base.proofs.WholeNumbers.{times_more, below_from_times, swap_times}
use Rattle.sdc_base.proofs.TotalLemmas.{sum_below-same}
use Rattle.sdc_base.specs.declared.cell.Cell.{Cell}
use Rattle.sdc_base.specs.declared.cell.Kind.{Kind}
use Rattle.sdc_base.specs.declared.cell.Kind.TheVariants.{Primary, Free, Fixed}
use Rattle.sdc_base.specs.declared.side.Side.{Side}
use Rattle.sdc_base.specs.declared.system.System.{System}
use Rattle.sdc_base.specs.Totals.{sum_below}
use Rattle.sdc_base.specs.Forms.{coefficient}
use Rattle.sdc_base.specs.Systems.{Numbers}
use Rattle.sdc_base.specs.HiddenSets.{is_hidden, may_hide, full_set, IsPermitted}
use Rattle.sdc_base.specs.Worlds.{level_at, amount_toward}
use Rattle.sdc_base.specs.Refutations.{share, share_at, bound_sum, AreBounded}
use Rattle.worlds.specs.declared.multipliers.Multipliers.{Multipliers}
use Rattle.worlds.specs.declared.world.World.{World}
use Rattle.worlds.specs.NumberLists.{terms_of, number_given}
use Rattle.worlds.specs.ProtectFaults.{is_reaching}
use Rattle.worlds.specs.RefutationFaults.{terms_added, IsGivenRefutation}
use Rattle.worlds.proofs.Bounds.{decides_le}
use Rattle.interval_audit.specs.declared.question.Question.{Question}
use Rattle.sdc_base.specs.declared.fraction.Fraction.{Fraction}
use Rattle.interval_audit.specs.Answers.{ReachesTarget, StopsShort}
use Rattle.repair.specs.LevelQuestions.{IsLevelQuestion}
use Rattle.repair.specs.HidingOrder.{breaks, breaks_at}
use Rattle.repair.proofs.Flags.{hidden_map}

-- what is below a fraction's value, times its denominator
scaled : (sum q bound_num bound_den target : ℤ) → pos 1 ≤ℤ q → pos 1 ≤ℤ bound_den → bound_num <ℤ (bound_den *ℤ target) → sum *ℤ bound_den ≡ q *ℤ bound_num → sum <ℤ (q *ℤ target)
scaled sum q bound_num bound_den target positive whole below is =
    let up : (q *ℤ bound_num) <ℤ (q *ℤ (bound_den *ℤ target)) = times_more q bound_num (bound_den *ℤ target) positive below in
    let turned : q *ℤ (bound_den *ℤ target) ≡ bound_den *ℤ (q *ℤ target) = swap_times q bound_den target in
    let own : bound_den *ℤ sum ≡ q *ℤ bound_num = *ℤ_comm bound_den sum ∙ is in
    below_from_times bound_den sum (q *ℤ target) whole (omega (arith, ints, up, turned, own))

-- multipliers that stop the question of a cell's level refute the level
pub stopping_refutes : (system : System) (cells : List Cell) (flags : List Bool) (asked : ℕ × Side) (question : Question) (best : Fraction) (world : World) (m : Multipliers) → IsLevelQuestion cells asked question → StopsShort system cells flags question best world m → IsGivenRefutation system cells flags asked.0 asked.1 m
stopping_refutes system cells flags asked question best world m is does =
    let target : question.target ≡ level_at cells question.side question.cell = is.target_is ∙ ap (λ n. level_at cells asked.1 n) (sym is.cell_is) ∙ ap (λ s. level_at cells s question.cell) (sym is.side_is) in
    let whole : pos 1 ≤ℤ best.den = omega (arith, ints, does.den, does.is_world.is_world.positive) in
    let sum : ℤ = bound_sum cells flags (coefficient (terms_added system question.cell question.side m)) in
    let own : IsGivenRefutation system cells flags question.cell question.side m = record {
      listed = does.is_sum.listed;
      is_refutation = record {
        q_positive = does.is_sum.positive;
        bounded = does.is_sum.bounded;
        below = subst (λ t. sum <ℤ (m.den *ℤ t)) target (scaled sum m.den best.num best.den question.target does.is_sum.positive whole does.below does.equal);
      };
      sum_held = does.is_sum.sum_held;
      product_held = subst (λ t. FitsSigned w128 (m.den *ℤ t)) target does.product_held;
    } in
    subst (λ n. IsGivenRefutation system cells flags n asked.1 m) is.cell_is (subst (λ s. IsGivenRefutation system cells flags question.cell s m) is.side_is own)

-- a world at the level reaches it
pub reaching_test : (system : System) (cells : List Cell) (flags : List Bool) (asked : ℕ × Side) (question : Question) (world : World) → IsLevelQuestion cells asked question → ReachesTarget system cells flags question world → is_reaching cells asked world ≡ true
reaching_test system cells flags asked question world is does =
    let moves : Numbers = number_given (terms_of world.moves) in
    let moved : amount_toward asked.1 (moves asked.0) ≡ world.den *ℤ level_at cells asked.1 asked.0 =
    ap (λ n. amount_toward asked.1 (moves n)) (sym is.cell_is) ∙ ap (λ s. amount_toward s (moves question.cell)) (sym is.side_is) ∙ does.exactly ∙ ap (λ t. world.den *ℤ t) is.target_is in
    (decides_le (world.den *ℤ level_at cells asked.1 asked.0) (amount_toward asked.1 (moves asked.0))).1 (omega (arith, ints, moved))

-- ---- the full set

none_times : (a : ℤ) → pos 0 *ℤ a ≡ pos 0
none_times a = omega (arith, ints)

not_false : (a : Bool) → not a ≡ false → a ≡ true
not_false true is = refl
not_false false is = absurd cc

pub share_full : (kind : Kind) (hidden : Bool) (k : ℤ) (cell : Cell) → (kind ≡ Primary → hidden ≡ true) → (kind ≡ Fixed → hidden ≡ false) → (is_free kind && (not hidden && not (int_eq k (pos 0)))) ≡ false → share hidden k cell ≡ share (may_hide kind) k cell
share_full Primary hidden k cell primary fixed none = let is : hidden ≡ true = primary refl in rw is refl
share_full Fixed hidden k cell primary fixed none = let is : hidden ≡ false = fixed refl in rw is refl
share_full Free true k cell primary fixed none = refl
share_full Free false k cell primary fixed none =
    let is : k ≡ pos 0 = (Decides-int_eq k (pos 0)).0 (not_false (int_eq k (pos 0)) none) in
    rw is (sym (none_times (cell.low -ℤ cell.truth)))

share_at_full : (cells : List Cell) (flags : List Bool) (k : Numbers) → IsPermitted cells flags → ((n : ℕ) → breaks_at cells flags k n ≡ false) → (n : ℕ) → share_at cells flags k n ≡ share_at cells (full_set cells) k n
share_at_full cells flags k permitted none n =
    elim (slice_get cells n) as (λ o. slice_get cells n ≡ o → option_map_or (share (is_hidden flags n) (k n)) o (pos 0) ≡ option_map_or (share (is_hidden (full_set cells) n) (k n)) o (pos 0)) [
      | None ↦ λ found. refl
      | Some cell ↦ λ found.
          let own : breaks (is_hidden flags n) (k n) cell ≡ false = sym (ap (λ o. option_map_or (breaks (is_hidden flags n) (k n)) o false) found) ∙ none n in
          let full : is_hidden (full_set cells) n ≡ may_hide cell.kind = hidden_map (λ one. may_hide one.kind) cells n cell found in
          share_full cell.kind (is_hidden flags n) (k n) cell (permitted.primary_hidden n cell found) (permitted.fixed_shown n cell found) own
          ∙ ap (λ b. share b (k n) cell) (sym full)
    ] refl

pub hidden_or_none : (kind : Kind) (hidden : Bool) (k : ℤ) → (kind ≡ Primary → hidden ≡ true) → (is_free kind && (not hidden && not (int_eq k (pos 0)))) ≡ false → may_hide kind ≡ true → pos 0 <ℤ k → hidden ≡ true
hidden_or_none Primary hidden k primary none may up = primary refl
hidden_or_none Fixed hidden k primary none may up = absurd cc
hidden_or_none Free true k primary none may up = refl
hidden_or_none Free false k primary none may up = absurd (let is : k ≡ pos 0 = (Decides-int_eq k (pos 0)).0 (not_false (int_eq k (pos 0)) none) in omega (arith, ints, is, up))

bounded_full : (cells : List Cell) (flags : List Bool) (k : Numbers) → IsPermitted cells flags → ((n : ℕ) → breaks_at cells flags k n ≡ false) → AreBounded cells flags k → AreBounded cells (full_set cells) k
bounded_full cells flags k permitted none bounded n cell found hidden up =
    let own : breaks (is_hidden flags n) (k n) cell ≡ false = sym (ap (λ o. option_map_or (breaks (is_hidden flags n) (k n)) o false) found) ∙ none n in
    let full : may_hide cell.kind ≡ true = sym (hidden_map (λ one. may_hide one.kind) cells n cell found) ∙ hidden in
    bounded n cell found (hidden_or_none cell.kind (is_hidden flags n) (k n) (permitted.primary_hidden n cell found) own full up) up

-- two sets in which each cell adds as much to the bound sum have the same refutations
pub refutation_alike : (system : System) (cells : List Cell) (flags more : List Bool) (asked : ℕ) (side : Side) (m : Multipliers) → ((n : ℕ) → share_at cells flags (coefficient (terms_added system asked side m)) n ≡ share_at cells more (coefficient (terms_added system asked side m)) n) → AreBounded cells more (coefficient (terms_added system asked side m)) → IsGivenRefutation system cells flags asked side m → IsGivenRefutation system cells more asked side m
refutation_alike system cells flags more asked side m same bounded is =
    let k : Numbers = coefficient (terms_added system asked side m) in
    let sums : (n : ℕ) → sum_below n (share_at cells flags k) ≡ sum_below n (share_at cells more k) = λ n. sum_below-same n (share_at cells flags k) (share_at cells more k) (λ c h. same c) in
    record {
      listed = is.listed;
      is_refutation = record {
        q_positive = is.is_refutation.q_positive;
        bounded = bounded;
        below = omega (arith, ints, is.is_refutation.below, sums (length cells));
      };
      sum_held = record {
        coefficients_held = is.sum_held.coefficients_held;
        shares_held = λ n below. subst (FitsSigned w128) (same n) (is.sum_held.shares_held n below);
        sums_held = λ n most. subst (FitsSigned w128) (sums n) (is.sum_held.sums_held n most);
      };
      product_held = is.product_held;
    }

-- where no cell would break them, multipliers refute for the full set
pub refutes_full : (system : System) (cells : List Cell) (flags : List Bool) (asked : ℕ) (side : Side) (m : Multipliers) → IsPermitted cells flags → ((n : ℕ) → breaks_at cells flags (coefficient (terms_added system asked side m)) n ≡ false) → IsGivenRefutation system cells flags asked side m → IsGivenRefutation system cells (full_set cells) asked side m
refutes_full system cells flags asked side m permitted none is =
    let k : Numbers = coefficient (terms_added system asked side m) in
    refutation_alike system cells flags (full_set cells) asked side m (share_at_full cells flags k permitted none) (bounded_full cells flags k permitted none is.is_refutation.bounded) is

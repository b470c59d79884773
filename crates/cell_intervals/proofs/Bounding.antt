-- The ends of a cell's interval, from how far worlds take it to both sides.
use Rattle.std.proofs.Common.{◌≡◌, ℕ, ◌+◌, ◌-◌, ◌*◌, ◌<◌, ◌≤◌, ◌^◌, Bool, List, All, length, Option, None, Some, slice_get, slice_index_or, ℤ, pos, neg_ℤ, ◌+ℤ◌, ◌*ℤ◌, ◌≤ℤ◌, ◌<ℤ◌, FitsSigned, to_z, of_z, unsigned_abs, inl, inr, arith, refl, ap, sym, subst, ◌∙◌}
use Rattle.std.specs.Int.{w128}
use Rattle.std.proofs.Math.IntN.{*ℤ_comm}
use Rattle.std.proofs.lemmas.Int.{ints, to_z-of_z}
use Rattle.std.proofs.lemmas.Option.{slice_get-get_or, slice_get_cases, get_or_from_slice_get}
use Rattle.sdc_base.specs.declared.cell.Cell.{Cell}
use Rattle.sdc_base.specs.declared.side.Side.TheVariants.{Above, Below}
use Rattle.sdc_base.specs.declared.system.System.{System}
use Rattle.sdc_base.specs.Systems.{Numbers}
use Rattle.sdc_base.specs.Worlds.{IsWorld, value_over}
use Rattle.sdc_base.proofs.WholeNumbers.{assoc, distrib, distrib_right, minus_times, times_up}
use Rattle.cell_intervals.specs.declared.interval.CellInterval.{CellInterval}
use Rattle.cell_intervals.specs.declared.interval.UpperEnd.TheVariants.{At, Open}
use Rattle.cell_intervals.specs.declared.ratio.Ratio.{Ratio}
use Rattle.cell_intervals.specs.Farthest.{IsFarthest, IsOpenTo}
use Rattle.cell_intervals.specs.Intervals.{IsGreatestValue, IsIntervalOf, IsLeastValue, IsUpperEnd}
use Rattle.interval_audit.proofs.Best.{cancel_le}
use Rattle.cell_intervals.proofs.Reaching.{size_is}

-- ---- products

low_spread : (w t m e n v : ℤ) → v +ℤ n ≡ t *ℤ e → (w *ℤ t +ℤ m) *ℤ e +ℤ neg_ℤ m *ℤ e ≡ v *ℤ w +ℤ n *ℤ w
low_spread w t m e n v is =
    omega (arith, ints, distrib_right e (w *ℤ t) m, minus_times m e, distrib_right w v n, ap (λ z. z *ℤ w) is, assoc w t e, *ℤ_comm w (t *ℤ e))

high_spread : (w t m e n v : ℤ) → v ≡ t *ℤ e +ℤ n → (w *ℤ t +ℤ m) *ℤ e +ℤ n *ℤ w ≡ v *ℤ w +ℤ m *ℤ e
high_spread w t m e n v is =
    omega (arith, ints, distrib_right e (w *ℤ t) m, distrib_right w (t *ℤ e) n, ap (λ z. z *ℤ w) is, assoc w t e, *ℤ_comm w (t *ℤ e))

-- ---- the lower end

-- in a world the value of a cell is 0 or more
value_from_zero : (system : System) (cells : List Cell) (flags : List Bool) (number : ℕ) (known : Cell) (den : ℤ) (moves : Numbers) → slice_get cells number ≡ Some known → IsWorld system cells flags den moves → pos 0 ≤ℤ value_over den known (moves number)
value_from_zero system cells flags number known den moves found world =
    let within = (world.bounds_hold number known found).from_low in
    let low : (den *ℤ pos 0) ≤ℤ (den *ℤ known.low) = times_up den (pos 0) known.low (omega (arith, ints, world.positive)) known.low_from_zero in
    omega (arith, ints, within, low, *ℤ_comm den (pos 0))

-- so no world takes a cell below its truth by more than that
pub part_within : (system : System) (cells : List Cell) (flags : List Bool) (number : ℕ) (known : Cell) (truth : ℕ) (far : Ratio) → slice_get cells number ≡ Some known → known.truth ≡ pos truth → IsFarthest system cells flags number Below far → far.num ≤ truth * far.den
part_within system cells flags number known truth far found truth_is farthest =
    let best = farthest.is_best in
    let w : ℤ = best.attained_den in
    let m : ℤ = best.attained_moves number in
    let e : ℤ = pos far.den in
    let n : ℤ = pos far.num in
    let up : pos 0 ≤ℤ (w *ℤ known.truth +ℤ m) = value_from_zero system cells flags number known w best.attained_moves found best.attained_world in
    let times : (e *ℤ pos 0) ≤ℤ (e *ℤ (w *ℤ known.truth +ℤ m)) = times_up e (pos 0) (w *ℤ known.truth +ℤ m) (omega (arith, ints)) up in
    let moved : neg_ℤ m *ℤ e ≡ n *ℤ w = best.attained in
    let most : (w *ℤ n) ≤ℤ (w *ℤ (known.truth *ℤ e)) =
    omega (arith, ints, times, moved, *ℤ_comm e (pos 0), *ℤ_comm e (w *ℤ known.truth +ℤ m), distrib_right e (w *ℤ known.truth) m, minus_times m e, assoc w known.truth e, *ℤ_comm w n) in
    let left : n ≤ℤ (known.truth *ℤ e) = cancel_le w n (known.truth *ℤ e) best.attained_world.positive most in
    let same : known.truth *ℤ e ≡ pos (truth * far.den) = ap (λ z. z *ℤ e) truth_is in
    omega (arith, ints, left, same)

-- nor by 2^110, which is more than a truth
pub never_open_below : (system : System) (cells : List Cell) (flags : List Bool) (number : ℕ) (known : Cell) → slice_get cells number ≡ Some known → known.truth ≤ℤ pos (10 ^ 29) → IsOpenTo system cells flags number Below → ⊥
never_open_below system cells flags number known found few lies =
    let w : ℤ = lies.0 in
    let m : ℤ = lies.1 number in
    let world = lies.2 in
    let up : pos 0 ≤ℤ (w *ℤ known.truth +ℤ m) = value_from_zero system cells flags number known w lies.1 found world in
    let moved : neg_ℤ m ≡ w *ℤ pos (2 ^ 110) = lies.3 in
    let most : (w *ℤ pos (2 ^ 110)) ≤ℤ (w *ℤ known.truth) = omega (arith, ints, up, moved) in
    let left : pos (2 ^ 110) ≤ℤ known.truth = cancel_le w (pos (2 ^ 110)) known.truth world.positive most in
    omega (arith, ints, left, few)

pub low_is_least : (system : System) (cells : List Cell) (flags : List Bool) (number : ℕ) (known : Cell) (truth : ℕ) (far low : Ratio) → known.truth ≡ pos truth → far.num ≤ truth * far.den → low.num ≡ truth * far.den - far.num → low.den ≡ far.den
    → IsFarthest system cells flags number Below far → IsLeastValue system cells flags number known low
low_is_least system cells flags number known truth far low truth_is within num_is den_is farthest =
    let best = farthest.is_best in
    let e : ℤ = pos far.den in
    let n : ℤ = pos far.num in
    let v : ℤ = pos low.num in
    let whole : known.truth *ℤ e ≡ pos (truth * far.den) = ap (λ z. z *ℤ e) truth_is in
    let sum : v +ℤ n ≡ known.truth *ℤ e = omega (arith, ints, whole, num_is, within) in
    let den_z : pos low.den ≡ e = ap pos den_is in
    let spread : (w m : ℤ) → (w *ℤ known.truth +ℤ m) *ℤ e +ℤ neg_ℤ m *ℤ e ≡ v *ℤ w +ℤ n *ℤ w = (λ w m. low_spread w known.truth m e n v sum) in
    record {
      attained = (
        best.attained_den,
        best.attained_moves,
        best.attained_world,
        ap (λ z. value_over best.attained_den known (best.attained_moves number) *ℤ z) den_z ∙ omega (arith, ints, spread best.attained_den (best.attained_moves number), best.attained),
      );
      least = λ den moves world.
          subst (λ z. (v *ℤ den) ≤ℤ (value_over den known (moves number) *ℤ z)) (sym den_z)
          (omega (arith, ints, spread den (moves number), best.furthest den moves world));
    }

-- ---- the upper end

pub high_is_greatest : (system : System) (cells : List Cell) (flags : List Bool) (number : ℕ) (known : Cell) (truth : ℕ) (far high : Ratio) → known.truth ≡ pos truth → high.num ≡ truth * far.den + far.num → high.den ≡ far.den
    → IsFarthest system cells flags number Above far → IsUpperEnd system cells flags number known (At high)
high_is_greatest system cells flags number known truth far high truth_is num_is den_is farthest =
    let best = farthest.is_best in
    let e : ℤ = pos far.den in
    let n : ℤ = pos far.num in
    let v : ℤ = pos high.num in
    let whole : known.truth *ℤ e ≡ pos (truth * far.den) = ap (λ z. z *ℤ e) truth_is in
    let sum : v ≡ known.truth *ℤ e +ℤ n = omega (arith, ints, whole, num_is) in
    let den_z : pos high.den ≡ e = ap pos den_is in
    let spread : (w m : ℤ) → (w *ℤ known.truth +ℤ m) *ℤ e +ℤ n *ℤ w ≡ v *ℤ w +ℤ m *ℤ e = (λ w m. high_spread w known.truth m e n v sum) in
    let top : e *ℤ (known.truth +ℤ pos (2 ^ 110)) ≡ e *ℤ known.truth +ℤ e *ℤ pos (2 ^ 110) = distrib e known.truth (pos (2 ^ 110)) in
    let short : v <ℤ (e *ℤ (known.truth +ℤ pos (2 ^ 110))) = omega (arith, ints, top, sum, *ℤ_comm e known.truth, farthest.short) in
    let greatest : IsGreatestValue system cells flags number known high = record {
      attained = (
        best.attained_den,
        best.attained_moves,
        best.attained_world,
        ap (λ z. value_over best.attained_den known (best.attained_moves number) *ℤ z) den_z ∙ omega (arith, ints, spread best.attained_den (best.attained_moves number), best.attained),
      );
      greatest = λ den moves world.
          subst (λ z. (value_over den known (moves number) *ℤ z) ≤ℤ (v *ℤ den)) (sym den_z)
          (omega (arith, ints, spread den (moves number), best.furthest den moves world));
    } in
    (greatest, subst (λ z. v <ℤ (z *ℤ (known.truth +ℤ pos (2 ^ 110)))) (sym den_z) short)

pub open_is_upper : (system : System) (cells : List Cell) (flags : List Bool) (number : ℕ) (known : Cell) → IsOpenTo system cells flags number Above → IsUpperEnd system cells flags number known Open
open_is_upper system cells flags number known lies =
    (lies.0, lies.1, lies.2, omega (arith, ints, lies.3, distrib lies.0 known.truth (pos (2 ^ 110))))

-- ---- the cell that is read

-- a truth from 0 to the greatest, as its size is read
pub truth_is : (cells : List Cell) (number : ℕ) (d : Cell) (truth : ℕ) → number < length cells → All (λ (cell : Cell). cell.truth ≤ℤ pos (10 ^ 29)) cells → truth ≡ unsigned_abs (to_z w128 (of_z w128 (slice_index_or cells number d).truth)) → (slice_index_or cells number d).truth ≡ pos truth
truth_is cells number d truth inside few size =
    let known : Cell = slice_index_or cells number d in
    let from : pos 0 ≤ℤ known.truth = omega (arith, ints, known.low_from_zero, known.low_within) in
    let fits : FitsSigned w128 known.truth = omega (arith, ints, from, few number d inside) in
    size_is known.truth from ∙ ap pos (sym (size ∙ ap unsigned_abs (to_z-of_z w128 known.truth fits)))

pub truth_few : (cells : List Cell) (number : ℕ) (d : Cell) (truth : ℕ) → number < length cells → All (λ (cell : Cell). cell.truth ≤ℤ pos (10 ^ 29)) cells → truth ≡ unsigned_abs (to_z w128 (of_z w128 (slice_index_or cells number d).truth)) → truth ≤ 10 ^ 29
truth_few cells number d truth inside few size = omega (arith, ints, truth_is cells number d truth inside few size, few number d inside)

pub part_answer : (system : System) (cells : List Cell) (flags : List Bool) (number : ℕ) (d : Cell) (truth : ℕ) (far : Ratio) → number < length cells → All (λ (cell : Cell). cell.truth ≤ℤ pos (10 ^ 29)) cells → truth ≡ unsigned_abs (to_z w128 (of_z w128 (slice_index_or cells number d).truth))
    → IsFarthest system cells flags number Below far → far.num ≤ truth * far.den
part_answer system cells flags number d truth far inside few size farthest =
    part_within system cells flags number (slice_index_or cells number d) truth far (slice_get-get_or cells number d inside) (truth_is cells number d truth inside few size) farthest

pub never_answer : (system : System) (cells : List Cell) (flags : List Bool) (number : ℕ) (d : Cell) → number < length cells → All (λ (cell : Cell). cell.truth ≤ℤ pos (10 ^ 29)) cells → IsOpenTo system cells flags number Below → ⊥
never_answer system cells flags number d inside few lies = never_open_below system cells flags number (slice_index_or cells number d) (slice_get-get_or cells number d inside) (few number d inside) lies

-- what is read is the cell with the number
pub same_cell : (cells : List Cell) (number : ℕ) (d known : Cell) → number < length cells → slice_get cells number ≡ Some known → slice_index_or cells number d ≡ known
same_cell cells number d known inside found = get_or_from_slice_get cells number known d found

pub low_answer : (system : System) (cells : List Cell) (flags : List Bool) (number : ℕ) (d : Cell) (truth : ℕ) (far low : Ratio) → number < length cells → All (λ (cell : Cell). cell.truth ≤ℤ pos (10 ^ 29)) cells → truth ≡ unsigned_abs (to_z w128 (of_z w128 (slice_index_or cells number d).truth))
    → low.num ≡ truth * far.den - far.num → low.den ≡ far.den → IsFarthest system cells flags number Below far → (known : Cell) → slice_get cells number ≡ Some known → IsLeastValue system cells flags number known low
low_answer system cells flags number d truth far low inside few size num den farthest known found =
    subst (λ k. IsLeastValue system cells flags number k low) (same_cell cells number d known inside found)
    (low_is_least system cells flags number (slice_index_or cells number d) truth far low (truth_is cells number d truth inside few size) (part_answer system cells flags number d truth far inside few size farthest) num den farthest)

pub high_answer : (system : System) (cells : List Cell) (flags : List Bool) (number : ℕ) (d : Cell) (truth : ℕ) (far high : Ratio) → number < length cells → All (λ (cell : Cell). cell.truth ≤ℤ pos (10 ^ 29)) cells → truth ≡ unsigned_abs (to_z w128 (of_z w128 (slice_index_or cells number d).truth))
    → high.num ≡ truth * far.den + far.num → high.den ≡ far.den → IsFarthest system cells flags number Above far → (known : Cell) → slice_get cells number ≡ Some known → IsUpperEnd system cells flags number known (At high)
high_answer system cells flags number d truth far high inside few size num den farthest known found =
    subst (λ k. IsUpperEnd system cells flags number k (At high)) (same_cell cells number d known inside found)
    (high_is_greatest system cells flags number (slice_index_or cells number d) truth far high (truth_is cells number d truth inside few size) num den farthest)

none_inside : (cells : List Cell) (number : ℕ) → number < length cells → slice_get cells number ≡ None → ⊥
none_inside cells number inside none =
    elim (slice_get_cases cells number).1 as (λ _. ⊥) [
      | inl some ↦ let there : slice_get cells number ≡ Some some.0 = some.2 in let clash : None ≡ Some some.0 = sym none ∙ there in absurd cc
      | inr past ↦ omega (arith, inside, past.0)
    ]

-- an interval of the cell that there is
pub interval_is : (system : System) (cells : List Cell) (flags : List Bool) (interval : CellInterval) → interval.cell < length cells → ((known : Cell) → slice_get cells interval.cell ≡ Some known → IsLeastValue system cells flags interval.cell known interval.low)
    → ((known : Cell) → slice_get cells interval.cell ≡ Some known → IsUpperEnd system cells flags interval.cell known interval.high) → IsIntervalOf system cells flags interval
interval_is system cells flags interval inside low high = by (slice_get cells interval.cell) refl
  where
    by : (found : Option Cell) → slice_get cells interval.cell ≡ found → IsIntervalOf system cells flags interval
    by (Some known) is = record { cell = known; known = is; low = low known is; high = high known is }
    by None is = absurd (none_inside cells interval.cell inside is)

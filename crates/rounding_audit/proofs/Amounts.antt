-- How far a world takes a cell to a side, and how far a value lies there.
use Rattle.std.proofs.Common.{◌≡◌, ℤ, pos, ◌+ℤ◌, ◌-ℤ◌, ◌*ℤ◌, ◌≤ℤ◌, arith, refl, ap, sym, ◌∙◌}
use Rattle.std.proofs.Math.IntN.{*ℤ_comm}
use Rattle.std.proofs.lemmas.Int.{ints}
use Rattle.sdc_base.specs.declared.cell.Cell.{Cell}
use Rattle.sdc_base.specs.declared.side.Side.{Side}
use Rattle.sdc_base.specs.declared.side.Side.TheVariants.{Above, Below}
use Rattle.sdc_base.specs.Worlds.{amount_toward, value_over}
use Rattle.sdc_base.proofs.WholeNumbers.{assoc, distrib, distrib_right, minus_times, swap_times, times_up}
use Rattle.cell_intervals.specs.declared.ratio.Ratio.{Ratio}
use Rattle.interval_audit.proofs.Best.{cancel_le, cancel_same}
use Rattle.rounding_audit.specs.Audits.{IsFraction, IsNoFurther, distance_over}

-- ---- amounts toward a side

toward_times : (side : Side) (x k : ℤ) → amount_toward side x *ℤ k ≡ amount_toward side (x *ℤ k)
toward_times Above x k = refl
toward_times Below x k = minus_times x k

times_toward : (side : Side) (k x : ℤ) → k *ℤ amount_toward side x ≡ amount_toward side (k *ℤ x)
times_toward side k x = *ℤ_comm k (amount_toward side x) ∙ toward_times side x k ∙ ap (amount_toward side) (*ℤ_comm x k)

toward_back : (side : Side) (x y : ℤ) → amount_toward side x ≡ amount_toward side y → x ≡ y
toward_back Above x y same = same
toward_back Below x y same = omega (arith, ints, same)

-- ---- a value over w, (w t + m) / w, and a fraction n / e, that lies d / e from t

spread : (w t m e n d : ℤ) → d ≡ n -ℤ t *ℤ e → (w *ℤ t +ℤ m) *ℤ e +ℤ w *ℤ d ≡ m *ℤ e +ℤ n *ℤ w
spread w t m e n d is =
    let whole : n ≡ d +ℤ t *ℤ e = omega (arith, ints, is) in
    omega (arith, ints, distrib_right e (w *ℤ t) m, assoc w t e, ap (λ z. w *ℤ z) whole, distrib w d (t *ℤ e), *ℤ_comm n w)

pub amount_attained : (side : Side) (value : Ratio) (w m : ℤ) (cell : Cell) → IsFraction value w (value_over w cell m) → amount_toward side m *ℤ pos value.den ≡ w *ℤ distance_over side cell value
amount_attained side value w m cell is =
    let d : ℤ = pos value.num -ℤ cell.truth *ℤ pos value.den in
    let plain : m *ℤ pos value.den ≡ w *ℤ d = omega (arith, ints, spread w cell.truth m (pos value.den) (pos value.num) d refl, is) in
    toward_times side m (pos value.den) ∙ ap (amount_toward side) plain ∙ sym (times_toward side w d)

pub fraction_attained : (side : Side) (value : Ratio) (w m : ℤ) (cell : Cell) → amount_toward side m *ℤ pos value.den ≡ w *ℤ distance_over side cell value → IsFraction value w (value_over w cell m)
fraction_attained side value w m cell is =
    let d : ℤ = pos value.num -ℤ cell.truth *ℤ pos value.den in
    let plain : m *ℤ pos value.den ≡ w *ℤ d = toward_back side (m *ℤ pos value.den) (w *ℤ d) (sym (toward_times side m (pos value.den)) ∙ is ∙ times_toward side w d) in
    omega (arith, ints, spread w cell.truth m (pos value.den) (pos value.num) d refl, plain)

pub amount_within : (side : Side) (value : Ratio) (w m : ℤ) (cell : Cell) → IsNoFurther side value w (value_over w cell m) → (amount_toward side m *ℤ pos value.den) ≤ℤ (w *ℤ distance_over side cell value)
amount_within Above value w m cell is =
    let d : ℤ = pos value.num -ℤ cell.truth *ℤ pos value.den in
    omega (arith, ints, spread w cell.truth m (pos value.den) (pos value.num) d refl, is)
amount_within Below value w m cell is =
    let d : ℤ = pos value.num -ℤ cell.truth *ℤ pos value.den in
    omega (arith, ints, spread w cell.truth m (pos value.den) (pos value.num) d refl, is, minus_times m (pos value.den), times_toward Below w d)

-- ---- a world that goes as far as any, and one that attains the end

pub meets : (a w d e other den : ℤ) → pos 1 ≤ℤ den → pos 0 ≤ℤ e → (a *ℤ e) ≤ℤ (w *ℤ d) → other *ℤ e ≡ den *ℤ d → (other *ℤ w) ≤ℤ (a *ℤ den) → a *ℤ e ≡ w *ℤ d
meets a w d e other den some from within attained further =
    let lifted : (e *ℤ (other *ℤ w)) ≤ℤ (e *ℤ (a *ℤ den)) = times_up e (other *ℤ w) (a *ℤ den) from further in
    let left : e *ℤ (other *ℤ w) ≡ den *ℤ (w *ℤ d) = swap_times e other w ∙ sym (assoc other e w) ∙ ap (λ z. z *ℤ w) attained ∙ *ℤ_comm (den *ℤ d) w ∙ swap_times w den d in
    let right : e *ℤ (a *ℤ den) ≡ den *ℤ (a *ℤ e) = swap_times e a den ∙ ap (λ z. a *ℤ z) (*ℤ_comm e den) ∙ swap_times a den e in
    let back : (w *ℤ d) ≤ℤ (a *ℤ e) = cancel_le den (w *ℤ d) (a *ℤ e) some (omega (arith, ints, lifted, left, right)) in
    omega (arith, ints, within, back)

-- what bounds the best amount over w bounds the distance over e
pub bounds_distance : (sum q a w d e : ℤ) → pos 1 ≤ℤ w → sum *ℤ w ≡ q *ℤ a → a *ℤ e ≡ w *ℤ d → sum *ℤ e ≡ q *ℤ d
bounds_distance sum q a w d e some equal attained =
    cancel_same w (sum *ℤ e) (q *ℤ d) some
    (swap_times w sum e ∙ sym (assoc sum w e) ∙ ap (λ z. z *ℤ e) equal ∙ assoc q a e ∙ ap (λ z. q *ℤ z) attained ∙ swap_times q w d)

-- what another world attains at least, one that goes as far does
pub as_far : (level a w other den : ℤ) → pos 1 ≤ℤ w → pos 1 ≤ℤ den → (den *ℤ level) ≤ℤ other → (other *ℤ w) ≤ℤ (a *ℤ den) → (w *ℤ level) ≤ℤ a
as_far level a w other den some positive reaches further =
    let lifted : (w *ℤ (den *ℤ level)) ≤ℤ (w *ℤ other) = times_up w (den *ℤ level) other (omega (arith, ints, some)) reaches in
    cancel_le den (w *ℤ level) a positive (omega (arith, ints, lifted, further, swap_times w den level, *ℤ_comm w other, *ℤ_comm a den))

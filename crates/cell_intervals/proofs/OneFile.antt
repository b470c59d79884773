-- The intervals of a hidden set have one file.
use Rattle.std.proofs.Common.{◌≡◌, ℕ, zero, suc, ◌*◌, ◌/◌, ◌%◌, ◌<◌, ◌≤◌, ◌^◌, Bool, List, [], ◌∷◌, ◌++◌, All, map, flat_map, Some, slice_get, ℤ, pos, ◌+ℤ◌, ◌*ℤ◌, ◌≤ℤ◌, ◌<ℤ◌, arith, refl, ap, ap₂, sym, subst, ◌∙◌}
use Prim.Native.Nat.{◌∣◌}
use Rattle.std.specs.Int.{IsGcd}
use Rattle.std.specs.Prelude.{codes, decimal}
use Rattle.std.proofs.Math.IntN.{*ℤ_comm}
use Rattle.std.proofs.Math.Nat.{div-add-mod, mul_comm, dvd-mul_left, dvd-mul_right_of_dvd, dvd-add, mod-lt, one-dvd}
use Rattle.std.proofs.lemmas.Int.{ints}
use Rattle.std.proofs.lemmas.List.Elements.{All-head, All-tail}
use Rattle.std.proofs.lemmas.Nat.Gcd.{dvd_refl, dvd-zero, dvd_antisymm}
use Rattle.sdc_base.specs.declared.cell.Cell.{Cell}
use Rattle.sdc_base.specs.declared.system.System.{System}
use Rattle.sdc_base.specs.Worlds.{value_over}
use Rattle.sdc_base.proofs.WholeNumbers.{assoc, swap_times, times_more, times_up}
use Rattle.cell_intervals.specs.declared.interval.CellInterval.{CellInterval}
use Rattle.cell_intervals.specs.declared.interval.UpperEnd.{UpperEnd}
use Rattle.cell_intervals.specs.declared.interval.UpperEnd.TheVariants.{At, Open}
use Rattle.cell_intervals.specs.declared.ratio.Ratio.{Ratio}
use Rattle.cell_intervals.specs.Intervals.{IsGreatestValue, IsIntervalOf, IsLeastValue, IsUpperEnd}
use Rattle.cell_intervals.specs.IntervalTexts.{fraction_text, line_text, ratio_text, upper_text}
use Rattle.cell_intervals.specs.Laws.{FileIsOne}
use Rattle.tableau.proofs.Remainders.{rest_divides}
use Rattle.interval_audit.proofs.Best.{cancel_le, cancel_same}

-- ---- fractions in lowest terms

-- what divides multiples of two numbers that only 1 divides divides what they are multiples by
coprime_within : (most a b d times : ℕ) → b ≤ most → ((k : ℕ) → k ∣ a → k ∣ b → k ∣ 1) → d ∣ times * a → d ∣ times * b → d ∣ times
coprime_within most a zero d times within alone of_a of_b =
    let one : a ∣ 1 = alone a (dvd_refl a) (dvd-zero a) in
    let a_is : a ≡ 1 = dvd_antisymm one (one-dvd a) in
    subst (λ n. d ∣ n) (omega arith) (subst (λ n. d ∣ times * n) a_is of_a)
coprime_within zero a (suc b) d times within alone of_a of_b = absurd (omega (arith, within))
coprime_within (suc most) a (suc b) d times within alone of_a of_b =
    let less : a % suc b < suc b = mod-lt a (omega arith) in
    coprime_within most (suc b) (a % suc b) d times (omega (arith, less, within)) rest of_b (rest_divides d times a (suc b) of_a of_b)
  where
    rest : (k : ℕ) → k ∣ suc b → k ∣ a % suc b → k ∣ 1
    rest k of_b of_rest = alone k (subst (λ n. k ∣ n) (div-add-mod a (suc b)) (dvd-add k (dvd-mul_right_of_dvd k of_b (a / suc b)) of_rest)) of_b

den_divides : (n d m e : ℕ) → IsGcd n d 1 → n * e ≡ m * d → d ∣ e
den_divides n d m e lowest same =
    coprime_within d n d d e (omega arith) lowest.2 (subst (λ x. d ∣ x) (sym same ∙ mul_comm n e) (dvd-mul_left d m)) (dvd-mul_left d e)

same_terms : (one other : Ratio) → one.num * other.den ≡ other.num * one.den → (one.num ≡ other.num) × (one.den ≡ other.den)
same_terms one other same =
    let den : one.den ≡ other.den = dvd_antisymm (den_divides one.num one.den other.num other.den one.lowest same) (den_divides other.num other.den one.num one.den other.lowest (sym same)) in
    let whole : pos other.den *ℤ pos one.num ≡ pos other.den *ℤ pos other.num =
    ap pos (mul_comm other.den one.num ∙ same ∙ ap (λ n. other.num * n) den ∙ mul_comm other.num other.den) in
    let num : pos one.num ≡ pos other.num = cancel_same (pos other.den) (pos one.num) (pos other.num) (omega (arith, ints, other.positive)) whole in
    (omega (arith, ints, num), den)

same_text : (one other : Ratio) → one.num * other.den ≡ other.num * one.den → ratio_text one ≡ ratio_text other
same_text one other same = let terms = same_terms one other same in ap₂ fraction_text terms.0 terms.1

-- ---- ends

-- a value v of one world, x / e, and bounds on it, y / f
moved : (v e f w : ℤ) → e *ℤ (v *ℤ f) ≡ f *ℤ (v *ℤ e)
moved v e f w = swap_times e v f ∙ ap (λ z. v *ℤ z) (*ℤ_comm e f) ∙ sym (swap_times f v e)

attained_at : (v e f x w : ℤ) → v *ℤ e ≡ x *ℤ w → e *ℤ (v *ℤ f) ≡ w *ℤ (x *ℤ f)
attained_at v e f x w is = moved v e f w ∙ ap (λ z. f *ℤ z) is ∙ moved x f w w

least_at_most : (v e f x y w : ℤ) → pos 1 ≤ℤ w → pos 0 ≤ℤ e → v *ℤ e ≡ x *ℤ w → (y *ℤ w) ≤ℤ (v *ℤ f) → (y *ℤ e) ≤ℤ (x *ℤ f)
least_at_most v e f x y w up from is bound =
    let lifted = times_up e (y *ℤ w) (v *ℤ f) from bound in
    cancel_le w (y *ℤ e) (x *ℤ f) up (omega (arith, ints, lifted, moved y e w w, attained_at v e f x w is))

greatest_at_least : (v e f x y w : ℤ) → pos 1 ≤ℤ w → pos 0 ≤ℤ e → v *ℤ e ≡ x *ℤ w → (v *ℤ f) ≤ℤ (y *ℤ w) → (x *ℤ f) ≤ℤ (y *ℤ e)
greatest_at_least v e f x y w up from is bound =
    let lifted = times_up e (v *ℤ f) (y *ℤ w) from bound in
    cancel_le w (x *ℤ f) (y *ℤ e) up (omega (arith, ints, lifted, moved y e w w, attained_at v e f x w is))

least_below : (system : System) (cells : List Cell) (flags : List Bool) (number : ℕ) (known : Cell) (one other : Ratio) → IsLeastValue system cells flags number known one → IsLeastValue system cells flags number known other → other.num * one.den ≤ one.num * other.den
least_below system cells flags number known one other first second =
    let at = first.attained in
    let least = least_at_most (value_over at.0 known (at.1 number)) (pos one.den) (pos other.den) (pos one.num) (pos other.num) at.0 at.2.positive (omega (arith, ints)) at.3 (second.least at.0 at.1 at.2) in
    omega (arith, ints, least)

least_text : (system : System) (cells : List Cell) (flags : List Bool) (number : ℕ) (known : Cell) (one other : Ratio) → IsLeastValue system cells flags number known one → IsLeastValue system cells flags number known other → ratio_text one ≡ ratio_text other
least_text system cells flags number known one other first second =
    same_text one other (omega (arith, least_below system cells flags number known one other first second, least_below system cells flags number known other one second first))

greatest_above : (system : System) (cells : List Cell) (flags : List Bool) (number : ℕ) (known : Cell) (one other : Ratio) → IsGreatestValue system cells flags number known one → IsGreatestValue system cells flags number known other → one.num * other.den ≤ other.num * one.den
greatest_above system cells flags number known one other first second =
    let at = first.attained in
    let most = greatest_at_least (value_over at.0 known (at.1 number)) (pos one.den) (pos other.den) (pos one.num) (pos other.num) at.0 at.2.positive (omega (arith, ints)) at.3 (second.greatest at.0 at.1 at.2) in
    omega (arith, ints, most)

greatest_text : (system : System) (cells : List Cell) (flags : List Bool) (number : ℕ) (known : Cell) (one other : Ratio) → IsGreatestValue system cells flags number known one → IsGreatestValue system cells flags number known other → ratio_text one ≡ ratio_text other
greatest_text system cells flags number known one other first second =
    same_text one other (omega (arith, greatest_above system cells flags number known one other first second, greatest_above system cells flags number known other one second first))

-- an upper end is not open where there is a greatest value
never_both : (system : System) (cells : List Cell) (flags : List Bool) (number : ℕ) (known : Cell) (high : Ratio) → IsUpperEnd system cells flags number known (At high) → IsUpperEnd system cells flags number known Open → ⊥
never_both system cells flags number known high end lies =
    let w : ℤ = lies.0 in
    let e : ℤ = pos high.den in
    let x : ℤ = pos high.num in
    let t : ℤ = known.truth +ℤ pos (2 ^ 110) in
    let bound : (value_over w known (lies.1 number) *ℤ e) ≤ℤ (x *ℤ w) = end.0.greatest w lies.1 lies.2 in
    let value : value_over w known (lies.1 number) *ℤ e ≡ w *ℤ (e *ℤ t) = ap (λ z. z *ℤ e) lies.3 ∙ assoc w t e ∙ ap (λ z. w *ℤ z) (*ℤ_comm t e) in
    let more : (w *ℤ x) <ℤ (w *ℤ (e *ℤ t)) = times_more w x (e *ℤ t) lies.2.positive end.1 in
    omega (arith, ints, bound, value, more, *ℤ_comm x w)

upper_same : (system : System) (cells : List Cell) (flags : List Bool) (number : ℕ) (known : Cell) (one other : UpperEnd) → IsUpperEnd system cells flags number known one → IsUpperEnd system cells flags number known other → upper_text one ≡ upper_text other
upper_same system cells flags number known (At one) (At other) first second = greatest_text system cells flags number known one other first.0 second.0
upper_same system cells flags number known (At one) Open first second = absurd (never_both system cells flags number known one first second)
upper_same system cells flags number known Open (At other) first second = absurd (never_both system cells flags number known other second first)
upper_same system cells flags number known Open Open first second = refl

-- ---- lines

line_same : (system : System) (cells : List Cell) (flags : List Bool) (one other : CellInterval) → one.cell ≡ other.cell → IsIntervalOf system cells flags one → IsIntervalOf system cells flags other → line_text one ≡ line_text other
line_same system cells flags one other number first second =
    let found : slice_get cells one.cell ≡ Some second.cell = subst (λ c. slice_get cells c ≡ Some second.cell) (sym number) second.known in
    let known : second.cell ≡ first.cell = let both = first.known in cc in
    let low : IsLeastValue system cells flags one.cell first.cell other.low = subst (λ c. IsLeastValue system cells flags c first.cell other.low) (sym number) (subst (λ k. IsLeastValue system cells flags other.cell k other.low) known second.low) in
    let high : IsUpperEnd system cells flags one.cell first.cell other.high = subst (λ c. IsUpperEnd system cells flags c first.cell other.high) (sym number) (subst (λ k. IsUpperEnd system cells flags other.cell k other.high) known second.high) in
    ap (λ n. decimal n ++ codes "," ++ ratio_text one.low ++ codes "," ++ upper_text one.high ++ codes "\n") number
    ∙ ap₂ (λ (l h : List ℕ). decimal other.cell ++ codes "," ++ l ++ codes "," ++ h ++ codes "\n") (least_text system cells flags one.cell first.cell one.low other.low first.low low) (upper_same system cells flags one.cell first.cell one.high other.high first.high high)

lines_same : (system : System) (cells : List Cell) (flags : List Bool) (one other : List CellInterval) → map (λ interval. interval.cell) one ≡ map (λ interval. interval.cell) other → All (IsIntervalOf system cells flags) one → All (IsIntervalOf system cells flags) other → flat_map line_text one ≡ flat_map line_text other
lines_same system cells flags [] [] numbers first second = refl
lines_same system cells flags [] (y ∷ ys) numbers first second = absurd cc
lines_same system cells flags (x ∷ xs) [] numbers first second = absurd cc
lines_same system cells flags (x ∷ xs) (y ∷ ys) numbers first second =
    let P : CellInterval → Type 0 = IsIntervalOf system cells flags in
    let number : x.cell ≡ y.cell = cc in
    let rest : map (λ (interval : CellInterval). interval.cell) xs ≡ map (λ (interval : CellInterval). interval.cell) ys = cc in
    ap₂ (λ (line lines : List ℕ). line ++ lines) (line_same system cells flags x y number (All-head P x xs first) (All-head P y ys second)) (lines_same system cells flags xs ys rest (All-tail P x xs first) (All-tail P y ys second))

pub file_is_one : FileIsOne
file_is_one system cells flags one other first second =
    ap (λ (lines : List ℕ). codes "cell,low,high\n" ++ lines) (lines_same system cells flags one other (first.numbers ∙ sym second.numbers) first.each second.each)

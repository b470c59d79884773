-- Multiples of a base next to a truth.
use Rattle.std.proofs.Common.{◌≡◌, ◌↔◌, IsTrue, ℕ, zero, suc, ◌+◌, ◌<◌, ◌≤◌, List, [], ◌∷◌, All, length, slice_index_or, int_lt, inl, inr, Bool, true, false, ℤ, pos, negsuc, neg_ℤ, unsigned_abs, ◌+ℤ◌, ◌-ℤ◌, ◌*ℤ◌, ◌<ℤ◌, ◌≤ℤ◌, int_div, arith, ap, sym, ◌∙◌, subst}
use Rattle.std.specs.Int.RustNames.{int_rem}
use Rattle.std.specs.Ordering.{int_eq}
use Rattle.std.proofs.Math.Nat.{eq-or-lt_of_le}
use Rattle.std.proofs.lemmas.Bool.Decides.{Decides-int_eq}
use Rattle.std.proofs.lemmas.List.{get_or-map, get_or_default}
use Rattle.sdc_base.specs.declared.cell.Cell.{Cell}
use Rattle.sdc_base.specs.Systems.{number_at}
use Rattle.std.proofs.Math.IntN.{*ℤ_comm}
use Rattle.std.proofs.lemmas.Int.{ints, quot-rem, rem_below}
use Rattle.sdc_base.specs.Roundings.{IsAdjacent, IsMultiple}
use Rattle.sdc_base.proofs.WholeNumbers.{distrib, minus_times, below_from_times}
use Rattle.rounding_audit.specs.ReaderFaults.{AreRoundedBelow, IsRoundedAt, truths_of}

-- ---- multiples

record IsBetween (n : ℕ) (r : ℤ) : Type 0 where
  above : neg_ℤ (pos n) <ℤ r
  below : r <ℤ pos n

between : (n : ℕ) (r : ℤ) → unsigned_abs r < n → IsBetween n r
between n (pos m) h = record { above = omega (arith, ints, h); below = omega (arith, ints, h) }
between n (negsuc m) h = record { above = omega (arith, ints, h); below = omega (arith, ints, h) }

rest_between : (base value : ℤ) → pos 1 ≤ℤ base → (neg_ℤ base <ℤ int_rem value base) × (int_rem value base <ℤ base)
rest_between (pos zero) value some = absurd (omega (arith, ints, some))
rest_between (pos (suc n)) value some = let is = between (suc n) (int_rem value (pos (suc n))) (rem_below value (pos (suc n)) (omega arith)) in (is.above, is.below)
rest_between (negsuc n) value some = absurd (omega (arith, ints, some))

none_between : (base d r : ℤ) → pos 1 ≤ℤ base → base *ℤ d ≡ r → neg_ℤ base <ℤ r → r <ℤ base → r ≡ pos 0
none_between base d r some is above below =
    let under : d <ℤ pos 1 = below_from_times base d (pos 1) some (omega (arith, ints, is, below)) in
    let over : negsuc 0 <ℤ d = below_from_times base (negsuc 0) d some (omega (arith, ints, is, above)) in
    let none : d ≡ pos 0 = omega (arith, ints, under, over) in
    sym is ∙ ap (λ z. base *ℤ z) none ∙ omega (arith, ints)

-- a multiple leaves no rest
pub no_rest : (base value : ℤ) → pos 1 ≤ℤ base → IsMultiple base value → int_rem value base ≡ pos 0
no_rest base value some multiple =
    let times : ℤ = multiple.0 in
    let is : value ≡ times *ℤ base = multiple.1 in
    let q : ℤ = int_div value base in
    let r : ℤ = int_rem value base in
    let whole : q *ℤ base +ℤ r ≡ value = quot-rem value base in
    let taken : base *ℤ neg_ℤ q ≡ neg_ℤ (q *ℤ base) = *ℤ_comm base (neg_ℤ q) ∙ minus_times q base in
    let given : base *ℤ times ≡ times *ℤ base = *ℤ_comm base times in
    let rest : base *ℤ (times +ℤ neg_ℤ q) ≡ r = omega (arith, ints, distrib base times (neg_ℤ q), whole, taken, given, is) in
    let bounds = rest_between base value some in
    none_between base (times +ℤ neg_ℤ q) r some rest bounds.0 bounds.1

-- and what leaves none is one
pub multiple : (base value : ℤ) → int_rem value base ≡ pos 0 → IsMultiple base value
multiple base value none = (int_div value base, omega (arith, ints, quot-rem value base, none))

-- ---- adjacent values

less : (x y : ℤ) → int_lt x y ≡ true → x <ℤ y
less x y is = grind (arith, ints, is)

is_less : (x y : ℤ) → x <ℤ y → int_lt x y ≡ true
is_less x y within = grind (arith, ints, within)

pub not_multiple : (base truth value : ℤ) → pos 1 ≤ℤ base → int_eq (int_rem value base) (pos 0) ≡ false → ¬ IsAdjacent base truth value
not_multiple base truth value some not = λ is. (let own : int_eq (int_rem value base) (pos 0) ≡ true = (Decides-int_eq (int_rem value base) (pos 0)).1 (no_rest base value some is.multiple) in
    let clash : false ≡ true = sym not ∙ own in cc)

pub not_above : (base truth value : ℤ) → int_lt (truth -ℤ base) value ≡ false → ¬ IsAdjacent base truth value
not_above base truth value not = λ is. (let clash : false ≡ true = sym not ∙ is_less (truth -ℤ base) value is.not_below in cc)

pub adjacent_by : (base truth value : ℤ) (near : Bool) → int_eq (int_rem value base) (pos 0) ≡ true → int_lt (truth -ℤ base) value ≡ true → near ≡ int_lt value (truth +ℤ base) → (IsTrue near ↔ IsAdjacent base truth value)
adjacent_by base truth value near whole over is = (
  (λ yes. record { multiple = multiple base value ((Decides-int_eq (int_rem value base) (pos 0)).0 whole); not_below = less (truth -ℤ base) value over; not_above = less value (truth +ℤ base) (sym is ∙ yes) }),
  (λ own. is ∙ is_less value (truth +ℤ base) own.not_above),
)

-- a value next to a truth from 0 is from 0, since no multiple lies between
pub from_zero : (base truth value : ℤ) → pos 1 ≤ℤ base → pos 0 ≤ℤ truth → IsAdjacent base truth value → pos 0 ≤ℤ value
from_zero base truth value some truth_from is =
    let over : (base *ℤ negsuc 0) <ℤ (base *ℤ is.multiple.0) = omega (arith, ints, is.not_below, is.multiple.1, truth_from, *ℤ_comm base is.multiple.0) in
    let times : negsuc 0 <ℤ is.multiple.0 = below_from_times base (negsuc 0) is.multiple.0 some over in
    by is.multiple.0 times (is.multiple.1)
  where
    by : (times : ℤ) → negsuc 0 <ℤ times → value ≡ times *ℤ base → pos 0 ≤ℤ value
    by (pos n) more same = base_by base some same
      where
        base_by : (b : ℤ) → pos 1 ≤ℤ b → value ≡ pos n *ℤ b → pos 0 ≤ℤ value
        base_by (pos m) up same = omega (arith, ints, same)
        base_by (negsuc m) up same = absurd (omega (arith, ints, up))
    by (negsuc n) more same = absurd (omega (arith, ints, more))

-- ---- cells one by one

pub truth_at : (cells : List Cell) (number : ℕ) (d : Cell) → number < length cells → number_at (truths_of cells) number ≡ (slice_index_or cells number d).truth
truth_at cells number d inside = get_or-map (λ (cell : Cell). cell.truth) cells number d (pos 0) inside

pub value_at : (values : List ℤ) (number : ℕ) (d : ℤ) → number < length values → number_at values number ≡ slice_index_or values number d
value_at values number d inside = get_or_default values number (pos 0) d inside

pub rounded_at : (cells : List Cell) (values : List ℤ) (base : ℤ) (number : ℕ) (own : Cell) (e : ℤ) (says : Bool) → number < length cells → length values ≡ length cells → own ≡ slice_index_or cells number own → says ≡ true → (IsTrue says ↔ IsAdjacent base own.truth (slice_index_or values number e)) → IsRoundedAt cells values base number
rounded_at cells values base number own e says inside each here is told =
    subst (λ t. IsAdjacent base t (number_at values number)) (ap (λ (cell : Cell). cell.truth) here ∙ sym (truth_at cells number own inside))
    (subst (λ v. IsAdjacent base own.truth v) (sym (value_at values number e (omega (arith, inside, each)))) (told.0 is))

pub own_rounded : (cells : List Cell) (values : List ℤ) (base : ℤ) (number : ℕ) (own : Cell) (e : ℤ) → number < length cells → length values ≡ length cells → own ≡ slice_index_or cells number own → IsRoundedAt cells values base number → IsAdjacent base own.truth (slice_index_or values number e)
own_rounded cells values base number own e inside each here is =
    subst (λ t. IsAdjacent base t (slice_index_or values number e)) (truth_at cells number own inside ∙ sym (ap (λ (cell : Cell). cell.truth) here))
    (subst (λ v. IsAdjacent base (number_at (truths_of cells) number) v) (value_at values number e (omega (arith, inside, each))) is)

pub unrounded_at : (cells : List Cell) (values : List ℤ) (base : ℤ) (number : ℕ) (own : Cell) (e : ℤ) (says : Bool) → number < length cells → length values ≡ length cells → own ≡ slice_index_or cells number own → says ≡ false → (IsTrue says ↔ IsAdjacent base own.truth (slice_index_or values number e)) → ¬ IsRoundedAt cells values base number
unrounded_at cells values base number own e says inside each here not told =
    λ is. (let yes_is : says ≡ true = told.1 (own_rounded cells values base number own e inside each here is) in let clash : false ≡ true = sym not ∙ yes_is in cc)

-- one cell more
pub rounded_next : (cells : List Cell) (values : List ℤ) (base : ℤ) (number : ℕ) → AreRoundedBelow cells values base number → IsRoundedAt cells values base number → AreRoundedBelow cells values base (number + 1)
rounded_next cells values base number before own other within =
    elim (eq-or-lt_of_le {n = other} {m = number} (omega (arith, within))) as (λ _. IsRoundedAt cells values base other) [
      | inl same ↦ subst (λ k. IsRoundedAt cells values base k) (sym same) own
      | inr less ↦ before other less
    ]

pub rounded_all : (cells : List Cell) (values : List ℤ) (base : ℤ) (number most : ℕ) → most ≤ number → AreRoundedBelow cells values base number → AreRoundedBelow cells values base most
rounded_all cells values base number most within before other less = before other (omega (arith, within, less))

-- ---- values from 0

truth_from_zero : (cells : List Cell) (number : ℕ) → pos 0 ≤ℤ number_at (truths_of cells) number
truth_from_zero [] number = omega (arith, ints)
truth_from_zero (cell ∷ cells) zero = omega (arith, ints, cell.low_from_zero, cell.low_within)
truth_from_zero (cell ∷ cells) (suc number) = truth_from_zero cells number

pub all_from_zero : (cells : List Cell) (values : List ℤ) (base : ℤ) → pos 1 ≤ℤ base → length values ≡ length cells → AreRoundedBelow cells values base (length cells) → All (λ value. pos 0 ≤ℤ value) values
all_from_zero cells values base some each rounded =
    λ number d inside.
    subst (λ z. pos 0 ≤ℤ z) (value_at values number d inside)
    (from_zero base (number_at (truths_of cells) number) (number_at values number) some (truth_from_zero cells number) (rounded number (omega (arith, inside, each))))

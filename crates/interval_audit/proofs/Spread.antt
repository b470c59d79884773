-- What entries at the columns of a group come to, and their coefficients.
use Rattle.std.proofs.Common.{◌≡◌, ℕ, ◌+◌, ◌*◌, ◌<◌, ◌==◌, Bool, true, false, List, [], ◌∷◌, ℤ, pos, neg_ℤ, ◌+ℤ◌, ◌-ℤ◌, ◌*ℤ◌, arith, refl, ap, sym, ◌∙◌, if◌then◌else◌, All}
use Rattle.std.specs.List.{flat_map}
use Rattle.std.specs.Ordering.{int_eq}
use Rattle.std.proofs.Math.IntN.{*ℤ_comm}
use Rattle.std.proofs.lemmas.Int.{ints}
use Rattle.std.proofs.lemmas.Bool.Decides.{Decides-eqb, Decides-int_eq, nat_tests}
use Rattle.sdc_base.specs.Totals.{sum_of, sum_below}
use Rattle.sdc_base.specs.Forms.{Term, coefficient}
use Rattle.sdc_base.specs.Systems.{Numbers}
use Rattle.sdc_base.proofs.WholeNumbers.{distrib, minus_times}
use Rattle.sdc_base.proofs.TotalLemmas.{sum_of-cons, sum_of-append, sum_below-same, only}
use Rattle.sdc_base.proofs.WeakDual.{value_of, by_cells}
use Rattle.interval_audit.specs.Points.{comes_to}
use Rattle.interval_audit.specs.Groups.{Group, members}
use Rattle.interval_audit.specs.Columns.{rank, up_column, down_column, moves_of, entries_for, entries_of}
use Rattle.interval_audit.proofs.Ranks.{sum_members, rank-same}

-- ---- sums over lists put together

pub sum_flat : {X Y : Type 0} (f : Y → ℤ) (g : X → List Y) (xs : List X) → sum_of f (flat_map g xs) ≡ sum_of (λ x. sum_of f (g x)) xs
sum_flat f g [] = refl
sum_flat f g (x ∷ xs) = sum_of-append f (g x) (flat_map g xs) ∙ omega (arith, ints, sum_flat f g xs, sum_of-cons (λ x. sum_of f (g x)) x xs)

-- a sum of two
pub sum_two : {X : Type 0} (f : X → ℤ) (x y : X) → sum_of f (x ∷ y ∷ []) ≡ f x +ℤ f y
sum_two f x y = omega (arith, ints, sum_of-cons f x (y ∷ []), sum_of-cons f y [])

-- ---- what entries come to

pub times_minus : (k a : ℤ) → k *ℤ neg_ℤ a ≡ neg_ℤ (k *ℤ a)
times_minus k a = *ℤ_comm k (neg_ℤ a) ∙ minus_times a k ∙ ap neg_ℤ (*ℤ_comm a k)

pub times_less : (k a b : ℤ) → k *ℤ (a -ℤ b) ≡ k *ℤ a -ℤ k *ℤ b
times_less k a b = omega (arith, ints, distrib k a (neg_ℤ b), times_minus k b)

for_comes_to : (group : Group) (amounts : Numbers) (cell : ℕ) (k : ℤ) → comes_to amounts (entries_for group cell k) ≡ k *ℤ (amounts (up_column group cell) -ℤ amounts (down_column group cell))
for_comes_to group amounts cell k =
    elim (int_eq k (pos 0)) as (λ b. int_eq k (pos 0) ≡ b → comes_to amounts (if b then [] else (up_column group cell, k) ∷ (down_column group cell, neg_ℤ k) ∷ []) ≡ k *ℤ (amounts (up_column group cell) -ℤ amounts (down_column group cell))) [
      | true ↦ λ is.
          let none : k ≡ pos 0 = (Decides-int_eq k (pos 0)).0 is in
          rw none (omega (arith, ints, *ℤ_comm (pos 0) (amounts (up_column group cell) -ℤ amounts (down_column group cell))))
      | false ↦ λ is.
          sum_two (λ (t : Term). t.1 *ℤ amounts t.0) (up_column group cell, k) (down_column group cell, neg_ℤ k)
          ∙ omega (arith, ints, times_less k (amounts (up_column group cell)) (amounts (down_column group cell)), minus_times k (amounts (down_column group cell)))
    ] refl

-- entries come to the multiples of the moves
pub entries_come_to : (group : Group) (n : ℕ) (amounts : Numbers) (terms : List Term) → comes_to amounts (entries_of group n terms) ≡ sum_below n (λ c. coefficient terms c *ℤ moves_of group amounts c)
entries_come_to group n amounts terms =
    let each : Numbers = λ c. coefficient terms c *ℤ (amounts (up_column group c) -ℤ amounts (down_column group c)) in
    sum_flat (λ (t : Term). t.1 *ℤ amounts t.0) (λ cell. entries_for group cell (coefficient terms cell)) (members group n)
    ∙ sum_members group (λ cell. comes_to amounts (entries_for group cell (coefficient terms cell))) n
    ∙ sum_below-same n (λ c. if group c then comes_to amounts (entries_for group c (coefficient terms c)) else pos 0) (λ c. coefficient terms c *ℤ moves_of group amounts c)
    (λ c below. elim (group c) as (λ b. (if b then comes_to amounts (entries_for group c (coefficient terms c)) else pos 0) ≡ coefficient terms c *ℤ (if b then amounts (up_column group c) -ℤ amounts (down_column group c) else pos 0)) [
      | true ↦ for_comes_to group amounts c (coefficient terms c)
      | false ↦ omega (arith, ints, *ℤ_comm (coefficient terms c) (pos 0))
    ])

-- where the multiples name cells below n, the value of these on the moves
pub entries_are_value : (group : Group) (n : ℕ) (amounts : Numbers) (terms : List Term) → All (λ (t : Term). t.0 < n) terms → comes_to amounts (entries_of group n terms) ≡ value_of (moves_of group amounts) terms
entries_are_value group n amounts terms inside = entries_come_to group n amounts terms ∙ by_cells n (moves_of group amounts) terms inside

-- ---- coefficients at the columns of a cell

-- which columns are one
twice_same : (a b : ℕ) → (2 * a == 2 * b) ≡ (a == b)
twice_same a b = grind (arith, nat_tests)

twice_next : (a b : ℕ) → (2 * a + 1 == 2 * b + 1) ≡ (a == b)
twice_next a b = grind (arith, nat_tests)

odd_even : (a b : ℕ) → (2 * a + 1 == 2 * b) ≡ false
odd_even a b = grind (arith, nat_tests)

even_odd : (a b : ℕ) → (2 * a == 2 * b + 1) ≡ false
even_odd a b = grind (arith, nat_tests)

turned : (a b : ℕ) → (a == b) ≡ (b == a)
turned a b = grind (arith, nat_tests)

pub up_up : (group : Group) (d c : ℕ) → group d ≡ true → group c ≡ true → (up_column group d == up_column group c) ≡ (d == c)
up_up group d c one other = twice_same (rank group d) (rank group c) ∙ rank-same group d c one other

pub down_down : (group : Group) (d c : ℕ) → group d ≡ true → group c ≡ true → (down_column group d == down_column group c) ≡ (d == c)
down_down group d c one other = twice_next (rank group d) (rank group c) ∙ rank-same group d c one other

pub down_up : (group : Group) (d c : ℕ) → (down_column group d == up_column group c) ≡ false
down_up group d c = odd_even (rank group d) (rank group c)

pub up_down : (group : Group) (d c : ℕ) → (up_column group d == down_column group c) ≡ false
up_down group d c = even_odd (rank group d) (rank group c)

-- the entries of a list put together count at a column those of one cell alone
pub flat_at : (group : Group) (n : ℕ) (entries : ℕ → List Term) (f : Numbers) (column c : ℕ) → c < n → group c ≡ true → ((d : ℕ) → group d ≡ true → coefficient (entries d) column ≡ (if c == d then f d else pos 0)) → coefficient (flat_map entries (members group n)) column ≡ f c
flat_at group n entries f column c below is each =
    sum_flat (λ (t : Term). if t.0 == column then t.1 else pos 0) entries (members group n)
    ∙ sum_members group (λ d. coefficient (entries d) column) n
    ∙ sum_below-same n (λ d. if group d then coefficient (entries d) column else pos 0) (λ d. if c == d then f d else pos 0) (λ d inside. by d (group d) refl)
    ∙ only n c f below
  where
    by : (d : ℕ) (b : Bool) → group d ≡ b → (if b then coefficient (entries d) column else pos 0) ≡ (if c == d then f d else pos 0)
    by d true own = each d own
    by d false own =
        elim (c == d) as (λ b. (c == d) ≡ b → pos 0 ≡ (if b then f d else pos 0)) [
          | true ↦ λ same. absurd (let eq : c ≡ d = (Decides-eqb c d).0 same in let no : true ≡ false = sym is ∙ ap group eq ∙ own in cc)
          | false ↦ λ same. refl
        ] refl

-- a pair of entries at the columns of one cell
pair_up : (group : Group) (c d : ℕ) (x y : ℤ) → group c ≡ true → group d ≡ true → coefficient ((up_column group d, x) ∷ (down_column group d, y) ∷ []) (up_column group c) ≡ (if c == d then x else pos 0)
pair_up group c d x y one other =
    let same : (up_column group d == up_column group c) ≡ (c == d) = up_up group d c other one ∙ turned d c in
    let apart : (down_column group d == up_column group c) ≡ false = odd_even (rank group d) (rank group c) in
    sum_two (λ (t : Term). if t.0 == up_column group c then t.1 else pos 0) (up_column group d, x) (down_column group d, y)
    ∙ ap (λ b. (if b then x else pos 0) +ℤ (if down_column group d == up_column group c then y else pos 0)) same
    ∙ ap (λ b. (if c == d then x else pos 0) +ℤ (if b then y else pos 0)) apart
    ∙ omega (arith, ints)

pair_down : (group : Group) (c d : ℕ) (x y : ℤ) → group c ≡ true → group d ≡ true → coefficient ((up_column group d, x) ∷ (down_column group d, y) ∷ []) (down_column group c) ≡ (if c == d then y else pos 0)
pair_down group c d x y one other =
    let same : (down_column group d == down_column group c) ≡ (c == d) = down_down group d c other one ∙ turned d c in
    let apart : (up_column group d == down_column group c) ≡ false = even_odd (rank group d) (rank group c) in
    sum_two (λ (t : Term). if t.0 == down_column group c then t.1 else pos 0) (up_column group d, x) (down_column group d, y)
    ∙ ap (λ b. (if up_column group d == down_column group c then x else pos 0) +ℤ (if b then y else pos 0)) same
    ∙ ap (λ b. (if b then x else pos 0) +ℤ (if c == d then y else pos 0)) apart
    ∙ omega (arith, ints)

-- no entries where the multiple is 0 count as such entries of 0
for_counts : (group : Group) (d column : ℕ) (k : ℤ) → coefficient (entries_for group d k) column ≡ coefficient ((up_column group d, k) ∷ (down_column group d, neg_ℤ k) ∷ []) column
for_counts group d column k =
    elim (int_eq k (pos 0)) as (λ b. int_eq k (pos 0) ≡ b → coefficient (if b then [] else (up_column group d, k) ∷ (down_column group d, neg_ℤ k) ∷ []) column ≡ coefficient ((up_column group d, k) ∷ (down_column group d, neg_ℤ k) ∷ []) column) [
      | true ↦ λ is.
          let none : k ≡ pos 0 = (Decides-int_eq k (pos 0)).0 is in
          let zero_up : (if up_column group d == column then pos 0 else pos 0) ≡ pos 0 = either (up_column group d == column) in
          let zero_down : (if down_column group d == column then neg_ℤ (pos 0) else pos 0) ≡ pos 0 = either (down_column group d == column) in
          rw none (sym (sum_two (λ (t : Term). if t.0 == column then t.1 else pos 0) (up_column group d, pos 0) (down_column group d, neg_ℤ (pos 0)) ∙ omega (arith, ints, zero_up, zero_down)))
      | false ↦ λ is. refl
    ] refl
  where
    either : (b : Bool) → (if b then pos 0 else pos 0) ≡ pos 0
    either true = refl
    either false = refl

pub entries_up : (group : Group) (n c : ℕ) (terms : List Term) → c < n → group c ≡ true → coefficient (entries_of group n terms) (up_column group c) ≡ coefficient terms c
entries_up group n c terms below is =
    flat_at group n (λ cell. entries_for group cell (coefficient terms cell)) (coefficient terms) (up_column group c) c below is
    (λ d own. for_counts group d (up_column group c) (coefficient terms d) ∙ pair_up group c d (coefficient terms d) (neg_ℤ (coefficient terms d)) is own)

pub entries_down : (group : Group) (n c : ℕ) (terms : List Term) → c < n → group c ≡ true → coefficient (entries_of group n terms) (down_column group c) ≡ neg_ℤ (coefficient terms c)
entries_down group n c terms below is =
    flat_at group n (λ cell. entries_for group cell (coefficient terms cell)) (λ d. neg_ℤ (coefficient terms d)) (down_column group c) c below is
    (λ d own. for_counts group d (down_column group c) (coefficient terms d) ∙ pair_down group c d (coefficient terms d) (neg_ℤ (coefficient terms d)) is own)

-- amounts for the two columns of each cell
abbrev pub spread : Group → ℕ → Numbers → Numbers → List Term
spread group n ups downs = flat_map (λ d. (up_column group d, ups d) ∷ (down_column group d, downs d) ∷ []) (members group n)

pub spread_up : (group : Group) (n c : ℕ) (ups downs : Numbers) → c < n → group c ≡ true → coefficient (spread group n ups downs) (up_column group c) ≡ ups c
spread_up group n c ups downs below is =
    flat_at group n (λ d. (up_column group d, ups d) ∷ (down_column group d, downs d) ∷ []) ups (up_column group c) c below is (λ d own. pair_up group c d (ups d) (downs d) is own)

pub spread_down : (group : Group) (n c : ℕ) (ups downs : Numbers) → c < n → group c ≡ true → coefficient (spread group n ups downs) (down_column group c) ≡ downs c
spread_down group n c ups downs below is =
    flat_at group n (λ d. (up_column group d, ups d) ∷ (down_column group d, downs d) ∷ []) downs (down_column group c) c below is (λ d own. pair_down group c d (ups d) (downs d) is own)

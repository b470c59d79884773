-- Forms cell by cell: what one cell's change does, and what lies between the extremes.
use Rattle.std.proofs.Common.{◌≡◌, ◌⊎◌, inl, inr, ℕ, ◌<◌, ◌==◌, Bool, true, false, ℤ, pos, ◌+ℤ◌, ◌*ℤ◌, ◌≤ℤ◌, int_lt, arith, refl, ap, sym, ◌∙◌, if◌then◌else◌}
use Rattle.std.proofs.lemmas.Int.{ints, by_lt_z}
use Rattle.std.proofs.lemmas.Bool.Decides.{Decides-eqb}
use Rattle.sdc_base.specs.declared.relation.Relation.{Relation}
use Rattle.sdc_base.specs.Forms.{count_of}
use Rattle.sdc_base.specs.Systems.{Numbers, form, NamesCells}
use Rattle.sdc_base.proofs.WholeNumbers.{distrib, times_up, times_down}
use Rattle.sdc_base.proofs.TotalLemmas.{sum_below-add, sum_below-le, sum_below-same, only}
use Rattle.signed_network.proofs.Balances.{form_by_cells}
use Rattle.rounding.specs.Extremes.{extreme_numbers, extreme_of_form, change, ExtremesAreBounds}

-- what a cell adds to a form
abbrev added : Relation → Numbers → Numbers
added r numbers cell = count_of r cell *ℤ numbers cell

-- ---- one cell changes

changed : (r : Relation) (before after : Numbers) (cell c : ℕ) (by : ℤ) → after c ≡ before c +ℤ (if cell == c then by else pos 0) → added r after c ≡ added r before c +ℤ (if cell == c then count_of r c *ℤ by else pos 0)
changed r before after cell c by is =
    ap (λ z. count_of r c *ℤ z) is ∙ distrib (count_of r c) (before c) (if cell == c then by else pos 0)
    ∙ ap (λ z. added r before c +ℤ z) (inside (cell == c) (count_of r c))
  where
    inside : (b : Bool) (k : ℤ) → k *ℤ (if b then by else pos 0) ≡ (if b then k *ℤ by else pos 0)
    inside true k = refl
    inside false k = omega (arith, ints)

pub form_changed : (n : ℕ) (before after : Numbers) (r : Relation) (cell : ℕ) (by : ℤ) → NamesCells n r → cell < n → ((c : ℕ) → after c ≡ before c +ℤ (if cell == c then by else pos 0)) → form after r ≡ form before r +ℤ count_of r cell *ℤ by
form_changed n before after r cell by named below is =
    form_by_cells n after r named
    ∙ sum_below-same n (added r after) (λ c. added r before c +ℤ (if cell == c then count_of r c *ℤ by else pos 0)) (λ c inside. changed r before after cell c by (is c))
    ∙ sum_below-add n (added r before) (λ c. if cell == c then count_of r c *ℤ by else pos 0)
    ∙ omega (arith, ints, form_by_cells n before r named, only n cell (λ c. count_of r c *ℤ by) below)

-- a cell's numbers change by so much each
abbrev pub Changed : ℕ → ℤ → Numbers → Numbers → Type 0
Changed cell by before after = (c : ℕ) → after c ≡ before c +ℤ (if cell == c then by else pos 0)

one_mixed : (by_one by_other : ℤ) (p q e : Bool) (a b : ℤ) → (e ≡ true → p ≡ q) → (if p then a +ℤ (if e then by_one else pos 0) else b +ℤ (if e then by_other else pos 0)) ≡ (if p then a else b) +ℤ (if e then (if q then by_one else by_other) else pos 0)
one_mixed by_one by_other true true e a b same = refl
one_mixed by_one by_other true false true a b same = absurd (let clash : true ≡ false = same refl in cc)
one_mixed by_one by_other true false false a b same = refl
one_mixed by_one by_other false true true a b same = absurd (let clash : false ≡ true = same refl in cc)
one_mixed by_one by_other false true false a b same = refl
one_mixed by_one by_other false false e a b same = refl

mixed_changed : (r : Relation) (cell : ℕ) (by_one by_other : ℤ) (one other one' other' : Numbers) → Changed cell by_one one one' → Changed cell by_other other other' → Changed cell (if int_lt (pos 0) (count_of r cell) then by_one else by_other) (extreme_numbers r one other) (extreme_numbers r one' other')
mixed_changed r cell by_one by_other one other one' other' first second c =
    (λ i. if int_lt (pos 0) (count_of r c) then first c i else second c i)
    ∙ one_mixed by_one by_other (int_lt (pos 0) (count_of r c)) (int_lt (pos 0) (count_of r cell)) (cell == c) (one c) (other c)
    (λ is. ap (λ k. int_lt (pos 0) (count_of r k)) (sym ((Decides-eqb cell c).0 is)))

-- where a cell's numbers change, the extreme of a form changes by what the form counts of it
pub extreme_changed : (n : ℕ) (r : Relation) (cell : ℕ) (by_one by_other : ℤ) (one other one' other' : Numbers) → NamesCells n r → cell < n → Changed cell by_one one one' → Changed cell by_other other other' → extreme_of_form one' other' r ≡ extreme_of_form one other r +ℤ change r cell by_one by_other
extreme_changed n r cell by_one by_other one other one' other' named below first second =
    form_changed n (extreme_numbers r one other) (extreme_numbers r one' other') r cell (if int_lt (pos 0) (count_of r cell) then by_one else by_other) named below
    (mixed_changed r cell by_one by_other one other one' other' first second)

-- ---- between the extremes

least_added : (k lower x upper : ℤ) → lower ≤ℤ x → x ≤ℤ upper → (k *ℤ (if int_lt (pos 0) k then lower else upper)) ≤ℤ (k *ℤ x)
least_added k lower x upper low high =
    by_lt_z (pos 0) k
    (λ up. let test : int_lt (pos 0) k ≡ true = grind (arith, ints) in rw test (times_up k lower x (omega (arith, ints)) low))
    (λ not_up. let test : int_lt (pos 0) k ≡ false = grind (arith, ints) in rw test (times_down k x upper not_up high))

most_added : (k lower x upper : ℤ) → lower ≤ℤ x → x ≤ℤ upper → (k *ℤ x) ≤ℤ (k *ℤ (if int_lt (pos 0) k then upper else lower))
most_added k lower x upper low high =
    by_lt_z (pos 0) k
    (λ up. let test : int_lt (pos 0) k ≡ true = grind (arith, ints) in rw test (times_up k x upper (omega (arith, ints)) high))
    (λ not_up. let test : int_lt (pos 0) k ≡ false = grind (arith, ints) in rw test (times_down k lower x not_up low))

-- these numbers lie between lower and upper ones
abbrev pub Between : Numbers → Numbers → Numbers → Type 0
Between lower upper numbers = (c : ℕ) → (lower c ≤ℤ numbers c) × (numbers c ≤ℤ upper c)

pub least_is : (n : ℕ) (r : Relation) (lower upper numbers : Numbers) → NamesCells n r → Between lower upper numbers → extreme_of_form lower upper r ≤ℤ form numbers r
least_is n r lower upper numbers named between =
    let sums = sum_below-le n (added r (extreme_numbers r lower upper)) (added r numbers) (λ c inside. least_added (count_of r c) (lower c) (numbers c) (upper c) (between c).0 (between c).1) in
    omega (arith, ints, sums, form_by_cells n numbers r named, form_by_cells n (extreme_numbers r lower upper) r named)

pub greatest_is : (n : ℕ) (r : Relation) (lower upper numbers : Numbers) → NamesCells n r → Between lower upper numbers → form numbers r ≤ℤ extreme_of_form upper lower r
greatest_is n r lower upper numbers named between =
    let sums = sum_below-le n (added r numbers) (added r (extreme_numbers r upper lower)) (λ c inside. most_added (count_of r c) (lower c) (numbers c) (upper c) (between c).0 (between c).1) in
    omega (arith, ints, sums, form_by_cells n numbers r named, form_by_cells n (extreme_numbers r upper lower) r named)

-- where each cell has one number, the extremes are the form
pub extreme_same : (r : Relation) (numbers : Numbers) → extreme_of_form numbers numbers r ≡ form numbers r
extreme_same r numbers = ap (λ (x : Numbers). form x r) (λ i c. alike (int_lt (pos 0) (count_of r c)) (numbers c) i)
  where
    alike : (b : Bool) (z : ℤ) → (if b then z else z) ≡ z
    alike true z = refl
    alike false z = refl

pub extremes_are_bounds : ExtremesAreBounds
extremes_are_bounds = record {
  least = λ cells r lower upper numbers named between. least_is cells r lower upper numbers named between;
  greatest = λ cells r lower upper numbers named between. greatest_is cells r lower upper numbers named between;
  taken = λ r one other. (extreme_numbers r one other, (λ cell. either (int_lt (pos 0) (count_of r cell)) (one cell) (other cell)), refl);
}
  where
    either : (b : Bool) (x y : ℤ) → ((if b then x else y) ≡ x) ⊎ ((if b then x else y) ≡ y)
    either true x y = inl refl
    either false x y = inr refl

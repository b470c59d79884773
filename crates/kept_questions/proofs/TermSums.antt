-- Numbers at places of lists.
use Rattle.std.proofs.Common.{◌≡◌, ◌≢◌, ℕ, suc, ◌+◌, ◌<◌, ◌==◌, ◌&&◌, not, nat_lt, Bool, true, false, List, [], ◌∷◌, ◌++◌, length, take, get_or, ℤ, pos, negsuc, ◌+ℤ◌, ◌-ℤ◌, ◌*ℤ◌, ◌≤ℤ◌, arith, refl, ap, sym, subst, ◌∙◌, IsPermutation, sum_by, if◌then◌else◌}
use Rattle.std.specs.Ordering.{int_eq}
use Rattle.std.proofs.lemmas.Int.{ints}
use Rattle.std.proofs.lemmas.Bool.Decides.{Decides-eqb, Decides-int_eq, nat_tests}
use Rattle.std.proofs.lemmas.List.{take_more}
use Rattle.std.proofs.lemmas.List.Sorted.{sum_by-IsPermutation}
use Rattle.std.proofs.lemmas.List.Sums.{sum_by-cons}
use Rattle.sdc_base.specs.Forms.{Term, coefficient}
use Rattle.sdc_base.specs.Totals.{sum_of}
use Rattle.sdc_base.proofs.TotalLemmas.{sum_of-cons, sum_of-append}
use Rattle.tableau.specs.OptimalPairs.{IsNotBelowZeros}
use Rattle.tableau.specs.ProblemForm.{AscendFrom}
use Rattle.sdc_base.proofs.WholeNumbers.{distrib}
use Rattle.tableau.proofs.Ascending.{none_below}
use Rattle.tableau.proofs.DualNumbers.{times_none}
use Rattle.kept_questions.specs.TermLists.{ascends, first_number}

-- ---- one term more

pub cons_at : (term : Term) (terms : List Term) (i : ℕ) → coefficient (term ∷ terms) i ≡ (if term.0 == i then term.1 else pos 0) +ℤ coefficient terms i
cons_at term terms i = sum_of-cons (λ (t : Term). if t.0 == i then t.1 else pos 0) term terms

pub one_at : (term : Term) (i : ℕ) → coefficient (term ∷ []) i ≡ (if term.0 == i then term.1 else pos 0)
one_at term i = omega (arith, ints, cons_at term [] i)

pub append_at : (xs ys : List Term) (i : ℕ) → coefficient (xs ++ ys) i ≡ coefficient xs i +ℤ coefficient ys i
append_at xs ys i = sum_of-append (λ (t : Term). if t.0 == i then t.1 else pos 0) xs ys

pub next_at : (terms : List Term) (k i : ℕ) (d : Term) → k < length terms → coefficient (take (k + 1) terms) i ≡ coefficient (take k terms) i +ℤ (if (get_or terms k d).0 == i then (get_or terms k d).1 else pos 0)
next_at terms k i d inside = ap (λ ts. coefficient ts i) (take_more terms k d inside) ∙ append_at (take k terms) (get_or terms k d ∷ []) i ∙ ap (λ z. coefficient (take k terms) i +ℤ z) (one_at (get_or terms k d) i)

pub times_if : (b : Bool) (times number : ℤ) → (if b then times *ℤ number else pos 0) ≡ times *ℤ (if b then number else pos 0)
times_if true times number = refl
times_if false times number = sym (times_none times)

pub sum_if : (b : Bool) (one other : ℤ) → (if b then one +ℤ other else pos 0) ≡ (if b then one else pos 0) +ℤ (if b then other else pos 0)
sum_if true one other = refl
sum_if false one other = refl

-- so many times one term more of a list, put behind others
pub push_next : (old before after list : List Term) (times number : ℤ) (k i : ℕ) (d : Term) → k < length list → number ≡ times *ℤ (get_or list k d).1 → after ≡ before ++ ((get_or list k d).0, number) ∷ [] →
    coefficient before i ≡ coefficient old i +ℤ times *ℤ coefficient (take k list) i → coefficient after i ≡ coefficient old i +ℤ times *ℤ coefficient (take (k + 1) list) i
push_next old before after list times number k i d inside is pushed done =
    let t : Term = get_or list k d in
    let more : coefficient after i ≡ coefficient before i +ℤ (if t.0 == i then number else pos 0) = ap (λ ts. coefficient ts i) pushed ∙ append_at before ((t.0, number) ∷ []) i ∙ ap (λ z. coefficient before i +ℤ z) (one_at (t.0, number) i) in
    let own : (if t.0 == i then number else pos 0) ≡ times *ℤ (if t.0 == i then t.1 else pos 0) = ap (λ (z : ℤ). if t.0 == i then z else pos 0) is ∙ times_if (t.0 == i) times t.1 in
    let next : times *ℤ coefficient (take (k + 1) list) i ≡ times *ℤ coefficient (take k list) i +ℤ times *ℤ (if t.0 == i then t.1 else pos 0) = ap (λ z. times *ℤ z) (next_at list k i d inside) ∙ distrib times (coefficient (take k list) i) (if t.0 == i then t.1 else pos 0) in
    omega (arith, ints, more, own, next, done)

-- one term more of a list, added
pub add_next : (before list : List Term) (k i : ℕ) (d : Term) → k < length list → coefficient before i ≡ coefficient (take k list) i → coefficient before i +ℤ coefficient (((get_or list k d).0, (get_or list k d).1) ∷ []) i ≡ coefficient (take (k + 1) list) i
add_next before list k i d inside done =
    let t : Term = get_or list k d in
    omega (arith, ints, done, one_at (t.0, t.1) i, next_at list k i d inside)

-- a term with the last one's place is added to it
pub last_added : (front : List Term) (place : ℕ) (one other : ℤ) (i : ℕ) → coefficient (front ++ (place, one +ℤ other) ∷ []) i ≡ coefficient (front ++ (place, one) ∷ []) i +ℤ coefficient ((place, other) ∷ []) i
last_added front place one other i =
    omega (arith, ints, append_at front ((place, one +ℤ other) ∷ []) i, append_at front ((place, one) ∷ []) i, one_at (place, one +ℤ other) i, one_at (place, one) i, one_at (place, other) i, sum_if (place == i) one other)

-- ---- in another order

abbrev above : ℤ → ℕ
above (pos n) = n
above (negsuc n) = 0

abbrev beneath : ℤ → ℕ
beneath (pos n) = 0
beneath (negsuc n) = suc n

apart : (z : ℤ) → z ≡ pos (above z) -ℤ pos (beneath z)
apart (pos n) =
    let one : above (pos n) ≡ n = refl in
    let none : beneath (pos n) ≡ 0 = refl in
    omega (arith, ints, one, none)
apart (negsuc n) =
    let none : above (negsuc n) ≡ 0 = refl in
    let one : beneath (negsuc n) ≡ suc n = refl in
    omega (arith, ints, one, none)

two_sums : {X : Type 0} (f : X → ℤ) (xs : List X) → sum_of f xs ≡ pos (sum_by (λ x. above (f x)) xs) -ℤ pos (sum_by (λ x. beneath (f x)) xs)
two_sums f [] = refl
two_sums f (x ∷ xs) =
    omega (arith, ints, sum_of-cons f x xs, apart (f x), two_sums f xs, sum_by-cons (λ y. above (f y)) x xs, sum_by-cons (λ y. beneath (f y)) x xs)

pub reordered : {X : Type 0} (f : X → ℤ) (xs ys : List X) → IsPermutation xs ys → sum_of f ys ≡ sum_of f xs
reordered f xs ys is =
    omega (arith, ints, two_sums f xs, two_sums f ys, sum_by-IsPermutation (λ x. above (f x)) xs ys is, sum_by-IsPermutation (λ x. beneath (f x)) xs ys is)

pub reordered_at : (xs ys : List Term) (i : ℕ) → IsPermutation xs ys → coefficient ys i ≡ coefficient xs i
reordered_at xs ys i is = reordered (λ (t : Term). if t.0 == i then t.1 else pos 0) xs ys is

-- ---- the first number that isn't 0

and_both : (a b : Bool) → (not a && b) ≡ true → (a ≡ false) × (b ≡ true)
and_both true b is = absurd cc
and_both false b is = (refl, is)

ascending : (least : ℕ) (terms : List Term) → ascends least terms ≡ true → AscendFrom least terms
ascending least [] is = tt
ascending least (term ∷ terms) is =
    let both = and_both (nat_lt term.0 least) (ascends (term.0 + 1) terms) is in
    let test : nat_lt term.0 least ≡ false = both.0 in
    (grind (arith, nat_tests), subst (λ n. AscendFrom n terms) (let e : term.0 + 1 ≡ suc term.0 = omega arith in e) (ascending (term.0 + 1) terms both.1))

at_own : (term : Term) (terms : List Term) (least : ℕ) → AscendFrom least (term ∷ terms) → coefficient (term ∷ terms) term.0 ≡ term.1
at_own term terms least are =
    let test : (term.0 == term.0) ≡ true = (Decides-eqb term.0 term.0).1 refl in
    let head : (if term.0 == term.0 then term.1 else pos 0) ≡ term.1 = rw test refl in
    omega (arith, ints, cons_at term terms term.0, head, none_below (suc term.0) term.0 terms are.1 (omega arith))

at_other : (term : Term) (terms : List Term) (i : ℕ) → (term.0 == i) ≡ false → coefficient (term ∷ terms) i ≡ coefficient terms i
at_other term terms i test =
    let head : (if term.0 == i then term.1 else pos 0) ≡ pos 0 = rw test refl in
    omega (arith, ints, cons_at term terms i, head)

first_above : (size : ℕ) (least : ℕ) (terms : List Term) → AscendFrom least terms → pos 0 ≤ℤ first_number terms → IsNotBelowZeros size (coefficient terms)
first_above size least [] are first i inside before = omega (arith, ints)
first_above size least (term ∷ terms) are first i inside before =
    elim (term.0 == i) as (λ b. (term.0 == i) ≡ b → pos 0 ≤ℤ coefficient (term ∷ terms) i) [
      | true ↦ λ same.
          let is : term.0 ≡ i = (Decides-eqb term.0 i).0 same in
          let own : coefficient (term ∷ terms) i ≡ term.1 = sym (ap (coefficient (term ∷ terms)) is) ∙ at_own term terms least are in
          let from : pos 0 ≤ℤ term.1 = elim (int_eq term.1 (pos 0)) as (λ b. int_eq term.1 (pos 0) ≡ b → pos 0 ≤ℤ (if b then first_number terms else term.1) → pos 0 ≤ℤ term.1) [
            | true ↦ λ zeros _. let none : term.1 ≡ pos 0 = (Decides-int_eq term.1 (pos 0)).0 zeros in omega (arith, ints, none)
            | false ↦ λ _ up. up
          ] refl first in
          omega (arith, ints, own, from)
      | false ↦ λ other.
          elim (nat_lt i term.0) as (λ b. nat_lt i term.0 ≡ b → pos 0 ≤ℤ coefficient (term ∷ terms) i) [
            | true ↦ λ less.
                let below : i < suc term.0 = grind (arith, nat_tests) in
                omega (arith, ints, at_other term terms i other, none_below (suc term.0) i terms are.1 below)
            | false ↦ λ more.
                let past : term.0 < i = let not_same : term.0 ≢ i = (λ same. let no : true ≡ false = sym ((Decides-eqb term.0 i).1 same) ∙ other in absurd cc) in grind (arith, nat_tests) in
                let none : term.1 ≡ pos 0 = sym (at_own term terms least are) ∙ before term.0 past in
                let rest : pos 0 ≤ℤ first_number terms = sub_first ((Decides-int_eq term.1 (pos 0)).1 none) first in
                let before_in : (j : ℕ) → j < i → coefficient terms j ≡ pos 0 = λ j less.
                elim (term.0 == j) as (λ b. (term.0 == j) ≡ b → coefficient terms j ≡ pos 0) [
                  | true ↦ λ same. none_below (suc term.0) j terms are.1 (let is : term.0 ≡ j = (Decides-eqb term.0 j).0 same in omega (arith, is))
                  | false ↦ λ differ. sym (at_other term terms j differ) ∙ before j less
                ] refl in
                omega (arith, ints, at_other term terms i other, first_above size (suc term.0) terms are.1 rest i inside before_in)
          ] refl
    ] refl
  where
    sub_first : int_eq term.1 (pos 0) ≡ true → pos 0 ≤ℤ (if int_eq term.1 (pos 0) then first_number terms else term.1) → pos 0 ≤ℤ first_number terms
    sub_first is up = subst (λ b. pos 0 ≤ℤ (if b then first_number terms else term.1)) is up

pub not_below : (size : ℕ) (terms : List Term) → ascends 0 terms ≡ true → pos 0 ≤ℤ first_number terms → IsNotBelowZeros size (coefficient terms)
not_below size terms are first = first_above size 0 terms (ascending 0 terms are) first

pub all_zeros : (terms : List Term) (i : ℕ) → first_number terms ≡ pos 0 → coefficient terms i ≡ pos 0
all_zeros [] i none = refl
all_zeros (term ∷ terms) i none =
    elim (int_eq term.1 (pos 0)) as (λ b. int_eq term.1 (pos 0) ≡ b → (if b then first_number terms else term.1) ≡ pos 0 → coefficient (term ∷ terms) i ≡ pos 0) [
      | true ↦ λ same rest.
          let own : term.1 ≡ pos 0 = (Decides-int_eq term.1 (pos 0)).0 same in
          omega (arith, ints, cons_at term terms i, zero_if (term.0 == i) term.1 own, all_zeros terms i rest)
      | false ↦ λ differ is. let no : true ≡ false = sym ((Decides-int_eq term.1 (pos 0)).1 is) ∙ differ in absurd cc
    ] refl none
  where
    zero_if : (b : Bool) (z : ℤ) → z ≡ pos 0 → (if b then z else pos 0) ≡ pos 0
    zero_if true z is = is
    zero_if false z is = refl

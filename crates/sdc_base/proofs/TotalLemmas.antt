-- Sums over lists and over the numbers below a number.
use Rattle.std.proofs.Common.{◌≡◌, ℕ, zero, suc, ◌<◌, ◌==◌, true, false, List, [], ◌∷◌, ◌++◌, map, fold, ℤ, pos, ◌+ℤ◌, ◌*ℤ◌, ◌≤ℤ◌, ◌≤◌, arith, refl, ap, if◌then◌else◌}
use Rattle.std.proofs.lemmas.Int.{ints}
use Rattle.std.proofs.lemmas.Bool.Decides.{Decides-eqb, nat_tests}
use Rattle.sdc_base.proofs.WholeNumbers.{distrib}
use Rattle.sdc_base.specs.Totals.{sum_of, sum_below}

sum_from : {X : Type 0} (f : X → ℤ) (a : ℤ) (xs : List X) → fold (λ sum x. sum +ℤ f x) a xs ≡ a +ℤ sum_of f xs
sum_from f a [] = omega (arith, ints)
sum_from f a (x ∷ xs) = omega (arith, ints, sum_from f (a +ℤ f x) xs, sum_from f (pos 0 +ℤ f x) xs)

pub sum_of-cons : {X : Type 0} (f : X → ℤ) (x : X) (xs : List X) → sum_of f (x ∷ xs) ≡ f x +ℤ sum_of f xs
sum_of-cons f x xs = omega (arith, ints, sum_from f (pos 0 +ℤ f x) xs)

pub sum_of-append : {X : Type 0} (f : X → ℤ) (xs ys : List X) → sum_of f (xs ++ ys) ≡ sum_of f xs +ℤ sum_of f ys
sum_of-append f [] ys = omega (arith, ints)
sum_of-append f (x ∷ xs) ys = omega (arith, ints, sum_of-append f xs ys, sum_of-cons f x xs, sum_of-cons f x (xs ++ ys))

pub sum_below-add : (n : ℕ) (f g : ℕ → ℤ) → sum_below n (λ k. f k +ℤ g k) ≡ sum_below n f +ℤ sum_below n g
sum_below-add zero f g = omega (arith, ints)
sum_below-add (suc n) f g = omega (arith, ints, sum_below-add n f g)

pub sum_below-times : (n : ℕ) (k : ℤ) (f : ℕ → ℤ) → sum_below n (λ c. k *ℤ f c) ≡ k *ℤ sum_below n f
sum_below-times zero k f = omega (arith, ints)
sum_below-times (suc n) k f = omega (arith, ints, sum_below-times n k f, distrib k (sum_below n f) (f n))

pub sum_below-le : (n : ℕ) (f g : ℕ → ℤ) → ((c : ℕ) → c < n → f c ≤ℤ g c) → sum_below n f ≤ℤ sum_below n g
sum_below-le zero f g h = omega (arith, ints)
sum_below-le (suc n) f g h = omega (arith, ints, sum_below-le n f g (λ c below. h c (omega arith)), h n (omega arith))

pub sum_below-same : (n : ℕ) (f g : ℕ → ℤ) → ((c : ℕ) → c < n → f c ≡ g c) → sum_below n f ≡ sum_below n g
sum_below-same zero f g h = refl
sum_below-same (suc n) f g h = omega (arith, ints, sum_below-same n f g (λ c below. h c (omega arith)), h n (omega arith))

pub times_sum : {X : Type 0} (k : ℤ) (f : X → ℤ) (xs : List X) → sum_of (λ x. k *ℤ f x) xs ≡ k *ℤ sum_of f xs
times_sum k f [] = omega (arith, ints)
times_sum k f (x ∷ xs) = omega (arith, ints, times_sum k f xs, ap (λ s. k *ℤ s) (sum_of-cons f x xs), sum_of-cons (λ x. k *ℤ f x) x xs, distrib k (f x) (sum_of f xs))

pub sum_of-map : {X Y : Type 0} (f : Y → ℤ) (g : X → Y) (xs : List X) → sum_of f (map g xs) ≡ sum_of (λ x. f (g x)) xs
sum_of-map f g [] = refl
sum_of-map f g (x ∷ xs) = omega (arith, ints, sum_of-map f g xs, sum_of-cons f (g x) (map g xs), sum_of-cons (λ x. f (g x)) x xs)

-- of the numbers below n, one alone counts
only_none : (n cell : ℕ) (f : ℕ → ℤ) → n ≤ cell → sum_below n (λ c. if cell == c then f c else pos 0) ≡ pos 0
only_none zero cell f h = refl
only_none (suc n) cell f h = let other : (cell == n) ≡ false = grind (arith, nat_tests) in rw other (omega (arith, ints, only_none n cell f (omega arith)))

pub only : (n cell : ℕ) (f : ℕ → ℤ) → cell < n → sum_below n (λ c. if cell == c then f c else pos 0) ≡ f cell
only zero cell f h = absurd (omega arith)
only (suc n) cell f h =
    elim (cell == n) as (λ b. (cell == n) ≡ b → sum_below n (λ c. if cell == c then f c else pos 0) +ℤ (if b then f n else pos 0) ≡ f cell) [
      | true ↦ λ is. let same : cell ≡ n = (Decides-eqb cell n).0 is in omega (arith, ints, only_none n cell f (omega arith), ap f same)
      | false ↦ λ is. let less : cell < n = grind (arith, nat_tests, is) in omega (arith, ints, only n cell f less)
    ] refl

-- Sums of whole numbers, over a list and over the numbers below a number (own).
use Rattle.std.specs.Prelude.{ℕ, zero, suc, List, fold, ℤ, pos, ◌+ℤ◌}

-- the sum of f over a list
abbrev pub sum_of : {X : Type 0} → (X → ℤ) → List X → ℤ
sum_of f xs = fold (λ sum x. sum +ℤ f x) (pos 0) xs

-- the sum of f over the numbers below n
abbrev pub sum_below : ℕ → (ℕ → ℤ) → ℤ
sum_below zero f = pos 0
sum_below (suc n) f = sum_below n f +ℤ f n

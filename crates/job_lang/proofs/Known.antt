-- What is known of a value that steps give.
use Rattle.std.proofs.Common.{◌≡◌, ℕ, ◌≤◌, Bool, true, false, cond, List, [], ◌∷◌, ◌++◌, Option, None, Some, Result, Ok, Err, refl, ap, subst, arith}
use Rattle.std.specs.Prelude.{nat_le, ◌&&◌}
use Rattle.std.specs.Result.{IfOk}
use Rattle.std.specs.List.{AllByRecursion}
use Rattle.sdc_base.specs.Steps.{◌>>=◌, or_fault, refuse}
use Rattle.sdc_base.specs.Tokens.{number_in}

-- what holds of each value that a step gives, and of each that the next then gives
pub then_known : {A B F : Type 0} (P : B → Type 0) (r : Result A F) (f : A → Result B F) → ((x : A) → r ≡ Ok x → IfOk (f x) P) → IfOk (r >>= f) P
then_known P (Ok x) f h = h x refl
then_known P (Err e) f h = tt

-- what holds of each value holds of this one
pub known : {A F : Type 0} (P : A → Type 0) (r : Result A F) (x : A) → IfOk r P → r ≡ Ok x → P x
known P r x h is = subst (λ r. IfOk r P) is h

-- one of two
pub either_known : {A F : Type 0} (P : A → Type 0) (t : Bool) (r s : Result A F) → IfOk r P → IfOk s P → IfOk (cond t r s) P
either_known P true r s h g = h
either_known P false r s h g = g

-- a fault that didn't come
pub not_refused : {F : Type 0} (fault : F) (wrong : Bool) (t : Unit {0}) → refuse fault wrong ≡ Ok t → wrong ≡ false
not_refused fault true t h = absurd cc
not_refused fault false t h = refl

-- a value that was there
pub was_some : {A F : Type 0} (fault : F) (o : Option A) (x : A) → or_fault fault o ≡ Ok x → o ≡ Some x
was_some {A} fault None x h = absurd cc
was_some {A} fault (Some y) x h = let same : y ≡ x = cc in ap (λ (z : A). Some z) same

number_range' : (x : Bool) (low high d n : ℕ) → ◌≡◌ {A = Option ℕ} (cond (x && (nat_le low d && nat_le d high)) (Some d) None) (Some n) → (low ≤ n) × (n ≤ high)
number_range' x low high d n h = grind arith

-- a number that was read is in its bounds
pub number_range : (low high : ℕ) (digits : List ℕ) (n : ℕ) → number_in low high digits ≡ Some n → (low ≤ n) × (n ≤ high)
number_range low high digits n h = number_range' _ low high _ n h

-- one more at the end
pub all_and_last : {A : Type 0} (P : A → Type 0) (xs : List A) (x : A) → AllByRecursion P xs → P x → AllByRecursion P (xs ++ x ∷ [])
all_and_last P [] x all h = (h, tt)
all_and_last P (y ∷ xs) x all h = (all.0, all_and_last P xs x all.1 h)

-- a value is what it is
pub same_value : {A F : Type 0} (x y : A) → ◌≡◌ {A = Result A F} (Ok x) (Ok y) → x ≡ y
same_value x y h = cc

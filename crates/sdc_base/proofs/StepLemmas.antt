-- Lemmas on steps that give a value or a fault.
use Rattle.std.proofs.Common.{◌≡◌, ◌⊎◌, inl, inr, Result, Ok, Err, refl, ap}
use Rattle.std.specs.Result.{IfOk}
use Rattle.sdc_base.specs.Steps.{◌>>=◌, map_ok}

pub bind_same : {A B F : Type 0} (r : Result A F) (f g : A → Result B F) → ((x : A) → f x ≡ g x) → (r >>= f) ≡ (r >>= g)
bind_same (Ok x) f g h = h x
bind_same (Err e) f g h = refl

pub map_bind : {A B C F : Type 0} (h : B → C) (r : Result A F) (f : A → Result B F) → map_ok h (r >>= f) ≡ (r >>= λ x. map_ok h (f x))
map_bind h (Ok x) f = refl
map_bind h (Err e) f = refl

-- the value of a step that did not fail
pub bind_ok : {A B F : Type 0} (r : Result A F) (f : A → Result B F) (y : B) → (r >>= f) ≡ Ok y → (x : A) × (r ≡ Ok x) × (f x ≡ Ok y)
bind_ok (Ok x) f y e = (x, refl, e)
bind_ok (Err d) f y e = absurd cc

-- the step that failed
pub bind_err : {A B F : Type 0} (r : Result A F) (f : A → Result B F) (e : F) → (r >>= f) ≡ Err e → (r ≡ Err e) ⊎ ((x : A) × (r ≡ Ok x) × (f x ≡ Err e))
bind_err (Ok x) f e h = inr (x, refl, h)
bind_err (Err d) f e h = inl (let same : d ≡ e = cc in ap Err same)

-- what holds of every value that the next step can give holds of the value of both
pub then_all : {A B F : Type 0} (P : B → Type 0) (r : Result A F) (f : A → Result B F) → ((x : A) → IfOk (f x) P) → IfOk (r >>= f) P
then_all P (Ok x) f h = h x
then_all P (Err e) f h = tt

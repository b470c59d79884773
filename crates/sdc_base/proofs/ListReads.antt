-- Reads of lists.
use Rattle.std.proofs.Common.{◌≡◌, ◌≢◌, ℕ, zero, suc, List, [], ◌∷◌, slice_get, slice_set, slice_index_or, Some, refl, ap, sym, ◌∙◌}
use Rattle.std.specs.Option.{unwrap_or}
use Rattle.std.proofs.lemmas.Option.{unwrap_or-slice_get}

pub read-some : {X : Type 0} (xs : List X) (k : ℕ) (x d : X) → Some x ≡ slice_get xs k → slice_index_or xs k d ≡ x
read-some xs k x d h = sym (unwrap_or-slice_get xs k d) ∙ ap (λ found. unwrap_or found d) (sym h)

-- what is written is read
pub set-here : {X : Type 0} (xs : List X) (k : ℕ) (x y : X) → slice_get xs k ≡ Some x → slice_get (slice_set xs k y) k ≡ Some y
set-here [] k x y h = cc
set-here (z ∷ xs) zero x y h = refl
set-here (z ∷ xs) (suc k) x y h = set-here xs k x y h

-- and all else stays
pub set-there : {X : Type 0} (xs : List X) (k n : ℕ) (y : X) → k ≢ n → slice_get (slice_set xs k y) n ≡ slice_get xs n
set-there [] k n y h = refl
set-there (z ∷ xs) zero zero y h = absurd (h refl)
set-there (z ∷ xs) zero (suc n) y h = refl
set-there (z ∷ xs) (suc k) zero y h = refl
set-there (z ∷ xs) (suc k) (suc n) y h = set-there xs k n y (λ same. h (ap suc same))

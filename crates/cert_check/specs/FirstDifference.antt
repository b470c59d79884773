-- The first place in which two lists differ (own).
use Rattle.std.specs.Prelude.{ℕ, ◌+◌, ◌==◌, ◌&&◌, Bool, true, false, List, [], ◌∷◌, Option, None, Some, if◌then◌else◌}

-- the first place, from this one on, in which two lists differ; a missing or a further entry differs
abbrev pub first_difference : {A B : Type 0} → (A → B → Bool) → ℕ → List A → List B → Option ℕ
first_difference same place [] [] = None
first_difference same place [] (y ∷ ys) = Some place
first_difference same place (x ∷ xs) [] = Some place
first_difference same place (x ∷ xs) (y ∷ ys) = if same x y then first_difference same (place + 1) xs ys else Some place

-- both lists have the same numbers
abbrev pub same_numbers : List ℕ → List ℕ → Bool
same_numbers [] [] = true
same_numbers [] (y ∷ ys) = false
same_numbers (x ∷ xs) [] = false
same_numbers (x ∷ xs) (y ∷ ys) = (x == y) && same_numbers xs ys

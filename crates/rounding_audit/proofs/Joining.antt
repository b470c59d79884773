-- Tokens that are appended one after the other.
use Rattle.std.proofs.Common.{◌≡◌, ℕ, List, [], ◌∷◌, ◌++◌, map, flat_map, refl, ap, sym, append_assoc}
use Rattle.std.specs.List.{join_with_byte}
use Rattle.std.proofs.lemmas.List.{append-nil}
use Rattle.certificate.specs.Texts.{line_text}

-- pieces joined by a mark: the first, and each other behind a mark
join_marked : {X : Type 0} (mark : ℕ) (f : X → List ℕ) (first : List ℕ) (xs : List X) → join_with_byte mark (first ∷ map f xs) ≡ first ++ flat_map (λ x. mark ∷ f x) xs
join_marked mark f first [] = sym (append-nil first)
join_marked mark f first (x ∷ xs) = ap (λ (rest : List ℕ). first ++ mark ∷ rest) (join_marked mark f (f x) xs)

cons_append : {A : Type 0} (x : A) (xs ys : List A) → ◌++◌ {A = A} (x ∷ xs) ys ≡ x ∷ (xs ++ ys)
cons_append x xs ys = refl

nil_append : {A : Type 0} (ys : List A) → ◌++◌ {A = A} [] ys ≡ ys
nil_append ys = refl

pub line_appended : {X : Type 0} (f : X → List ℕ) (text word cell side den : List ℕ) (xs : List X)
    → (((text ++ (word ++ (32 ∷ (cell ++ (32 ∷ side))))) ++ (32 ∷ den)) ++ flat_map (λ x. 32 ∷ f x) xs) ++ (10 ∷ [])
    ≡ text ++ line_text (word ∷ cell ∷ side ∷ den ∷ map f xs)
line_appended f text word cell side den xs = rw (join_marked 32 f den xs) (simp (append_assoc, cons_append))

pub cell_appended : (text cell low high below above : List ℕ)
    → text ++ (cell ++ (44 ∷ (low ++ (44 ∷ (high ++ (44 ∷ (below ++ (44 ∷ (above ++ (10 ∷ []))))))))))
    ≡ text ++ (cell ++ (44 ∷ []) ++ low ++ (44 ∷ []) ++ high ++ (44 ∷ []) ++ below ++ (44 ∷ []) ++ above ++ (10 ∷ []))
cell_appended text cell low high below above = simp (append_assoc, cons_append, nil_append)

-- Lists from which items that have a property are left out.
use Rattle.std.proofs.Common.{◌≡◌, ◌⊎◌, inl, inr, ℕ, zero, suc, ◌≤◌, List, [], ◌∷◌, ◌++◌, take, slice_get, All, Some, ap, subst, arith}
use Rattle.std.proofs.lemmas.List.Elements.{All-nil, All-head, All-tail, All-cons}

-- The one list is what is left of the other, in its order, where items are left out that have a property.
abbrev pub IsThinned : {X : Type 0} → (X → Type 0) → List X → List X → Type 0
IsThinned Is [] left = left ≡ []
IsThinned {X = X} Is (x ∷ xs) left =
    (Is x × IsThinned Is xs left) ⊎ ((rest : List X) × (left ≡ x ∷ rest) × IsThinned Is xs rest)

-- both of two lists are thinned
pub thinned_both : {X : Type 0} (Is : X → Type 0) (xs left ys rest : List X) → IsThinned Is xs left → IsThinned Is ys rest → IsThinned Is (xs ++ ys) (left ++ rest)
thinned_both Is [] left ys rest one two = rw one two
thinned_both {X = X} Is (x ∷ xs) left ys rest one two = elim one [
  | inl out ↦ inl (out.0, thinned_both Is xs left ys rest out.1 two)
  | inr kept ↦ inr (kept.0 ++ rest, ap (λ (l : List X). l ++ rest) kept.1, thinned_both Is xs kept.0 ys rest kept.2 two)
]

-- what holds of those that are left out, and of all that are left, holds of all
pub thinned_all : {X : Type 0} (Is Q : X → Type 0) (xs left : List X) → ((x : X) → Is x → Q x) → IsThinned Is xs left → All Q left → All Q xs
thinned_all Is Q [] left out thinned all = All-nil Q
thinned_all Is Q (x ∷ xs) left out thinned all = elim thinned [
  | inl gone ↦ All-cons Q x xs (out x gone.0) (thinned_all Is Q xs left out gone.1 all)
  | inr kept ↦
      let own : All Q (x ∷ kept.0) = subst (All Q) kept.1 all in
      All-cons Q x xs (All-head Q x kept.0 own) (thinned_all Is Q xs kept.0 out kept.2 (All-tail Q x kept.0 own))
]

-- where an item that is left stood
abbrev pub spot : {X : Type 0} (Is : X → Type 0) (xs left : List X) → IsThinned Is xs left → ℕ → ℕ
spot Is [] left thinned place = 0
spot Is (x ∷ xs) left (inl gone) place = suc (spot Is xs left gone.1 place)
spot Is (x ∷ xs) left (inr kept) zero = 0
spot Is (x ∷ xs) left (inr kept) (suc place) = suc (spot Is xs kept.0 kept.2 place)

pub spot_stands : {X : Type 0} (Is : X → Type 0) (xs left : List X) (thinned : IsThinned Is xs left) (place : ℕ) (x : X) → slice_get left place ≡ Some x → slice_get xs (spot Is xs left thinned place) ≡ Some x
spot_stands Is [] left thinned place x found = absurd (let bad : slice_get [] place ≡ Some x = subst (λ l. slice_get l place ≡ Some x) thinned found in cc)
spot_stands Is (y ∷ xs) left (inl gone) place x found = spot_stands Is xs left gone.1 place x found
spot_stands Is (y ∷ xs) left (inr kept) zero x found = subst (λ l. slice_get l 0 ≡ Some x) kept.1 found
spot_stands Is (y ∷ xs) left (inr kept) (suc place) x found = spot_stands Is xs kept.0 kept.2 place x (subst (λ l. slice_get l (suc place) ≡ Some x) kept.1 found)

-- what holds of those that are left out, and of those that are left before it, holds of all before it
pub spot_before : {X : Type 0} (Is Q : X → Type 0) (xs left : List X) (thinned : IsThinned Is xs left) (place : ℕ) → ((x : X) → Is x → Q x) → All Q (take place left) → All Q (take (spot Is xs left thinned place) xs)
spot_before Is Q [] left thinned place out all = All-nil Q
spot_before Is Q (y ∷ xs) left (inl gone) place out all = All-cons Q y (take (spot Is xs left gone.1 place) xs) (out y gone.0) (spot_before Is Q xs left gone.1 place out all)
spot_before Is Q (y ∷ xs) left (inr kept) zero out all = All-nil Q
spot_before Is Q (y ∷ xs) left (inr kept) (suc place) out all =
    let own : All Q (y ∷ take place kept.0) = subst (λ l. All Q (take (suc place) l)) kept.1 all in
    All-cons Q y (take (spot Is xs kept.0 kept.2 place) xs) (All-head Q y (take place kept.0) own)
    (spot_before Is Q xs kept.0 kept.2 place out (All-tail Q y (take place kept.0) own))

-- in the same order
pub spot_order : {X : Type 0} (Is : X → Type 0) (xs left : List X) (thinned : IsThinned Is xs left) (place later : ℕ) → place ≤ later → spot Is xs left thinned place ≤ spot Is xs left thinned later
spot_order Is [] left thinned place later below = omega arith
spot_order Is (y ∷ xs) left (inl gone) place later below = omega (arith, spot_order Is xs left gone.1 place later below)
spot_order Is (y ∷ xs) left (inr kept) zero later below = omega arith
spot_order Is (y ∷ xs) left (inr kept) (suc place) zero below = absurd (omega (arith, below))
spot_order Is (y ∷ xs) left (inr kept) (suc place) (suc later) below = omega (arith, spot_order Is xs kept.0 kept.2 place later (omega (arith, below)))

-- Records that pass one of two tests, which none passes both.
use Rattle.std.proofs.Common.{◌≡◌, ◌&&◌, ◌||◌, Bool, true, false, cond, List, [], ◌∷◌, ◌++◌, filter, All, refl, ap, sym, ◌∙◌, subst}
use Rattle.std.specs.Prelude.{IsPermutation}
use Rattle.std.proofs.lemmas.List.Elements.{All-head, All-tail}
use Rattle.std.proofs.lemmas.List.Sorted.{IsPermutation-refl, IsPermutation-trans, IsPermutation-cons, IsPermutation-middle}

module _ {X : Type 0} (P : X → Type 0) where
  pub filter-same : (p q : X → Bool) → ((x : X) → P x → p x ≡ q x) → (xs : List X) → All P xs → filter p xs ≡ filter q xs
  filter-same p q same [] all = refl
  filter-same p q same (x ∷ xs) all =
      ap (λ b. cond b (x ∷ filter p xs) (filter p xs)) (same x (All-head P x xs all)) ∙ ap (λ rest. cond (q x) (x ∷ rest) rest) (filter-same p q same xs (All-tail P x xs all))

  pub filter-joined : (p q r : X → Bool) → ((x : X) → P x → r x ≡ (p x || q x)) → ((x : X) → P x → (p x && q x) ≡ false) → (xs : List X) → All P xs → IsPermutation (filter p xs ++ filter q xs) (filter r xs)
  filter-joined p q r either apart [] all = IsPermutation-refl []
  filter-joined p q r either apart (x ∷ xs) all = by (filter-joined p q r either apart xs (All-tail P x xs all)) (p x) (q x) (r x) (either x (All-head P x xs all)) (apart x (All-head P x xs all))
    where
      by : IsPermutation (filter p xs ++ filter q xs) (filter r xs) → (a b c : Bool) → c ≡ (a || b) → (a && b) ≡ false → IsPermutation (cond a (x ∷ filter p xs) (filter p xs) ++ cond b (x ∷ filter q xs) (filter q xs)) (cond c (x ∷ filter r xs) (filter r xs))
      by rest true true c e h = cc
      by rest true false c e h = subst (λ t. IsPermutation (x ∷ filter p xs ++ filter q xs) (cond t (x ∷ filter r xs) (filter r xs))) (sym e) (IsPermutation-cons x _ _ rest)
      by rest false true c e h =
          subst (λ t. IsPermutation (filter p xs ++ x ∷ filter q xs) (cond t (x ∷ filter r xs) (filter r xs))) (sym e)
          (IsPermutation-trans _ _ _ (IsPermutation-middle (filter p xs) x (filter q xs)) (IsPermutation-cons x _ _ rest))
      by rest false false c e h = subst (λ t. IsPermutation (filter p xs ++ filter q xs) (cond t (x ∷ filter r xs) (filter r xs))) (sym e) rest

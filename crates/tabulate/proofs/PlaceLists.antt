-- Lists of codes, read and made code by code.
use Rattle.std.proofs.Common.{◌≡◌, ℕ, zero, suc, ◌+◌, ◌<◌, add-one, arith, insert, length, map, take, get_or, List, [], ◌∷◌, refl, ap, sym, ◌∙◌}
use Rattle.sdc_base.specs.declared.dimension.Dimension.{Dimension}

pub insert-next : (ys xs : List ℕ) (k x : ℕ) → xs ≡ take k ys → k < length ys → x ≡ get_or ys k 0 → insert xs k x ≡ take (k + 1) ys
insert-next ys xs k x begun within item = ap (λ zs. insert zs k x) begun ∙ ap (λ y. insert (take k ys) k y) item ∙ by ys k within ∙ ap (λ n. take n ys) (sym (add-one k))
  where
    by : (ys : List ℕ) (k : ℕ) → k < length ys → insert (take k ys) k (get_or ys k 0) ≡ take (suc k) ys
    by [] k h = absurd (omega (arith, h))
    by (y ∷ ys) zero h = refl
    by (y ∷ ys) (suc k) h = ap (λ zs. y ∷ zs) (by ys k (omega (arith, h)))

-- a dimension for what stands behind the last one
abbrev pub no_dimension : Dimension
no_dimension = record { variable = 0; depth = 0 }

pub mapped-at : (f : Dimension → ℕ) (xs : List Dimension) (k : ℕ) → k < length xs → f (get_or xs k no_dimension) ≡ get_or (map f xs) k 0
mapped-at f [] k h = absurd (omega (arith, h))
mapped-at f (x ∷ xs) zero h = refl
mapped-at f (x ∷ xs) (suc k) h = mapped-at f xs k (omega (arith, h))

pub mapped-long : (f : Dimension → ℕ) (xs : List Dimension) → length (map f xs) ≡ length xs
mapped-long f [] = refl
mapped-long f (x ∷ xs) = ap suc (mapped-long f xs)

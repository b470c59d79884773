-- What holds of all parts of some items holds of those of one more.
use Rattle.std.proofs.Common.{◌≡◌, ℕ, zero, suc, ◌+◌, ◌<◌, List, [], ◌∷◌, ◌++◌, length, take, get_or, flat_map, All, arith, subst, add-one}
use Rattle.std.proofs.lemmas.List.Elements.{All-nil, All-head, All-tail, All-cons, All-append}

-- what holds of two lists in a row holds of each
All-left : {X : Type 0} (P : X → Type 0) (xs ys : List X) → All P (xs ++ ys) → All P xs
All-left P [] ys all = All-nil P
All-left P (x ∷ xs) ys all = All-cons P x xs (All-head P x (xs ++ ys) all) (All-left P xs ys (All-tail P x (xs ++ ys) all))

All-right : {X : Type 0} (P : X → Type 0) (xs ys : List X) → All P (xs ++ ys) → All P ys
All-right P [] ys all = all
All-right P (x ∷ xs) ys all = All-right P xs ys (All-tail P x (xs ++ ys) all)

All-suc : {X Y : Type 0} (P : Y → Type 0) (f : X → List Y) (xs : List X) (i : ℕ) (x : X) → i < length xs → x ≡ get_or xs i x → All P (flat_map f (take i xs)) → All P (f x) → All P (flat_map f (take (suc i) xs))
All-suc P f [] i x within is front own = absurd (omega (arith, within))
All-suc P f (y ∷ xs) zero x within is front own = All-append P (f y) [] (subst (λ z. All P (f z)) is own) (All-nil P)
All-suc P f (y ∷ xs) (suc i) x within is front own =
    All-append P (f y) (flat_map f (take (suc i) xs)) (All-left P (f y) (flat_map f (take i xs)) front)
    (All-suc P f xs i x (omega (arith, within)) is (All-right P (f y) (flat_map f (take i xs)) front) own)

-- what holds of the parts so far and of those of one more holds of all of these
pub All-more : {X Y : Type 0} (P : Y → Type 0) (f : X → List Y) (xs : List X) (i : ℕ) (x : X) → i < length xs → x ≡ get_or xs i x → All P (flat_map f (take i xs)) → All P (f x) → All P (flat_map f (take (i + 1) xs))
All-more P f xs i x within is front own = rw add-one (All-suc P f xs i x within is front own)

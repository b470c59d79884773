-- Members of a list, and choices of a member of each list.
use Rattle.std.proofs.Common.{◌≡◌, ◌⊎◌, inl, inr, zero, suc, List, [], ◌∷◌, ◌++◌, map, refl, ap, sym, subst, arith}
use Rattle.std.specs.List.{AllByRecursion, Contains, flat_map}
use Rattle.sdc_base.specs.Cubes.{choices}
use Rattle.hypercube.proofs.AllOf.{all-flat, all-map, all-more}
use Rattle.hypercube.proofs.LeastLaw.{contains-first, contains-more}

-- it is one of them
abbrev pub Among : {X : Type 0} → List X → X → Type 0
Among [] x = ⊥
Among (y ∷ ys) x = (x ≡ y) ⊎ Among ys x

pub all-among : {X : Type 0} (P : X → Type 0) (xs : List X) (x : X) → AllByRecursion P xs → Among xs x → P x
all-among P [] x all among = absurd among
all-among P (y ∷ ys) x (here, all) (inl same) = subst P (sym same) here
all-among P (y ∷ ys) x (here, all) (inr among) = all-among P ys x all among

pub all-itself : {X : Type 0} (xs : List X) → AllByRecursion (Among xs) xs
all-itself [] = tt
all-itself (x ∷ xs) = (inl refl, all-more (Among xs) (Among (x ∷ xs)) xs (λ y among. inr among) (all-itself xs))

pub contains-among : {X : Type 0} (xs : List X) (x : X) → Contains xs x → Among xs x
contains-among [] x (k, inside, at) = absurd (omega (arith, inside))
contains-among (y ∷ ys) x (zero, inside, at) = inl (sym at)
contains-among (y ∷ ys) x (suc k, inside, at) = inr (contains-among ys x (k, omega (arith, inside), at))

pub among-contains : {X : Type 0} (xs : List X) (x : X) → Among xs x → Contains xs x
among-contains [] x among = absurd among
among-contains (y ∷ ys) x (inl same) = subst (λ z. Contains (y ∷ ys) z) (sym same) (contains-first y ys)
among-contains (y ∷ ys) x (inr among) = contains-more y x ys (among-contains ys x among)

-- ---- choices

among-left : {X : Type 0} (xs ys : List X) (x : X) → Among xs x → Among (xs ++ ys) x
among-left [] ys x among = absurd among
among-left (y ∷ xs) ys x (inl same) = inl same
among-left (y ∷ xs) ys x (inr among) = inr (among-left xs ys x among)

among-right : {X : Type 0} (xs ys : List X) (x : X) → Among ys x → Among (xs ++ ys) x
among-right [] ys x among = among
among-right (y ∷ xs) ys x among = inr (among-right xs ys x among)

among-map : {X Y : Type 0} (f : X → Y) (xs : List X) (x : X) → Among xs x → Among (map f xs) (f x)
among-map f [] x among = absurd among
among-map f (y ∷ xs) x (inl same) = inl (ap f same)
among-map f (y ∷ xs) x (inr among) = inr (among-map f xs x among)

among-flat : {X Y : Type 0} (f : X → List Y) (xs : List X) (x : X) (y : Y) → Among xs x → Among (f x) y → Among (flat_map f xs) y
among-flat f [] x y among at = absurd among
among-flat f (z ∷ xs) x y (inl same) at = among-left (f z) (flat_map f xs) y (subst (λ one. Among (f one) y) same at)
among-flat f (z ∷ xs) x y (inr among) at = among-right (f z) (flat_map f xs) y (among-flat f xs x y among at)

-- one of each
abbrev pub Picks : {X : Type 0} → List (List X) → List X → Type 0
Picks [] [] = Unit {0}
Picks [] (x ∷ xs) = ⊥
Picks (each ∷ more) [] = ⊥
Picks (each ∷ more) (x ∷ xs) = Among each x × Picks more xs

pub choices-pick : {X : Type 0} (lists : List (List X)) → AllByRecursion (Picks lists) (choices lists)
choices-pick [] = (tt, tt)
choices-pick (each ∷ more) =
    all-flat (Picks (each ∷ more)) (λ one. map (λ others. one ∷ others) (choices more)) each
    (all-more (Among each) (λ one. AllByRecursion (Picks (each ∷ more)) (map (λ others. one ∷ others) (choices more))) each
    (λ one here. all-map (Picks (each ∷ more)) (λ others. one ∷ others) (choices more) (all-more (Picks more) (λ others. Picks (each ∷ more) (one ∷ others)) (choices more) (λ others later. (here, later)) (choices-pick more)))
    (all-itself each))

pub picks-among : {X : Type 0} (lists : List (List X)) (xs : List X) → Picks lists xs → Among (choices lists) xs
picks-among [] [] picked = inl refl
picks-among [] (x ∷ xs) picked = absurd picked
picks-among (each ∷ more) [] picked = absurd picked
picks-among (each ∷ more) (x ∷ xs) (here, picked) =
    among-flat (λ one. map (λ others. one ∷ others) (choices more)) each x (x ∷ xs) here (among-map (λ others. x ∷ others) (choices more) xs (picks-among more xs picked))

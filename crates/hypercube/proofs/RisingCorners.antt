-- Corners of cells that are pairwise distinct, put in order, have strictly ascending numbers.
use Rattle.std.proofs.Common.{◌≡◌, ℕ, zero, suc, ◌+◌, ◌<◌, ◌≤◌, nat_lt, Bool, true, false, List, [], ◌∷◌, ◌++◌, map, fold, slice_index, Option, None, Some, option_map, if◌then◌else◌, refl, sym, subst, arith}
use Rattle.std.specs.List.{AllByRecursion, cons_option, filter_map}
use Rattle.std.specs.List.Sorted.{IsStrictlyIncreasing}
use Rattle.std.proofs.lemmas.Bool.Decides.{nat_tests}
use Rattle.sdc_base.specs.Cubes.{corner_at, with_corner}
use Rattle.sdc_base.specs.declared.cube.Corner.{Corner}
use Rattle.hypercube.proofs.AllOf.{all-append, all-map, all-more}

-- ---- each and all later ones

-- the relation holds of each and all later ones
abbrev pub Pairwise : {X : Type 0} → (X → X → Type 0) → List X → Type 0
Pairwise R [] = Unit {0}
Pairwise R (x ∷ xs) = AllByRecursion (R x) xs × Pairwise R xs

pub pairwise-append : {X : Type 0} (R : X → X → Type 0) (xs ys : List X) → Pairwise R xs → Pairwise R ys → AllByRecursion (λ x. AllByRecursion (R x) ys) xs → Pairwise R (xs ++ ys)
pairwise-append R [] ys a b across = b
pairwise-append R (x ∷ xs) ys (here, a) b (first, across) = (all-append (R x) xs ys here first, pairwise-append R xs ys a b across)

pub pairwise-map : {X Y : Type 0} (R : Y → Y → Type 0) (f : X → Y) (xs : List X) → Pairwise (λ x y. R (f x) (f y)) xs → Pairwise R (map f xs)
pairwise-map R f [] a = tt
pairwise-map R f (x ∷ xs) (here, a) = (all-map (R (f x)) f xs here, pairwise-map R f xs a)

pub all-both : {X : Type 0} (P Q : X → Type 0) (xs : List X) → AllByRecursion P xs → AllByRecursion Q xs → AllByRecursion (λ x. P x × Q x) xs
all-both P Q [] a b = tt
all-both P Q (x ∷ xs) (here, a) (there, b) = ((here, there), all-both P Q xs a b)

pub all-any : {X : Type 0} (P : X → Type 0) (xs : List X) → ((x : X) → P x) → AllByRecursion P xs
all-any P [] f = tt
all-any P (x ∷ xs) f = (f x, all-any P xs f)

pub pairwise-with : {X : Type 0} (Q : X → Type 0) (R S : X → X → Type 0) (xs : List X) → ((x y : X) → Q x → Q y → R x y → S x y) → AllByRecursion Q xs → Pairwise R xs → Pairwise S xs
pairwise-with Q R S [] f each a = tt
pairwise-with Q R S (x ∷ xs) f (here, each) (first, a) =
    (all-more (λ y. Q y × R x y) (S x) xs (λ y both. f x y here both.0 both.1) (all-both Q (R x) xs each first), pairwise-with Q R S xs f each a)

-- ---- corners put in order

-- two corners are of different cells
abbrev pub AreApart : Corner → Corner → Type 0
AreApart one other = one.cell ≡ other.cell → ⊥

abbrev pub IsBelow : Corner → Corner → Type 0
IsBelow one other = one.cell < other.cell

put-all : (P : Corner → Type 0) (corners : List Corner) (new : Corner) → AllByRecursion P corners → P new → AllByRecursion P (with_corner corners new)
put-all P [] new a here = (here, tt)
put-all P (corner ∷ corners) new (first, a) here =
    elim (nat_lt new.cell corner.cell) as (λ b. AllByRecursion P (if b then new ∷ corner ∷ corners else corner ∷ with_corner corners new)) [
      | true ↦ (here, (first, a))
      | false ↦ (first, put-all P corners new a here)
    ]

put-rises : (corners : List Corner) (new : Corner) → Pairwise IsBelow corners → AllByRecursion (AreApart new) corners → Pairwise IsBelow (with_corner corners new)
put-rises [] new a apart = (tt, tt)
put-rises (corner ∷ corners) new (first, a) (other, apart) =
    elim (nat_lt new.cell corner.cell) as (λ b. nat_lt new.cell corner.cell ≡ b → Pairwise IsBelow (if b then new ∷ corner ∷ corners else corner ∷ with_corner corners new)) [
      | true ↦ λ is.
          let less : new.cell < corner.cell = grind (arith, nat_tests, is) in
          ((less, all-more (IsBelow corner) (IsBelow new) corners (λ later below. omega (arith, less, below)) first), (first, a))
      | false ↦ λ is.
          let less : corner.cell < new.cell = above corner.cell new.cell (grind (arith, nat_tests, is)) other in
          (put-all (IsBelow corner) corners new first less, put-rises corners new a apart)
    ] refl
  where
    above : (one two : ℕ) → one ≤ two → (two ≡ one → ⊥) → one < two
    above one two h apart =
        elim (nat_lt one two) as (λ b. nat_lt one two ≡ b → one < two) [
          | true ↦ λ is. grind (arith, nat_tests, is)
          | false ↦ λ is. absurd (apart (grind (arith, nat_tests, is, h)))
        ] refl

pub puts-rise : (corners more : List Corner) → Pairwise IsBelow corners → AllByRecursion (λ new. AllByRecursion (AreApart new) corners) more → Pairwise AreApart more → Pairwise IsBelow (fold with_corner corners more)
puts-rise corners [] a across apart = a
puts-rise corners (new ∷ more) a (here, across) (first, apart) =
    puts-rise (with_corner corners new) more (put-rises corners new a here)
    (all-more (λ later. AllByRecursion (AreApart later) corners × AreApart new later) (λ later. AllByRecursion (AreApart later) (with_corner corners new)) more
    (λ later both. put-all (AreApart later) corners new both.0 (λ same. both.1 (sym same)))
    (all-both (λ later. AllByRecursion (AreApart later) corners) (AreApart new) more across first))
    apart

rise-more : (one next : ℕ) (more : List ℕ) → one < next → IsStrictlyIncreasing (next ∷ more) → IsStrictlyIncreasing (one ∷ next ∷ more)
rise-more one next more less rest zero inside = less
rise-more one next more less rest (suc k) inside =
    let same : suc (k + 1) ≡ suc k + 1 = omega arith in
    subst (λ (n : ℕ). slice_index (next ∷ more) k < slice_index (one ∷ next ∷ more) n) same (rest k (omega (arith, inside)))

-- the numbers ascend
pub rising-numbers : (corners : List Corner) → Pairwise IsBelow corners → IsStrictlyIncreasing (map (λ corner. corner.cell) corners)
rising-numbers [] a = λ k inside. absurd (omega (arith, inside))
rising-numbers (corner ∷ []) a = λ k inside. absurd (omega (arith, inside))
rising-numbers (corner ∷ next ∷ corners) ((less, first), a) = rise-more corner.cell next.cell (map (λ one. one.cell) corners) less (rising-numbers (next ∷ corners) a)

-- ---- corners at places

cell-there : (met : Option ℕ) (plus : Bool) (corner : Corner) → option_map (λ cell. record { cell = cell; plus = plus }) met ≡ Some corner → met ≡ Some corner.cell
cell-there None plus corner is = absurd cc
cell-there (Some cell) plus corner is = cc

-- the places don't have one cell
abbrev pub HaveNotOne : (List ℕ → Option ℕ) → List ℕ × Bool → List ℕ × Bool → Type 0
HaveNotOne number one other = (cell : ℕ) → number one.0 ≡ Some cell → number other.0 ≡ Some cell → ⊥

found-all : (number : List ℕ → Option ℕ) (P : Corner → Type 0) (places : List (List ℕ × Bool)) → AllByRecursion (λ place. (corner : Corner) → corner_at number place ≡ Some corner → P corner) places → AllByRecursion P (filter_map (corner_at number) places)
found-all number P [] a = tt
found-all number P (place ∷ places) (here, a) = with_met P (corner_at number place) (filter_map (corner_at number) places) here (found-all number P places a)
  where
    with_met : (P : Corner → Type 0) (met : Option Corner) (rest : List Corner) → ((corner : Corner) → met ≡ Some corner → P corner) → AllByRecursion P rest → AllByRecursion P (cons_option met rest)
    with_met P None rest here later = later
    with_met P (Some corner) rest here later = (here corner refl, later)

pub found-apart : (number : List ℕ → Option ℕ) (places : List (List ℕ × Bool)) → Pairwise (HaveNotOne number) places → Pairwise AreApart (filter_map (corner_at number) places)
found-apart number [] a = tt
found-apart number (place ∷ places) (here, a) =
    with_met (corner_at number place) (filter_map (corner_at number) places)
    (λ corner is. found-all number (AreApart corner) places
    (all-more (HaveNotOne number place) (λ later. (next : Corner) → corner_at number later ≡ Some next → AreApart corner next) places
    (λ later apart next there same. apart next.cell (subst (λ (cell : ℕ). number place.0 ≡ Some cell) same (cell-there (number place.0) place.1 corner is)) (cell-there (number later.0) later.1 next there)) here))
    (found-apart number places a)
  where
    with_met : (met : Option Corner) (rest : List Corner) → ((corner : Corner) → met ≡ Some corner → AllByRecursion (AreApart corner) rest) → Pairwise AreApart rest → Pairwise AreApart (cons_option met rest)
    with_met None rest here later = later
    with_met (Some corner) rest here later = (here corner refl, later)

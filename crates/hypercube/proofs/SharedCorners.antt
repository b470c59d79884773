-- The corners that all cubes share which begin with the same edges: they are among the corners of each.
use Rattle.std.proofs.Common.{◌≡◌, ℕ, zero, suc, ◌+◌, ◌≤◌, nat_lt, Bool, true, false, ◌==◌, ◌&&◌, if◌then◌else◌, List, [], ◌∷◌, ◌++◌, map, fold, drop, slice_get, Option, None, Some, refl, ap, sym, ◌∙◌, arith}
use Rattle.std.specs.List.{AllByRecursion, cons_option, filter_map, list_all, sum_by}
use Rattle.std.specs.Option.{option_map_or}
use Rattle.std.proofs.lemmas.Bool.Decides.{Decides-eqb}
use Rattle.std.proofs.lemmas.List.Sums.{sum_by-append, sum_by-cons}
use Rattle.sdc_base.specs.Cubes.{choices, corner_at, corner_places, corners_of, bears, other_end, own_end, serve, with_corner}
use Rattle.sdc_base.specs.declared.cell.Cell.{Cell}
use Rattle.sdc_base.specs.declared.cube.Corner.{Corner}
use Rattle.sdc_base.specs.declared.cube.Edge.{Edge}
use Rattle.sdc_base.specs.declared.facts.Levels.{Levels}
use Rattle.hypercube.specs.Branches.{begin_at, number_with_codes}
use Rattle.hypercube.proofs.AllOf.{all-flat, all-map, all-more}

-- ---- a sum over corners

put-sum : (f : Corner → ℕ) (corners : List Corner) (new : Corner) → sum_by f (with_corner corners new) ≡ f new + sum_by f corners
put-sum f [] new = omega arith
put-sum f (corner ∷ corners) new =
    elim (nat_lt new.cell corner.cell) as (λ b. sum_by f (if b then new ∷ corner ∷ corners else corner ∷ with_corner corners new) ≡ f new + sum_by f (corner ∷ corners)) [
      | true ↦ sum_by-cons f new (corner ∷ corners)
      | false ↦
          let rest = put-sum f corners new in
          let behind = sum_by-cons f corner (with_corner corners new) in
          let before = sum_by-cons f corner corners in
          omega (arith, rest, behind, before)
    ]

puts-sum : (f : Corner → ℕ) (corners more : List Corner) → sum_by f (fold with_corner corners more) ≡ sum_by f corners + sum_by f more
puts-sum f corners [] = omega arith
puts-sum f corners (new ∷ more) = let rest = puts-sum f (with_corner corners new) more in let one = put-sum f corners new in let first = sum_by-cons f new more in omega (arith, rest, one, first)

-- what the corner at a place counts, where there is one
abbrev pub counted : (List ℕ → Option ℕ) → (Corner → ℕ) → List ℕ × Bool → ℕ
counted number f place = option_map_or f (corner_at number place) 0

one-more : (f : Corner → ℕ) (met : Option Corner) (corners : List Corner) → sum_by f (cons_option met corners) ≡ option_map_or f met 0 + sum_by f corners
one-more f None corners = omega arith
one-more f (Some corner) corners = sum_by-cons f corner corners

found-sum : (number : List ℕ → Option ℕ) (f : Corner → ℕ) (places : List (List ℕ × Bool)) → sum_by f (filter_map (corner_at number) places) ≡ sum_by (counted number f) places
found-sum number f [] = refl
found-sum number f (place ∷ places) =
    one-more f (corner_at number place) (filter_map (corner_at number) places) ∙ ap (λ n. counted number f place + n) (found-sum number f places) ∙ sym (sum_by-cons (counted number f) place places)

pub corners-sum : (number : List ℕ → Option ℕ) (f : Corner → ℕ) (edges : List Edge) → sum_by f (corners_of number edges) ≡ sum_by (counted number f) (corner_places edges)
corners-sum number f edges =
    let put = puts-sum f [] (filter_map (corner_at number) (corner_places edges)) in
    let found = found-sum number f (corner_places edges) in
    omega (arith, put, found)

-- ---- over the places of a cube's corners

map-sum : {X Y : Type 0} (g : Y → ℕ) (f : X → Y) (xs : List X) → sum_by g (map f xs) ≡ sum_by (λ x. g (f x)) xs
map-sum g f [] = refl
map-sum g f (x ∷ xs) = sum_by-cons g (f x) (map f xs) ∙ ap (λ n. g (f x) + n) (map-sum g f xs) ∙ sym (sum_by-cons (λ x. g (f x)) x xs)

pub ends-sum : (g : List ℕ × Bool → ℕ) (edge : Edge) (places : List (List ℕ × Bool))
    → sum_by g (map (own_end edge) places ++ map (other_end edge) places) ≡ sum_by (λ place. g (own_end edge place)) places + sum_by (λ place. g (other_end edge place)) places
ends-sum g edge places =
    let both = sum_by-append g (map (own_end edge) places) (map (other_end edge) places) in
    let own = map-sum g (own_end edge) places in
    let other = map-sum g (other_end edge) places in
    omega (arith, both, own, other)

-- the codes that edges begin at
abbrev pub codes_of : List Edge → List ℕ
codes_of edges = map (λ edge. edge.code) edges

-- the cell's own place is one of them
pub first-place : (g : List ℕ × Bool → ℕ) (edges : List Edge) → g (codes_of edges, true) ≤ sum_by g (corner_places edges)
first-place g [] = omega arith
first-place g (edge ∷ edges) =
    let rest = first-place (λ place. g (own_end edge place)) edges in
    let both = ends-sum g edge (corner_places edges) in
    omega (arith, rest, both)

-- a place behind which these codes stand
abbrev pub followed : List ℕ → List ℕ × Bool → List ℕ × Bool
followed codes place = (place.0 ++ codes, place.1)

-- and so are those at which all further edges are at their own ends
pub begun-sum : (g : List ℕ × Bool → ℕ) (chosen more : List Edge) → sum_by (λ place. g (followed (codes_of more) place)) (corner_places chosen) ≤ sum_by g (corner_places (chosen ++ more))
begun-sum g [] more = let here = first-place g more in omega (arith, here)
begun-sum g (edge ∷ chosen) more =
    let own = begun-sum (λ place. g (own_end edge place)) chosen more in
    let other = begun-sum (λ place. g (other_end edge place)) chosen more in
    let few = ends-sum (λ place. g (followed (codes_of more) place)) edge (corner_places chosen) in
    let all = ends-sum g edge (corner_places (chosen ++ more)) in
    omega (arith, own, other, few, all)

-- a sum over the shared corners is at most that over all
pub shared-sum : (number : List ℕ → Option ℕ) (f : Corner → ℕ) (chosen more : List Edge) → sum_by f (corners_of (number_with_codes number (codes_of more)) chosen) ≤ sum_by f (corners_of number (chosen ++ more))
shared-sum number f chosen more =
    let few = corners-sum (number_with_codes number (codes_of more)) f chosen in
    let all = corners-sum number f (chosen ++ more) in
    let less = begun-sum (counted number f) chosen more in
    omega (arith, few, all, less)

-- ---- serving

-- 1 for each that fails the test
abbrev pub failure : {X : Type 0} → (X → Bool) → X → ℕ
failure test x = if test x then 0 else 1

pub none-fails : {X : Type 0} (test : X → Bool) (xs : List X) → list_all test xs ≡ true → sum_by (failure test) xs ≡ 0
none-fails test [] h = refl
none-fails test (x ∷ xs) h = sum_by-cons (failure test) x xs ∙ elim (test x) as (λ b. (b && list_all test xs) ≡ true → (if b then 0 else 1) + sum_by (failure test) xs ≡ 0) [
  | true ↦ λ later. let rest = none-fails test xs later in omega (arith, rest)
  | false ↦ λ later. absurd cc
] h

all-pass : {X : Type 0} (test : X → Bool) (xs : List X) → sum_by (failure test) xs ≡ 0 → list_all test xs ≡ true
all-pass test [] h = refl
all-pass test (x ∷ xs) h =
    elim (test x) as (λ b. (if b then 0 else 1) + sum_by (failure test) xs ≡ 0 → (b && list_all test xs) ≡ true) [
      | true ↦ λ none. all-pass test xs (omega (arith, none))
      | false ↦ λ none. absurd (omega (arith, none))
    ] (sym (sum_by-cons (failure test) x xs) ∙ h)

-- the corner's cell bears the levels
abbrev pub bears_at : List Cell → Levels → Corner → Bool
bears_at cells levels corner = option_map_or (bears levels corner.plus) (slice_get cells corner.cell) false

-- where a cube serves, the shared corners do
pub shared-serve : (number : List ℕ → Option ℕ) (cells : List Cell) (levels : Levels) (chosen more : List Edge)
    → serve cells levels (corners_of number (chosen ++ more)) ≡ true → serve cells levels (corners_of (number_with_codes number (codes_of more)) chosen) ≡ true
shared-serve number cells levels chosen more served =
    let few = shared-sum number (failure (bears_at cells levels)) chosen more in
    let all = none-fails (bears_at cells levels) (corners_of number (chosen ++ more)) served in
    all-pass (bears_at cells levels) (corners_of (number_with_codes number (codes_of more)) chosen) (omega (arith, few, all))

-- ---- the cubes that go on

pub and-parts : (a b : Bool) → (a && b) ≡ true → (a ≡ true) × (b ≡ true)
and-parts true b h = (refl, h)
and-parts false b h = absurd cc

pub codes-same : (code : ℕ) (edges : List Edge) → list_all (λ edge. edge.code == code) edges ≡ true → AllByRecursion (λ edge. edge.code ≡ code) edges
codes-same code [] h = tt
codes-same code (edge ∷ edges) h = let two = and-parts (edge.code == code) (list_all (λ one. one.code == code) edges) h in ((Decides-eqb edge.code code).0 two.0, codes-same code edges two.1)

-- each choice of an edge of each list begins at the codes
pub choices-begin : (codes : List ℕ) (lists : List (List Edge)) → begin_at codes lists ≡ true → AllByRecursion (λ more. codes_of more ≡ codes) (choices lists)
choices-begin [] [] h = (refl, tt)
choices-begin [] (edges ∷ lists) h = absurd cc
choices-begin (code ∷ codes) [] h = absurd cc
choices-begin (code ∷ codes) (edges ∷ lists) h =
    let two = and-parts (list_all (λ edge. edge.code == code) edges) (begin_at codes lists) h in
    let rest = choices-begin codes lists two.1 in
    all-flat (λ more. codes_of more ≡ code ∷ codes) (λ one. map (λ others. one ∷ others) (choices lists)) edges
    (all-more (λ one. one.code ≡ code) (λ one. AllByRecursion (λ more. codes_of more ≡ code ∷ codes) (map (λ others. one ∷ others) (choices lists))) edges
    (λ one here. all-map (λ more. codes_of more ≡ code ∷ codes) (λ others. one ∷ others) (choices lists)
    (all-more (λ others. codes_of others ≡ codes) (λ others. codes_of (one ∷ others) ≡ code ∷ codes) (choices lists) (λ others later. ap (λ c. c ∷ codes_of others) here ∙ ap (λ cs. code ∷ cs) later) rest))
    (codes-same code edges two.0))

pub begin-behind : (k : ℕ) (codes : List ℕ) (lists : List (List Edge)) → begin_at codes lists ≡ true → begin_at (drop k codes) (drop k lists) ≡ true
begin-behind zero codes lists h = h
begin-behind (suc k) [] [] h = refl
begin-behind (suc k) [] (edges ∷ lists) h = absurd cc
begin-behind (suc k) (code ∷ codes) [] h = absurd cc
begin-behind (suc k) (code ∷ codes) (edges ∷ lists) h = begin-behind k codes lists (and-parts (list_all (λ edge. edge.code == code) edges) (begin_at codes lists) h).1

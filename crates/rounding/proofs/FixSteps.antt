-- The numbers that fixed cells leave.
use Rattle.std.proofs.Common.{◌≡◌, ◌≢◌, ◌⊎◌, inl, inr, ℕ, zero, suc, ◌^◌, ◌<◌, ◌≤◌, ◌==◌, Bool, true, false, List, [], ◌∷◌, ◌++◌, length, All, Some, slice_get, ℤ, pos, ◌≤ℤ◌, ◌<ℤ◌, fold, arith, refl, ap, sym, subst, ◌∙◌, if◌then◌else◌, append-nil, length-set, get_or-set_other, get_or-set_same}
use Rattle.std.proofs.Math.ListN.{set}
use Rattle.std.proofs.lemmas.Int.{ints}
use Rattle.std.proofs.lemmas.Bool.{cases_lt}
use Rattle.std.proofs.lemmas.Bool.Decides.{Decides-eqb, nat_tests}
use Rattle.std.proofs.lemmas.List.{get_or_past}
use Rattle.std.proofs.lemmas.List.Sums.{fold-append}
use Rattle.std.proofs.lemmas.List.Elements.{All-nil, All-cons}
use Rattle.std.proofs.lemmas.Option.{slice_get_within}
use Rattle.sdc_base.specs.Roundings.{IsAdjacent}
use Rattle.sdc_base.specs.Systems.{number_at}
use Rattle.rounding.specs.Neighbours.{is_multiple, neighbour}
use Rattle.rounding.specs.Choices.{by_choices}
use Rattle.rounding.specs.Sums.{IsNear}
use Rattle.rounding.specs.Tasks.{IsProper}
use Rattle.sdc_base.specs.Truths.{IsTruth}
use Rattle.rounding.specs.Fixes.{Fix, with_fix, by_fixes, FixedCells, number_left, IsFree, allows}
use Rattle.rounding.specs.FixedSteps.{IsTaken}
use Rattle.rounding.proofs.Adjacency.{neighbour_is_adjacent, left_within, some_rest}
use Rattle.rounding.proofs.Choosing.{length-by_choices}
use Rattle.rounding.proofs.Completeness.{by_choices_adjacent}

-- ---- lengths

length-fold : (base : ℤ) (truths xs : List ℤ) (fixes : List Fix) → length (fold (with_fix base truths) xs fixes) ≡ length xs
length-fold base truths xs [] = refl
length-fold base truths xs (fix ∷ fixes) = length-fold base truths (with_fix base truths xs fix) fixes ∙ length-set xs fix.0 (neighbour base (number_at truths fix.0) fix.1)

pub length-by_fixes : (side : Bool) (base : ℤ) (truths : List ℤ) (fixes : List Fix) → length (by_fixes side base truths fixes) ≡ length truths
length-by_fixes side base truths fixes = length-fold base truths (by_choices side base truths []) fixes ∙ length-by_choices side base truths []

-- one more fix
pub one_more_fix : (side : Bool) (base : ℤ) (truths : List ℤ) (fixes : List Fix) (fix : Fix) → by_fixes side base truths (fixes ++ fix ∷ []) ≡ set (by_fixes side base truths fixes) fix.0 (neighbour base (number_at truths fix.0) fix.1)
one_more_fix side base truths fixes fix = fold-append (with_fix base truths) (by_choices side base truths []) fixes (fix ∷ [])

-- ---- a cell is fixed, or it is free

-- the two numbers of a cell are one, or they are the two neighbours of a truth that is no multiple
abbrev Stands : ℤ → ℤ → ℤ → ℤ → Type 0
Stands base truth low high = (low ≡ high) ⊎ ((is_multiple base truth ≡ false) × ((low ≡ neighbour base truth false) × (high ≡ neighbour base truth true)))

to_side_at : (base : ℤ) (truths : List ℤ) (c : ℕ) → c < length truths → Stands base (number_at truths c) (number_at (by_choices false base truths []) c) (number_at (by_choices true base truths []) c)
to_side_at base [] c below = absurd (omega arith)
to_side_at base (truth ∷ truths) zero below =
    elim (is_multiple base truth) as (λ b. is_multiple base truth ≡ b → Stands base truth (number_at (if b then truth ∷ by_choices false base truths [] else neighbour base truth false ∷ by_choices false base truths []) 0) (number_at (if b then truth ∷ by_choices true base truths [] else neighbour base truth true ∷ by_choices true base truths []) 0)) [
      | true ↦ λ test. inl refl
      | false ↦ λ test. inr (test, (refl, refl))
    ] refl
to_side_at base (truth ∷ truths) (suc c) below =
    elim (is_multiple base truth) as (λ b. Stands base (number_at truths c) (number_at (if b then truth ∷ by_choices false base truths [] else neighbour base truth false ∷ by_choices false base truths []) (suc c)) (number_at (if b then truth ∷ by_choices true base truths [] else neighbour base truth true ∷ by_choices true base truths []) (suc c))) [
      | true ↦ to_side_at base truths c (omega arith)
      | false ↦ to_side_at base truths c (omega arith)
    ]

-- after one more fix: the cell has one number, the others have what they had
pub set_here_or_not : (xs : List ℤ) (cell c : ℕ) (z : ℤ) → cell < length xs → ((cell ≡ c) × (number_at (set xs cell z) c ≡ z)) ⊎ ((cell ≢ c) × (number_at (set xs cell z) c ≡ number_at xs c))
set_here_or_not xs cell c z inside =
    elim (cell == c) as (λ b. (cell == c) ≡ b → ((cell ≡ c) × (number_at (set xs cell z) c ≡ z)) ⊎ ((cell ≢ c) × (number_at (set xs cell z) c ≡ number_at xs c))) [
      | true ↦ λ test. let same : cell ≡ c = (Decides-eqb cell c).0 test in inl (same, ap (λ (j : ℕ). number_at (set xs cell z) j) (sym same) ∙ get_or-set_same xs cell z (pos 0) inside)
      | false ↦ λ test. let apart : c ≢ cell = grind (arith, nat_tests, test) in inr ((λ same. apart (sym same)), get_or-set_other xs cell c z (pos 0) apart)
    ] refl

stands_on : (base : ℤ) (truths lows highs : List ℤ) (fix : Fix) (c : ℕ) → length lows ≡ length highs → c < length lows → Stands base (number_at truths c) (number_at lows c) (number_at highs c)
    → Stands base (number_at truths c) (number_at (with_fix base truths lows fix) c) (number_at (with_fix base truths highs fix) c)
stands_on base truths lows highs fix c same below stands =
    let z : ℤ = neighbour base (number_at truths fix.0) fix.1 in
    elim (fix.0 == c) as (λ b. (fix.0 == c) ≡ b → Stands base (number_at truths c) (number_at (set lows fix.0 z) c) (number_at (set highs fix.0 z) c)) [
      | true ↦ λ test.
          let here : fix.0 ≡ c = (Decides-eqb fix.0 c).0 test in
          inl (ap (λ (j : ℕ). number_at (set lows fix.0 z) j) (sym here) ∙ get_or-set_same lows fix.0 z (pos 0) (omega arith) ∙ sym (ap (λ (j : ℕ). number_at (set highs fix.0 z) j) (sym here) ∙ get_or-set_same highs fix.0 z (pos 0) (omega arith)))
      | false ↦ λ test.
          let apart : c ≢ fix.0 = grind (arith, nat_tests, test) in
          subst (λ (x : ℤ). Stands base (number_at truths c) x (number_at (set highs fix.0 z) c)) (sym (get_or-set_other lows fix.0 c z (pos 0) apart))
          (subst (λ (y : ℤ). Stands base (number_at truths c) (number_at lows c) y) (sym (get_or-set_other highs fix.0 c z (pos 0) apart)) stands)
    ] refl

stands_fold : (base : ℤ) (truths lows highs : List ℤ) (fixes : List Fix) (c : ℕ) → length lows ≡ length highs → c < length lows → Stands base (number_at truths c) (number_at lows c) (number_at highs c)
    → Stands base (number_at truths c) (number_at (fold (with_fix base truths) lows fixes) c) (number_at (fold (with_fix base truths) highs fixes) c)
stands_fold base truths lows highs [] c same below stands = stands
stands_fold base truths lows highs (fix ∷ fixes) c same below stands =
    let z : ℤ = neighbour base (number_at truths fix.0) fix.1 in
    stands_fold base truths (with_fix base truths lows fix) (with_fix base truths highs fix) fixes c (length-set lows fix.0 z ∙ same ∙ sym (length-set highs fix.0 z)) (omega (arith, length-set lows fix.0 z)) (stands_on base truths lows highs fix c same below stands)

pub either_left : (b : FixedCells) (c : ℕ) → c < length b.truths → (number_left false b c ≡ number_left true b c) ⊎ IsFree b c
either_left b c below =
    elim (stands_fold b.base b.truths (by_choices false b.base b.truths []) (by_choices true b.base b.truths []) b.fixes c
    (length-by_choices false b.base b.truths [] ∙ sym (length-by_choices true b.base b.truths [])) (omega (arith, length-by_choices false b.base b.truths [])) (to_side_at b.base b.truths c below)) as (λ _. (number_left false b c ≡ number_left true b c) ⊎ IsFree b c) [
      | inl same ↦ inl same
      | inr free ↦ inr (record { inside = below; unrounded = free.0; low = free.1.0; high = free.1.1 })
    ]

-- past the cells both numbers are 0
pub left_past : (side : Bool) (b : FixedCells) (c : ℕ) → length b.truths ≤ c → number_left side b c ≡ pos 0
left_past side b c past = get_or_past (by_fixes side b.base b.truths b.fixes) c (pos 0) (omega (arith, length-by_fixes side b.base b.truths b.fixes))

by_order : {P : Type 0} (a b : ℕ) → (a < b → P) → (b ≤ a → P) → P
by_order {P} a b less not_less = elim (cases_lt a b) as (λ _. P) [ inl one ↦ less one | inr other ↦ not_less other ]

-- the least number left isn't above the greatest
pub ordered : (b : FixedCells) (c : ℕ) → pos 1 ≤ℤ b.base → number_left false b c ≤ℤ number_left true b c
ordered b c positive =
    by_order c (length b.truths)
    (λ below. elim (either_left b c below) as (λ _. number_left false b c ≤ℤ number_left true b c) [
      | inl same ↦ omega (arith, ints, same)
      | inr free ↦ omega (arith, ints, free.low, free.high)
    ])
    (λ past. omega (arith, ints, left_past false b c past, left_past true b c past))

-- ---- a fixed cell has one number

same_on : (base : ℤ) (truths lows highs : List ℤ) (fix : Fix) (c : ℕ) → length lows ≡ length highs → c < length lows → number_at lows c ≡ number_at highs c → number_at (with_fix base truths lows fix) c ≡ number_at (with_fix base truths highs fix) c
same_on base truths lows highs fix c long below same =
    let z : ℤ = neighbour base (number_at truths fix.0) fix.1 in
    elim (fix.0 == c) as (λ b. (fix.0 == c) ≡ b → number_at (set lows fix.0 z) c ≡ number_at (set highs fix.0 z) c) [
      | true ↦ λ test.
          let here : fix.0 ≡ c = (Decides-eqb fix.0 c).0 test in
          ap (λ (j : ℕ). number_at (set lows fix.0 z) j) (sym here) ∙ get_or-set_same lows fix.0 z (pos 0) (omega arith) ∙ sym (ap (λ (j : ℕ). number_at (set highs fix.0 z) j) (sym here) ∙ get_or-set_same highs fix.0 z (pos 0) (omega arith))
      | false ↦ λ test.
          let apart : c ≢ fix.0 = grind (arith, nat_tests, test) in
          get_or-set_other lows fix.0 c z (pos 0) apart ∙ same ∙ sym (get_or-set_other highs fix.0 c z (pos 0) apart)
    ] refl

same_fold : (base : ℤ) (truths lows highs : List ℤ) (fixes : List Fix) (c : ℕ) → length lows ≡ length highs → c < length lows → number_at lows c ≡ number_at highs c → number_at (fold (with_fix base truths) lows fixes) c ≡ number_at (fold (with_fix base truths) highs fixes) c
same_fold base truths lows highs [] c long below same = same
same_fold base truths lows highs (fix ∷ fixes) c long below same =
    let z : ℤ = neighbour base (number_at truths fix.0) fix.1 in
    same_fold base truths (with_fix base truths lows fix) (with_fix base truths highs fix) fixes c (length-set lows fix.0 z ∙ long ∙ sym (length-set highs fix.0 z)) (omega (arith, length-set lows fix.0 z)) (same_on base truths lows highs fix c long below same)

one_fold : (base : ℤ) (truths lows highs : List ℤ) (fixes : List Fix) (place : ℕ) (fix : Fix) → length lows ≡ length highs → fix.0 < length lows → slice_get fixes place ≡ Some fix
    → number_at (fold (with_fix base truths) lows fixes) fix.0 ≡ number_at (fold (with_fix base truths) highs fixes) fix.0
one_fold base truths lows highs [] place fix long below there = absurd (omega (arith, slice_get_within [] place fix there))
one_fold base truths lows highs (first ∷ fixes) zero fix long below there =
    let is : first ≡ fix = cc in
    let z : ℤ = neighbour base (number_at truths first.0) first.1 in
    let here : first.0 ≡ fix.0 = ap (λ (f : Fix). f.0) is in
    let both : number_at (set lows first.0 z) fix.0 ≡ number_at (set highs first.0 z) fix.0 =
    ap (λ (j : ℕ). number_at (set lows first.0 z) j) (sym here) ∙ get_or-set_same lows first.0 z (pos 0) (omega arith) ∙ sym (ap (λ (j : ℕ). number_at (set highs first.0 z) j) (sym here) ∙ get_or-set_same highs first.0 z (pos 0) (omega arith)) in
    same_fold base truths (set lows first.0 z) (set highs first.0 z) fixes fix.0 (length-set lows first.0 z ∙ long ∙ sym (length-set highs first.0 z)) (omega (arith, length-set lows first.0 z)) both
one_fold base truths lows highs (first ∷ fixes) (suc place) fix long below there =
    let z : ℤ = neighbour base (number_at truths first.0) first.1 in
    one_fold base truths (set lows first.0 z) (set highs first.0 z) fixes place fix (length-set lows first.0 z ∙ long ∙ sym (length-set highs first.0 z)) (omega (arith, length-set lows first.0 z)) there

-- so a free cell isn't among those that are fixed
pub free_is_new : (b : FixedCells) (place : ℕ) (fix : Fix) (cell : ℕ) → pos 1 ≤ℤ b.base → slice_get b.fixes place ≡ Some fix → IsFree b cell → fix.0 ≢ cell
free_is_new b place fix cell positive there free same =
    let long : length (by_choices false b.base b.truths []) ≡ length (by_choices true b.base b.truths []) = length-by_choices false b.base b.truths [] ∙ sym (length-by_choices true b.base b.truths []) in
    let one : number_left false b fix.0 ≡ number_left true b fix.0 = one_fold b.base b.truths (by_choices false b.base b.truths []) (by_choices true b.base b.truths []) b.fixes place fix long (omega (arith, length-by_choices false b.base b.truths [], free.inside, same)) there in
    let both : number_left false b cell ≡ number_left true b cell = subst (λ (c : ℕ). number_left false b c ≡ number_left true b c) same one in
    omega (arith, ints, both, free.low, free.high)

-- ---- numbers are adjacent to their truths

adjacent_on : (base : ℤ) (truths xs : List ℤ) (fix : Fix) (c : ℕ) → pos 1 ≤ℤ base → All IsTruth truths → length xs ≡ length truths → c < length truths → is_multiple base (number_at truths fix.0) ≡ false → IsAdjacent base (number_at truths c) (number_at xs c) → IsAdjacent base (number_at truths c) (number_at (with_fix base truths xs fix) c)
adjacent_on base truths xs fix c positive all long below off adjacent =
    let z : ℤ = neighbour base (number_at truths fix.0) fix.1 in
    elim (fix.0 == c) as (λ b. (fix.0 == c) ≡ b → IsAdjacent base (number_at truths c) (number_at (set xs fix.0 z) c)) [
      | true ↦ λ test.
          let here : fix.0 ≡ c = (Decides-eqb fix.0 c).0 test in
          let is : number_at (set xs fix.0 z) fix.0 ≡ z = get_or-set_same xs fix.0 z (pos 0) (omega arith) in
          let from : pos 0 ≤ℤ number_at truths fix.0 = (all fix.0 (pos 0) (omega arith)).from_zero in
          subst (λ (j : ℕ). IsAdjacent base (number_at truths j) (number_at (set xs fix.0 z) j)) here (subst (λ (y : ℤ). IsAdjacent base (number_at truths fix.0) y) (sym is) (neighbour_is_adjacent base (number_at truths fix.0) fix.1 positive from off))
      | false ↦ λ test.
          let apart : c ≢ fix.0 = grind (arith, nat_tests, test) in
          subst (λ (y : ℤ). IsAdjacent base (number_at truths c) y) (sym (get_or-set_other xs fix.0 c z (pos 0) apart)) adjacent
    ] refl

adjacent_fold : (base : ℤ) (truths xs : List ℤ) (fixes : List Fix) (c : ℕ) → pos 1 ≤ℤ base → All IsTruth truths → length xs ≡ length truths → c < length truths → ((place : ℕ) (fix : Fix) → slice_get fixes place ≡ Some fix → is_multiple base (number_at truths fix.0) ≡ false)
    → IsAdjacent base (number_at truths c) (number_at xs c) → IsAdjacent base (number_at truths c) (number_at (fold (with_fix base truths) xs fixes) c)
adjacent_fold base truths xs [] c positive all long below off adjacent = adjacent
adjacent_fold base truths xs (fix ∷ fixes) c positive all long below off adjacent =
    let z : ℤ = neighbour base (number_at truths fix.0) fix.1 in
    adjacent_fold base truths (with_fix base truths xs fix) fixes c positive all (length-set xs fix.0 z ∙ long) below (λ place one there. off (suc place) one there) (adjacent_on base truths xs fix c positive all long below (off 0 fix refl) adjacent)

-- the numbers left are less than a base from the truths, everywhere
pub left_near : (side : Bool) (b : FixedCells) → IsProper b.system b.truths b.base → ((place : ℕ) (fix : Fix) → slice_get b.fixes place ≡ Some fix → is_multiple b.base (number_at b.truths fix.0) ≡ false) → (c : ℕ) → IsNear (10 ^ 22) (number_left side b c) (number_at b.truths c)
left_near side b proper off c =
    by_order c (length b.truths)
    (λ below.
    let adjacent = adjacent_fold b.base b.truths (by_choices side b.base b.truths []) b.fixes c proper.from_one proper.within (length-by_choices side b.base b.truths []) below off (by_choices_adjacent side b.base b.truths [] proper.from_one proper.within c below) in
    let most = proper.to_most in
    record { low = omega (arith, ints, adjacent.not_below, most); high = omega (arith, ints, adjacent.not_above, most) })
    (λ past.
    let none = left_past side b c past in
    let no_truth : number_at b.truths c ≡ pos 0 = get_or_past b.truths c (pos 0) past in
    record { low = omega (arith, ints, none, no_truth); high = omega (arith, ints, none, no_truth) })

-- ---- a cell that is no multiple is at one of its neighbours

abbrev IsSpot : ℤ → ℤ → ℤ → Type 0
IsSpot base truth number = (number ≡ neighbour base truth false) ⊎ (number ≡ neighbour base truth true)

spot : (base truth : ℤ) (up : Bool) → IsSpot base truth (neighbour base truth up)
spot base truth false = inl refl
spot base truth true = inr refl

to_side_off : (side : Bool) (base : ℤ) (truths : List ℤ) (c : ℕ) → c < length truths → is_multiple base (number_at truths c) ≡ false → number_at (by_choices side base truths []) c ≡ neighbour base (number_at truths c) side
to_side_off side base [] c below off = absurd (omega arith)
to_side_off side base (truth ∷ truths) zero below off = rw off refl
to_side_off side base (truth ∷ truths) (suc c) below off =
    elim (is_multiple base truth) as (λ b. number_at (if b then truth ∷ by_choices side base truths [] else neighbour base truth side ∷ by_choices side base truths []) (suc c) ≡ neighbour base (number_at truths c) side) [
      | true ↦ to_side_off side base truths c (omega arith) off
      | false ↦ to_side_off side base truths c (omega arith) off
    ]

spot_fold : (base : ℤ) (truths xs : List ℤ) (fixes : List Fix) (c : ℕ) → c < length xs → IsSpot base (number_at truths c) (number_at xs c) → IsSpot base (number_at truths c) (number_at (fold (with_fix base truths) xs fixes) c)
spot_fold base truths xs [] c below is = is
spot_fold base truths xs (fix ∷ fixes) c below is =
    let z : ℤ = neighbour base (number_at truths fix.0) fix.1 in
    spot_fold base truths (with_fix base truths xs fix) fixes c (omega (arith, length-set xs fix.0 z))
    (elim (fix.0 == c) as (λ b. (fix.0 == c) ≡ b → IsSpot base (number_at truths c) (number_at (set xs fix.0 z) c)) [
      | true ↦ λ test.
          let here : fix.0 ≡ c = (Decides-eqb fix.0 c).0 test in
          let at_fix : number_at (set xs fix.0 z) fix.0 ≡ z = get_or-set_same xs fix.0 z (pos 0) (omega arith) in
          subst (λ (j : ℕ). IsSpot base (number_at truths j) (number_at (set xs fix.0 z) j)) here (subst (λ (y : ℤ). IsSpot base (number_at truths fix.0) y) (sym at_fix) (spot base (number_at truths fix.0) fix.1))
      | false ↦ λ test.
          let apart : c ≢ fix.0 = grind (arith, nat_tests, test) in
          subst (λ (y : ℤ). IsSpot base (number_at truths c) y) (sym (get_or-set_other xs fix.0 c z (pos 0) apart)) is
    ] refl)

pub left_spot : (side : Bool) (b : FixedCells) (c : ℕ) → c < length b.truths → is_multiple b.base (number_at b.truths c) ≡ false → (number_left side b c ≡ neighbour b.base (number_at b.truths c) false) ⊎ (number_left side b c ≡ neighbour b.base (number_at b.truths c) true)
left_spot side b c below off =
    spot_fold b.base b.truths (by_choices side b.base b.truths []) b.fixes c (omega (arith, length-by_choices side b.base b.truths []))
    (subst (λ (y : ℤ). IsSpot b.base (number_at b.truths c) y) (sym (to_side_off side b.base b.truths c below off)) (spot b.base (number_at b.truths c) side))

-- a truth that is no multiple lies between its neighbours
pub between : (base truth : ℤ) → pos 1 ≤ℤ base → pos 0 ≤ℤ truth → is_multiple base truth ≡ false → (neighbour base truth false <ℤ truth) × (truth <ℤ neighbour base truth true)
between base truth positive from off =
    let rest = some_rest base truth positive from off in
    let within = left_within base truth positive from in
    (omega (arith, ints, rest), omega (arith, ints, within.1))

-- where a side is allowed, the number to that side is the neighbour there
pub allowed_side : (b : FixedCells) (c : ℕ) (up : Bool) → IsProper b.system b.truths b.base → c < length b.truths → is_multiple b.base (number_at b.truths c) ≡ false → allows b c up ≡ true → number_left up b c ≡ neighbour b.base (number_at b.truths c) up
allowed_side b c true proper below off is =
    let less : number_at b.truths c <ℤ number_left true b c = grind (arith, ints, is) in
    let truth = between b.base (number_at b.truths c) proper.from_one (proper.within c (pos 0) below).from_zero off in
    elim (left_spot true b c below off) as (λ _. number_left true b c ≡ neighbour b.base (number_at b.truths c) true) [ inl down ↦ absurd (omega (arith, ints, less, down, truth.0)) | inr up ↦ up ]
allowed_side b c false proper below off is =
    let less : number_left false b c <ℤ number_at b.truths c = grind (arith, ints, is) in
    let truth = between b.base (number_at b.truths c) proper.from_one (proper.within c (pos 0) below).from_zero off in
    elim (left_spot false b c below off) as (λ _. number_left false b c ≡ neighbour b.base (number_at b.truths c) false) [ inl down ↦ down | inr up ↦ absurd (omega (arith, ints, less, up, truth.1)) ]

pub taken_already : (b : FixedCells) (c : ℕ) (up : Bool) → IsProper b.system b.truths b.base → c < length b.truths → is_multiple b.base (number_at b.truths c) ≡ false → allows b c up ≡ true → number_left false b c ≡ number_left true b c → IsTaken c up b b
taken_already b c up proper below off allowed one = record {
  more = [];
  grown = (λ i. record b { fixes = sym (append-nil b.fixes) i });
  alone = All-nil (λ (fix : Fix). fix.0 ≡ c);
  here = λ side. both side up (allowed_side b c up proper below off allowed);
}
  where
    both : (side up : Bool) → number_left up b c ≡ neighbour b.base (number_at b.truths c) up → number_left side b c ≡ neighbour b.base (number_at b.truths c) up
    both false false is = is
    both false true is = one ∙ is
    both true false is = sym one ∙ is
    both true true is = is

pub taken_new : (b after : FixedCells) (c : ℕ) (up : Bool) → c < length b.truths → after ≡ record b { fixes = b.fixes ++ (c, up) ∷ [] } → IsTaken c up b after
taken_new b after c up below is = record {
  more = (c, up) ∷ [];
  grown = is;
  alone = All-cons (λ (fix : Fix). fix.0 ≡ c) (c, up) [] refl (All-nil (λ (fix : Fix). fix.0 ≡ c));
  here = λ side.
      ap (λ (a : FixedCells). number_left side a c) is
      ∙ ap (λ (xs : List ℤ). number_at xs c) (one_more_fix side b.base b.truths b.fixes (c, up))
      ∙ get_or-set_same (by_fixes side b.base b.truths b.fixes) c (neighbour b.base (number_at b.truths c) up) (pos 0) (omega (arith, length-by_fixes side b.base b.truths b.fixes, below));
}

-- ---- with nothing fixed the truths are between

to_side_on : (side : Bool) (base : ℤ) (truths : List ℤ) (c : ℕ) → c < length truths → is_multiple base (number_at truths c) ≡ true → number_at (by_choices side base truths []) c ≡ number_at truths c
to_side_on side base [] c below on = absurd (omega arith)
to_side_on side base (truth ∷ truths) zero below on = rw on refl
to_side_on side base (truth ∷ truths) (suc c) below on =
    elim (is_multiple base truth) as (λ b. number_at (if b then truth ∷ by_choices side base truths [] else neighbour base truth side ∷ by_choices side base truths []) (suc c) ≡ number_at truths c) [
      | true ↦ to_side_on side base truths c (omega arith) on
      | false ↦ to_side_on side base truths c (omega arith) on
    ]

pub truths_between : (base : ℤ) (truths : List ℤ) → pos 1 ≤ℤ base → All IsTruth truths → (c : ℕ) → (number_at (by_choices false base truths []) c ≤ℤ number_at truths c) × (number_at truths c ≤ℤ number_at (by_choices true base truths []) c)
truths_between base truths positive all c =
    by_order c (length truths)
    (λ below. elim (is_multiple base (number_at truths c)) as (λ b. is_multiple base (number_at truths c) ≡ b → (number_at (by_choices false base truths []) c ≤ℤ number_at truths c) × (number_at truths c ≤ℤ number_at (by_choices true base truths []) c)) [
      | true ↦ λ on. (omega (arith, ints, to_side_on false base truths c below on), omega (arith, ints, to_side_on true base truths c below on))
      | false ↦ λ off. let truth = between base (number_at truths c) positive (all c (pos 0) below).from_zero off in (omega (arith, ints, to_side_off false base truths c below off, truth.0), omega (arith, ints, to_side_off true base truths c below off, truth.1))
    ] refl)
    (λ past.
    let none : number_at truths c ≡ pos 0 = get_or_past truths c (pos 0) past in
    let low : number_at (by_choices false base truths []) c ≡ pos 0 = get_or_past (by_choices false base truths []) c (pos 0) (omega (arith, length-by_choices false base truths [])) in
    let high : number_at (by_choices true base truths []) c ≡ pos 0 = get_or_past (by_choices true base truths []) c (pos 0) (omega (arith, length-by_choices true base truths [])) in
    (omega (arith, ints, none, low), omega (arith, ints, none, high)))

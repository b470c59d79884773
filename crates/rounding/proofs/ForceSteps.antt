-- What relations force.
use Rattle.std.proofs.Common.{◌≡◌, ◌≢◌, ◌⊎◌, inl, inr, ℕ, ◌+◌, ◌<◌, ◌≤◌, ◌==◌, Bool, true, false, not, List, [], ◌∷◌, ◌++◌, length, get_or, drop, All, Some, slice_get, ℤ, pos, negsuc, neg_ℤ, ◌+ℤ◌, ◌-ℤ◌, ◌*ℤ◌, ◌≤ℤ◌, ◌<ℤ◌, int_lt, int_le, ◌&&◌, fold, zero, suc, arith, refl, ap, sym, subst, ◌∙◌, if◌then◌else◌, add-one, append-nil, append_assoc, length-append, get_or-set_other}
use Rattle.std.proofs.Math.IntN.{*ℤ_comm}
use Rattle.std.proofs.Math.ListN.{set}
use Rattle.std.proofs.Math.Seq.{drop-append_seam, drop-cons}
use Rattle.std.specs.List.{count_by}
use Rattle.std.proofs.lemmas.List.Sums.{sum_by-cons}
use Rattle.std.proofs.lemmas.Int.{ints}
use Rattle.std.proofs.lemmas.Bool.Decides.{Decides-eqb, nat_tests}
use Rattle.std.proofs.lemmas.List.Elements.{All-head, All-tail, All-cons, All-get_or}
use Rattle.std.proofs.lemmas.List.{drop-append-le}
use Rattle.std.proofs.lemmas.List.Sums.{fold-append}
use Rattle.std.proofs.lemmas.Option.{slice_get_within, get_or_from_slice_get}
use Rattle.sdc_base.specs.declared.relation.Relation.{Relation}
use Rattle.sdc_base.specs.Systems.{Numbers, NamesCells, form, number_at}
use Rattle.sdc_base.specs.Roundings.{IsRounding}
use Rattle.sdc_base.proofs.TotalLemmas.{sum_below-same}
use Rattle.sdc_base.proofs.WholeNumbers.{times_up, minus_times}
use Rattle.rounding.specs.Neighbours.{neighbour}
use Rattle.rounding.specs.Choices.{by_choices}
use Rattle.sdc_base.specs.Forms.{count_of}
use Rattle.rounding.specs.Extremes.{extreme_numbers, extreme_of_form, change}
use Rattle.rounding.specs.Tasks.{IsProper}
use Rattle.rounding.specs.Fixes.{Fix, with_fix, by_fixes, FixedCells, number_left, IsFree, IsWithin, NoneWithin, can_hold, FixesNone, HoldFrom, HoldOf}
use Rattle.rounding.specs.FixedSteps.{CountsCell, IsForced}
use Rattle.rounding.specs.Namings.{IsNaming}
use Rattle.rounding.proofs.Adjacency.{adjacent_is_neighbour}
use Rattle.rounding.proofs.Betweenness.{neighbour_lies}
use Rattle.rounding.proofs.Counting.{counted_total, counted_other}
use Rattle.signed_network.proofs.Balances.{form_by_cells}
use Rattle.rounding.proofs.FormLemmas.{least_is, greatest_is, extreme_changed}
use Rattle.rounding.proofs.FixSteps.{length-by_fixes, one_more_fix, set_here_or_not}
use Rattle.rounding.proofs.SumSteps.{changed_by_set, find_number, named_at}
use Rattle.rounding.proofs.NamingSteps.{listed_at}
use Rattle.rounding.proofs.SearchLemmas.{of_front, of_back}

-- ---- fixes that touch no cell of a relation

untouched_at : (r : Relation) (base : ℤ) (truths xs : List ℤ) (more : List Fix) (c : ℕ) → FixesNone r more → (count_of r c ≡ pos 0) ⊎ (number_at (fold (with_fix base truths) xs more) c ≡ number_at xs c)
untouched_at r base truths xs [] c untouched = inr refl
untouched_at r base truths xs (fix ∷ more) c untouched =
    let z : ℤ = neighbour base (number_at truths fix.0) fix.1 in
    elim (fix.0 == c) as (λ b. (fix.0 == c) ≡ b → (count_of r c ≡ pos 0) ⊎ (number_at (fold (with_fix base truths) (set xs fix.0 z) more) c ≡ number_at xs c)) [
      | true ↦ λ test. inl (subst (λ (j : ℕ). count_of r j ≡ pos 0) ((Decides-eqb fix.0 c).0 test) (All-head (λ (f : Fix). count_of r f.0 ≡ pos 0) fix more untouched))
      | false ↦ λ test.
          let apart : c ≢ fix.0 = grind (arith, nat_tests, test) in
          elim (untouched_at r base truths (set xs fix.0 z) more c (All-tail (λ (f : Fix). count_of r f.0 ≡ pos 0) fix more untouched)) as (λ _. (count_of r c ≡ pos 0) ⊎ (number_at (fold (with_fix base truths) (set xs fix.0 z) more) c ≡ number_at xs c)) [
            | inl none ↦ inl none
            | inr same ↦ inr (same ∙ get_or-set_other xs fix.0 c z (pos 0) apart)
          ]
    ] refl

-- where the numbers that a form counts are the same, its extreme is
extreme_agrees : (n : ℕ) (r : Relation) (one other one' other' : Numbers) → NamesCells n r → ((c : ℕ) → (count_of r c ≡ pos 0) ⊎ ((one' c ≡ one c) × (other' c ≡ other c))) → extreme_of_form one' other' r ≡ extreme_of_form one other r
extreme_agrees n r one other one' other' named agree =
    form_by_cells n (extreme_numbers r one' other') r named
    ∙ sum_below-same n (λ c. count_of r c *ℤ extreme_numbers r one' other' c) (λ c. count_of r c *ℤ extreme_numbers r one other c)
    (λ c below. elim (agree c) as (λ _. count_of r c *ℤ extreme_numbers r one' other' c ≡ count_of r c *ℤ extreme_numbers r one other c) [
      | inl none ↦ nothing (count_of r c) (extreme_numbers r one' other' c) (extreme_numbers r one other c) none
      | inr both ↦ (λ i. count_of r c *ℤ (if int_lt (pos 0) (count_of r c) then both.0 i else both.1 i))
    ])
    ∙ sym (form_by_cells n (extreme_numbers r one other) r named)
  where
    nothing : (k x y : ℤ) → k ≡ pos 0 → k *ℤ x ≡ k *ℤ y
    nothing k x y none = ap (λ t. t *ℤ x) none ∙ omega (arith, ints) ∙ sym (ap (λ t. t *ℤ y) none)

-- the relation can hold as before
pub untouched_holds : (b : FixedCells) (more : List Fix) (r : Relation) → NamesCells b.system.cells r → FixesNone r more → can_hold b r ≡ true → can_hold (record b { fixes = b.fixes ++ more }) r ≡ true
untouched_holds b more r named untouched holds =
    let after : FixedCells = record b { fixes = b.fixes ++ more } in
    let at_side : (side : Bool) (c : ℕ) → (count_of r c ≡ pos 0) ⊎ (number_left side after c ≡ number_left side b c) = λ side c.
    subst (λ (xs : List ℤ). (count_of r c ≡ pos 0) ⊎ (number_at xs c ≡ number_left side b c)) (sym (fold-append (with_fix b.base b.truths) (by_choices side b.base b.truths []) b.fixes more))
    (untouched_at r b.base b.truths (by_fixes side b.base b.truths b.fixes) more c untouched) in
    let both : (one other : Bool) (c : ℕ) → (count_of r c ≡ pos 0) ⊎ ((number_left one after c ≡ number_left one b c) × (number_left other after c ≡ number_left other b c)) = λ one other c.
    elim (at_side one c) as (λ _. (count_of r c ≡ pos 0) ⊎ ((number_left one after c ≡ number_left one b c) × (number_left other after c ≡ number_left other b c))) [
      | inl none ↦ inl none
      | inr first ↦ elim (at_side other c) as (λ _. (count_of r c ≡ pos 0) ⊎ ((number_left one after c ≡ number_left one b c) × (number_left other after c ≡ number_left other b c))) [ inl none ↦ inl none | inr second ↦ inr (first, second) ]
    ] in
    let low : extreme_of_form (number_left false after) (number_left true after) r ≡ extreme_of_form (number_left false b) (number_left true b) r = extreme_agrees b.system.cells r (number_left false b) (number_left true b) (number_left false after) (number_left true after) named (both false true) in
    let high : extreme_of_form (number_left true after) (number_left false after) r ≡ extreme_of_form (number_left true b) (number_left false b) r = extreme_agrees b.system.cells r (number_left true b) (number_left false b) (number_left true after) (number_left false after) named (both true false) in
    (λ i. int_le (low i) (pos 0) && int_le (pos 0) (high i)) ∙ holds

-- ---- nothing is forced, or one thing after another

pub forced_none : (b : FixedCells) → IsForced b b
forced_none b = record {
  more = [];
  grown = (λ i. record b { fixes = sym (append-nil b.fixes) i });
  narrower = λ c. (omega (arith, ints), omega (arith, ints));
  keeps = λ values rounding within. within;
}

pub forced_then : (p q s : FixedCells) → IsForced p q → IsForced q s → IsForced p s
forced_then p q s first second = record {
  more = first.more ++ second.more;
  grown = subst (λ (a : FixedCells). s ≡ record a { fixes = a.fixes ++ second.more }) first.grown second.grown ∙ ap (λ (fs : List Fix). record p { fixes = fs }) (append_assoc p.fixes first.more second.more);
  narrower = λ c. let one = first.narrower c in let two = second.narrower c in (omega (arith, ints, one.0, two.0), omega (arith, ints, one.1, two.1));
  keeps = λ values rounding within. second.keeps values (subst (λ (a : FixedCells). IsRounding a.system a.truths a.base values) (sym first.grown) rounding) (first.keeps values rounding within);
}

-- ---- a relation that can't hold

form_none : (b : FixedCells) (n : ℕ) (r : Relation) (values : List ℤ) → slice_get b.system.relations n ≡ Some r → IsRounding b.system b.truths b.base values → form (number_at values) r ≡ pos 0
form_none b n r values there rounding =
    subst (λ (one : Relation). form (number_at values) one ≡ pos 0) (get_or_from_slice_get b.system.relations n r r there) (All-get_or (λ r. form (number_at values) r ≡ pos 0) b.system.relations n r (slice_get_within b.system.relations n r there) rounding.hold)

pub too_high : (b : FixedCells) (n : ℕ) (r : Relation) → slice_get b.system.relations n ≡ Some r → pos 0 <ℤ extreme_of_form (number_left false b) (number_left true b) r → NoneWithin b
too_high b n r there above values rounding within =
    let low = least_is b.system.cells r (number_left false b) (number_left true b) (number_at values) (named_at b.system.cells b.system.relations n r b.system.named there) within in
    omega (arith, ints, low, above, form_none b n r values there rounding)

pub too_low : (b : FixedCells) (n : ℕ) (r : Relation) → slice_get b.system.relations n ≡ Some r → extreme_of_form (number_left true b) (number_left false b) r <ℤ pos 0 → NoneWithin b
too_low b n r there below values rounding within =
    let high = greatest_is b.system.cells r (number_left false b) (number_left true b) (number_at values) (named_at b.system.cells b.system.relations n r b.system.named there) within in
    omega (arith, ints, high, below, form_none b n r values there rounding)

-- ---- a cell that is left one way

-- what is left of a cell once another, or it, is fixed
left_after : (side : Bool) (b : FixedCells) (cell : ℕ) (up : Bool) (c : ℕ) → cell < length b.truths → ((cell ≡ c) × (number_left side (record b { fixes = b.fixes ++ (cell, up) ∷ [] }) c ≡ neighbour b.base (number_at b.truths cell) up)) ⊎ ((cell ≢ c) × (number_left side (record b { fixes = b.fixes ++ (cell, up) ∷ [] }) c ≡ number_left side b c))
left_after side b cell up c below =
    subst (λ (xs : List ℤ). ((cell ≡ c) × (number_at xs c ≡ neighbour b.base (number_at b.truths cell) up)) ⊎ ((cell ≢ c) × (number_at xs c ≡ number_left side b c))) (sym (one_more_fix side b.base b.truths b.fixes (cell, up)))
    (set_here_or_not (by_fixes side b.base b.truths b.fixes) cell c (neighbour b.base (number_at b.truths cell) up) (omega (arith, length-by_fixes side b.base b.truths b.fixes, below)))

-- values with the cell at a neighbour are within what is left once it is fixed there
within_fixed : (b : FixedCells) (cell : ℕ) (up : Bool) (values : List ℤ) → cell < length b.truths → number_at values cell ≡ neighbour b.base (number_at b.truths cell) up → IsWithin b values → IsWithin (record b { fixes = b.fixes ++ (cell, up) ∷ [] }) values
within_fixed b cell up values below is within c = (
  elim (left_after false b cell up c below) as (λ _. number_left false (record b { fixes = b.fixes ++ (cell, up) ∷ [] }) c ≤ℤ number_at values c) [
    | inl here ↦ let there = ap (λ (j : ℕ). number_at values j) (sym here.0) ∙ is in omega (arith, ints, here.1, there)
    | inr apart ↦ omega (arith, ints, apart.1, (within c).0)
  ],
  elim (left_after true b cell up c below) as (λ _. number_at values c ≤ℤ number_left true (record b { fixes = b.fixes ++ (cell, up) ∷ [] }) c) [
    | inl here ↦ let there = ap (λ (j : ℕ). number_at values j) (sym here.0) ∙ is in omega (arith, ints, here.1, there)
    | inr apart ↦ omega (arith, ints, apart.1, (within c).1)
  ],
)

-- no rounding within what is left has the cell at this neighbour
abbrev Bars : FixedCells → ℕ → Bool → Type 0
Bars b cell side = (values : List ℤ) → IsRounding b.system b.truths b.base values → IsWithin b values → number_at values cell ≡ neighbour b.base (number_at b.truths cell) side → ⊥

-- a multiple next to the truth that isn't the one is the other
one_or_other : (base truth value : ℤ) (side choice : Bool) → value ≡ neighbour base truth choice → (value ≡ neighbour base truth side → ⊥) → value ≡ neighbour base truth (not side)
one_or_other base truth value true true is barred = absurd (barred is)
one_or_other base truth value true false is barred = is
one_or_other base truth value false true is barred = is
one_or_other base truth value false false is barred = absurd (barred is)

-- so it is fixed at the other one, and no rounding is lost
pub forced_fix : (b after : FixedCells) (cell : ℕ) (side up : Bool) → IsProper b.system b.truths b.base → IsFree b cell → Bars b cell side → up ≡ not side → after ≡ record b { fixes = b.fixes ++ (cell, up) ∷ [] } → IsForced b after
forced_fix b after cell side up proper free bars other made =
    let is : after ≡ record b { fixes = b.fixes ++ (cell, not side) ∷ [] } = made ∙ ap (λ (u : Bool). record b { fixes = b.fixes ++ (cell, u) ∷ [] }) other in
    let truth : ℤ = number_at b.truths cell in
    let below : cell < b.system.cells = omega (arith, free.inside, proper.each) in
    let lies = neighbour_lies b.base truth (not side) proper.from_one in
    subst (λ (a : FixedCells). IsForced b a) (sym is)
    (record {
      more = (cell, not side) ∷ [];
      grown = refl;
      narrower = λ c. (
        elim (left_after false b cell (not side) c free.inside) as (λ _. number_left false b c ≤ℤ number_left false (record b { fixes = b.fixes ++ (cell, not side) ∷ [] }) c) [
          | inl here ↦ let before : number_left false b c ≡ neighbour b.base truth false = ap (λ (j : ℕ). number_left false b j) (sym here.0) ∙ free.low in omega (arith, ints, here.1, before, lies.0)
          | inr apart ↦ omega (arith, ints, apart.1)
        ],
        elim (left_after true b cell (not side) c free.inside) as (λ _. number_left true (record b { fixes = b.fixes ++ (cell, not side) ∷ [] }) c ≤ℤ number_left true b c) [
          | inl here ↦ let before : number_left true b c ≡ neighbour b.base truth true = ap (λ (j : ℕ). number_left true b j) (sym here.0) ∙ free.high in omega (arith, ints, here.1, before, lies.1)
          | inr apart ↦ omega (arith, ints, apart.1)
        ],
      );
      keeps = λ values rounding within.
          let found = adjacent_is_neighbour b.base truth (number_at values cell) proper.from_one (proper.within cell (pos 0) free.inside).from_zero (rounding.adjacent cell below) in
          within_fixed b cell (not side) values free.inside (one_or_other b.base truth (number_at values cell) side found.0 found.1 (λ at_side. bars values rounding within at_side)) within;
    })

-- ---- the extremes once a cell is fixed

extreme_after : (one other : Bool) (b : FixedCells) (r : Relation) (cell : ℕ) (up : Bool) (by_one by_other : ℤ) → NamesCells b.system.cells r → IsProper b.system b.truths b.base → cell < length b.truths
    → by_one ≡ neighbour b.base (number_at b.truths cell) up -ℤ number_left one b cell → by_other ≡ neighbour b.base (number_at b.truths cell) up -ℤ number_left other b cell
    → extreme_of_form (number_left one (record b { fixes = b.fixes ++ (cell, up) ∷ [] })) (number_left other (record b { fixes = b.fixes ++ (cell, up) ∷ [] })) r ≡ extreme_of_form (number_left one b) (number_left other b) r +ℤ change r cell by_one by_other
extreme_after one other b r cell up by_one by_other named proper below is_one is_other =
    let z : ℤ = neighbour b.base (number_at b.truths cell) up in
    let first : List ℤ = by_fixes one b.base b.truths b.fixes in
    let second : List ℤ = by_fixes other b.base b.truths b.fixes in
    (λ i. extreme_of_form (number_at (one_more_fix one b.base b.truths b.fixes (cell, up) i)) (number_at (one_more_fix other b.base b.truths b.fixes (cell, up) i)) r)
    ∙ extreme_changed b.system.cells r cell by_one by_other (number_at first) (number_at second) (number_at (set first cell z)) (number_at (set second cell z)) named (omega (arith, below, proper.each))
    (changed_by_set first cell z by_one (omega (arith, length-by_fixes one b.base b.truths b.fixes, below)) is_one)
    (changed_by_set second cell z by_other (omega (arith, length-by_fixes other b.base b.truths b.fixes, below)) is_other)

change_above : (r : Relation) (cell : ℕ) (one other : ℤ) → pos 1 ≤ℤ count_of r cell → change r cell one other ≡ count_of r cell *ℤ one
change_above r cell one other above = counted (count_of r cell) above
  where
    counted : (k : ℤ) → pos 1 ≤ℤ k → k *ℤ (if int_lt (pos 0) k then one else other) ≡ k *ℤ one
    counted k up = let test : int_lt (pos 0) k ≡ true = grind (arith, ints) in rw test refl

change_below : (r : Relation) (cell : ℕ) (one other : ℤ) → count_of r cell ≤ℤ negsuc 0 → change r cell one other ≡ count_of r cell *ℤ other
change_below r cell one other below = counted (count_of r cell) below
  where
    counted : (k : ℤ) → k ≤ℤ negsuc 0 → k *ℤ (if int_lt (pos 0) k then one else other) ≡ k *ℤ other
    counted k down = let test : int_lt (pos 0) k ≡ false = grind (arith, ints) in rw test refl

-- a base or more, and a base less or lower
above_up : (k base : ℤ) → pos 1 ≤ℤ base → pos 1 ≤ℤ k → base ≤ℤ (k *ℤ base)
above_up k base positive above = let more = times_up base (pos 1) k (omega (arith, ints)) above in omega (arith, ints, more, *ℤ_comm k base)

above_down : (k base : ℤ) → pos 1 ≤ℤ base → pos 1 ≤ℤ k → (k *ℤ neg_ℤ base) ≤ℤ neg_ℤ base
above_down k base positive above = let more = times_up base (pos 1) k (omega (arith, ints)) above in omega (arith, ints, more, *ℤ_comm k (neg_ℤ base), minus_times base k)

below_up : (k base : ℤ) → pos 1 ≤ℤ base → k ≤ℤ negsuc 0 → (k *ℤ base) ≤ℤ neg_ℤ base
below_up k base positive below = let less = times_up base k (negsuc 0) (omega (arith, ints)) below in omega (arith, ints, less, *ℤ_comm k base)

below_down : (k base : ℤ) → pos 1 ≤ℤ base → k ≤ℤ negsuc 0 → base ≤ℤ (k *ℤ neg_ℤ base)
below_down k base positive below = let less = times_up base k (negsuc 0) (omega (arith, ints)) below in omega (arith, ints, less, *ℤ_comm k (neg_ℤ base), minus_times base k)

-- ---- what the extremes bar

-- where the least with a base more is above 0, a cell counted above 0 times isn't up, and one counted below isn't down
pub least_bars : (b : FixedCells) (n : ℕ) (r : Relation) (cell : ℕ) (above : Bool) → IsProper b.system b.truths b.base → slice_get b.system.relations n ≡ Some r → IsFree b cell → CountsCell above r cell → pos 0 <ℤ (extreme_of_form (number_left false b) (number_left true b) r +ℤ b.base) → Bars b cell above
least_bars b n r cell true proper there free counted high values rounding within is =
    let named = named_at b.system.cells b.system.relations n r b.system.named there in
    let low = least_is b.system.cells r _ _ (number_at values) named (within_fixed b cell true values free.inside is within) in
    let moved = extreme_after false true b r cell true b.base (pos 0) named proper free.inside (omega (arith, ints, free.low)) (omega (arith, ints, free.high)) in
    let more = above_up (count_of r cell) b.base proper.from_one counted in
    omega (arith, ints, low, moved, change_above r cell b.base (pos 0) counted, more, high, form_none b n r values there rounding)
least_bars b n r cell false proper there free counted high values rounding within is =
    let named = named_at b.system.cells b.system.relations n r b.system.named there in
    let low = least_is b.system.cells r _ _ (number_at values) named (within_fixed b cell false values free.inside is within) in
    let moved = extreme_after false true b r cell false (pos 0) (neg_ℤ b.base) named proper free.inside (omega (arith, ints, free.low)) (omega (arith, ints, free.high)) in
    let more = below_down (count_of r cell) b.base proper.from_one counted in
    omega (arith, ints, low, moved, change_below r cell (pos 0) (neg_ℤ b.base) counted, more, high, form_none b n r values there rounding)

-- where the greatest with a base less is below 0, a cell counted above 0 times isn't down, and one counted below isn't up
pub greatest_bars : (b : FixedCells) (n : ℕ) (r : Relation) (cell : ℕ) (above : Bool) → IsProper b.system b.truths b.base → slice_get b.system.relations n ≡ Some r → IsFree b cell → CountsCell above r cell → (extreme_of_form (number_left true b) (number_left false b) r -ℤ b.base) <ℤ pos 0 → Bars b cell (not above)
greatest_bars b n r cell true proper there free counted low values rounding within is =
    let named = named_at b.system.cells b.system.relations n r b.system.named there in
    let high = greatest_is b.system.cells r _ _ (number_at values) named (within_fixed b cell false values free.inside is within) in
    let moved = extreme_after true false b r cell false (neg_ℤ b.base) (pos 0) named proper free.inside (omega (arith, ints, free.high)) (omega (arith, ints, free.low)) in
    let less = above_down (count_of r cell) b.base proper.from_one counted in
    omega (arith, ints, high, moved, change_above r cell (neg_ℤ b.base) (pos 0) counted, less, low, form_none b n r values there rounding)
greatest_bars b n r cell false proper there free counted low values rounding within is =
    let named = named_at b.system.cells b.system.relations n r b.system.named there in
    let high = greatest_is b.system.cells r _ _ (number_at values) named (within_fixed b cell true values free.inside is within) in
    let moved = extreme_after true false b r cell true (pos 0) b.base named proper free.inside (omega (arith, ints, free.high)) (omega (arith, ints, free.low)) in
    let less = below_up (count_of r cell) b.base proper.from_one counted in
    omega (arith, ints, high, moved, change_below r cell (pos 0) b.base counted, less, low, form_none b n r values there rounding)

-- ---- how a relation counts its cells

pub total_counts : (r : Relation) (n : ℕ) (parts : List ℕ) → parts ≡ r.parts → n ≡ count_by (λ part. part == r.total) parts → n ≡ 0 → CountsCell true r r.total
total_counts r n parts same is none =
    let times = counted_total r r.total 0 refl (sym none ∙ is ∙ ap (λ (ps : List ℕ). count_by (λ part. part == r.total) ps) same) in
    omega (arith, ints, times)

part_taken : (parts : List ℕ) (k : ℕ) → k < length parts → 1 ≤ count_by (λ part. part == get_or parts k 0) parts
part_taken [] k below = absurd (omega arith)
part_taken (part ∷ parts) zero below =
    let test : (part == part) ≡ true = grind (arith, nat_tests) in
    let one : ◌≡◌ {A = ℕ} (if part == part then 1 else 0) 1 = rw test refl in
    let more = sum_by-cons (λ one. if one == part then 1 else 0) part parts in
    omega (arith, one, more)
part_taken (part ∷ parts) (suc k) below =
    let later = part_taken parts k (omega arith) in
    let more = sum_by-cons (λ one. if one == get_or parts k 0 then 1 else 0) part parts in
    omega (arith, later, more)

pub part_counts : (r : Relation) (k cell : ℕ) → k < length r.parts → cell ≡ get_or r.parts k 0 → (cell ≡ r.total → ⊥) → CountsCell false r cell
part_counts r k cell below is apart =
    let taken = part_taken r.parts k below in
    let times = counted_other r cell (count_by (λ part. part == cell) r.parts) (λ same. apart (sym same)) refl in
    let same : count_by (λ part. part == cell) r.parts ≡ count_by (λ part. part == get_or r.parts k 0) r.parts = ap (λ (c : ℕ). count_by (λ part. part == c) r.parts) is in
    omega (arith, ints, times, taken, same)

-- ---- on the way through relations and fixed cells

pub found_at : {X : Type 0} (xs : List X) (n : ℕ) → n < length xs → (x : X) × (slice_get xs n ≡ Some x)
found_at {X} [] n below = absurd (omega arith)
found_at {X} (x ∷ xs) zero below = (x, refl)
found_at {X} (x ∷ xs) (suc n) below = found_at xs n (omega arith)

pub twice_not : (b : Bool) → b ≡ not (not b)
twice_not true = refl
twice_not false = refl

-- the relation with this number, where some cells more were fixed
pub same_relation : (before after : FixedCells) (n : ℕ) (r : Relation) → IsForced before after → slice_get after.system.relations n ≡ Some r → slice_get before.system.relations n ≡ Some r
same_relation before after n r forced there = ap (λ (a : FixedCells). slice_get a.system.relations n) (sym forced.grown) ∙ there

holds_on : (before after : FixedCells) (n : ℕ) (r : Relation) (forced : IsForced before after) → slice_get before.system.relations n ≡ Some r → FixesNone r forced.more → can_hold before r ≡ true → can_hold after r ≡ true
holds_on before after n r forced there untouched holds =
    subst (λ (a : FixedCells). can_hold a r ≡ true) (sym forced.grown) (untouched_holds before forced.more r (named_at before.system.cells before.system.relations n r before.system.named there) untouched holds)

-- the cells fixed since a place, then and later
fixed_since : (before after : FixedCells) (from : ℕ) (r : Relation) (forced : IsForced before after) → from ≤ length before.fixes → FixesNone r (drop from after.fixes) → FixesNone r (drop from before.fixes) × FixesNone r forced.more
fixed_since before after from r forced inside untouched =
    let P : Fix → Type 0 = λ fix. count_of r fix.0 ≡ pos 0 in
    let parts : drop from after.fixes ≡ drop from before.fixes ++ forced.more = ap (λ (a : FixedCells). drop from a.fixes) forced.grown ∙ drop-append-le from before.fixes forced.more inside in
    let both : All P (drop from before.fixes ++ forced.more) = subst (λ (fs : List Fix). All P fs) parts untouched in
    (of_front P (drop from before.fixes) forced.more both, of_back P (drop from before.fixes) forced.more both)

pub grown_long : (before after : FixedCells) → IsForced before after → length before.fixes ≤ length after.fixes
grown_long before after forced = omega (arith, ap (λ (a : FixedCells). length a.fixes) forced.grown, length-append before.fixes forced.more)

-- a relation that could hold and isn't touched can hold after more is fixed
pub hold_further : (first before after : FixedCells) (n : ℕ) (r : Relation) → IsForced first before → IsForced before after → slice_get after.system.relations n ≡ Some r → FixesNone r (drop (length first.fixes) after.fixes)
    → (slice_get before.system.relations n ≡ Some r → FixesNone r (drop (length first.fixes) before.fixes) → can_hold before r ≡ true) → can_hold after r ≡ true
hold_further first before after n r one two there untouched holds =
    let both = fixed_since before after (length first.fixes) r two (grown_long first before one) untouched in
    let found = same_relation before after n r two there in
    holds_on before after n r two found both.1 (holds found both.0)

-- one fixed cell more has been gone through, with the relations that name it
pub ready_on : (before after : FixedCells) (naming : List (List ℕ)) (next cell : ℕ) (item numbers : List ℕ) → IsForced before after → IsNaming before.system naming → next < length before.fixes → ((fix : Fix) → slice_get before.fixes next ≡ Some fix → cell ≡ fix.0) → cell < before.system.cells → item ≡ get_or naming cell item → numbers ≡ item
    → HoldFrom next before → HoldOf numbers (length before.fixes) after → HoldFrom (next + 1) after
ready_on before after naming next cell item numbers forced is inside cell_is below read same ready hold n r there untouched =
    let both = fixed_since before after (next + 1) r forced (omega arith) untouched in
    let found = same_relation before after n r forced there in
    let listed = listed_at before.system naming cell item numbers is below read same in
    elim (find_number numbers n) as (λ _. can_hold after r ≡ true) [
      | inl at_place ↦
          let more : drop (length before.fixes) after.fixes ≡ forced.more = ap (λ (a : FixedCells). drop (length before.fixes) a.fixes) forced.grown ∙ drop-append_seam before.fixes forced.more in
          hold at_place.0 r at_place.1.0 (ap (λ (j : ℕ). slice_get after.system.relations j) at_place.1.1 ∙ there) (subst (λ (fs : List Fix). FixesNone r fs) (sym more) both.1)
      | inr lacks ↦
          let fix = found_at before.fixes next inside in
          let none : count_of r fix.0.0 ≡ pos 0 = ap (λ (j : ℕ). count_of r j) (sym (cell_is fix.0 fix.1)) ∙ listed.each_counting n r found lacks in
          let here : drop next before.fixes ≡ fix.0 ∷ drop (next + 1) before.fixes = drop-cons before.fixes next fix.0 inside ∙ ap (λ (f : Fix). f ∷ drop (suc next) before.fixes) (get_or_from_slice_get before.fixes next fix.0 fix.0 fix.1) ∙ ap (λ (k : ℕ). fix.0 ∷ drop k before.fixes) (sym (add-one next)) in
          holds_on before after n r forced found both.1 (ready n r found (subst (λ (fs : List Fix). FixesNone r fs) (sym here) (All-cons (λ (f : Fix). count_of r f.0 ≡ pos 0) fix.0 (drop (next + 1) before.fixes) none both.0)))
    ]

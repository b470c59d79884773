-- Weighted forms are 0 on every world, so the bound sum limits the asked cell in all of them.
use Rattle.std.proofs.Common.{◌≡◌, ℕ, ◌<◌, ◌==◌, Bool, true, false, List, [], ◌∷◌, map, length, All, Option, Some, None, IsSome, slice_get, get_or, ℤ, pos, neg_ℤ, ◌+ℤ◌, ◌-ℤ◌, ◌*ℤ◌, ◌≤ℤ◌, ◌<ℤ◌, int_lt, arith, refl, ap, sym, subst, ◌∙◌, if◌then◌else◌}
use Rattle.std.specs.Option.{option_map_or, ForSome}
use Rattle.std.proofs.Math.IntN.{*ℤ_comm}
use Rattle.std.proofs.lemmas.Int.{ints, by_lt_z}
use Rattle.std.proofs.lemmas.List.Elements.{All-nil, All-head, All-tail, All-cons, All-append, All-map, All-weaker, All-get_or}
use Rattle.std.proofs.lemmas.Option.{slice_get_within, get_or_from_slice_get, slice_get-get_or}
use Rattle.sdc_base.specs.declared.relation.Relation.{Relation}
use Rattle.sdc_base.specs.declared.cell.Cell.{Cell}
use Rattle.sdc_base.specs.declared.side.Side.{Side}
use Rattle.sdc_base.specs.declared.side.Side.TheVariants.{Above, Below}
use Rattle.sdc_base.proofs.WholeNumbers.{distrib, distrib_right, minus_times, times_up, times_down, times_more, below_from_times, swap_times}
use Rattle.sdc_base.proofs.TotalLemmas.{sum_of-cons, sum_of-append, times_sum, sum_of-map, sum_below-add, sum_below-times, sum_below-le, sum_below-same, only}
use Rattle.sdc_base.specs.Totals.{sum_of, sum_below}
use Rattle.sdc_base.specs.Systems.{Numbers, form, HoldOn, NamesCells}
use Rattle.sdc_base.specs.Forms.{Term, form_times, weighted_forms, coefficient}
use Rattle.sdc_base.specs.HiddenSets.{is_hidden}
use Rattle.sdc_base.specs.Worlds.{IsWithinBounds, amount_toward}
use Rattle.sdc_base.specs.Refutations.{WeakDuality, refuting_terms, share, share_at}

-- what multiples of cells come to on the numbers of the cells
abbrev pub value_of : Numbers → List Term → ℤ
value_of numbers terms = sum_of (λ term. term.1 *ℤ numbers term.0) terms

-- a form so many times comes to so many times what the form is
pub value_of-form_times : (numbers : Numbers) (times : ℤ) (r : Relation) → value_of numbers (form_times times r) ≡ times *ℤ form numbers r
value_of-form_times numbers times r =
    sum_of-cons (λ (t : Term). t.1 *ℤ numbers t.0) (r.total, times) (map (λ part. (part, neg_ℤ times)) r.parts)
    ∙ omega (arith, ints, sum_of-map (λ (t : Term). t.1 *ℤ numbers t.0) (λ part. (part, neg_ℤ times)) r.parts, times_sum (neg_ℤ times) numbers r.parts, minus_times times (sum_of numbers r.parts), distrib times (numbers r.total) (neg_ℤ (sum_of numbers r.parts)), *ℤ_comm times (neg_ℤ (sum_of numbers r.parts)), minus_times (sum_of numbers r.parts) times, *ℤ_comm times (sum_of numbers r.parts))

-- ---- the same terms, cell by cell

one_more : (numbers : Numbers) (term : Term) (terms : List Term) (c : ℕ) → coefficient (term ∷ terms) c *ℤ numbers c ≡ (if term.0 == c then term.1 *ℤ numbers c else pos 0) +ℤ coefficient terms c *ℤ numbers c
one_more numbers term terms c =
    ap (λ k. k *ℤ numbers c) (sum_of-cons (λ (t : Term). if t.0 == c then t.1 else pos 0) term terms)
    ∙ distrib_right (numbers c) (if term.0 == c then term.1 else pos 0) (coefficient terms c)
    ∙ elim (term.0 == c) as (λ b. (if b then term.1 else pos 0) *ℤ numbers c +ℤ coefficient terms c *ℤ numbers c ≡ (if b then term.1 *ℤ numbers c else pos 0) +ℤ coefficient terms c *ℤ numbers c) [ true ↦ refl | false ↦ omega (arith, ints) ]

pub by_cells : (n : ℕ) (numbers : Numbers) (terms : List Term) → All (λ (t : Term). t.0 < n) terms → sum_below n (λ c. coefficient terms c *ℤ numbers c) ≡ value_of numbers terms
by_cells n numbers [] inside = sum_below-same n (λ c. pos 0 *ℤ numbers c) (λ c. pos 0 *ℤ pos 0) (λ c h. omega (arith, ints)) ∙ sum_below-times n (pos 0) (λ c. pos 0) ∙ omega (arith, ints)
by_cells n numbers (term ∷ terms) inside =
    sum_below-same n (λ c. coefficient (term ∷ terms) c *ℤ numbers c) (λ c. (if term.0 == c then term.1 *ℤ numbers c else pos 0) +ℤ coefficient terms c *ℤ numbers c) (λ c h. one_more numbers term terms c)
    ∙ sum_below-add n (λ c. if term.0 == c then term.1 *ℤ numbers c else pos 0) (λ c. coefficient terms c *ℤ numbers c)
    ∙ omega (arith, ints, only n term.0 (λ c. term.1 *ℤ numbers c) (All-head (λ (t : Term). t.0 < n) term terms inside), by_cells n numbers terms (All-tail (λ (t : Term). t.0 < n) term terms inside), sum_of-cons (λ (t : Term). t.1 *ℤ numbers t.0) term terms)

-- ---- weighted forms are 0 where the relations hold, and name cells of the system

pub All-found : {X : Type 0} (P : X → Type 0) (xs : List X) (k : ℕ) (x : X) → All P xs → slice_get xs k ≡ Some x → P x
All-found P xs k x all found = subst P (get_or_from_slice_get xs k x x found) (All-get_or P xs k x (slice_get_within xs k x found) all)

-- what holds of no terms and of each relation's, so many times, holds of those of one multiplier
named : (P : List Term → Type 0) (relations : List Relation) (m : Term) → P [] → All (λ r. P (form_times m.1 r)) relations → P (option_map_or (form_times m.1) (slice_get relations m.0) [])
named P relations m none each =
    elim (slice_get relations m.0) as (λ o. slice_get relations m.0 ≡ o → P (option_map_or (form_times m.1) o [])) [
      | None ↦ λ _. none
      | Some r ↦ λ found. All-found (λ r. P (form_times m.1 r)) relations m.0 r each found
    ] refl

times_none : (times : ℤ) (z : ℤ) → z ≡ pos 0 → times *ℤ z ≡ pos 0
times_none times z is = rw is (*ℤ_comm times (pos 0) ∙ omega (arith, ints))

pub weighted_is_none : (numbers : Numbers) (relations : List Relation) (multipliers : List Term) → HoldOn numbers relations → value_of numbers (weighted_forms relations multipliers) ≡ pos 0
weighted_is_none numbers relations [] hold = refl
weighted_is_none numbers relations (m ∷ multipliers) hold =
    let terms : List Term = option_map_or (form_times m.1) (slice_get relations m.0) [] in
    let zero_form : value_of numbers terms ≡ pos 0 =
    named (λ ts. value_of numbers ts ≡ pos 0) relations m refl (All-weaker (λ r. form numbers r ≡ pos 0) (λ r. value_of numbers (form_times m.1 r) ≡ pos 0) (λ r is. value_of-form_times numbers m.1 r ∙ times_none m.1 (form numbers r) is) relations hold) in
    sum_of-append (λ (t : Term). t.1 *ℤ numbers t.0) terms (weighted_forms relations multipliers)
    ∙ omega (arith, ints, weighted_is_none numbers relations multipliers hold, zero_form)

pub terms_inside : (n : ℕ) (times : ℤ) (r : Relation) → NamesCells n r → All (λ (t : Term). t.0 < n) (form_times times r)
terms_inside n times r inside = All-cons (λ (t : Term). t.0 < n) (r.total, times) (map (λ part. (part, neg_ℤ times)) r.parts) inside.total_named (All-map (λ (t : Term). t.0 < n) (λ (part : ℕ). (part, neg_ℤ times)) r.parts inside.parts_named)

pub weighted_inside : (n : ℕ) (relations : List Relation) (multipliers : List Term) → All (NamesCells n) relations → All (λ (t : Term). t.0 < n) (weighted_forms relations multipliers)
weighted_inside n relations [] inside = All-nil (λ (t : Term). t.0 < n)
weighted_inside n relations (m ∷ multipliers) inside =
    let terms : List Term = option_map_or (form_times m.1) (slice_get relations m.0) [] in
    let here : All (λ (t : Term). t.0 < n) terms =
    named (λ ts. All (λ (t : Term). t.0 < n) ts) relations m (All-nil (λ (t : Term). t.0 < n)) (All-weaker (NamesCells n) (λ r. All (λ (t : Term). t.0 < n) (form_times m.1 r)) (terms_inside n m.1) relations inside) in
    All-append (λ (t : Term). t.0 < n) terms (weighted_forms relations multipliers) here (weighted_inside n relations multipliers inside)

-- ---- a cell's share bounds what it adds in every world

-- within a bound by the value is within it by the move
pub lessened : (den truth bound : ℤ) → den *ℤ (bound -ℤ truth) ≡ den *ℤ bound -ℤ den *ℤ truth
lessened den truth bound = distrib den bound (neg_ℤ truth) ∙ omega (arith, ints, *ℤ_comm den (neg_ℤ truth), minus_times truth den, *ℤ_comm den truth)

above : (cell : Cell) (high : Option ℤ) (k den move : ℤ) → pos 0 <ℤ k → IsSome high → ForSome high (λ h. (den *ℤ cell.truth +ℤ move) ≤ℤ (den *ℤ h)) → (k *ℤ move) ≤ℤ (den *ℤ (k *ℤ option_map_or (λ h. h -ℤ cell.truth) high (pos 0)))
above cell None k den move up some within = cc
above cell (Some h) k den move up some within =
    let room : move ≤ℤ (den *ℤ (h -ℤ cell.truth)) = omega (arith, ints, within h refl, lessened den cell.truth h) in
    let most : (k *ℤ move) ≤ℤ (k *ℤ (den *ℤ (h -ℤ cell.truth))) = times_up k move (den *ℤ (h -ℤ cell.truth)) (omega (arith, ints)) room in
    subst (λ v. (k *ℤ move) ≤ℤ v) (swap_times k den (h -ℤ cell.truth)) most

bounded_share : (hidden : Bool) (cell : Cell) (k den move : ℤ) → (hidden ≡ false → move ≡ pos 0) → IsWithinBounds cell den move → (hidden ≡ true → pos 0 <ℤ k → IsSome cell.high) → (k *ℤ move) ≤ℤ (den *ℤ share hidden k cell)
bounded_share false cell k den move shown within bounded = let none : move ≡ pos 0 = shown refl in rw none (omega (arith, ints, times_none k (pos 0) refl, times_none den (pos 0) refl))
bounded_share true cell k den move shown within bounded =
    by_lt_z (pos 0) k
    (λ up. let test : int_lt (pos 0) k ≡ true = grind (arith, ints) in rw test (above cell cell.high k den move up (bounded refl up) within.to_high))
    (λ down.
    let test : int_lt (pos 0) k ≡ false = grind (arith, ints) in
    let room : (den *ℤ (cell.low -ℤ cell.truth)) ≤ℤ move = omega (arith, ints, within.from_low, lessened den cell.truth cell.low) in
    let most : (k *ℤ move) ≤ℤ (k *ℤ (den *ℤ (cell.low -ℤ cell.truth))) = times_down k (den *ℤ (cell.low -ℤ cell.truth)) move down room in
    rw test (subst (λ v. (k *ℤ move) ≤ℤ v) (swap_times k den (cell.low -ℤ cell.truth)) most))

pub there : (cells : List Cell) (n : ℕ) → n < length cells → (cell : Cell) × (slice_get cells n ≡ Some cell)
there [] n inside = absurd (omega arith)
there (cell ∷ cells) n inside = (get_or (cell ∷ cells) n cell, slice_get-get_or (cell ∷ cells) n cell inside)

-- the same of the cell with a number, where there is one
bounded_at : (cells : List Cell) (flags : List Bool) (k : Numbers) (n : ℕ) (den move : ℤ) → n < length cells → (is_hidden flags n ≡ false → move ≡ pos 0) → ((cell : Cell) → slice_get cells n ≡ Some cell → IsWithinBounds cell den move) → ((cell : Cell) → slice_get cells n ≡ Some cell → is_hidden flags n ≡ true → pos 0 <ℤ k n → IsSome cell.high) → (k n *ℤ move) ≤ℤ (den *ℤ share_at cells flags k n)
bounded_at cells flags k n den move inside shown within bounded =
    elim (slice_get cells n) as (λ o. slice_get cells n ≡ o → (k n *ℤ move) ≤ℤ (den *ℤ option_map_or (share (is_hidden flags n) (k n)) o (pos 0))) [
      | None ↦ λ none. absurd (let found : (cell : Cell) × (slice_get cells n ≡ Some cell) = there cells n inside in let clash : None ≡ Some found.0 = sym none ∙ found.1 in cc)
      | Some cell ↦ λ found. bounded_share (is_hidden flags n) cell (k n) den move shown (within cell found) (bounded cell found)
    ] refl

toward_times : (side : Side) (q move : ℤ) → amount_toward side q *ℤ move ≡ q *ℤ amount_toward side move
toward_times Above q move = refl
toward_times Below q move = minus_times q move ∙ omega (arith, ints, *ℤ_comm q (neg_ℤ move), minus_times move q, *ℤ_comm q move)

pub duality : WeakDuality
duality system cells flags asked side least q multipliers one_each asked_inside refutation den moves world =
    let n : ℕ = length cells in
    let terms : List Term = refuting_terms system.relations asked side q multipliers in
    let k : Numbers = coefficient terms in
    let Inside : Term → Type 0 = λ t. t.0 < n in
    let inside : asked < n = omega (arith, one_each) in
    let names : All (NamesCells n) system.relations = subst (λ m. All (NamesCells m) system.relations) (sym one_each) system.named in
    let added : value_of moves terms ≡ amount_toward side q *ℤ moves asked =
    sum_of-cons (λ (t : Term). t.1 *ℤ moves t.0) (asked, amount_toward side q) (weighted_forms system.relations multipliers)
    ∙ omega (arith, ints, weighted_is_none moves system.relations multipliers world.relations_hold) in
    let apart : sum_below n (λ c. k c *ℤ moves c) ≡ value_of moves terms =
    by_cells n moves terms (All-cons Inside (asked, amount_toward side q) (weighted_forms system.relations multipliers) inside (weighted_inside n system.relations multipliers names)) in
    let shares : Numbers = share_at cells flags k in
    let most : sum_below n (λ c. k c *ℤ moves c) ≤ℤ sum_below n (λ c. den *ℤ shares c) =
    sum_below-le n (λ c. k c *ℤ moves c) (λ c. den *ℤ shares c)
    (λ c below. bounded_at cells flags k c den (moves c) below (world.shown_stay c (omega (arith, one_each))) (world.bounds_hold c) (refutation.bounded c)) in
    let whole : sum_below n (λ c. den *ℤ shares c) ≡ den *ℤ sum_below n shares = sum_below-times n den shares in
    let strict : (den *ℤ sum_below n shares) <ℤ (den *ℤ (q *ℤ least)) = times_more den (sum_below n shares) (q *ℤ least) world.positive refutation.below in
    let left : amount_toward side q *ℤ moves asked ≡ q *ℤ amount_toward side (moves asked) = toward_times side q (moves asked) in
    let right : den *ℤ (q *ℤ least) ≡ q *ℤ (den *ℤ least) = swap_times den q least in
    below_from_times q (amount_toward side (moves asked)) (den *ℤ least) refutation.q_positive (omega (arith, ints))

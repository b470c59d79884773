-- Where the moves are tight, the bound sum is how far the asked cell moves, and no number on the way to it is wide.
use Rattle.std.proofs.Common.{◌≡◌, ◌⊎◌, inl, inr, ℕ, zero, suc, ◌+◌, ◌-◌, ◌*◌, ◌^◌, ◌<◌, ◌≤◌, ◌==◌, Bool, true, false, List, [], ◌∷◌, ◌++◌, map, length, length-append, All, slice_get, Option, Some, None, IsSome, ℤ, pos, neg_ℤ, ◌+ℤ◌, ◌-ℤ◌, ◌*ℤ◌, ◌≤ℤ◌, ◌<ℤ◌, int_lt, FitsSigned, rules, arith, refl, ap, sym, subst, ◌∙◌, if◌then◌else◌}
use Rattle.std.specs.Int.{w128}
use Rattle.std.specs.Option.{option_map_or}
use Rattle.std.proofs.Math.IntN.{*ℤ_comm}
use Rattle.std.proofs.lemmas.Int.{ints, by_lt_z}
use Rattle.std.proofs.lemmas.List.{length-map}
use Rattle.std.proofs.lemmas.List.Elements.{All-nil, All-cons, All-head, All-tail, All-append, All-map}
use Rattle.sdc_base.specs.declared.cell.Cell.{Cell}
use Rattle.sdc_base.specs.declared.relation.Relation.{Relation}
use Rattle.sdc_base.specs.declared.system.System.{System}
use Rattle.sdc_base.specs.Forms.{Term, coefficient, form_times, weighted_forms}
use Rattle.sdc_base.specs.HiddenSets.{is_hidden}
use Rattle.sdc_base.specs.Refutations.{AreBounded, bound_sum, rise, share, share_at}
use Rattle.sdc_base.specs.Systems.{HoldOn, NamesCells, Numbers}
use Rattle.sdc_base.specs.Totals.{sum_below}
use Rattle.sdc_base.proofs.WholeNumbers.{times_up, times_down}
use Rattle.sdc_base.proofs.TotalLemmas.{sum_of-cons, sum_below-same}
use Rattle.sdc_base.proofs.WeakDual.{by_cells, there, weighted_inside, weighted_is_none}
use Rattle.worlds.specs.NumberLists.{Ascend, IsListed}
use Rattle.worlds.specs.RefutationFaults.{IsHeldSum}
use Rattle.flow_worlds.specs.Cuts.{IsOne, IsTight}

-- ---- shares

none_times : (z : ℤ) → pos 0 *ℤ z ≡ pos 0
none_times z = omega (arith, ints)

no_count : (k z : ℤ) → k ≡ pos 0 → k *ℤ z ≡ pos 0
no_count k z none = ap (λ y. y *ℤ z) none ∙ none_times z

times_no : (k z : ℤ) → z ≡ pos 0 → k *ℤ z ≡ pos 0
times_no k z none = *ℤ_comm k z ∙ no_count z k none

rise_is : (cell : Cell) (by : ℤ) → cell.high ≡ Some (cell.truth +ℤ by) → rise cell ≡ by
rise_is cell by is = ap (λ (o : Option ℤ). option_map_or (λ high. high -ℤ cell.truth) o (pos 0)) is ∙ omega (arith, ints)

-- a tight cell's share is its coefficient times its move
tight_share : (hidden : Bool) (k by : ℤ) (cell : Cell) → (hidden ≡ false → by ≡ pos 0) → (hidden ≡ true → pos 0 <ℤ k → cell.high ≡ Some (cell.truth +ℤ by)) → (hidden ≡ true → k <ℤ pos 0 → cell.low ≡ cell.truth +ℤ by) → share hidden k cell ≡ k *ℤ by
tight_share false k by cell shown above below = sym (times_no k by (shown refl))
tight_share true k by cell shown above below =
    by_lt_z (pos 0) k
    (λ up. let test : int_lt (pos 0) k ≡ true = grind (arith, ints) in rw test (ap (λ z. k *ℤ z) (rise_is cell by (above refl up))))
    (λ not_up.
    let test : int_lt (pos 0) k ≡ false = grind (arith, ints) in
    rw test (by_lt_z k (pos 0)
    (λ down. ap (λ z. k *ℤ z) (let low : cell.low ≡ cell.truth +ℤ by = below refl down in let fall : cell.low -ℤ cell.truth ≡ by = omega (arith, ints, low) in fall))
    (λ not_down. let none : k ≡ pos 0 = omega (arith, ints, not_up, not_down) in no_count k (cell.low -ℤ cell.truth) none ∙ sym (no_count k by none))))

-- and not below 0
tight_above : (hidden : Bool) (k by : ℤ) (cell : Cell) → (hidden ≡ false → by ≡ pos 0) → (hidden ≡ true → pos 0 <ℤ k → cell.high ≡ Some (cell.truth +ℤ by)) → (hidden ≡ true → k <ℤ pos 0 → cell.low ≡ cell.truth +ℤ by) → pos 0 ≤ℤ (k *ℤ by)
tight_above false k by cell shown above below = omega (arith, ints, times_no k by (shown refl))
tight_above true k by cell shown above below =
    by_lt_z (pos 0) k
    (λ up.
    let high : cell.high ≡ Some (cell.truth +ℤ by) = above refl up in
    let beyond : cell.truth ≤ℤ (cell.truth +ℤ by) = cell.high_beyond (cell.truth +ℤ by) high in
    let product : (k *ℤ pos 0) ≤ℤ (k *ℤ by) = times_up k (pos 0) by (omega (arith, ints)) (omega (arith, ints, beyond)) in
    omega (arith, ints, product, times_no k (pos 0) refl))
    (λ not_up. by_lt_z k (pos 0)
    (λ down.
    let low : cell.low ≡ cell.truth +ℤ by = below refl down in
    let within : cell.low ≤ℤ cell.truth = cell.low_within in
    let product : (k *ℤ pos 0) ≤ℤ (k *ℤ by) = times_down k by (pos 0) (omega (arith, ints, down)) (omega (arith, ints, low, within)) in
    omega (arith, ints, product, times_no k (pos 0) refl))
    (λ not_down. let none : k ≡ pos 0 = omega (arith, ints, not_up, not_down) in omega (arith, ints, no_count k by none)))

share_is : (cells : List Cell) (flags : List Bool) (k moves : Numbers) (n : ℕ) → IsTight cells flags moves k → (is_hidden flags n ≡ false → moves n ≡ pos 0) → n < length cells → (share_at cells flags k n ≡ k n *ℤ moves n) × (pos 0 ≤ℤ (k n *ℤ moves n))
share_is cells flags k moves n tight shown inside =
    let found = there cells n inside in
    let above = λ (hidden : is_hidden flags n ≡ true) (up : pos 0 <ℤ k n). tight.above n found.0 found.1 hidden up in
    let below = λ (hidden : is_hidden flags n ≡ true) (down : k n <ℤ pos 0). tight.below n found.0 found.1 hidden down in (
      ap (λ (o : Option Cell). option_map_or (share (is_hidden flags n) (k n)) o (pos 0)) found.1 ∙ tight_share (is_hidden flags n) (k n) (moves n) found.0 shown above below,
      tight_above (is_hidden flags n) (k n) (moves n) found.0 shown above below,
    )

-- ---- sums that don't fall

at_most_or_last : (a b : ℕ) → a ≤ suc b → (a ≤ b) ⊎ (a ≡ suc b)
at_most_or_last a b within = grind (arith, within)

sum_rises : (n m : ℕ) (f : ℕ → ℤ) → n ≤ m → ((c : ℕ) → c < m → pos 0 ≤ℤ f c) → sum_below n f ≤ℤ sum_below m f
sum_rises n zero f less each = let none : n ≡ 0 = omega (arith, less) in subst (λ (k : ℕ). sum_below k f ≤ℤ pos 0) (sym none) (omega (arith, ints))
sum_rises n (suc m) f less each =
    elim (at_most_or_last n m less) as (λ _. sum_below n f ≤ℤ sum_below (suc m) f) [
      | inl short ↦ omega (arith, ints, sum_rises n m f short (λ c below. each c (omega (arith, below))), each m (omega arith))
      | inr same ↦ subst (λ (k : ℕ). sum_below k f ≤ℤ sum_below (suc m) f) (sym same) (omega (arith, ints))
    ]

sum_from_zero : (n : ℕ) (f : ℕ → ℤ) → ((c : ℕ) → c < n → pos 0 ≤ℤ f c) → pos 0 ≤ℤ sum_below n f
sum_from_zero zero f each = omega (arith, ints)
sum_from_zero (suc n) f each = omega (arith, ints, sum_from_zero n f (λ c below. each c (omega (arith, below))), each n (omega arith))

rising : (n m : ℕ) (f : ℕ → ℤ) → n ≤ m → ((c : ℕ) → c < m → pos 0 ≤ℤ f c) → (pos 0 ≤ℤ sum_below n f) × (sum_below n f ≤ℤ sum_below m f)
rising n m f less each = (sum_from_zero n f (λ c below. each c (omega (arith, below, less))), sum_rises n m f less each)

-- ---- coefficients of terms of 1 and -1

abbrev pub IsSmall : Term → Type 0
IsSmall t = (neg_ℤ (pos 1) ≤ℤ t.1) × (t.1 ≤ℤ pos 1)

one_small : (k : ℤ) → IsOne k → (neg_ℤ (pos 1) ≤ℤ k) × (k ≤ℤ pos 1)
one_small k (inl one) = (omega (arith, ints, one), omega (arith, ints, one))
one_small k (inr minus) = (omega (arith, ints, minus), omega (arith, ints, minus))

small_form : (k : ℤ) (r : Relation) → IsOne k → All IsSmall (form_times k r)
small_form k r one =
    let small = one_small k one in
    All-cons IsSmall (r.total, k) (map (λ part. (part, neg_ℤ k)) r.parts) small (All-map IsSmall (λ (part : ℕ). (part, neg_ℤ k)) r.parts (λ i d inside. (omega (arith, ints, small.1), omega (arith, ints, small.0))))

small_forms : (relations : List Relation) (multipliers : List Term) → All (λ (m : Term). IsOne m.1) multipliers → All IsSmall (weighted_forms relations multipliers)
small_forms relations [] ones = All-nil IsSmall
small_forms relations (m ∷ multipliers) ones =
    All-append IsSmall (option_map_or (form_times m.1) (slice_get relations m.0) []) (weighted_forms relations multipliers) (by (slice_get relations m.0)) (small_forms relations multipliers (All-tail (λ (m : Term). IsOne m.1) m multipliers ones))
  where
    by : (o : Option Relation) → All IsSmall (option_map_or (form_times m.1) o [])
    by None = All-nil IsSmall
    by (Some r) = small_form m.1 r (All-head (λ (m : Term). IsOne m.1) m multipliers ones)

small_coefficient : (terms : List Term) (c : ℕ) → All IsSmall terms → (neg_ℤ (pos (length terms)) ≤ℤ coefficient terms c) × (coefficient terms c ≤ℤ pos (length terms))
small_coefficient [] c small = (omega (arith, ints), omega (arith, ints))
small_coefficient (t ∷ terms) c small =
    let rest = small_coefficient terms c (All-tail IsSmall t terms small) in
    let own = All-head IsSmall t terms small in
    let whole = sum_of-cons (λ (m : Term). if m.0 == c then m.1 else pos 0) t terms in
    let part = picked (t.0 == c) t.1 own.0 own.1 in
    (omega (arith, ints, whole, rest.0, part.0), omega (arith, ints, whole, rest.1, part.1))
  where
    picked : (b : Bool) (z : ℤ) → neg_ℤ (pos 1) ≤ℤ z → z ≤ℤ pos 1 → (neg_ℤ (pos 1) ≤ℤ (if b then z else pos 0)) × ((if b then z else pos 0) ≤ℤ pos 1)
    picked true z low high = (low, high)
    picked false z low high = (omega (arith, ints), omega (arith, ints))

front_small : (done : List Term) (term : Term) (rest : List Term) → All IsSmall (done ++ term ∷ rest) → All IsSmall (done ++ term ∷ [])
front_small [] term rest small = All-cons IsSmall term [] (All-head IsSmall term rest small) (All-nil IsSmall)
front_small (t ∷ done) term rest small = All-cons IsSmall t (done ++ term ∷ []) (All-head IsSmall t (done ++ term ∷ rest) small) (front_small done term rest (All-tail IsSmall t (done ++ term ∷ rest) small))

front_short : (done : List Term) (term : Term) (rest : List Term) → length (done ++ term ∷ []) ≤ length (done ++ term ∷ rest)
front_short [] term rest = omega arith
front_short (t ∷ done) term rest = omega (arith, front_short done term rest)

short_forms : (relations : List Relation) (multipliers : List Term) → length (weighted_forms relations multipliers) ≤ 2 ^ 32 * length multipliers
short_forms relations [] = omega arith
short_forms relations (m ∷ multipliers) =
    let whole = length-append (option_map_or (form_times m.1) (slice_get relations m.0) []) (weighted_forms relations multipliers) in
    omega (arith, whole, short_forms relations multipliers, by (slice_get relations m.0))
  where
    by : (o : Option Relation) → length (option_map_or (form_times m.1) o []) ≤ 2 ^ 32
    by None = omega arith
    by (Some r) = let few = r.fewer_than_2_32 in omega (arith, few, length-map {B = Term} r.parts (λ (part : ℕ). (part, neg_ℤ m.1)))

short_listed : (n least : ℕ) (terms : List Term) → Ascend least terms → All (λ (t : Term). t.0 < n) terms → length terms ≤ n - least
short_listed n least [] up below = omega arith
short_listed n least (t ∷ terms) up below =
    let rest = short_listed n (t.0 + 1) terms up.1 (All-tail (λ (t : Term). t.0 < n) t terms below) in
    let own : t.0 < n = All-head (λ (t : Term). t.0 < n) t terms below in
    omega (arith, rest, own, up.0)

pub fits_where : (terms : List Term) (done : List Term) (term : Term) (rest : List Term) → All IsSmall terms → length terms ≤ 2 ^ 63 → terms ≡ done ++ term ∷ rest → FitsSigned w128 (coefficient (done ++ term ∷ []) term.0)
fits_where terms done term rest small short is =
    let all : All IsSmall (done ++ term ∷ rest) = subst (λ (ts : List Term). All IsSmall ts) is small in
    let most : length (done ++ term ∷ rest) ≤ 2 ^ 63 = omega (arith, short, ap (λ (ts : List Term). length ts) is) in
    let near = small_coefficient (done ++ term ∷ []) term.0 (front_small done term rest all) in
    let few = front_short done term rest in
    omega (arith, ints, near.0, near.1, few, most)

-- ---- the bound sum

some_is : (z : ℤ) → IsSome (Some z)
some_is z = search rules

-- a flow, the asked cell and its turn, and multipliers by which the flow is tight
pub record IsSettled (system : System) (cells : List Cell) (flags : List Bool) (moves : Numbers) (asked : ℕ) (turn amount : ℤ) (multipliers : List Term) : Type 0 where
  pub each : length cells ≡ system.cells
  pub asked_inside : asked < length cells
  pub shown : (cell : ℕ) → is_hidden flags cell ≡ false → moves cell ≡ pos 0
  pub hold : HoldOn moves system.relations
  pub one : IsOne turn
  pub moved : turn *ℤ moves asked ≡ amount
  pub from_zero : pos 0 ≤ℤ amount
  pub to_2_110 : amount ≤ℤ pos (2 ^ 110)
  pub listed : IsListed (length system.relations) multipliers
  pub ones : All (λ (m : Term). IsOne m.1) multipliers
  pub tight : IsTight cells flags moves (coefficient ((asked, turn) ∷ weighted_forms system.relations multipliers))

module _ (system : System) (cells : List Cell) (flags : List Bool) (moves : Numbers) (asked : ℕ) (turn amount : ℤ) (multipliers : List Term) (is : IsSettled system cells flags moves asked turn amount multipliers) where
  terms : List Term
  terms = (asked, turn) ∷ weighted_forms system.relations multipliers

  each_share : (n : ℕ) → n < length cells → (share_at cells flags (coefficient ((asked, turn) ∷ weighted_forms system.relations multipliers)) n ≡ coefficient ((asked, turn) ∷ weighted_forms system.relations multipliers) n *ℤ moves n) × (pos 0 ≤ℤ (coefficient ((asked, turn) ∷ weighted_forms system.relations multipliers) n *ℤ moves n))
  each_share n inside = share_is cells flags (coefficient ((asked, turn) ∷ weighted_forms system.relations multipliers)) moves n is.tight (is.shown n) inside

  share_above : (n : ℕ) → n < length cells → pos 0 ≤ℤ share_at cells flags (coefficient ((asked, turn) ∷ weighted_forms system.relations multipliers)) n
  share_above n inside = let both = each_share n inside in omega (arith, ints, both.0, both.1)

  pub sum_is : bound_sum cells flags (coefficient ((asked, turn) ∷ weighted_forms system.relations multipliers)) ≡ amount
  sum_is =
      let ts : List Term = (asked, turn) ∷ weighted_forms system.relations multipliers in
      let n : ℕ = length cells in
      let names : All (NamesCells n) system.relations = subst (λ m. All (NamesCells m) system.relations) (sym is.each) system.named in
      sum_below-same n (share_at cells flags (coefficient ts)) (λ c. coefficient ts c *ℤ moves c) (λ c below. (each_share c below).0)
      ∙ by_cells n moves ts (All-cons (λ (t : Term). t.0 < n) (asked, turn) (weighted_forms system.relations multipliers) is.asked_inside (weighted_inside n system.relations multipliers names))
      ∙ sum_of-cons (λ (t : Term). t.1 *ℤ moves t.0) (asked, turn) (weighted_forms system.relations multipliers)
      ∙ omega (arith, ints, weighted_is_none moves system.relations multipliers is.hold, is.moved)

  pub bounded_is : AreBounded cells flags (coefficient ((asked, turn) ∷ weighted_forms system.relations multipliers))
  bounded_is = λ number cell found hidden up. subst IsSome (sym (is.tight.above number cell found hidden up)) (some_is (cell.truth +ℤ moves number))

  terms_small : All IsSmall ((asked, turn) ∷ weighted_forms system.relations multipliers)
  terms_small = All-cons IsSmall (asked, turn) (weighted_forms system.relations multipliers) (one_small turn is.one) (small_forms system.relations multipliers is.ones)

  terms_short : length ((asked, turn) ∷ weighted_forms system.relations multipliers) ≤ 2 ^ 63
  terms_short =
      let few = short_listed (length system.relations) 0 multipliers is.listed.ascending is.listed.named in
      let most = system.at_most_2_30 in
      omega (arith, short_forms system.relations multipliers, few, most)

  partial_sum : (n : ℕ) → n ≤ length cells → (pos 0 ≤ℤ sum_below n (share_at cells flags (coefficient ((asked, turn) ∷ weighted_forms system.relations multipliers)))) × (sum_below n (share_at cells flags (coefficient ((asked, turn) ∷ weighted_forms system.relations multipliers))) ≤ℤ amount)
  partial_sum n within =
      let both = rising n (length cells) (share_at cells flags (coefficient ((asked, turn) ∷ weighted_forms system.relations multipliers))) within share_above in
      (both.0, omega (arith, ints, both.1, sum_is))

  pub held_is : IsHeldSum cells flags ((asked, turn) ∷ weighted_forms system.relations multipliers)
  held_is =
      let most = is.to_2_110 in
      record {
        coefficients_held = λ done term rest same. fits_where ((asked, turn) ∷ weighted_forms system.relations multipliers) done term rest terms_small terms_short same;
        shares_held = λ n inside.
            let before = partial_sum n (omega (arith, inside)) in
            let after = partial_sum (suc n) inside in
            let own = share_above n inside in
            omega (arith, ints, before.0, after.1, own, most);
        sums_held = λ n within. let sums = partial_sum n within in omega (arith, ints, sums.0, sums.1, most);
      }

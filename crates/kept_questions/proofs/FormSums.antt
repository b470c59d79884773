-- Sums over parts and relations, one more at a time.
use Rattle.std.proofs.Common.{◌≡◌, ℕ, ◌+◌, ◌<◌, ◌==◌, Bool, true, false, List, [], ◌∷◌, length, map, take, get_or, ℤ, pos, neg_ℤ, ◌+ℤ◌, ◌*ℤ◌, arith, refl, ap, sym, ◌∙◌, if◌then◌else◌}
use Rattle.std.proofs.lemmas.Int.{ints}
use Rattle.std.proofs.lemmas.List.{take_more}
use Rattle.sdc_base.specs.Forms.{Term, coefficient, form_times}
use Rattle.sdc_base.specs.Totals.{sum_of}
use Rattle.sdc_base.specs.Worlds.{amount_toward}
use Rattle.sdc_base.specs.declared.relation.Relation.{Relation}
use Rattle.sdc_base.specs.declared.side.Side.{Side}
use Rattle.sdc_base.specs.declared.side.Side.TheVariants.{Above, Below}
use Rattle.sdc_base.proofs.TotalLemmas.{sum_of-cons, sum_of-append, sum_of-map}
use Rattle.sdc_base.proofs.WholeNumbers.{distrib, minus_times}
use Rattle.tableau.proofs.Bases.{times_minus}
use Rattle.tableau.specs.Amounts.{value_of}
use Rattle.interval_audit.specs.Problems.{asked_move}
use Rattle.kept_questions.specs.TermLists.{list_at, moves_in}
use Rattle.kept_questions.proofs.TermSums.{cons_at, one_at, times_if}

pub sum_next : {X : Type 0} (f : X → ℤ) (xs : List X) (k : ℕ) (d : X) → k < length xs → sum_of f (take (k + 1) xs) ≡ sum_of f (take k xs) +ℤ f (get_or xs k d)
sum_next f xs k d inside = ap (sum_of f) (take_more xs k d inside) ∙ sum_of-append f (take k xs) (get_or xs k d ∷ []) ∙ omega (arith, ints, sum_of-cons f (get_or xs k d) [])

-- ---- the parts of a form, on lists of moves

parts_value : (lists : List (List Term)) (i : ℕ) (parts : List ℕ) → value_of (λ cell. moves_in lists cell i) (map (λ part. (part, neg_ℤ (pos 1))) parts) ≡ sum_of (λ part. neg_ℤ (pos 1) *ℤ moves_in lists part i) parts
parts_value lists i parts = sum_of-map (λ (t : Term). t.1 *ℤ moves_in lists t.0 i) (λ (part : ℕ). (part, neg_ℤ (pos 1))) parts

pub parts_next : (lists : List (List Term)) (parts : List ℕ) (old before after : ℤ) (k i d : ℕ) → k < length parts → after ≡ before +ℤ neg_ℤ (pos 1) *ℤ coefficient (list_at lists (get_or parts k d)) i →
    before ≡ old +ℤ value_of (λ cell. moves_in lists cell i) (map (λ part. (part, neg_ℤ (pos 1))) (take k parts)) → after ≡ old +ℤ value_of (λ cell. moves_in lists cell i) (map (λ part. (part, neg_ℤ (pos 1))) (take (k + 1) parts))
parts_next lists parts old before after k i d inside more done =
    omega (arith, ints, more, done, parts_value lists i (take k parts), parts_value lists i (take (k + 1) parts), sum_next (λ (part : ℕ). neg_ℤ (pos 1) *ℤ moves_in lists part i) parts k d inside)

pub form_value : (lists : List (List Term)) (r : Relation) (none one made : ℤ) (i : ℕ) → none ≡ pos 0 → one ≡ none +ℤ pos 1 *ℤ coefficient (list_at lists r.total) i →
    made ≡ one +ℤ value_of (λ cell. moves_in lists cell i) (map (λ part. (part, neg_ℤ (pos 1))) r.parts) → made ≡ value_of (λ cell. moves_in lists cell i) (form_times (pos 1) r)
form_value lists r none one made i none_is one_is made_is =
    omega (arith, ints, none_is, one_is, made_is, sum_of-cons (λ (t : Term). t.1 *ℤ moves_in lists t.0 i) (r.total, pos 1) (map (λ part. (part, neg_ℤ (pos 1))) r.parts))

-- ---- the parts of a form, as numbers of cells

counted : (parts : List ℕ) (c : ℕ) → coefficient (map (λ part. (part, pos 1)) parts) c ≡ sum_of (λ part. if part == c then pos 1 else pos 0) parts
counted parts c = sum_of-map (λ (t : Term). if t.0 == c then t.1 else pos 0) (λ (part : ℕ). (part, pos 1)) parts

times_one : (b : Bool) (times : ℤ) → (if b then times else pos 0) ≡ times *ℤ (if b then pos 1 else pos 0)
times_one true times = omega (arith, ints)
times_one false times = omega (arith, ints, times_if false times (pos 1))

pub part_next : (parts : List ℕ) (times old before after : ℤ) (k c d : ℕ) → k < length parts → after ≡ before +ℤ coefficient ((get_or parts k d, times) ∷ []) c →
    before ≡ old +ℤ times *ℤ coefficient (map (λ part. (part, pos 1)) (take k parts)) c → after ≡ old +ℤ times *ℤ coefficient (map (λ part. (part, pos 1)) (take (k + 1) parts)) c
part_next parts times old before after k c d inside more done =
    let one : ℤ = if get_or parts k d == c then pos 1 else pos 0 in
    let next : coefficient (map (λ part. (part, pos 1)) (take (k + 1) parts)) c ≡ coefficient (map (λ part. (part, pos 1)) (take k parts)) c +ℤ one =
    counted (take (k + 1) parts) c ∙ sum_next (λ (part : ℕ). if part == c then pos 1 else pos 0) parts k d inside ∙ ap (λ z. z +ℤ one) (sym (counted (take k parts) c)) in
    omega (arith, ints, more, done, one_at (get_or parts k d, times) c, times_one (get_or parts k d == c) times, ap (λ z. times *ℤ z) next, distrib times (coefficient (map (λ part. (part, pos 1)) (take k parts)) c) one)

turned_if : (b : Bool) → (if b then neg_ℤ (pos 1) else pos 0) ≡ neg_ℤ (if b then pos 1 else pos 0)
turned_if true = refl
turned_if false = refl

parts_turned : (parts : List ℕ) (c : ℕ) → coefficient (map (λ part. (part, neg_ℤ (pos 1))) parts) c ≡ neg_ℤ (coefficient (map (λ part. (part, pos 1)) parts) c)
parts_turned [] c = refl
parts_turned (p ∷ parts) c =
    omega (arith, ints, cons_at (p, neg_ℤ (pos 1)) (map (λ part. (part, neg_ℤ (pos 1))) parts) c, cons_at (p, pos 1) (map (λ part. (part, pos 1)) parts) c, turned_if (p == c), parts_turned parts c)

-- a relation's form, added so many times
pub form_added : (r : Relation) (weight less old one after : ℤ) (c : ℕ) → less ≡ neg_ℤ weight → one ≡ old +ℤ coefficient ((r.total, weight) ∷ []) c → after ≡ one +ℤ less *ℤ coefficient (map (λ part. (part, pos 1)) r.parts) c →
    after ≡ old +ℤ weight *ℤ coefficient (form_times (pos 1) r) c
form_added r weight less old one after c less_is one_is after_is =
    let n : ℤ = coefficient (map (λ part. (part, pos 1)) r.parts) c in
    let total : ℤ = if r.total == c then pos 1 else pos 0 in
    let form : coefficient (form_times (pos 1) r) c ≡ total +ℤ neg_ℤ n = cons_at (r.total, pos 1) (map (λ part. (part, neg_ℤ (pos 1))) r.parts) c ∙ ap (λ z. total +ℤ z) (parts_turned r.parts c) in
    omega (arith, ints, one_is, after_is, one_at (r.total, weight) c, times_one (r.total == c) weight, ap (λ z. z *ℤ n) less_is, minus_times weight n, ap (λ z. weight *ℤ z) form, distrib weight total (neg_ℤ n), times_minus weight n)

-- ---- the asked cell's move

pub asked_times : (asked : ℕ) (side : Side) (q : ℤ) (c : ℕ) → coefficient ((asked, amount_toward side q) ∷ []) c ≡ q *ℤ coefficient (asked_move asked side) c
asked_times asked Above q c = omega (arith, ints, one_at (asked, q) c, times_one (asked == c) q, ap (λ z. q *ℤ z) (one_at (asked, pos 1) c))
asked_times asked Below q c =
    let one : ℤ = if asked == c then pos 1 else pos 0 in
    let turned : coefficient (asked_move asked Below) c ≡ neg_ℤ one = one_at (asked, neg_ℤ (pos 1)) c ∙ turned_if (asked == c) in
    omega (arith, ints, one_at (asked, neg_ℤ q) c, times_one (asked == c) (neg_ℤ q), minus_times q one, ap (λ z. q *ℤ z) turned, times_minus q one)

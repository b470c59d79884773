-- The weights at a relation's two forms, by the relation's place.
use Rattle.std.proofs.Common.{◌≡◌, ℕ, zero, suc, ◌+◌, ◌*◌, ◌<◌, ◌≤◌, ◌==◌, Bool, true, false, List, [], ◌∷◌, ◌++◌, length, length-drop, drop, is_some, slice_get, ℤ, pos, neg_ℤ, ◌+ℤ◌, ◌-ℤ◌, ◌*ℤ◌, arith, ap, sym, ◌∙◌, refl, length-append, if◌then◌else◌}
use Rattle.std.specs.List.{flat_map, zip}
use Rattle.std.specs.Option.{option_map_or}
use Rattle.std.specs.Ordering.{int_eq}
use Rattle.std.proofs.lemmas.Bool.Decides.{Decides-int_eq, nat_tests}
use Rattle.std.proofs.Math.IntN.{*ℤ_comm}
use Rattle.std.proofs.lemmas.Grind.{flat_map-append}
use Rattle.std.proofs.lemmas.Int.{ints}
use Rattle.std.proofs.lemmas.List.{append-nil, drop_more}
use Rattle.sdc_base.specs.declared.cell.Cell.{Cell}
use Rattle.sdc_base.specs.declared.relation.Relation.{Relation}
use Rattle.sdc_base.specs.Totals.{sum_below}
use Rattle.sdc_base.specs.Forms.{Term, coefficient}
use Rattle.sdc_base.specs.Systems.{Numbers, number_at}
use Rattle.sdc_base.proofs.TotalLemmas.{sum_of-cons, sum_below-same}
use Rattle.sdc_base.proofs.WeakDual.{value_of}
use Rattle.sdc_base.proofs.WholeNumbers.{minus_times}
use Rattle.interval_audit.specs.Groups.{Group, members}
use Rattle.interval_audit.specs.Columns.{rank}
use Rattle.interval_audit.specs.Labels.{Label, CapAbove, CapBelow, caps_for, forms_for, met_relations, labels, terms_of_label, relation_terms, multiplier}
use Rattle.interval_audit.specs.Readings.{nonzero_terms}
use Rattle.interval_audit.proofs.Ranks.{members-more, sum_members}
use Rattle.interval_audit.proofs.Points.{meets}
use Rattle.interval_audit.proofs.Spread.{sum_flat, sum_two, flat_at, times_less}

-- ---- pairs of lists put together

zip-append : {X Y : Type 0} (ws : List X) (xs ys : List Y) → zip ws (xs ++ ys) ≡ zip ws xs ++ zip (drop (length xs) ws) ys
zip-append [] [] ys = refl
zip-append [] (x ∷ xs) ys = refl
zip-append (w ∷ ws) [] ys = refl
zip-append (w ∷ ws) (x ∷ xs) ys = ap (λ t. (w, x) ∷ t) (zip-append ws xs ys)

relation_terms-append : (weights : List ℤ) (xs ys : List Label) → relation_terms weights (xs ++ ys) ≡ relation_terms weights xs ++ relation_terms (drop (length xs) weights) ys
relation_terms-append weights xs ys = ap (flat_map (λ (w : ℤ × Label). terms_of_label w.0 w.1)) (zip-append weights xs ys) ∙ flat_map-append (λ (w : ℤ × Label). terms_of_label w.0 w.1) (zip weights xs) (zip (drop (length xs) weights) ys)

-- caps count for no relation
cap_counts : (weights : List ℤ) (c : ℕ) (b : Bool) → relation_terms weights (if b then CapAbove c ∷ CapBelow c ∷ [] else CapBelow c ∷ []) ≡ []
cap_counts [] c true = refl
cap_counts [] c false = refl
cap_counts (w ∷ []) c true = refl
cap_counts (w ∷ v ∷ []) c true = refl
cap_counts (w ∷ v ∷ u ∷ weights) c true = refl
cap_counts (w ∷ []) c false = refl
cap_counts (w ∷ v ∷ weights) c false = refl

caps_count : (weights : List ℤ) (cells : List Cell) (list : List ℕ) → relation_terms weights (flat_map (caps_for cells) list) ≡ []
caps_count [] cells [] = refl
caps_count (w ∷ weights) cells [] = refl
caps_count weights cells (c ∷ list) =
    relation_terms-append weights (caps_for cells c) (flat_map (caps_for cells) list)
    ∙ ap (λ ts. ts ++ relation_terms (drop (length (caps_for cells c)) weights) (flat_map (caps_for cells) list)) (cap_counts weights c (option_map_or (λ (cell : Cell). is_some cell.high) (slice_get cells c) false))
    ∙ caps_count (drop (length (caps_for cells c)) weights) cells list

-- ---- the two weights of each relation

abbrev pub pair : List ℤ → Group → ℕ → List Term
pair weights group k = (k, neg_ℤ (number_at weights (2 * rank group k))) ∷ (k, number_at weights (2 * rank group k + 1)) ∷ []

forms_long : (group : Group) (n : ℕ) → length (flat_map forms_for (members group n)) ≡ 2 * rank group n
forms_long group n = by (members group n)
  where
    by : (list : List ℕ) → length (flat_map forms_for list) ≡ 2 * length list
    by [] = refl
    by (k ∷ list) = omega (arith, by list)

-- the next two weights
two_counted : (weights : List ℤ) (m k : ℕ) → m + 2 ≤ length weights → relation_terms (drop m weights) (forms_for k) ≡ (k, neg_ℤ (number_at weights m)) ∷ (k, number_at weights (m + 1)) ∷ []
two_counted weights m k long =
    ap (λ ws. relation_terms ws (forms_for k)) (drop_more weights m (pos 0) (omega (arith, long)) ∙ ap (λ ws. number_at weights m ∷ ws) (drop_more weights (m + 1) (pos 0) (omega (arith, long))))
    ∙ last (drop (m + 1 + 1) weights)
  where
    last : (rest : List ℤ) → relation_terms (number_at weights m ∷ number_at weights (m + 1) ∷ rest) (forms_for k) ≡ (k, neg_ℤ (number_at weights m)) ∷ (k, number_at weights (m + 1)) ∷ []
    last [] = refl
    last (r ∷ rest) = refl

pub pairs_counted : (weights : List ℤ) (group : Group) (n : ℕ) → 2 * rank group n ≤ length weights → relation_terms weights (flat_map forms_for (members group n)) ≡ flat_map (pair weights group) (members group n)
pairs_counted [] group zero long = refl
pairs_counted (w ∷ weights) group zero long = refl
pairs_counted weights group (suc n) long =
    ap (λ ms. relation_terms weights (flat_map forms_for ms)) (members-more group n)
    ∙ by (group n) refl (λ shorter. pairs_counted weights group n shorter)
    ∙ sym (ap (flat_map (pair weights group)) (members-more group n))
  where
    A : List Label
    A = flat_map forms_for (members group n)

    size : rank group (suc n) ≡ rank group n + length (if group n then n ∷ [] else [])
    size = ap length (members-more group n) ∙ length-append (members group n) (if group n then n ∷ [] else [])

    by : (b : Bool) → group n ≡ b → (2 * rank group n ≤ length weights → relation_terms weights A ≡ flat_map (pair weights group) (members group n))
        → relation_terms weights (flat_map forms_for (members group n ++ (if group n then n ∷ [] else []))) ≡ flat_map (pair weights group) (members group n ++ (if group n then n ∷ [] else []))
    by false is before =
        let shorter : 2 * rank group n ≤ length weights = omega (arith, long, size) in
        ap (λ b. relation_terms weights (flat_map forms_for (members group n ++ (if b then n ∷ [] else [])))) is
        ∙ ap (λ ms. relation_terms weights (flat_map forms_for ms)) (append-nil (members group n)) ∙ before shorter
        ∙ sym (ap (flat_map (pair weights group)) (ap (λ b. members group n ++ (if b then n ∷ [] else [])) is ∙ append-nil (members group n)))
    by true is before =
        let one : length (if group n then n ∷ [] else []) ≡ 1 = ap (λ b. length (if b then n ∷ [] else [])) is in
        let room : 2 * rank group n + 2 ≤ length weights = omega (arith, long, size, one) in
        let here : relation_terms (drop (length A) weights) (forms_for n) ≡ pair weights group n = ap (λ m. relation_terms (drop m weights) (forms_for n)) (forms_long group n) ∙ two_counted weights (2 * rank group n) n room in
        ap (λ b. relation_terms weights (flat_map forms_for (members group n ++ (if b then n ∷ [] else [])))) is
        ∙ ap (relation_terms weights) (flat_map-append forms_for (members group n) (n ∷ []))
        ∙ relation_terms-append weights A (forms_for n)
        ∙ ap (λ ts. ts ++ relation_terms (drop (length A) weights) (forms_for n)) (before (omega (arith, room)))
        ∙ ap (λ ts. flat_map (pair weights group) (members group n) ++ ts) here
        ∙ sym (ap (flat_map (pair weights group)) (ap (λ b. members group n ++ (if b then n ∷ [] else [])) is) ∙ flat_map-append (pair weights group) (members group n) (n ∷ []))

-- ---- by the number of caps

-- the weights behind those of the caps
abbrev pub behind : List Cell → Group → ℕ → List ℤ → List ℤ
behind cells group n weights = drop (length (flat_map (caps_for cells) (members group n))) weights

pub counted_is : (relations : List Relation) (cells : List Cell) (group : Group) (n : ℕ) (weights : List ℤ) → length (flat_map (caps_for cells) (members group n)) + 2 * length (met_relations group relations) ≤ length weights
    → relation_terms weights (labels relations cells group n) ≡ flat_map (pair (behind cells group n weights) (meets group relations)) (met_relations group relations)
counted_is relations cells group n weights long =
    let caps : List Label = flat_map (caps_for cells) (members group n) in
    let rest : 2 * rank (meets group relations) (length relations) ≤ length (behind cells group n weights) = omega (arith, long, length-drop (length caps) weights) in
    relation_terms-append weights caps (flat_map forms_for (met_relations group relations))
    ∙ ap (λ ts. ts ++ relation_terms (behind cells group n weights) (flat_map forms_for (met_relations group relations))) (caps_count weights cells (members group n))
    ∙ pairs_counted (behind cells group n weights) (meets group relations) (length relations) rest

-- the multiplier of a relation that is met, by its rank
pub multiplier_is : (relations : List Relation) (cells : List Cell) (group : Group) (n : ℕ) (weights : List ℤ) → length (flat_map (caps_for cells) (members group n)) + 2 * length (met_relations group relations) ≤ length weights
    → (k : ℕ) → k < length relations → meets group relations k ≡ true
    → multiplier weights (labels relations cells group n) k ≡ number_at (behind cells group n weights) (2 * rank (meets group relations) k + 1) -ℤ number_at (behind cells group n weights) (2 * rank (meets group relations) k)
multiplier_is relations cells group n weights long k inside is =
    let ws : List ℤ = behind cells group n weights in
    let test : Group = meets group relations in
    let f : Numbers = λ j. number_at ws (2 * rank test j + 1) -ℤ number_at ws (2 * rank test j) in
    ap (λ ts. coefficient ts k) (counted_is relations cells group n weights long)
    ∙ flat_at test (length relations) (pair ws test) f k k inside is (λ d own. one d)
  where
    one : (d : ℕ) → coefficient (pair (behind cells group n weights) (meets group relations) d) k ≡ (if k == d then number_at (behind cells group n weights) (2 * rank (meets group relations) d + 1) -ℤ number_at (behind cells group n weights) (2 * rank (meets group relations) d) else pos 0)
    one d =
        let x : ℤ = neg_ℤ (number_at (behind cells group n weights) (2 * rank (meets group relations) d)) in
        let y : ℤ = number_at (behind cells group n weights) (2 * rank (meets group relations) d + 1) in
        let turned : (d == k) ≡ (k == d) = grind (arith, nat_tests) in
        sum_two (λ (t : Term). if t.0 == k then t.1 else pos 0) (d, x) (d, y)
        ∙ ap (λ b. (if b then x else pos 0) +ℤ (if b then y else pos 0)) turned
        ∙ elim (k == d) as (λ b. (if b then x else pos 0) +ℤ (if b then y else pos 0) ≡ (if b then y -ℤ number_at (behind cells group n weights) (2 * rank (meets group relations) d) else pos 0)) [ true ↦ omega (arith, ints) | false ↦ omega (arith, ints) ]

-- ---- what they come to

listed_value : (F m : Numbers) (group : Group) (n : ℕ) → value_of F (nonzero_terms m (members group n)) ≡ sum_below n (λ k. if group k then m k *ℤ F k else pos 0)
listed_value F m group n =
    sum_flat (λ (t : Term). t.1 *ℤ F t.0) (λ k. if int_eq (m k) (pos 0) then [] else (k, m k) ∷ []) (members group n)
    ∙ sum_members group (λ k. value_of F (if int_eq (m k) (pos 0) then [] else (k, m k) ∷ [])) n
    ∙ sum_below-same n (λ k. if group k then value_of F (if int_eq (m k) (pos 0) then [] else (k, m k) ∷ []) else pos 0) (λ k. if group k then m k *ℤ F k else pos 0) (λ k h. ap (λ z. if group k then z else pos 0) (one k))
  where
    one : (k : ℕ) → value_of F (if int_eq (m k) (pos 0) then [] else (k, m k) ∷ []) ≡ m k *ℤ F k
    one k =
        elim (int_eq (m k) (pos 0)) as (λ b. int_eq (m k) (pos 0) ≡ b → value_of F (if b then [] else (k, m k) ∷ []) ≡ m k *ℤ F k) [
          | true ↦ λ is. let none : m k ≡ pos 0 = (Decides-int_eq (m k) (pos 0)).0 is in rw none (omega (arith, ints, *ℤ_comm (pos 0) (F k)))
          | false ↦ λ is. sum_of-cons (λ (t : Term). t.1 *ℤ F t.0) (k, m k) [] ∙ omega (arith, ints)
        ] refl

-- what the weights count for relations comes to what the multipliers listed come to
pub counted_value : (F : Numbers) (relations : List Relation) (cells : List Cell) (group : Group) (n : ℕ) (weights : List ℤ) → length (flat_map (caps_for cells) (members group n)) + 2 * length (met_relations group relations) ≤ length weights
    → value_of F (relation_terms weights (labels relations cells group n)) ≡ value_of F (nonzero_terms (multiplier weights (labels relations cells group n)) (met_relations group relations))
counted_value F relations cells group n weights long =
    let ws : List ℤ = behind cells group n weights in
    let test : Group = meets group relations in
    let m : Numbers = multiplier weights (labels relations cells group n) in
    ap (value_of F) (counted_is relations cells group n weights long)
    ∙ sum_flat (λ (t : Term). t.1 *ℤ F t.0) (pair ws test) (met_relations group relations)
    ∙ sum_members test (λ k. value_of F (pair ws test k)) (length relations)
    ∙ sum_below-same (length relations) (λ k. if test k then value_of F (pair ws test k) else pos 0) (λ k. if test k then m k *ℤ F k else pos 0) (λ k inside. both k inside (test k) refl)
    ∙ sym (listed_value F m test (length relations))
  where
    both : (k : ℕ) → k < length relations → (b : Bool) → meets group relations k ≡ b → (if b then value_of F (pair (behind cells group n weights) (meets group relations) k) else pos 0) ≡ (if b then multiplier weights (labels relations cells group n) k *ℤ F k else pos 0)
    both k inside false is = refl
    both k inside true is =
        let x : ℤ = number_at (behind cells group n weights) (2 * rank (meets group relations) k) in
        let y : ℤ = number_at (behind cells group n weights) (2 * rank (meets group relations) k + 1) in
        sum_two (λ (t : Term). t.1 *ℤ F t.0) (k, neg_ℤ x) (k, y)
        ∙ omega (arith, ints, minus_times x (F k), *ℤ_comm (y -ℤ x) (F k), times_less (F k) y x, *ℤ_comm (F k) y, *ℤ_comm (F k) x)
        ∙ sym (ap (λ z. z *ℤ F k) (multiplier_is relations cells group n weights long k inside is))

-- The coefficients of cells by the multipliers of relations that a search has reached.
use Rattle.std.proofs.Common.{◌≡◌, ◌≢◌, inl, inr, ℕ, zero, suc, ◌+◌, ◌<◌, ◌≤◌, ◌==◌, Bool, true, false, not, List, [], ◌∷◌, ◌++◌, map, length, All, slice_get, Option, Some, None, ℤ, pos, negsuc, neg_ℤ, ◌+ℤ◌, ◌-ℤ◌, ◌*ℤ◌, arith, refl, ap, sym, subst, ◌∙◌, if◌then◌else◌}
use Rattle.std.specs.List.{flat_map}
use Rattle.std.specs.Option.{option_map_or}
use Rattle.std.proofs.Math.IntN.{*ℤ_comm}
use Rattle.std.proofs.lemmas.Int.{ints}
use Rattle.std.proofs.lemmas.Bool.{cases_lt}
use Rattle.std.proofs.lemmas.Bool.Decides.{nat_tests}
use Rattle.std.proofs.lemmas.Grind.{flat_map-append}
use Rattle.std.proofs.lemmas.List.{append-nil}
use Rattle.std.proofs.lemmas.List.Elements.{All-nil, All-push}
use Rattle.sdc_base.specs.declared.relation.Relation.{Relation}
use Rattle.sdc_base.specs.Forms.{Term, coefficient, count_of, form_times, weighted_forms}
use Rattle.sdc_base.specs.Signs.{number_with_sign, sign_of, times_counted}
use Rattle.sdc_base.specs.Totals.{sum_below}
use Rattle.sdc_base.proofs.WholeNumbers.{distrib, minus_times}
use Rattle.sdc_base.proofs.TotalLemmas.{sum_of-cons, sum_of-append, sum_below-add, sum_below-times, sum_below-same, only}
use Rattle.worlds.specs.NumberLists.{IsListed}
use Rattle.signed_network.specs.declared.arcs.Arc.{Arc}
use Rattle.signed_network.specs.Arcs.{at_point, brings_to, is_same, IsArcOf}
use Rattle.flow_worlds.specs.Searches.{is_reached}
use Rattle.flow_worlds.specs.Cuts.{IsOne, multiplier_of, weight_of}
use Rattle.flow_worlds.proofs.Listing.{listed_behind, listed_wider, none_is_listed}

-- ---- a form so many times

times_none : (t : ℤ) → t *ℤ pos 0 ≡ pos 0
times_none t = *ℤ_comm t (pos 0) ∙ omega (arith, ints)

one_part : (b : Bool) (t rest : ℤ) → (if b then neg_ℤ t else pos 0) +ℤ t *ℤ rest ≡ t *ℤ ((if b then neg_ℤ (pos 1) else pos 0) +ℤ rest)
one_part true t rest = omega (arith, ints, distrib t (neg_ℤ (pos 1)) rest, *ℤ_comm t (neg_ℤ (pos 1)), minus_times (pos 1) t)
one_part false t rest = omega (arith, ints, distrib t (pos 0) rest, times_none t)

scaled_parts : (t : ℤ) (parts : List ℕ) (c : ℕ) → coefficient (map (λ part. (part, neg_ℤ t)) parts) c ≡ t *ℤ coefficient (map (λ part. (part, neg_ℤ (pos 1))) parts) c
scaled_parts t [] c = sym (times_none t)
scaled_parts t (part ∷ parts) c =
    sum_of-cons (λ (m : Term). if m.0 == c then m.1 else pos 0) (part, neg_ℤ t) (map (λ part. (part, neg_ℤ t)) parts)
    ∙ ap (λ z. (if part == c then neg_ℤ t else pos 0) +ℤ z) (scaled_parts t parts c)
    ∙ one_part (part == c) t (coefficient (map (λ part. (part, neg_ℤ (pos 1))) parts) c)
    ∙ ap (λ z. t *ℤ z) (sym (sum_of-cons (λ (m : Term). if m.0 == c then m.1 else pos 0) (part, neg_ℤ (pos 1)) (map (λ part. (part, neg_ℤ (pos 1))) parts)))

one_total : (b : Bool) (t rest : ℤ) → (if b then t else pos 0) +ℤ t *ℤ rest ≡ t *ℤ ((if b then pos 1 else pos 0) +ℤ rest)
one_total true t rest = omega (arith, ints, distrib t (pos 1) rest, *ℤ_comm t (pos 1))
one_total false t rest = omega (arith, ints, distrib t (pos 0) rest, times_none t)

scaled_form : (t : ℤ) (r : Relation) (c : ℕ) → coefficient (form_times t r) c ≡ t *ℤ count_of r c
scaled_form t r c =
    sum_of-cons (λ (m : Term). if m.0 == c then m.1 else pos 0) (r.total, t) (map (λ part. (part, neg_ℤ t)) r.parts)
    ∙ ap (λ z. (if r.total == c then t else pos 0) +ℤ z) (scaled_parts t r.parts c)
    ∙ one_total (r.total == c) t (coefficient (map (λ part. (part, neg_ℤ (pos 1))) r.parts) c)
    ∙ ap (λ z. t *ℤ z) (sym (sum_of-cons (λ (m : Term). if m.0 == c then m.1 else pos 0) (r.total, pos 1) (map (λ part. (part, neg_ℤ (pos 1))) r.parts)))

one_relation : (relations : List Relation) (number : ℕ) (t : ℤ) (c : ℕ) → coefficient (option_map_or (form_times t) (slice_get relations number) []) c ≡ t *ℤ times_counted relations number c
one_relation relations number t c = by (slice_get relations number)
  where
    by : (o : Option Relation) → coefficient (option_map_or (form_times t) o []) c ≡ t *ℤ option_map_or (λ r. count_of r c) o (pos 0)
    by None = sym (times_none t)
    by (Some r) = scaled_form t r c

-- one multiplier more
weighted_push : (relations : List Relation) (multipliers : List Term) (number : ℕ) (t : ℤ) (c : ℕ) → coefficient (weighted_forms relations (multipliers ++ (number, t) ∷ [])) c ≡ coefficient (weighted_forms relations multipliers) c +ℤ t *ℤ times_counted relations number c
weighted_push relations multipliers number t c =
    let F : Term → List Term = λ m. option_map_or (form_times m.1) (slice_get relations m.0) [] in
    ap (λ (ts : List Term). coefficient ts c) (flat_map-append F multipliers ((number, t) ∷ []))
    ∙ sum_of-append (λ (m : Term). if m.0 == c then m.1 else pos 0) (flat_map F multipliers) (flat_map F ((number, t) ∷ []))
    ∙ ap (λ (ts : List Term). coefficient (weighted_forms relations multipliers) c +ℤ coefficient ts c) (append-nil (F (number, t)))
    ∙ ap (λ z. coefficient (weighted_forms relations multipliers) c +ℤ z) (one_relation relations number t c)

-- ---- multipliers of the first relations

sum_more : (k : ℕ) (f : ℕ → ℤ) → sum_below (k + 1) f ≡ sum_below k f +ℤ f k
sum_more k f = ap (λ (n : ℕ). sum_below n f) (let next : k + 1 ≡ suc k = omega arith in next)

pub record AreMultipliersBelow (signs reached : List Bool) (forward : Bool) (k : ℕ) (multipliers : List Term) : Type 0 where
  pub listed : IsListed k multipliers
  pub ones : All (λ (m : Term). IsOne m.1) multipliers
  pub coefficients : (relations : List Relation) (cell : ℕ) → coefficient (weighted_forms relations multipliers) cell ≡ sum_below k (λ number. weight_of signs reached forward number *ℤ times_counted relations number cell)

multiplier_is_one : (b : Bool) → IsOne (if b then negsuc 0 else pos 1)
multiplier_is_one true = inr refl
multiplier_is_one false = inl refl

one_counts : (t : ℤ) → IsOne t → t ≢ pos 0
one_counts t (inl one) none = absurd (omega (arith, ints, one, none))
one_counts t (inr minus) none = absurd (omega (arith, ints, minus, none))

pub reached_more : (signs reached : List Bool) (forward : Bool) (k : ℕ) (multipliers after : List Term) → is_reached reached k ≡ true → after ≡ multipliers ++ (k, multiplier_of (sign_of signs k) forward) ∷ [] → AreMultipliersBelow signs reached forward k multipliers → AreMultipliersBelow signs reached forward (k + 1) after
reached_more signs reached forward k multipliers after met so are =
    let t : ℤ = multiplier_of (sign_of signs k) forward in
    let one : IsOne t = multiplier_is_one (is_same (sign_of signs k) forward) in
    let weight : weight_of signs reached forward k ≡ t = ap (λ (b : Bool). if b then t else pos 0) met in
    let next : suc k ≡ k + 1 = omega arith in
    subst (λ (ms : List Term). AreMultipliersBelow signs reached forward (k + 1) ms) (sym so) (record {
      listed = subst (λ (n : ℕ). IsListed n (multipliers ++ (k, t) ∷ [])) next (listed_behind k multipliers t (one_counts t one) are.listed);
      ones = All-push (λ (m : Term). IsOne m.1) multipliers (k, t) are.ones one;
      coefficients = λ relations cell.
          weighted_push relations multipliers k t cell
          ∙ ap (λ z. z +ℤ t *ℤ times_counted relations k cell) (are.coefficients relations cell)
          ∙ ap (λ z. sum_below k (λ number. weight_of signs reached forward number *ℤ times_counted relations number cell) +ℤ z *ℤ times_counted relations k cell) (sym weight)
          ∙ sym (sum_more k (λ number. weight_of signs reached forward number *ℤ times_counted relations number cell));
    })

pub unmet_more : (signs reached : List Bool) (forward : Bool) (k : ℕ) (multipliers : List Term) → is_reached reached k ≡ false → AreMultipliersBelow signs reached forward k multipliers → AreMultipliersBelow signs reached forward (k + 1) multipliers
unmet_more signs reached forward k multipliers unmet are =
    let t : ℤ = multiplier_of (sign_of signs k) forward in
    let weight : weight_of signs reached forward k ≡ pos 0 = ap (λ (b : Bool). if b then t else pos 0) unmet in
    let next : suc k ≡ k + 1 = omega arith in
    record {
      listed = subst (λ (n : ℕ). IsListed n multipliers) next (listed_wider k multipliers are.listed);
      ones = are.ones;
      coefficients = λ relations cell.
          let none : weight_of signs reached forward k *ℤ times_counted relations k cell ≡ pos 0 = ap (λ z. z *ℤ times_counted relations k cell) weight ∙ omega (arith, ints) in
          are.coefficients relations cell ∙ omega (arith, ints, none, sum_more k (λ number. weight_of signs reached forward number *ℤ times_counted relations number cell));
    }

-- ---- what the weights come to at a cell

-- 1 where a point is reached, else 0
abbrev pub flag_at : List Bool → ℕ → ℤ
flag_at reached point = if is_reached reached point then pos 1 else pos 0

weighed : (b s forward : Bool) (times : ℤ) → (if b then multiplier_of s forward else pos 0) *ℤ times ≡ number_with_sign (not forward) ((if b then pos 1 else pos 0) *ℤ number_with_sign s times)
weighed true true true times = omega (arith, ints, minus_times (pos 1) times)
weighed true true false times = omega (arith, ints)
weighed true false true times = omega (arith, ints)
weighed true false false times = omega (arith, ints, minus_times (pos 1) times)
weighed false true true times = omega (arith, ints)
weighed false true false times = omega (arith, ints)
weighed false false true times = omega (arith, ints)
weighed false false false times = omega (arith, ints)

minus_below : (n : ℕ) (f : ℕ → ℤ) → sum_below n (λ c. neg_ℤ (f c)) ≡ neg_ℤ (sum_below n f)
minus_below n f =
    sum_below-same n (λ c. neg_ℤ (f c)) (λ c. neg_ℤ (pos 1) *ℤ f c) (λ c _. omega (arith, ints, minus_times (pos 1) (f c)))
    ∙ sum_below-times n (neg_ℤ (pos 1)) f ∙ omega (arith, ints, minus_times (pos 1) (sum_below n f))

signed_below : (s : Bool) (n : ℕ) (f : ℕ → ℤ) → sum_below n (λ c. number_with_sign s (f c)) ≡ number_with_sign s (sum_below n f)
signed_below true n f = refl
signed_below false n f = minus_below n f

none_below : (n : ℕ) (f : ℕ → ℤ) → ((c : ℕ) → c < n → f c ≡ pos 0) → sum_below n f ≡ pos 0
none_below zero f none = refl
none_below (suc n) f none = omega (arith, ints, none_below n f (λ c below. none c (omega (arith, below))), none n (omega arith))

flag_times : (b : Bool) (flag : ℤ) → flag *ℤ (if b then pos 1 else pos 0) ≡ (if b then flag else pos 0)
flag_times true flag = *ℤ_comm flag (pos 1) ∙ omega (arith, ints)
flag_times false flag = times_none flag

-- of all relations the one at a point counts, where it is reached
flags_at : (n : ℕ) (reached : List Bool) (point : ℕ) → point ≤ n → is_reached reached n ≡ false → sum_below n (λ k. flag_at reached k *ℤ at_point point k) ≡ flag_at reached point
flags_at n reached point within outside =
    sum_below-same n (λ k. flag_at reached k *ℤ at_point point k) (λ k. if point == k then flag_at reached k else pos 0) (λ k _. flag_times (point == k) (flag_at reached k))
    ∙ elim (cases_lt point n) as (λ _. sum_below n (λ k. if point == k then flag_at reached k else pos 0) ≡ flag_at reached point) [
      | inl below ↦ only n point (λ k. flag_at reached k) below
      | inr past ↦
          let same : n ≡ point = omega (arith, within, past) in
          none_below n (λ k. if point == k then flag_at reached k else pos 0) (λ k below. (let apart : (point == k) ≡ false = grind (arith, nat_tests, past, below) in ap (λ (b : Bool). if b then flag_at reached k else pos 0) apart))
          ∙ sym (ap (λ (b : Bool). if b then pos 1 else pos 0) (ap (λ (p : ℕ). is_reached reached p) (sym same) ∙ outside))
    ]

pub weights_come_to : (relations : List Relation) (signs reached : List Bool) (forward : Bool) (cell : ℕ) (arc : Arc) → IsArcOf relations signs cell arc → is_reached reached (length relations) ≡ false
    → sum_below (length relations) (λ number. weight_of signs reached forward number *ℤ times_counted relations number cell) ≡ number_with_sign (not forward) (flag_at reached arc.to -ℤ flag_at reached arc.from)
weights_come_to relations signs reached forward cell arc is outside =
    let n : ℕ = length relations in
    sum_below-same n (λ number. weight_of signs reached forward number *ℤ times_counted relations number cell) (λ number. number_with_sign (not forward) (flag_at reached number *ℤ brings_to arc number))
    (λ number below. weighed (is_reached reached number) (sign_of signs number) forward (times_counted relations number cell) ∙ ap (λ z. number_with_sign (not forward) (flag_at reached number *ℤ z)) (is.counted number below))
    ∙ signed_below (not forward) n (λ number. flag_at reached number *ℤ brings_to arc number)
    ∙ ap (number_with_sign (not forward))
    (sum_below-same n (λ number. flag_at reached number *ℤ brings_to arc number) (λ number. flag_at reached number *ℤ at_point arc.to number +ℤ neg_ℤ (flag_at reached number *ℤ at_point arc.from number))
    (λ number _. distrib (flag_at reached number) (at_point arc.to number) (neg_ℤ (at_point arc.from number)) ∙ omega (arith, ints, *ℤ_comm (flag_at reached number) (neg_ℤ (at_point arc.from number)), minus_times (at_point arc.from number) (flag_at reached number), *ℤ_comm (flag_at reached number) (at_point arc.from number)))
    ∙ sum_below-add n (λ number. flag_at reached number *ℤ at_point arc.to number) (λ number. neg_ℤ (flag_at reached number *ℤ at_point arc.from number))
    ∙ omega (arith, ints, minus_below n (λ number. flag_at reached number *ℤ at_point arc.from number), flags_at n reached arc.to is.to_point outside, flags_at n reached arc.from is.from_point outside))

pub none_weighed : (signs reached : List Bool) (forward : Bool) (multipliers : List Term) → multipliers ≡ [] → AreMultipliersBelow signs reached forward 0 multipliers
none_weighed signs reached forward multipliers none = subst (λ (ms : List Term). AreMultipliersBelow signs reached forward 0 ms) (sym none) (record {
  listed = none_is_listed 0;
  ones = All-nil (λ (m : Term). IsOne m.1);
  coefficients = λ relations cell. refl;
})

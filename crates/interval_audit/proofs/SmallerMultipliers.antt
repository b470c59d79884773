-- Multipliers of weights of some rows, in lowest terms.
use Rattle.std.proofs.Common.{◌≡◌, ℕ, zero, suc, ◌<◌, ◌≤◌, ◌==◌, Bool, true, false, List, [], ◌∷◌, ◌++◌, length, map, filter, All, ℤ, pos, negsuc, neg_ℤ, ◌+ℤ◌, ◌*ℤ◌, ◌≤ℤ◌, unsigned_abs, arith, refl, ap, sym, ◌∙◌, subst, if◌then◌else◌}
use Prim.Native.Nat.{◌∣◌}
use Rattle.std.specs.Int.RustNames.{int_div}
use Rattle.std.specs.Ordering.{int_eq}
use Rattle.std.proofs.Math.IntN.{*ℤ_comm}
use Rattle.std.proofs.lemmas.Int.{ints}
use Rattle.std.proofs.lemmas.Bool.Decides.{Decides-int_eq}
use Rattle.std.proofs.lemmas.List.{map-append}
use Rattle.std.proofs.lemmas.List.Elements.{All-nil, All-cons, All-head, All-tail}
use Rattle.sdc_base.specs.Forms.{Term, coefficient}
use Rattle.sdc_base.specs.Systems.{Numbers, number_at}
use Rattle.sdc_base.proofs.TotalLemmas.{sum_of-cons, sum_of-append}
use Rattle.sdc_base.proofs.WholeNumbers.{assoc, distrib_right, times_more}
use Rattle.tableau.proofs.Divisors.{exact, abs_up, dvd_up}
use Rattle.tableau.proofs.Exchanges.{none_from_times, times_none}
use Rattle.tableau.proofs.SomeStep.{IsCommon, common_of}
use Rattle.worlds.specs.declared.world.Move.{Move}
use Rattle.worlds.specs.NumberLists.{terms_of}
use Rattle.interval_audit.specs.Groups.{Group, members}
use Rattle.interval_audit.specs.Labels.{Label, CapAbove, CapBelow, Form, Negated, terms_of_label, relation_terms, multiplier}
use Rattle.interval_audit.specs.LowestTerms.{AreLowestTermsOf, IsCommonDivisor, times_each}
use Rattle.interval_audit.specs.Readings.{nonzero_terms}
use Rattle.interval_audit.proofs.Divisors.{reduced_is}
use Rattle.interval_audit.proofs.Givens.{one_listed, tail_listed, nonzero_terms-more}
use Rattle.interval_audit.proofs.OneAnswer.{one_lowest, sizes}
use Rattle.interval_audit.proofs.Selecting.{passes_at, next_place, place_of}

-- ---- weights by their labels

-- how often a weight at a row counts as a multiplier of a relation
abbrev pub sign_of : Label → ℕ → ℤ
sign_of (CapAbove cell) r = pos 0
sign_of (CapBelow cell) r = pos 0
sign_of (Form number) r = if number == r then negsuc 0 else pos 0
sign_of (Negated number) r = if number == r then pos 1 else pos 0

label_counts : (w : ℤ) (label : Label) (r : ℕ) → coefficient (terms_of_label w label) r ≡ w *ℤ sign_of label r
label_counts w (CapAbove c) r = sym (times_none w)
label_counts w (CapBelow c) r = sym (times_none w)
label_counts w (Form k) r =
    sum_of-cons (λ (t : Term). if t.0 == r then t.1 else pos 0) (k, neg_ℤ w) []
    ∙ elim (k == r) as (λ b. (if b then neg_ℤ w else pos 0) +ℤ pos 0 ≡ w *ℤ (if b then negsuc 0 else pos 0)) [
      | true ↦ omega (arith, ints, *ℤ_comm w (negsuc 0))
      | false ↦ sym (times_none w)
    ]
label_counts w (Negated k) r =
    sum_of-cons (λ (t : Term). if t.0 == r then t.1 else pos 0) (k, w) []
    ∙ elim (k == r) as (λ b. (if b then w else pos 0) +ℤ pos 0 ≡ w *ℤ (if b then pos 1 else pos 0)) [
      | true ↦ omega (arith, ints, *ℤ_comm w (pos 1))
      | false ↦ sym (times_none w)
    ]

-- what weights by their places count
abbrev pub label_sum : Numbers → List Label → ℕ → ℤ
label_sum f [] r = pos 0
label_sum f (label ∷ labels) r = f 0 *ℤ sign_of label r +ℤ label_sum (λ k. f (suc k)) labels r

pub multiplier_sum : (weights : List ℤ) (labels : List Label) (r : ℕ) → length labels ≤ length weights → multiplier weights labels r ≡ label_sum (number_at weights) labels r
multiplier_sum [] [] r few = refl
multiplier_sum (w ∷ weights) [] r few = refl
multiplier_sum [] (label ∷ labels) r few = absurd (omega arith)
multiplier_sum (w ∷ weights) (label ∷ labels) r few =
    sum_of-append (λ (t : Term). if t.0 == r then t.1 else pos 0) (terms_of_label w label) (relation_terms weights labels)
    ∙ omega (arith, ints, label_counts w label r, multiplier_sum weights labels r (omega arith))

pub label_sum-none : (f : Numbers) (labels : List Label) (r : ℕ) → All (λ label. sign_of label r ≡ pos 0) labels → label_sum f labels r ≡ pos 0
label_sum-none f [] r all = refl
label_sum-none f (label ∷ labels) r all =
    let P : Label → Type 0 = λ label. sign_of label r ≡ pos 0 in
    omega (arith, ints, ap (λ z. f 0 *ℤ z) (All-head P label labels all), times_none (f 0), label_sum-none (λ k. f (suc k)) labels r (All-tail P label labels all))

-- one more weight
both_more : (a b s e d x y : ℤ) → a *ℤ e ≡ b *ℤ d → x *ℤ e ≡ y *ℤ d → (a *ℤ s +ℤ x) *ℤ e ≡ (b *ℤ s +ℤ y) *ℤ d
both_more a b s e d x y here later =
    let left : (a *ℤ s) *ℤ e ≡ s *ℤ (a *ℤ e) = ap (λ z. z *ℤ e) (*ℤ_comm a s) ∙ assoc s a e in
    let right : (b *ℤ s) *ℤ d ≡ s *ℤ (b *ℤ d) = ap (λ z. z *ℤ d) (*ℤ_comm b s) ∙ assoc s b d in
    omega (arith, ints, distrib_right e (a *ℤ s) x, distrib_right d (b *ℤ s) y, left, right, ap (λ z. s *ℤ z) here, later)

-- weights of those labels that pass, and 0 at all others
pub label_sum-same : (q : Label → Bool) (labels : List Label) (f g : Numbers) (e d : ℤ) (r : ℕ) → ((k : ℕ) → k < length (filter q labels) → f (place_of q labels k) *ℤ e ≡ g k *ℤ d) → ((k : ℕ) → k < length labels → passes_at q labels k ≡ false → f k ≡ pos 0) →
    label_sum f labels r *ℤ e ≡ label_sum g (filter q labels) r *ℤ d
label_sum-same q [] f g e d r each none = omega (arith, ints)
label_sum-same q (label ∷ labels) f g e d r each none =
    let rest : List Label = filter q labels in
    let p : ℕ → ℕ = place_of q labels in
    let f_next : Numbers = λ k. f (suc k) in
    let later : (h : Numbers) → ((k : ℕ) → k < length rest → f (suc (p k)) *ℤ e ≡ h k *ℤ d) → label_sum f_next labels r *ℤ e ≡ label_sum h rest r *ℤ d = λ h same. label_sum-same q labels f_next h e d r same (λ k below. none (suc k) (omega arith)) in
    elim (q label) as (λ b. q label ≡ b → ((k : ℕ) → k < length (if b then label ∷ rest else rest) → f (if b then next_place p k else suc (p k)) *ℤ e ≡ g k *ℤ d) → (f 0 *ℤ sign_of label r +ℤ label_sum f_next labels r) *ℤ e ≡ label_sum g (if b then label ∷ rest else rest) r *ℤ d) [
      | true ↦ λ is same. both_more (f 0) (g 0) (sign_of label r) e d (label_sum f_next labels r) (label_sum (λ k. g (suc k)) rest r) (same 0 (omega arith)) (later (λ k. g (suc k)) (λ k below. same (suc k) (omega arith)))
      | false ↦ λ is same.
          let gone : f 0 ≡ pos 0 = none 0 (omega arith) is in
          let nothing : f 0 *ℤ sign_of label r ≡ pos 0 = ap (λ z. z *ℤ sign_of label r) gone ∙ *ℤ_comm (pos 0) (sign_of label r) ∙ times_none (sign_of label r) in
          ap (λ z. (z +ℤ label_sum f_next labels r) *ℤ e) nothing ∙ ap (λ z. z *ℤ e) (omega (arith, ints)) ∙ later g same
    ] refl each

-- ---- numbers that aren't 0

none_listed : (numbers : Numbers) (n : ℕ) → numbers n ≡ pos 0 → one_listed numbers n ≡ []
none_listed numbers n none = ap (λ (b : Bool). if b then [] else (n, numbers n) ∷ []) ((Decides-int_eq (numbers n) (pos 0)).1 none)

none_back : (x y e d : ℤ) → pos 1 ≤ℤ e → x *ℤ e ≡ y *ℤ d → y ≡ pos 0 → x ≡ pos 0
none_back x y e d up same none = none_from_times e x up (*ℤ_comm e x ∙ same ∙ ap (λ z. z *ℤ d) none ∙ *ℤ_comm (pos 0) d ∙ times_none d)

one_scaled : (one other : Numbers) (e d : ℤ) (n : ℕ) → pos 1 ≤ℤ e → pos 1 ≤ℤ d → one n *ℤ e ≡ other n *ℤ d → times_each e (one_listed one n) ≡ times_each d (one_listed other n)
one_scaled one other e d n up also same =
    elim (int_eq (one n) (pos 0)) as (λ b. int_eq (one n) (pos 0) ≡ b → times_each e (if b then [] else (n, one n) ∷ []) ≡ times_each d (one_listed other n)) [
      | true ↦ λ is.
          let none : other n ≡ pos 0 = none_back (other n) (one n) d e also (sym same) ((Decides-int_eq (one n) (pos 0)).0 is) in
          sym (ap (times_each d) (none_listed other n none))
      | false ↦ λ is.
          elim (int_eq (other n) (pos 0)) as (λ c. int_eq (other n) (pos 0) ≡ c → times_each e ((n, one n) ∷ []) ≡ times_each d (if c then [] else (n, other n) ∷ [])) [
            | true ↦ λ test. absurd (let none : one n ≡ pos 0 = none_back (one n) (other n) e d up same ((Decides-int_eq (other n) (pos 0)).0 test) in let clash : true ≡ false = sym ((Decides-int_eq (one n) (pos 0)).1 none) ∙ is in cc)
            | false ↦ λ test. ap (λ (z : ℤ). (n, z) ∷ []) (*ℤ_comm e (one n) ∙ same ∙ *ℤ_comm (other n) d)
          ] refl
    ] refl

tail_scaled : (group smaller : Group) (one other : Numbers) (e d : ℤ) (n : ℕ) → pos 1 ≤ℤ e → pos 1 ≤ℤ d → (smaller n ≡ true → group n ≡ true) → one n *ℤ e ≡ other n *ℤ d → (smaller n ≡ false → other n ≡ pos 0) → times_each e (tail_listed group one n) ≡ times_each d (tail_listed smaller other n)
tail_scaled group smaller one other e d n up also each same none =
    elim (smaller n) as (λ b. smaller n ≡ b → times_each e (if group n then one_listed one n else []) ≡ times_each d (if b then one_listed other n else [])) [
      | true ↦ λ is. ap (λ c. times_each e (if c then one_listed one n else [])) (each is) ∙ one_scaled one other e d n up also same
      | false ↦ λ is.
          let gone : one_listed one n ≡ [] = none_listed one n (none_back (one n) (other n) e d up same (none is)) in
          elim (group n) as (λ c. times_each e (if c then one_listed one n else []) ≡ []) [ true ↦ ap (times_each e) gone | false ↦ refl ]
    ] refl

pub nonzero_scaled : (group smaller : Group) (one other : Numbers) (e d : ℤ) (n : ℕ) → pos 1 ≤ℤ e → pos 1 ≤ℤ d → ((k : ℕ) → smaller k ≡ true → group k ≡ true) → ((k : ℕ) → one k *ℤ e ≡ other k *ℤ d) → ((k : ℕ) → smaller k ≡ false → other k ≡ pos 0) →
    times_each e (nonzero_terms one (members group n)) ≡ times_each d (nonzero_terms other (members smaller n))
nonzero_scaled group smaller one other e d zero up also each same none = refl
nonzero_scaled group smaller one other e d (suc n) up also each same none =
    ap (times_each e) (nonzero_terms-more group one n) ∙ map-append (λ (t : Term). (t.0, e *ℤ t.1)) (nonzero_terms one (members group n)) (tail_listed group one n)
    ∙ ap (λ (ts : List Term). ts ++ times_each e (tail_listed group one n)) (nonzero_scaled group smaller one other e d n up also each same none)
    ∙ ap (λ (ts : List Term). times_each d (nonzero_terms other (members smaller n)) ++ ts) (tail_scaled group smaller one other e d n up also (each n) (same n) (none n))
    ∙ sym (ap (times_each d) (nonzero_terms-more smaller other n) ∙ map-append (λ (t : Term). (t.0, d *ℤ t.1)) (nonzero_terms other (members smaller n)) (tail_listed smaller other n))

-- ---- lowest terms

each_exact : (g : ℕ) (terms : List Term) → All (λ number. g ∣ unsigned_abs number) (sizes terms) → terms ≡ times_each (pos g) (map (λ (t : Term). (t.0, int_div t.1 (pos g))) terms)
each_exact g [] each = refl
each_exact g (t ∷ terms) each =
    let P : ℤ → Type 0 = λ number. g ∣ unsigned_abs number in
    let own : t.1 ≡ pos g *ℤ int_div t.1 (pos g) = sym (exact t.1 (pos g) (All-head P t.1 (sizes terms) each)) ∙ *ℤ_comm (int_div t.1 (pos g)) (pos g) in
    ap (λ (z : ℤ). (t.0, z) ∷ terms) own ∙ ap (λ (ts : List Term). (t.0, pos g *ℤ int_div t.1 (pos g)) ∷ ts) (each_exact g terms (All-tail P t.1 (sizes terms) each))

each_size : (d : ℕ) (terms : List Term) → All (λ (t : Term). d ∣ unsigned_abs t.1) terms → All (λ number. d ∣ unsigned_abs number) (sizes terms)
each_size d [] each = All-nil (λ number. d ∣ unsigned_abs number)
each_size d (t ∷ terms) each = All-cons (λ number. d ∣ unsigned_abs number) t.1 (sizes terms) (All-head (λ (t : Term). d ∣ unsigned_abs t.1) t terms each) (each_size d terms (All-tail (λ (t : Term). d ∣ unsigned_abs t.1) t terms each))

-- a denominator and numbers over it have lowest terms
pub some_lowest : (den : ℤ) (terms : List Term) → pos 1 ≤ℤ den → (lower : ℤ) × (less : List Term) × AreLowestTermsOf den terms lower less
some_lowest den terms up =
    let found : (g : ℕ) × IsCommon (unsigned_abs den) (sizes terms) g = common_of (unsigned_abs den) (sizes terms) in
    let g : ℕ = found.0 in
    let lower : ℤ = int_div den (pos g) in
    let less : List Term = map (λ (t : Term). (t.0, int_div t.1 (pos g))) terms in
    let above : 1 ≤ g = dvd_up g (unsigned_abs den) found.1.start_divides (abs_up den up) in
    let den_is : den ≡ pos g *ℤ lower = sym (exact den (pos g) found.1.start_divides) ∙ *ℤ_comm lower (pos g) in
    let greatest : (d : ℕ) → IsCommonDivisor d den terms → d ∣ g = λ d divides. found.1.greatest d divides.den_divided (each_size d terms divides.each_divided) in
    (lower, less, reduced_is g den terms lower less above up greatest den_is (each_exact g terms found.1.each))

times_twice : (e by : ℤ) (terms : List Term) → times_each e (times_each by terms) ≡ times_each (e *ℤ by) terms
times_twice e by [] = refl
times_twice e by (t ∷ terms) = ap (λ (z : ℤ). (t.0, z) ∷ times_each e (times_each by terms)) (sym (assoc e by t.1)) ∙ ap (λ (ts : List Term). (t.0, (e *ℤ by) *ℤ t.1) ∷ ts) (times_twice e by terms)

product_up : (a b : ℤ) → pos 1 ≤ℤ a → pos 1 ≤ℤ b → pos 1 ≤ℤ (a *ℤ b)
product_up a b up also = omega (arith, ints, times_more a (pos 0) b up (omega (arith, ints)), times_none a)

scaled_lowest : (e den : ℤ) (terms : List Term) (lower : ℤ) (less : List Term) → pos 1 ≤ℤ e → AreLowestTermsOf den terms lower less → AreLowestTermsOf (e *ℤ den) (times_each e terms) lower less
scaled_lowest e den terms lower less up is = record {
  by = e *ℤ is.by;
  by_positive = product_up e is.by up is.by_positive;
  den_same = ap (λ z. e *ℤ z) is.den_same ∙ sym (assoc e is.by lower);
  each_same = ap (times_each e) is.each_same ∙ times_twice e is.by less;
  lowest = is.lowest;
}

-- the same fractions have the same lowest terms
pub lowest_moves : (d e : ℤ) (whole part : List Term) (lower : ℤ) (less : List Term) → pos 1 ≤ℤ d → pos 1 ≤ℤ e → times_each e whole ≡ times_each d part → AreLowestTermsOf d whole lower less → AreLowestTermsOf e part lower less
lowest_moves d e whole part lower less up also same is =
    let other : (lower : ℤ) × (less : List Term) × AreLowestTermsOf e part lower less = some_lowest e part also in
    let mine : AreLowestTermsOf (e *ℤ d) (times_each e whole) lower less = scaled_lowest e d whole lower less also is in
    let theirs : AreLowestTermsOf (d *ℤ e) (times_each d part) other.0 other.1 = scaled_lowest d e part other.0 other.1 up other.2 in
    let moved : AreLowestTermsOf (d *ℤ e) (times_each d part) lower less = subst (λ (ts : List Term). AreLowestTermsOf (d *ℤ e) ts lower less) same (subst (λ z. AreLowestTermsOf z (times_each e whole) lower less) (*ℤ_comm e d) mine) in
    let one = one_lowest (d *ℤ e) (times_each d part) lower less other.0 other.1 moved theirs in
    subst (λ (ts : List Term). AreLowestTermsOf e part lower ts) (sym one.1) (subst (λ z. AreLowestTermsOf e part z other.1) (sym one.0) other.2)

-- ---- moves of given terms

abbrev pub moves_for : List Term → List Move
moves_for terms = map (λ (t : Term). record { cell = t.0; by = t.1 }) terms

pub terms_back : (terms : List Term) → terms_of (moves_for terms) ≡ terms
terms_back [] = refl
terms_back (t ∷ terms) = ap (λ (ts : List Term). (t.0, t.1) ∷ ts) (terms_back terms)

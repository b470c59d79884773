-- A change of the unit changes no naming, and levels only within rounding.
use Rattle.std.proofs.Common.{◌≡◌, ◌≢◌, ℕ, zero, suc, ◌*◌, ◌≤◌, Bool, true, false, List, [], ◌∷◌, map, All, Option, None, Some, option_map, ℤ, pos, negsuc, neg_ℤ, ◌+ℤ◌, ◌*ℤ◌, ◌≤ℤ◌, ◌<ℤ◌, int_lt, arith, refl, ap, sym, subst, ◌∙◌, if◌then◌else◌}
use Rattle.std.specs.Ordering.{int_eq}
use Rattle.std.proofs.lemmas.Bool.Decides.{Decides-int_eq}
use Rattle.std.proofs.lemmas.Int.{ints, by_lt_z}
use Rattle.std.proofs.Math.IntN.{*ℤ_comm}
use Rattle.std.proofs.lemmas.List.Elements.{All-head, All-tail}
use Rattle.sdc_base.proofs.WholeNumbers.{distrib, swap_times, minus_times, times_up, times_more}
use Rattle.sdc_base.specs.RuleLevels.{Figures, fraction_of, is_sensitive_by, rest_beside_two, wanted_level, rounded_up, IsRoundedUp, greater_number, upper_of, levels_up_to, level_of}
use Rattle.sdc_base.specs.declared.rule.Rule.{Rule}
use Rattle.sdc_base.specs.declared.rule.Rule.TheVariants as rule
use Rattle.primary_rules.specs.Ranges.{IsInRange}
use Rattle.primary_rules.specs.OneRule.{up_by, greater_of}
use Rattle.primary_rules.specs.Units.{IsRescaled, IsWithinRounding, AreWithinRounding, neither, both, rule_in_units, UnitsChangeNoNaming}
use Rattle.primary_rules.proofs.Rounding.{rounded_is}
use Rattle.primary_rules.proofs.OneByOne.{upper_first}

times_minus : (t : ℕ) (b : ℤ) → pos t *ℤ neg_ℤ b ≡ neg_ℤ (pos t *ℤ b)
times_minus t b = *ℤ_comm (pos t) (neg_ℤ b) ∙ minus_times b (pos t) ∙ ap neg_ℤ (*ℤ_comm b (pos t))

-- both sides of a comparison in the new unit
pub less_rescaled : (t : ℕ) (a b : ℤ) → 1 ≤ t → int_lt (pos t *ℤ a) (pos t *ℤ b) ≡ int_lt a b
less_rescaled t a b h =
    let one : pos 1 ≤ℤ pos t = omega (arith, ints, h) in
    by_lt_z a b
    (λ less. let more : (pos t *ℤ a) <ℤ (pos t *ℤ b) = times_more (pos t) a b one less in grind (arith, ints, less, more))
    (λ least. let more : (pos t *ℤ b) ≤ℤ (pos t *ℤ a) = times_up (pos t) b a (omega (arith, ints)) least in grind (arith, ints, least, more))

-- ---- one number

reaches_before : (t : ℕ) (a b : ℤ) → 1 ≤ t → (pos t *ℤ a) ≤ℤ (pos t *ℤ b) → a ≤ℤ b
reaches_before t a b h less =
    by_lt_z b a (λ other. let more : (pos t *ℤ b) <ℤ (pos t *ℤ a) = times_more (pos t) b a (omega (arith, ints, h)) other in absurd (omega (arith, ints, less, more))) (λ least. least)

rounded_within : (t d : ℕ) (over : ℤ) → 1 ≤ t → 1 ≤ d → IsWithinRounding t (rounded_up (fraction_of over d)) (rounded_up (fraction_of (pos t *ℤ over) d))
rounded_within t d over h under =
    let level : ℤ = rounded_up (fraction_of over d) in
    let other : ℤ = rounded_up (fraction_of (pos t *ℤ over) d) in
    let this : IsRoundedUp (fraction_of over d) level = rounded_is over d under in
    let that : IsRoundedUp (fraction_of (pos t *ℤ over) d) other = rounded_is (pos t *ℤ over) d under in
    let unit : pos 1 ≤ℤ level = this.unit in
    let one : pos 1 ≤ℤ other = that.unit in
    let reach : over ≤ℤ (pos d *ℤ level) = this.reaches in
    let wide : (pos t *ℤ over) ≤ℤ (pos t *ℤ (pos d *ℤ level)) = times_up (pos t) over (pos d *ℤ level) (omega (arith, ints)) reach in
    let reach_wide : (pos t *ℤ over) ≤ℤ (pos d *ℤ (pos t *ℤ level)) = omega (arith, ints, wide, swap_times (pos t) (pos d) level) in
    let units : (pos t *ℤ pos 1) ≤ℤ (pos t *ℤ level) = times_up (pos t) (pos 1) level (omega (arith, ints)) unit in
    let least_one : pos 1 ≤ℤ (pos t *ℤ level) = omega (arith, ints, units, h) in
    let before : ℤ = level +ℤ negsuc 0 in
    record {
      at_most = that.least (pos t *ℤ level) least_one reach_wide;
      above = by_lt_z (pos t *ℤ before) other (λ less. less) (λ low.
          let positive : pos 1 ≤ℤ before = by_lt_z (pos 0) before (λ less. omega (arith, ints, less)) (λ none.
          let nothing : (pos t *ℤ before) ≤ℤ (pos t *ℤ pos 0) = times_up (pos t) before (pos 0) (omega (arith, ints)) none in
          absurd (omega (arith, ints, nothing, low, one))) in
          let reach_other : (pos t *ℤ over) ≤ℤ (pos d *ℤ other) = that.reaches in
          let more : (pos d *ℤ other) ≤ℤ (pos d *ℤ (pos t *ℤ before)) = times_up (pos d) other (pos t *ℤ before) (omega (arith, ints)) low in
          let here : (pos t *ℤ over) ≤ℤ (pos t *ℤ (pos d *ℤ before)) = omega (arith, ints, reach_other, more, swap_times (pos t) (pos d) before) in
          let again : level ≤ℤ before = this.least before positive (reaches_before t over (pos d *ℤ before) h here) in
          absurd (omega (arith, ints, again)));
    }

greater_within : (t : ℕ) (n m a b : ℤ) → 1 ≤ t → IsWithinRounding t n a → IsWithinRounding t m b → IsWithinRounding t (greater_number n (Some m)) (greater_number a (Some b))
greater_within t n m a b h first second =
    let a_most : a ≤ℤ (pos t *ℤ n) = first.at_most in
    let b_most : b ≤ℤ (pos t *ℤ m) = second.at_most in
    let a_above : (pos t *ℤ (n +ℤ negsuc 0)) <ℤ a = first.above in
    let b_above : (pos t *ℤ (m +ℤ negsuc 0)) <ℤ b = second.above in
    elim (int_lt n m) as (λ x. int_lt n m ≡ x → IsWithinRounding t (if x then m else n) (if int_lt a b then b else a)) [
      | true ↦ λ is.
          let less : n <ℤ m = grind (arith, ints, is) in
          let more : (pos t *ℤ n) ≤ℤ (pos t *ℤ m) = times_up (pos t) n m (omega (arith, ints)) (omega (arith, ints, less)) in
          record { at_most = grind (arith, ints, a_most, b_most, more); above = grind (arith, ints, b_above) }
      | false ↦ λ is.
          let less : m ≤ℤ n = grind (arith, ints, is) in
          let more : (pos t *ℤ m) ≤ℤ (pos t *ℤ n) = times_up (pos t) m n (omega (arith, ints)) less in
          record { at_most = grind (arith, ints, a_most, b_most, more); above = grind (arith, ints, a_above) }
    ] refl

lesser_within : (t : ℕ) (n m a b : ℤ) → 1 ≤ t → IsWithinRounding t n a → IsWithinRounding t m b → IsWithinRounding t (if int_lt n m then n else m) (if int_lt a b then a else b)
lesser_within t n m a b h first second =
    let a_most : a ≤ℤ (pos t *ℤ n) = first.at_most in
    let b_most : b ≤ℤ (pos t *ℤ m) = second.at_most in
    let a_above : (pos t *ℤ (n +ℤ negsuc 0)) <ℤ a = first.above in
    let b_above : (pos t *ℤ (m +ℤ negsuc 0)) <ℤ b = second.above in
    elim (int_lt n m) as (λ x. int_lt n m ≡ x → IsWithinRounding t (if x then n else m) (if int_lt a b then a else b)) [
      | true ↦ λ is.
          let less : n <ℤ m = grind (arith, ints, is) in
          let more : (pos t *ℤ (n +ℤ negsuc 0)) ≤ℤ (pos t *ℤ (m +ℤ negsuc 0)) = times_up (pos t) (n +ℤ negsuc 0) (m +ℤ negsuc 0) (omega (arith, ints)) (omega (arith, ints, less)) in
          record { at_most = grind (arith, ints, a_most); above = grind (arith, ints, a_above, b_above, more) }
      | false ↦ λ is.
          let less : m ≤ℤ n = grind (arith, ints, is) in
          let more : (pos t *ℤ (m +ℤ negsuc 0)) ≤ℤ (pos t *ℤ (n +ℤ negsuc 0)) = times_up (pos t) (m +ℤ negsuc 0) (n +ℤ negsuc 0) (omega (arith, ints)) (omega (arith, ints, less)) in
          record { at_most = grind (arith, ints, b_most); above = grind (arith, ints, a_above, b_above, more) }
    ] refl

itself_within : (t : ℕ) (n : ℤ) → 1 ≤ t → IsWithinRounding t n (pos t *ℤ n)
itself_within t n h =
    let below : (pos t *ℤ (n +ℤ negsuc 0)) <ℤ (pos t *ℤ n) = times_more (pos t) (n +ℤ negsuc 0) n (omega (arith, ints, h)) (omega (arith, ints)) in
    record { at_most = omega (arith, ints); above = below }

-- ---- one rule

rest_rescaled : (t : ℕ) (cell other : Figures) → IsRescaled t cell other → rest_beside_two other ≡ pos t *ℤ rest_beside_two cell
rest_rescaled t cell other are = rw (are.truth, are.largest 2) (omega (arith, ints, distrib (pos t) cell.truth (neg_ℤ (cell.largest 2)), times_minus t (cell.largest 2)))

-- a difference of two parts in the new unit
part_rescaled : (t m n : ℕ) (a b : ℤ) → pos m *ℤ (pos t *ℤ a) +ℤ neg_ℤ (pos n *ℤ (pos t *ℤ b)) ≡ pos t *ℤ (pos m *ℤ a +ℤ neg_ℤ (pos n *ℤ b))
part_rescaled t m n a b =
    omega (arith, ints, swap_times (pos m) (pos t) a, swap_times (pos n) (pos t) b, distrib (pos t) (pos m *ℤ a) (neg_ℤ (pos n *ℤ b)), times_minus t (pos n *ℤ b))

apart : (a : ℤ) → a ≢ pos 0 → int_eq a (pos 0) ≡ false
apart a h = by_test (int_eq a (pos 0)) (λ is. h ((Decides-int_eq a (pos 0)).0 is))
  where
    by_test : (t : Bool) → (t ≡ true → ⊥) → t ≡ false
    by_test true g = absurd (g refl)
    by_test false g = refl

-- so many times a number is 0 exactly where the number is
zero_rescaled : (t : ℕ) (a : ℤ) → 1 ≤ t → int_eq (pos t *ℤ a) (pos 0) ≡ int_eq a (pos 0)
zero_rescaled t (pos zero) h = let none : pos t *ℤ pos 0 ≡ pos 0 = omega (arith, ints) in ap (λ x. int_eq x (pos 0)) none
zero_rescaled t (pos (suc n)) h = let more : (pos t *ℤ pos 0) <ℤ (pos t *ℤ pos (suc n)) = times_more (pos t) (pos 0) (pos (suc n)) (omega (arith, ints, h)) (omega (arith, ints)) in apart (pos t *ℤ pos (suc n)) (λ is. omega (arith, ints, more, is)) ∙ sym (apart (pos (suc n)) (λ is. omega (arith, ints, is)))
zero_rescaled t (negsuc n) h = let less : (pos t *ℤ negsuc n) <ℤ (pos t *ℤ pos 0) = times_more (pos t) (negsuc n) (pos 0) (omega (arith, ints, h)) (omega (arith, ints)) in apart (pos t *ℤ negsuc n) (λ is. omega (arith, ints, less, is)) ∙ sym (apart (negsuc n) (λ is. omega (arith, ints, is)))

names_rescaled : (t : ℕ) (one : Rule) (cell other : Figures) → 1 ≤ t → IsRescaled t cell other → is_sensitive_by (rule_in_units t one) other ≡ is_sensitive_by one cell
names_rescaled t (rule.Freq n r) cell other h are = rw are.freq refl
names_rescaled t (rule.Nk n k) cell other h are =
    rw (are.truth, are.largest n, swap_times (pos k) (pos t) cell.truth, swap_times (pos 100) (pos t) (cell.largest n)) (less_rescaled t (pos k *ℤ cell.truth) (pos 100 *ℤ cell.largest n) h)
names_rescaled t (rule.Percent p) cell other h are =
    ap (λ x. int_lt (pos 100 *ℤ x) (pos p *ℤ other.largest 1)) (rest_rescaled t cell other are)
    ∙ rw (are.largest 1, swap_times (pos 100) (pos t) (rest_beside_two cell), swap_times (pos p) (pos t) (cell.largest 1)) (less_rescaled t (pos 100 *ℤ rest_beside_two cell) (pos p *ℤ cell.largest 1) h)
names_rescaled t (rule.Pq p q) cell other h are =
    ap (λ x. int_lt (pos q *ℤ x) (pos p *ℤ other.largest 1)) (rest_rescaled t cell other are)
    ∙ rw (are.largest 1, swap_times (pos q) (pos t) (rest_beside_two cell), swap_times (pos p) (pos t) (cell.largest 1)) (less_rescaled t (pos q *ℤ rest_beside_two cell) (pos p *ℤ cell.largest 1) h)
names_rescaled t (rule.Zero r) cell other h are = rw (are.freq, are.truth, zero_rescaled t cell.truth h) refl

wanted_within : (t : ℕ) (one : Rule) (cell other : Figures) → 1 ≤ t → IsInRange one → IsRescaled t cell other → IsWithinRounding t (rounded_up (wanted_level one cell)) (rounded_up (wanted_level (rule_in_units t one) other))
wanted_within t (rule.Freq n r) cell other h range are =
    let over : pos r *ℤ other.truth ≡ pos t *ℤ (pos r *ℤ cell.truth) = ap (λ x. pos r *ℤ x) are.truth ∙ swap_times (pos r) (pos t) cell.truth in
    subst (λ x. IsWithinRounding t (rounded_up (wanted_level (rule.Freq n r) cell)) (rounded_up (fraction_of x 100))) (sym over) (rounded_within t 100 (pos r *ℤ cell.truth) h (omega arith))
wanted_within t (rule.Nk n k) cell other h range are =
    let over : pos 100 *ℤ other.largest n +ℤ neg_ℤ (pos k *ℤ other.truth) ≡ pos t *ℤ (pos 100 *ℤ cell.largest n +ℤ neg_ℤ (pos k *ℤ cell.truth)) =
    rw (are.truth, are.largest n) (part_rescaled t 100 k (cell.largest n) cell.truth) in
    subst (λ x. IsWithinRounding t (rounded_up (wanted_level (rule.Nk n k) cell)) (rounded_up (fraction_of x k))) (sym over) (rounded_within t k (pos 100 *ℤ cell.largest n +ℤ neg_ℤ (pos k *ℤ cell.truth)) h range.2)
wanted_within t (rule.Percent p) cell other h range are =
    let over : pos p *ℤ other.largest 1 +ℤ neg_ℤ (pos 100 *ℤ rest_beside_two other) ≡ pos t *ℤ (pos p *ℤ cell.largest 1 +ℤ neg_ℤ (pos 100 *ℤ rest_beside_two cell)) =
    ap (λ x. pos p *ℤ other.largest 1 +ℤ neg_ℤ (pos 100 *ℤ x)) (rest_rescaled t cell other are)
    ∙ ap (λ x. pos p *ℤ x +ℤ neg_ℤ (pos 100 *ℤ (pos t *ℤ rest_beside_two cell))) (are.largest 1)
    ∙ part_rescaled t p 100 (cell.largest 1) (rest_beside_two cell) in
    subst (λ x. IsWithinRounding t (rounded_up (wanted_level (rule.Percent p) cell)) (rounded_up (fraction_of x 100))) (sym over) (rounded_within t 100 (pos p *ℤ cell.largest 1 +ℤ neg_ℤ (pos 100 *ℤ rest_beside_two cell)) h (omega arith))
wanted_within t (rule.Pq p q) cell other h range are =
    let over : pos p *ℤ other.largest 1 +ℤ neg_ℤ (pos q *ℤ rest_beside_two other) ≡ pos t *ℤ (pos p *ℤ cell.largest 1 +ℤ neg_ℤ (pos q *ℤ rest_beside_two cell)) =
    ap (λ x. pos p *ℤ other.largest 1 +ℤ neg_ℤ (pos q *ℤ x)) (rest_rescaled t cell other are)
    ∙ ap (λ x. pos p *ℤ x +ℤ neg_ℤ (pos q *ℤ (pos t *ℤ rest_beside_two cell))) (are.largest 1)
    ∙ part_rescaled t p q (cell.largest 1) (rest_beside_two cell) in
    subst (λ x. IsWithinRounding t (rounded_up (wanted_level (rule.Pq p q) cell)) (rounded_up (fraction_of x q))) (sym over) (rounded_within t q (pos p *ℤ cell.largest 1 +ℤ neg_ℤ (pos q *ℤ rest_beside_two cell)) h range.2)
wanted_within t (rule.Zero r) cell other h range are =
    let over : pos (t * r) ≡ pos t *ℤ pos r = omega (arith, ints) in
    subst (λ x. IsWithinRounding t (rounded_up (wanted_level (rule.Zero r) cell)) (rounded_up (fraction_of x 1))) (sym over) (rounded_within t 1 (pos r) h (omega arith))

-- ---- all rules

abbrev UpWithin : ℕ → Option ℤ → Option ℤ → Type 0
UpWithin t None None = Unit {0}
UpWithin t None (Some other) = ⊥
UpWithin t (Some level) None = ⊥
UpWithin t (Some level) (Some other) = IsWithinRounding t level other

greatest_within : (t : ℕ) (one other rest_beside_two more : Option ℤ) → 1 ≤ t → UpWithin t one other → UpWithin t rest_beside_two more → UpWithin t (greater_of one rest_beside_two) (greater_of other more)
greatest_within t None None rest_beside_two more h first second = second
greatest_within t None (Some a) rest_beside_two more h first second = absurd first
greatest_within t (Some n) None rest_beside_two more h first second = absurd first
greatest_within t (Some n) (Some a) None None h first second = first
greatest_within t (Some n) (Some a) None (Some b) h first second = absurd second
greatest_within t (Some n) (Some a) (Some m) None h first second = absurd second
greatest_within t (Some n) (Some a) (Some m) (Some b) h first second = greater_within t n m a b h first second

one_within : (t : ℕ) (one : Rule) (cell other : Figures) → 1 ≤ t → IsInRange one → IsRescaled t cell other → UpWithin t (up_by one cell) (up_by (rule_in_units t one) other)
one_within t one cell other h range are =
    let low : ℤ = rounded_up (wanted_level one cell) in
    let high : ℤ = rounded_up (wanted_level (rule_in_units t one) other) in
    let within : IsWithinRounding t low high = wanted_within t one cell other h range are in
    subst (λ b. UpWithin t (up_by one cell) (if b then Some high else None)) (sym (names_rescaled t one cell other h are))
    (elim (is_sensitive_by one cell) as (λ b. UpWithin t (if b then Some low else None) (if b then Some high else None)) [ true ↦ within | false ↦ tt ])

upper_within : (t : ℕ) (rules : List Rule) (cell other : Figures) → 1 ≤ t → All IsInRange rules → IsRescaled t cell other → UpWithin t (upper_of rules cell) (upper_of (map (rule_in_units t) rules) other)
upper_within t [] cell other h ranges are = tt
upper_within t (one ∷ rules) cell other h ranges are =
    rw (upper_first one rules cell, upper_first (rule_in_units t one) (map (rule_in_units t) rules) other)
    (greatest_within t (up_by one cell) (up_by (rule_in_units t one) other) (upper_of rules cell) (upper_of (map (rule_in_units t) rules) other) h
    (one_within t one cell other h (All-head IsInRange one rules ranges) are)
    (upper_within t rules cell other h (All-tail IsInRange one rules ranges) are))

levels_within : (t : ℕ) (truth : ℤ) (up more : Option ℤ) → 1 ≤ t → UpWithin t up more → AreWithinRounding t (option_map (levels_up_to truth) up) (option_map (levels_up_to (pos t *ℤ truth)) more)
levels_within t truth None None h within = neither
levels_within t truth None (Some other) h within = absurd within
levels_within t truth (Some level) None h within = absurd within
levels_within t truth (Some level) (Some other) h within =
    both (levels_up_to truth level) (levels_up_to (pos t *ℤ truth) other) within (lesser_within t level truth other (pos t *ℤ truth) h within (itself_within t truth h))

pub units_change_no_naming : UnitsChangeNoNaming
units_change_no_naming t rules cell other h ranges are =
    subst (λ x. AreWithinRounding t (level_of rules cell) (option_map (levels_up_to x) (upper_of (map (rule_in_units t) rules) other))) (sym are.truth)
    (levels_within t cell.truth (upper_of rules cell) (upper_of (map (rule_in_units t) rules) other) h (upper_within t rules cell other h ranges are))

-- Stricter rules name more and want more.
use Rattle.std.proofs.Common.{◌≡◌, ℕ, ◌≤◌, ◌++◌, true, false, IsTrue, List, [], ◌∷◌, Option, None, Some, option_map, ℤ, pos, negsuc, neg_ℤ, ◌+ℤ◌, ◌*ℤ◌, ◌≤ℤ◌, ◌<ℤ◌, int_lt, arith, rules, refl, if◌then◌else◌}
use Rattle.std.proofs.lemmas.Int.{ints}
use Rattle.std.proofs.Math.IntN.{*ℤ_comm}
use Rattle.sdc_base.proofs.WholeNumbers.{distrib, times_up}
use Rattle.sdc_base.specs.RuleLevels.{Figures, fraction_of, is_sensitive_by, rest_beside_two, wanted_level, rounded_up, IsRoundedUp, greater_number, upper_of, levels_up_to}
use Rattle.sdc_base.specs.declared.rule.Rule.{Rule}
use Rattle.sdc_base.specs.declared.rule.Rule.TheVariants as rule
use Rattle.primary_rules.specs.Ranges.{IsInRange}
use Rattle.primary_rules.specs.Strictness.{IsStricter, AreFromZero, AreNoLower, from_none, from_some, StricterWantsMore, StricterLowersNone, FurtherLowersNone, MoreLowersNoManual}
use Rattle.primary_rules.specs.OneRule.{up_by, greater_of}
use Rattle.primary_rules.proofs.Rounding.{rounded_is}
use Rattle.primary_rules.proofs.OneByOne.{upper_first}

-- more times a number from 0 is more
pub times_of : (m n : ℕ) (a : ℤ) → m ≤ n → pos 0 ≤ℤ a → (pos m *ℤ a) ≤ℤ (pos n *ℤ a)
times_of m n a h from = omega (arith, ints, times_up a (pos m) (pos n) from (omega (arith, ints, h)), *ℤ_comm a (pos m), *ℤ_comm a (pos n))

-- so many times a number below 0 is below 0
below_zero : (t n : ℕ) → 1 ≤ t → (pos t *ℤ negsuc n) <ℤ pos 0
below_zero t n h =
    let up : (pos t *ℤ negsuc n) ≤ℤ (pos t *ℤ negsuc 0) = times_up (pos t) (negsuc n) (negsuc 0) (omega (arith, ints)) (omega (arith, ints)) in
    let one : (pos t *ℤ negsuc 0) ≡ neg_ℤ (pos t) = omega (arith, ints) in
    omega (arith, ints, up, one, h)

-- a quotient by the same divisor that is no less rounds up to no less
pub rounded_more : (over more : ℤ) (d : ℕ) → 1 ≤ d → over ≤ℤ more → rounded_up (fraction_of over d) ≤ℤ rounded_up (fraction_of more d)
rounded_more over more d h less =
    let that : IsRoundedUp (fraction_of more d) (rounded_up (fraction_of more d)) = rounded_is more d h in
    let reaches : more ≤ℤ (pos d *ℤ rounded_up (fraction_of more d)) = that.reaches in
    let this : IsRoundedUp (fraction_of over d) (rounded_up (fraction_of over d)) = rounded_is over d h in
    this.least (rounded_up (fraction_of more d)) that.unit (omega (arith, ints, less, reaches))

-- a number of which so many times is from 0 is from 0
factor_from : (t : ℕ) (a : ℤ) → 1 ≤ t → pos 0 ≤ℤ (pos t *ℤ a) → pos 0 ≤ℤ a
factor_from t (pos n) h from = omega (arith, ints)
factor_from t (negsuc n) h from = absurd (let below : (pos t *ℤ negsuc n) <ℤ pos 0 = below_zero t n h in omega (arith, ints, from, below))

-- the sum over n contributions over k percent, less the truth, and a sum over no fewer over a lower percentage
share_more : (k l : ℕ) (truth sum more : ℤ) → 1 ≤ l → l ≤ k → pos 0 ≤ℤ truth → sum ≤ℤ more → rounded_up (fraction_of (sum +ℤ neg_ℤ (pos k *ℤ truth)) k) ≤ℤ rounded_up (fraction_of (more +ℤ neg_ℤ (pos l *ℤ truth)) l)
share_more k l truth sum more least h from less =
    let up : ℤ = rounded_up (fraction_of (more +ℤ neg_ℤ (pos l *ℤ truth)) l) in
    let that : IsRoundedUp (fraction_of (more +ℤ neg_ℤ (pos l *ℤ truth)) l) up = rounded_is (more +ℤ neg_ℤ (pos l *ℤ truth)) l least in
    let reaches : (more +ℤ neg_ℤ (pos l *ℤ truth)) ≤ℤ (pos l *ℤ up) = that.reaches in
    let unit : pos 1 ≤ℤ up = that.unit in
    let whole : pos 0 ≤ℤ (up +ℤ truth) = omega (arith, ints, unit, from) in
    let wider : (pos l *ℤ (up +ℤ truth)) ≤ℤ (pos k *ℤ (up +ℤ truth)) = times_of l k (up +ℤ truth) h whole in
    let this : IsRoundedUp (fraction_of (sum +ℤ neg_ℤ (pos k *ℤ truth)) k) (rounded_up (fraction_of (sum +ℤ neg_ℤ (pos k *ℤ truth)) k)) = rounded_is (sum +ℤ neg_ℤ (pos k *ℤ truth)) k (omega (arith, least, h)) in
    this.least up unit (omega (arith, ints, less, reaches, wider, distrib (pos l) up truth, distrib (pos k) up truth))

-- a fraction that is less a number of any sign, and no smaller one over a smaller part
part_more : (q t : ℕ) (rest over more : ℤ) → 1 ≤ t → t ≤ q → pos 0 ≤ℤ more → over ≤ℤ more → rounded_up (fraction_of (over +ℤ neg_ℤ (pos q *ℤ rest)) q) ≤ℤ rounded_up (fraction_of (more +ℤ neg_ℤ (pos t *ℤ rest)) t)
part_more q t rest over more least h from less =
    let up : ℤ = rounded_up (fraction_of (more +ℤ neg_ℤ (pos t *ℤ rest)) t) in
    let that : IsRoundedUp (fraction_of (more +ℤ neg_ℤ (pos t *ℤ rest)) t) up = rounded_is (more +ℤ neg_ℤ (pos t *ℤ rest)) t least in
    let reaches : (more +ℤ neg_ℤ (pos t *ℤ rest)) ≤ℤ (pos t *ℤ up) = that.reaches in
    let unit : pos 1 ≤ℤ up = that.unit in
    let all : more ≤ℤ (pos t *ℤ (up +ℤ rest)) = omega (arith, ints, reaches, distrib (pos t) up rest) in
    let whole : pos 0 ≤ℤ (up +ℤ rest) = factor_from t (up +ℤ rest) least (omega (arith, ints, from, all)) in
    let wider : (pos t *ℤ (up +ℤ rest)) ≤ℤ (pos q *ℤ (up +ℤ rest)) = times_of t q (up +ℤ rest) h whole in
    let this : IsRoundedUp (fraction_of (over +ℤ neg_ℤ (pos q *ℤ rest)) q) (rounded_up (fraction_of (over +ℤ neg_ℤ (pos q *ℤ rest)) q)) = rounded_is (over +ℤ neg_ℤ (pos q *ℤ rest)) q (omega (arith, least, h)) in
    this.least up unit (omega (arith, ints, less, all, wider, distrib (pos q) up rest))

-- a part of a rest of any sign, and no greater part of it
looser_part : (q t : ℕ) (over more rest : ℤ) → 1 ≤ t → t ≤ q → pos 0 ≤ℤ more → over ≤ℤ more → IsTrue (int_lt (pos q *ℤ rest) over) → IsTrue (int_lt (pos t *ℤ rest) more)
looser_part q t over more (pos n) least h from less named =
    let part : (pos t *ℤ pos n) ≤ℤ (pos q *ℤ pos n) = times_of t q (pos n) h (omega (arith, ints)) in
    grind (arith, ints, named, part, less)
looser_part q t over more (negsuc n) least h from less named =
    let part : (pos t *ℤ negsuc n) <ℤ pos 0 = below_zero t n least in
    grind (arith, ints, part, from)

pub stricter_wants_more : StricterWantsMore
stricter_wants_more (rule.Freq n r) (rule.Freq m s) cell here there from stricter named =
    (search (arith, rules), rounded_more (pos r *ℤ cell.truth) (pos s *ℤ cell.truth) 100 (omega arith) (times_of r s cell.truth stricter.1 from.truth))
stricter_wants_more (rule.Nk n k) (rule.Nk m l) cell here there from stricter named =
    let less : cell.largest n ≤ℤ cell.largest m = from.more n m stricter.0 in
    let hundred : (pos 100 *ℤ cell.largest n) ≤ℤ (pos 100 *ℤ cell.largest m) = times_up (pos 100) (cell.largest n) (cell.largest m) (omega (arith, ints)) less in
    let bound : (pos l *ℤ cell.truth) ≤ℤ (pos k *ℤ cell.truth) = times_of l k cell.truth stricter.1 from.truth in
    (grind (arith, ints, named, hundred, bound), share_more k l cell.truth (pos 100 *ℤ cell.largest n) (pos 100 *ℤ cell.largest m) there.2 stricter.1 from.truth hundred)
stricter_wants_more (rule.Percent p) (rule.Percent q) cell here there from stricter named =
    let more : (pos p *ℤ cell.largest 1) ≤ℤ (pos q *ℤ cell.largest 1) = times_of p q (cell.largest 1) stricter (from.largest 1) in
    (grind (arith, ints, named, more), rounded_more (pos p *ℤ cell.largest 1 +ℤ neg_ℤ (pos 100 *ℤ rest_beside_two cell)) (pos q *ℤ cell.largest 1 +ℤ neg_ℤ (pos 100 *ℤ rest_beside_two cell)) 100 (omega arith) (omega (arith, ints, more)))
stricter_wants_more (rule.Pq p q) (rule.Pq s t) cell here there from stricter named =
    let more : (pos p *ℤ cell.largest 1) ≤ℤ (pos s *ℤ cell.largest 1) = times_of p s (cell.largest 1) stricter.0 (from.largest 1) in
    let zero_on : pos 0 ≤ℤ (pos s *ℤ cell.largest 1) = omega (arith, ints, times_of 0 s (cell.largest 1) (omega arith) (from.largest 1)) in
    (looser_part q t (pos p *ℤ cell.largest 1) (pos s *ℤ cell.largest 1) (rest_beside_two cell) there.2 stricter.1 zero_on more named, part_more q t (rest_beside_two cell) (pos p *ℤ cell.largest 1) (pos s *ℤ cell.largest 1) there.2 stricter.1 zero_on more)
stricter_wants_more (rule.Zero r) (rule.Zero s) cell here there from stricter named =
    (named, rounded_more (pos r) (pos s) 1 (omega arith) (omega (arith, ints, stricter)))
stricter_wants_more one other cell here there from stricter named = absurd stricter

-- ---- levels that are there where others are, and no lower

abbrev RisesTo : Option ℤ → Option ℤ → Type 0
RisesTo None others = Unit {0}
RisesTo (Some n) None = ⊥
RisesTo (Some n) (Some m) = n ≤ℤ m

rises_itself : (up : Option ℤ) → RisesTo up up
rises_itself None = tt
rises_itself (Some n) = omega (arith, ints)

greater_left : (n m : ℤ) → n ≤ℤ greater_number n (Some m)
greater_left n m = grind (arith, ints)

greater_both : (n m a b : ℤ) → n ≤ℤ a → m ≤ℤ b → greater_number n (Some m) ≤ℤ greater_number a (Some b)
greater_both n m a b h k = grind (arith, ints, h, k)

rises_in_turn : (one other rest_beside_two more : Option ℤ) → RisesTo one other → RisesTo rest_beside_two more → RisesTo (greater_of one rest_beside_two) (greater_of other more)
rises_in_turn None None rest_beside_two more h k = k
rises_in_turn None (Some a) None more h k = tt
rises_in_turn None (Some a) (Some m) None h k = absurd k
rises_in_turn None (Some a) (Some m) (Some b) h k = grind (arith, ints, k)
rises_in_turn (Some n) None rest_beside_two more h k = absurd h
rises_in_turn (Some n) (Some a) None None h k = h
rises_in_turn (Some n) (Some a) None (Some b) h k = grind (arith, ints, h)
rises_in_turn (Some n) (Some a) (Some m) None h k = absurd k
rises_in_turn (Some n) (Some a) (Some m) (Some b) h k = greater_both n m a b h k

one_rises : (one other : Rule) (cell : Figures) → IsInRange one → IsInRange other → AreFromZero cell → IsStricter one other → RisesTo (up_by one cell) (up_by other cell)
one_rises one other cell here there from stricter =
    let low : ℤ = rounded_up (wanted_level one cell) in
    let high : ℤ = rounded_up (wanted_level other cell) in
    elim (is_sensitive_by one cell) as (λ b. is_sensitive_by one cell ≡ b → RisesTo (if b then Some low else None) (up_by other cell)) [
      | true ↦ λ is.
          let more = stricter_wants_more one other cell here there from stricter (grind (arith, is)) in
          let named : is_sensitive_by other cell ≡ true = grind (arith, more.0) in
          rw named more.1
      | false ↦ λ is. tt
    ] refl

-- what stands before and behind is the same
upper_rises : (before first second : List Rule) (cell : Figures) → RisesTo (upper_of first cell) (upper_of second cell) → RisesTo (upper_of (before ++ first) cell) (upper_of (before ++ second) cell)
upper_rises [] first second cell h = h
upper_rises (one ∷ before) first second cell h =
    rw (upper_first one (before ++ first) cell, upper_first one (before ++ second) cell)
    (rises_in_turn (up_by one cell) (up_by one cell) (upper_of (before ++ first) cell) (upper_of (before ++ second) cell) (rises_itself (up_by one cell)) (upper_rises before first second cell h))

down_rises : (up more truth : ℤ) → up ≤ℤ more → (levels_up_to truth up).down ≤ℤ (levels_up_to truth more).down
down_rises up more truth h = grind (arith, ints, h)

levels_rise : (truth : ℤ) (up more : Option ℤ) → RisesTo up more → AreNoLower (option_map (levels_up_to truth) up) (option_map (levels_up_to truth) more)
levels_rise truth None more h = from_none (option_map (levels_up_to truth) more)
levels_rise truth (Some up) None h = absurd h
levels_rise truth (Some up) (Some more) h = from_some (levels_up_to truth up) (levels_up_to truth more) h (down_rises up more truth h)

pub stricter_lowers_none : StricterLowersNone
stricter_lowers_none before behind one other cell here there from stricter =
    let own : RisesTo (upper_of (one ∷ behind) cell) (upper_of (other ∷ behind) cell) =
    rw (upper_first one behind cell, upper_first other behind cell)
    (rises_in_turn (up_by one cell) (up_by other cell) (upper_of behind cell) (upper_of behind cell) (one_rises one other cell here there from stricter) (rises_itself (upper_of behind cell))) in
    levels_rise cell.truth (upper_of (before ++ one ∷ behind) cell) (upper_of (before ++ other ∷ behind) cell) (upper_rises before (one ∷ behind) (other ∷ behind) cell own)

pub further_lowers_none : FurtherLowersNone
further_lowers_none before behind one cell =
    let own : RisesTo (upper_of behind cell) (upper_of (one ∷ behind) cell) =
    rw (upper_first one behind cell)
    (rises_in_turn None (up_by one cell) (upper_of behind cell) (upper_of behind cell) tt (rises_itself (upper_of behind cell))) in
    levels_rise cell.truth (upper_of (before ++ behind) cell) (upper_of (before ++ one ∷ behind) cell) (upper_rises before behind (one ∷ behind) cell own)

pub more_lowers_no_manual : MoreLowersNoManual
more_lowers_no_manual percent more truth h from =
    let up : rounded_up (fraction_of (pos percent *ℤ truth) 100) ≤ℤ rounded_up (fraction_of (pos more *ℤ truth) 100) =
    rounded_more (pos percent *ℤ truth) (pos more *ℤ truth) 100 (omega arith) (times_of percent more truth h from) in
    (up, down_rises (rounded_up (fraction_of (pos percent *ℤ truth) 100)) (rounded_up (fraction_of (pos more *ℤ truth) 100)) truth up)

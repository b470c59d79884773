-- A rounding has no fault.
use Rattle.std.proofs.Common.{◌≡◌, ℕ, zero, suc, ◌+◌, ◌<◌, ◌&&◌, true, List, [], ◌∷◌, length, map, None, Some, ℤ, pos, negsuc, neg_ℤ, unsigned_abs, ◌+ℤ◌, ◌-ℤ◌, ◌*ℤ◌, ◌<ℤ◌, ◌≤ℤ◌, int_lt, int_div, arith, refl, ap, sym, ◌∙◌, subst, if◌then◌else◌}
use Rattle.std.specs.Ordering.{int_eq}
use Rattle.std.specs.Int.RustNames.{int_rem}
use Rattle.std.proofs.Math.IntN.{*ℤ_comm}
use Rattle.std.proofs.lemmas.Int.{ints, quot-rem, rem_below}
use Rattle.std.proofs.lemmas.Bool.Decides.{Decides-int_eq}
use Rattle.std.proofs.lemmas.List.Elements.{All-head, All-tail}
use Rattle.sdc_base.specs.declared.cell.Cell.{Cell}
use Rattle.sdc_base.specs.declared.relation.Relation.{Relation}
use Rattle.sdc_base.specs.Systems.{Numbers, form, HoldOn, number_at}
use Rattle.sdc_base.specs.Roundings.{IsAdjacent}
use Rattle.sdc_base.proofs.WholeNumbers.{distrib, minus_times, below_from_times}
use Rattle.worlds.specs.WorldFaults.{refuse_at}
use Rattle.worlds.proofs.TrueTests.{both_true}
use Rattle.worlds.proofs.WorldLaws.{then_ok, passes_none}
use Rattle.cert_check.specs.declared.faults.CheckFault.TheVariants as fault
use Rattle.cert_check.specs.RoundedRelease.{is_adjacent, first_unrounded, first_broken}
use Rattle.cert_check.specs.RoundingLaws.{RoundingIsJudged}
use Rattle.cert_check.proofs.Roundings.{is_rounding}

-- ---- multiples

record IsBetween (n : ℕ) (r : ℤ) : Type 0 where
  above : neg_ℤ (pos n) <ℤ r
  below : r <ℤ pos n

between : (n : ℕ) (r : ℤ) → unsigned_abs r < n → IsBetween n r
between n (pos m) h = record { above = omega (arith, ints, h); below = omega (arith, ints, h) }
between n (negsuc m) h = record { above = omega (arith, ints, h); below = omega (arith, ints, h) }

rest_between : (base value : ℤ) → pos 1 ≤ℤ base → (neg_ℤ base <ℤ int_rem value base) × (int_rem value base <ℤ base)
rest_between (pos zero) value some = absurd (omega (arith, ints, some))
rest_between (pos (suc n)) value some = let is = between (suc n) (int_rem value (pos (suc n))) (rem_below value (pos (suc n)) (omega arith)) in (is.above, is.below)
rest_between (negsuc n) value some = absurd (omega (arith, ints, some))

none_between : (base d r : ℤ) → pos 1 ≤ℤ base → base *ℤ d ≡ r → neg_ℤ base <ℤ r → r <ℤ base → r ≡ pos 0
none_between base d r some is above below =
    let under : d <ℤ pos 1 = below_from_times base d (pos 1) some (omega (arith, ints, is, below)) in
    let over : negsuc 0 <ℤ d = below_from_times base (negsuc 0) d some (omega (arith, ints, is, above)) in
    let none : d ≡ pos 0 = omega (arith, ints, under, over) in
    sym is ∙ ap (λ z. base *ℤ z) none ∙ omega (arith, ints)

no_rest : (base value times : ℤ) → pos 1 ≤ℤ base → value ≡ times *ℤ base → int_rem value base ≡ pos 0
no_rest base value times some is =
    let q : ℤ = int_div value base in
    let r : ℤ = int_rem value base in
    let whole : q *ℤ base +ℤ r ≡ value = quot-rem value base in
    let taken : base *ℤ neg_ℤ q ≡ neg_ℤ (q *ℤ base) = *ℤ_comm base (neg_ℤ q) ∙ minus_times q base in
    let given : base *ℤ times ≡ times *ℤ base = *ℤ_comm base times in
    let rest : base *ℤ (times +ℤ neg_ℤ q) ≡ r = omega (arith, ints, distrib base times (neg_ℤ q), whole, taken, given, is) in
    let bounds = rest_between base value some in
    none_between base (times +ℤ neg_ℤ q) r some rest bounds.0 bounds.1

-- ---- adjacent values

is_less : (x y : ℤ) → x <ℤ y → int_lt x y ≡ true
is_less x y within = grind (arith, ints, within)

adjacent_passes : (base truth value : ℤ) → pos 1 ≤ℤ base → IsAdjacent base truth value → is_adjacent base truth value ≡ true
adjacent_passes base truth value some is =
    both_true (int_eq (int_rem value base) (pos 0)) (int_lt (truth -ℤ base) value && int_lt value (truth +ℤ base)) ((Decides-int_eq (int_rem value base) (pos 0)).1 (no_rest base value is.multiple.0 some is.multiple.1))
    (both_true (int_lt (truth -ℤ base) value) (int_lt value (truth +ℤ base)) (is_less (truth -ℤ base) value is.not_below) (is_less value (truth +ℤ base) is.not_above))

all_pass : (base : ℤ) (numbers : Numbers) (number : ℕ) (cells : List Cell) → pos 1 ≤ℤ base → ((k : ℕ) → k < length cells → IsAdjacent base (number_at (map (λ cell. cell.truth) cells) k) (numbers (number + k))) → first_unrounded base numbers number cells ≡ None
all_pass base numbers number [] some each = refl
all_pass base numbers number (cell ∷ cells) some each =
    let here : number + 0 ≡ number = omega arith in
    let own : is_adjacent base cell.truth (numbers number) ≡ true = adjacent_passes base cell.truth (numbers number) some (subst (λ n. IsAdjacent base cell.truth (numbers n)) here (each 0 (omega arith))) in
    ap (λ b. if b then first_unrounded base numbers (number + 1) cells else Some number) own
    ∙ all_pass base numbers (number + 1) cells some (λ k within. let same : number + suc k ≡ number + 1 + k = omega arith in subst (λ n. IsAdjacent base (number_at (map (λ (one : Cell). one.truth) cells) k) (numbers n)) same (each (suc k) (omega (arith, within))))

none_broken : (numbers : Numbers) (number : ℕ) (relations : List Relation) → HoldOn numbers relations → first_broken numbers number relations ≡ None
none_broken numbers number [] hold = refl
none_broken numbers number (r ∷ relations) hold =
    let P : Relation → Type 0 = λ one. form numbers one ≡ pos 0 in
    let own : int_eq (form numbers r) (pos 0) ≡ true = (Decides-int_eq (form numbers r) (pos 0)).1 (All-head P r relations hold) in
    ap (λ b. if b then first_broken numbers (number + 1) relations else Some number) own ∙ none_broken numbers (number + 1) relations (All-tail P r relations hold)

pub rounding_is_judged : RoundingIsJudged
rounding_is_judged system cells base values some each_cell each = (
  (λ ok. is_rounding system cells base values each_cell each ok),
  (λ is.
      let zero_first : (P : ℕ → Type 0) (n : ℕ) → P n → P (0 + n) = λ P n h. let same : n ≡ 0 + n = omega arith in subst P same h in
      then_ok (refuse_at fault.Rounded (first_unrounded base (number_at values) 0 cells)) (λ _. refuse_at fault.Relation (first_broken (number_at values) 0 system.relations)) tt tt
      (passes_none fault.Rounded (first_unrounded base (number_at values) 0 cells)
      (all_pass base (number_at values) 0 cells some (λ k within. zero_first (λ n. IsAdjacent base (number_at (map (λ (cell : Cell). cell.truth) cells) k) (number_at values n)) k (is.adjacent k (omega (arith, within, each_cell))))))
      (passes_none fault.Relation (first_broken (number_at values) 0 system.relations) (none_broken (number_at values) 0 system.relations is.hold))),
)

use Rattle.std.proofs.Common.{◌≡◌, ◌+◌, ◌*◌, ℕ, ℤ, List, length, take, pos, slice_index_or, unsigned_abs, ap, sym, subst, ◌∙◌, arith, rules, FitsSigned, length-take}
use Prim.Native.Nat.{◌∣◌}
use Rattle.std.specs.Int.{w128}
use Rattle.std.proofs.lemmas.Int.{to_z-of_z}
use Rattle.std.proofs.lemmas.List.{take_all}
use Rattle.std.proofs.Math.Nat.{one-dvd}
use Rattle.std.proofs.lemmas.Nat.Gcd.{dvd_trans}
use Rattle.sdc_base.specs.Forms.{Term}
use Rattle.tableau.specs.CommonDivisors.{DividesEach, DividesTimes}
use Rattle.tableau.proofs.Divisors.{each_more_of, entry_weaker, times_before, All-get_or-take}
use Rattle.std.proofs.lemmas.List.Elements.{All-take}
use Rattle.tableau.proofs.divisor.row_divisor.Goals as goal

pub returns-then-common-eq1-clause-divides_whole : goal.returns-then-common-eq1-clause-divides_whole
returns-then-common-eq1-clause-divides_whole c = one-dvd c.args.whole

pub returns-then-common-eq1-clause-entries : goal.returns-then-common-eq1-clause-entries
returns-then-common-eq1-clause-entries c k d below = one-dvd (unsigned_abs (slice_index_or c.args.entries.now k d).1)

pub returns-then-common-eq1-clause-multiples : goal.returns-then-common-eq1-clause-multiples
returns-then-common-eq1-clause-multiples c e times divides all =
    subst (λ n. e ∣ times * n) c.if-common-eq1.true (c.loop-entry.invariant.multiples e times divides (All-take (λ (entry : Term). e ∣ times * unsigned_abs entry.1) c.loop-entry.entry-index c.args.entries.now all))

pub loop-entry-preserved : goal.loop-entry-preserved
loop-entry-preserved c =
    let l = c.loop-entry in
    let i : ℕ = l.entry-index in
    let xs : List Term = c.args.entries.now in
    let x : ℤ = (slice_index_or xs i (0, pos 0)).1 in
    let fits : FitsSigned w128 x = search rules in
    let abs_is : c.unsigned_abs.result ≡ unsigned_abs x = c.unsigned_abs.ensures.value ∙ ap unsigned_abs (to_z-of_z w128 x fits) in
    let g : ℕ = c.gcd-common.result in
    let gcd = c.gcd-common.ensures.greatest in
    let long : length (take (i + 1) xs) ≡ i + 1 = omega (arith, length-take (i + 1) xs) in
    let D : ℕ → Term → Type 0 = λ n entry. n ∣ unsigned_abs entry.1 in
    record {
      whole = dvd_trans g gcd.0 l.invariant.whole;
      each = each_more_of D entry_weaker xs i g l.common (0, pos 0) c.loop-entry-test.true gcd.0 (subst (λ t. g ∣ t) abs_is gcd.1) l.invariant.each;
      multiples = λ e times divides all.
          c.gcd-common.ensures.multiples e times (l.invariant.multiples e times divides (times_before e times i xs all))
          (subst (λ t. e ∣ times * t) (sym abs_is) (All-get_or-take (λ (entry : Term). e ∣ times * unsigned_abs entry.1) i xs (0, pos 0) c.loop-entry-test.true all));
    }

pub returns-clause-entries : goal.returns-clause-entries
returns-clause-entries c = subst (λ (t : List Term). DividesEach c.loop-entry.common t) (take_all c.loop-entry.entry-index c.args.entries.now c.loop-entry-test.false) c.loop-entry.invariant.each

pub returns-clause-multiples : goal.returns-clause-multiples
returns-clause-multiples c e times divides all = c.loop-entry.invariant.multiples e times divides (subst (λ (t : List Term). DividesTimes e times t) (sym (take_all c.loop-entry.entry-index c.args.entries.now c.loop-entry-test.false)) all)

use Rattle.std.proofs.Common.{◌≡◌, ◌<◌, ◌≤◌, ◌+◌, ◌-◌, ℕ, ℤ, List, ◌*ℤ◌, true, ap, sym, subst, ◌∙◌, arith, rules, FitsSigned, to_z, of_z}
use Rattle.std.specs.Int.{w128}
use Rattle.std.proofs.Math.IntN.{zero-*ℤ}
use Rattle.std.proofs.lemmas.Int.{to_z-of_z}
use Rattle.sdc_base.specs.Forms.{Term, coefficient}
use Rattle.tableau.specs.Entries.{AreEntriesBelow, AreEntriesFrom}
use Rattle.tableau.specs.Widths.{is_wide}
use Rattle.tableau.proofs.Places.{from_place, from_later, from_none, made_on, made_more}
use Rattle.tableau.proofs.crossing.put_own.Goals as goal

pub run-init : goal.run-init
run-init c = record { within = c.requires.within; behind = omega arith; passed = c.requires.own; puts = λ numbers before each. before }

pub entry_here-here-requires : goal.entry_here-here-requires
entry_here-here-requires c =
    let l = c.run in
    let up : l.next ≤ c.place_at-at.result = subst (λ n. l.next ≤ n) (sym c.place_at-at.ensures) (from_place l.next l.i c.args.place c.args.own.now l.invariant.passed l.invariant.within) in
    from_later l.next l.i c.args.place c.place_at-at.result c.args.own.now l.invariant.passed up (omega (arith, c.place_at-at.ensures))

pub run-smaller : goal.run-smaller
run-smaller c =
    let l = c.run in
    let up : l.next ≤ c.place_at-at.result = subst (λ n. l.next ≤ n) (sym c.place_at-at.ensures) (from_place l.next l.i c.args.place c.args.own.now l.invariant.passed l.invariant.within) in
    let less : c.args.place - (c.place_at-at.result + 1) < c.args.place - l.next = omega (arith, c.if-at-place.false) in
    less

pub run-preserved : goal.run-preserved
run-preserved c =
    let l = c.run in
    let at : ℕ = c.place_at-at.result in
    let own : List Term = c.args.own.now in
    let up : l.next ≤ at = subst (λ n. l.next ≤ n) (sym c.place_at-at.ensures) (from_place l.next l.i c.args.place own l.invariant.passed l.invariant.within) in
    let p : ℤ = to_z w128 (of_z w128 c.args.p) in
    let number : ℤ = c.in-Some.number in
    let fits : FitsSigned w128 number = search rules in
    let e : ℤ = c.entry_here-here.result.0 in
    let e_fits : FitsSigned w128 e = search rules in
    let here : to_z w128 (of_z w128 number) ≡ coefficient own at *ℤ p =
    to_z-of_z w128 number fits ∙ c.in-Some.ensures.over ∙ ap (λ t. t *ℤ p) (to_z-of_z w128 e e_fits ∙ c.entry_here-here.ensures.number) in
    record {
      within = omega (arith, c.if-at-place.false);
      behind = omega (arith, l.invariant.behind, up);
      passed = c.entry_here-here.ensures.past;
      puts = λ numbers before each.
          made_more l.next at numbers l.made.items c.put.new.entries.items (to_z w128 (of_z w128 number)) (l.invariant.puts numbers before each) up
          (λ v from below.
          each v (omega (arith, l.invariant.behind, from)) (omega (arith, below, c.if-at-place.false))
          ∙ ap (λ x. x *ℤ p) (from_none l.next l.i c.args.place v own l.invariant.passed from (omega (arith, below, c.place_at-at.ensures)))
          ∙ zero-*ℤ p)
          (here ∙ sym (each at (omega (arith, l.invariant.behind, up)) (omega (arith, c.if-at-place.false)))) c.in-Ok.ensures;
    }

pub returns-clause-past : goal.returns-clause-past
returns-clause-past c =
    let l = c.run in
    let ended : l.next ≡ c.args.place = omega (arith, l.invariant.within, c.run-test.false) in
    subst (λ n. AreEntriesFrom n l.i c.args.own.now) ended l.invariant.passed

pub returns-clause-made : goal.returns-clause-made
returns-clause-made c numbers before each =
    let l = c.run in
    let ended : l.next ≡ c.args.place = omega (arith, l.invariant.within, c.run-test.false) in
    let p_is : to_z w128 (of_z w128 c.args.p) ≡ c.args.p = to_z-of_z w128 c.args.p c.ranges.p in
    subst (λ n. AreEntriesBelow n numbers l.made.items) ended (l.invariant.puts numbers before (λ v from below. each v from below ∙ ap (λ x. coefficient c.args.own.now v *ℤ x) (sym p_is)))

pub returns-then-at-place-clause-past : goal.returns-then-at-place-clause-past
returns-then-at-place-clause-past c =
    let l = c.run in
    from_later l.next l.i c.args.place c.args.place c.args.own.now l.invariant.passed l.invariant.within (omega (arith, c.if-at-place.true, c.place_at-at.ensures))

pub returns-then-at-place-clause-made : goal.returns-then-at-place-clause-made
returns-then-at-place-clause-made c numbers before each =
    let l = c.run in
    let own : List Term = c.args.own.now in
    let p : ℤ = to_z w128 (of_z w128 c.args.p) in
    let p_is : p ≡ c.args.p = to_z-of_z w128 c.args.p c.ranges.p in
    let taken : (v : ℕ) → c.args.from ≤ v → v < c.args.place → numbers v ≡ coefficient own v *ℤ p = λ v from below. each v from below ∙ ap (λ x. coefficient own v *ℤ x) (sym p_is) in
    made_on l.next c.args.place numbers l.made.items (l.invariant.puts numbers before taken) l.invariant.within
    (λ v from below.
    taken v (omega (arith, l.invariant.behind, from)) below
    ∙ ap (λ x. x *ℤ p) (from_none l.next l.i c.args.place v own l.invariant.passed from (omega (arith, below, c.if-at-place.true, c.place_at-at.ensures)))
    ∙ zero-*ℤ p)

pub returns-in_default-clause-wide : goal.returns-in_default-clause-wide
returns-in_default-clause-wide c j is =
    let l = c.run in
    let at : ℕ = c.place_at-at.result in
    let own : List Term = c.args.own.now in
    let up : l.next ≤ at = subst (λ n. l.next ≤ n) (sym c.place_at-at.ensures) (from_place l.next l.i c.args.place own l.invariant.passed l.invariant.within) in
    let j_is : at ≡ j = cc in
    let e : ℤ = c.entry_here-here.result.0 in
    let e_fits : FitsSigned w128 e = search rules in
    let p : ℤ = to_z w128 (of_z w128 c.args.p) in
    let p_is : p ≡ c.args.p = to_z-of_z w128 c.args.p c.ranges.p in
    let product : to_z w128 (of_z w128 e) *ℤ p ≡ coefficient own at *ℤ c.args.p = ap (λ t. t *ℤ p) (to_z-of_z w128 e e_fits ∙ c.entry_here-here.ensures.number) ∙ ap (λ x. coefficient own at *ℤ x) p_is in
    let wide : is_wide (coefficient own at *ℤ c.args.p) ≡ true = ap is_wide (sym product) ∙ c.in_default.ensures.none in
    (omega (arith, j_is, l.invariant.behind, up), omega (arith, j_is, c.if-at-place.false), subst (λ n. is_wide (coefficient own n *ℤ c.args.p) ≡ true) j_is wide)

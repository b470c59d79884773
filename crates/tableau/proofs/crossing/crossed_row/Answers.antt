use Rattle.std.proofs.Common.{◌≡◌, ◌<◌, ◌≤◌, ◌+◌, ◌-◌, ℕ, ℤ, List, Err, pos, ◌*ℤ◌, true, slice_index_or, ap, sym, subst, ◌∙◌, arith, rules, FitsSigned, to_z, of_z}
use Rattle.std.specs.Int.{w128}
use Rattle.std.proofs.lemmas.Int.{to_z-of_z}
use Rattle.sdc_base.specs.Forms.{Term, coefficient}
use Rattle.tableau.specs.declared.faults.RowFault.TheVariants as faults
use Rattle.tableau.specs.Widths.{is_wide}
use Rattle.tableau.specs.Entries.{AreEntriesBelow, crossed_value, crossed_at}
use Rattle.tableau.proofs.Places.{from_start, from_place, from_later, from_none, made_none, made_more, crossed_alone}
use Rattle.tableau.proofs.CrossedEntries.{alone_wide}
use Rattle.tableau.proofs.crossing.crossed_row.Goals as goal

pub merge-init : goal.merge-init
merge-init c =
    let at : ℕ → ℤ = crossed_at c.args.pivot.now.den (to_z w128 (of_z w128 c.args.times)) (to_z w128 (of_z w128 c.args.less)) c.args.pivot.now.column c.args.pivot.now.bare.now c.args.own.now in
    record {
      within = omega arith;
      own = from_start c.args.own.now c.requires.own;
      pivot = from_start c.args.pivot.now.bare.now c.requires.pivot;
      made = subst (λ (t : List Term). AreEntriesBelow 0 at t) (sym c.in-Ok.ensures.items) (made_none at);
    }

pub put_own-requires-clause-within : goal.put_own-requires-clause-within
put_own-requires-clause-within c =
    let l = c.merge in
    c.least_place-place.ensures.from l.next (subst (λ n. l.next ≤ n) (sym c.place_at.ensures) (from_place l.next l.j c.args.width c.args.pivot.now.bare.now l.invariant.pivot l.invariant.within)) l.invariant.within

pub entry_here-there-requires : goal.entry_here-there-requires
entry_here-there-requires c =
    let l = c.merge in
    let up : l.next ≤ c.least_place-place.result = c.least_place-place.ensures.from l.next (subst (λ n. l.next ≤ n) (sym c.place_at.ensures) (from_place l.next l.j c.args.width c.args.pivot.now.bare.now l.invariant.pivot l.invariant.within)) l.invariant.within in
    from_later l.next l.j c.args.width c.least_place-place.result c.args.pivot.now.bare.now l.invariant.pivot up (subst (λ n. c.least_place-place.result ≤ n) c.place_at.ensures c.least_place-place.ensures.one)

pub merge-smaller : goal.merge-smaller
merge-smaller c =
    let l = c.merge in
    let up : l.next ≤ c.least_place-place.result = c.least_place-place.ensures.from l.next (subst (λ n. l.next ≤ n) (sym c.place_at.ensures) (from_place l.next l.j c.args.width c.args.pivot.now.bare.now l.invariant.pivot l.invariant.within)) l.invariant.within in
    let less : c.args.width - (c.least_place-place.result + 1) < c.args.width - l.next = omega (arith, c.if-place-width.false) in
    less

pub merge-preserved : goal.merge-preserved
merge-preserved c =
    let l = c.merge in
    let place : ℕ = c.least_place-place.result in
    let pivot_up : place ≤ (slice_index_or c.args.pivot.now.bare.now l.j (c.args.width, pos 0)).0 = subst (λ n. place ≤ n) c.place_at.ensures c.least_place-place.ensures.one in
    let den : ℤ = c.args.pivot.now.den in
    let p : ℤ = to_z w128 (of_z w128 c.args.times) in
    let f : ℤ = to_z w128 (of_z w128 c.args.less) in
    let numbers : ℕ → ℤ = crossed_at den p f c.args.pivot.now.column c.args.pivot.now.bare.now c.args.own.now in
    let number : ℤ = c.in-Some.number in
    let fits : FitsSigned w128 number = search rules in
    let e : ℤ = c.entry_here-here.result.0 in
    let e_fits : FitsSigned w128 e = search rules in
    let g : ℤ = c.entry_here-there.result.0 in
    let g_fits : FitsSigned w128 g = search rules in
    let value : ℤ → ℤ → ℤ = crossed_value den p f c.args.pivot.now.column place in
    let here : to_z w128 (of_z w128 number) ≡ numbers place =
    to_z-of_z w128 number fits ∙ c.in-Some.ensures.crossed_value ∙ ap (λ d. crossed_value d p f c.args.pivot.now.column place (to_z w128 (of_z w128 e)) (to_z w128 (of_z w128 g))) (to_z-of_z w128 c.args.pivot.now.den (search rules)) ∙ ap (λ t. value t (to_z w128 (of_z w128 g))) (to_z-of_z w128 e e_fits ∙ c.entry_here-here.ensures.number) ∙ ap (value (coefficient c.args.own.now place)) (to_z-of_z w128 g g_fits ∙ c.entry_here-there.ensures.number) in
    let owns : AreEntriesBelow place numbers c.put_own.new.made.items =
    c.in-Ok-put_own.ensures.made numbers l.invariant.made
    (λ v from below. crossed_alone den p f c.args.pivot.now.column v c.args.pivot.now.bare.now c.args.own.now (from_none l.next l.j c.args.width v c.args.pivot.now.bare.now l.invariant.pivot from (omega (arith, below, pivot_up))) c.requires.column) in
    record {
      within = omega (arith, c.if-place-width.false);
      own = c.entry_here-here.ensures.past;
      pivot = c.entry_here-there.ensures.past;
      made = made_more place place numbers c.put_own.new.made.items c.put.new.entries.items (to_z w128 (of_z w128 number)) owns (omega arith) (λ v from below. absurd (omega (arith, from, below))) here c.in-Ok-put.ensures;
    }

pub returns-clause-ok : goal.returns-clause-ok
returns-clause-ok c =
    let l = c.merge in
    let at : ℤ → ℤ → ℤ → ℕ → ℤ = λ d p f. crossed_at d p f c.args.pivot.now.column c.args.pivot.now.bare.now c.args.own.now in
    let numbers_are = ap (λ p. at c.args.pivot.now.den p (to_z w128 (of_z w128 c.args.less))) (to_z-of_z w128 c.args.times c.ranges.times) ∙ ap (at c.args.pivot.now.den c.args.times) (to_z-of_z w128 c.args.less c.ranges.less) in
    let ended : l.next ≡ c.args.width = omega (arith, l.invariant.within, c.merge-test.false) in
    subst (λ (t : List Term). AreEntriesBelow c.args.width (at c.args.pivot.now.den c.args.times c.args.less) t) (sym c.new-2.ensures) (subst (λ (n : ℕ → ℤ). AreEntriesBelow c.args.width n l.made.items) numbers_are (subst (λ n. AreEntriesBelow n (at c.args.pivot.now.den (to_z w128 (of_z w128 c.args.times)) (to_z w128 (of_z w128 c.args.less))) l.made.items) ended l.invariant.made))

pub returns-then-place-width-clause-ok : goal.returns-then-place-width-clause-ok
returns-then-place-width-clause-ok c =
    let l = c.merge in
    let place : ℕ = c.least_place-place.result in
    let at : ℤ → ℤ → ℤ → ℕ → ℤ = λ d p f. crossed_at d p f c.args.pivot.now.column c.args.pivot.now.bare.now c.args.own.now in
    let den : ℤ = c.args.pivot.now.den in
    let p : ℤ = to_z w128 (of_z w128 c.args.times) in
    let f : ℤ = to_z w128 (of_z w128 c.args.less) in
    let numbers_are = ap (λ p. at c.args.pivot.now.den p f) (to_z-of_z w128 c.args.times c.ranges.times) ∙ ap (at c.args.pivot.now.den c.args.times) (to_z-of_z w128 c.args.less c.ranges.less) in
    let pivot_up : place ≤ (slice_index_or c.args.pivot.now.bare.now l.j (c.args.width, pos 0)).0 = subst (λ n. place ≤ n) c.place_at.ensures c.least_place-place.ensures.one in
    let ended : place ≡ c.args.width = omega (arith, c.if-place-width.true, c.least_place-place.ensures.other) in
    let owns : AreEntriesBelow place (at den p f) c.put_own.new.made.items =
    c.in-Ok-put_own.ensures.made (at den p f) l.invariant.made
    (λ v from below. crossed_alone den p f c.args.pivot.now.column v c.args.pivot.now.bare.now c.args.own.now (from_none l.next l.j c.args.width v c.args.pivot.now.bare.now l.invariant.pivot from (omega (arith, below, pivot_up))) c.requires.column) in
    subst (λ (t : List Term). AreEntriesBelow c.args.width (at c.args.pivot.now.den c.args.times c.args.less) t) (sym c.new.ensures) (subst (λ (n : ℕ → ℤ). AreEntriesBelow c.args.width n c.put_own.new.made.items) numbers_are (subst (λ n. AreEntriesBelow n (at den p f) c.put_own.new.made.items) ended owns))

pub returns-in-Err-clause-wide : goal.returns-in-Err-clause-wide
returns-in-Err-clause-wide c j is =
    let l = c.merge in
    let place : ℕ = c.least_place-place.result in
    let pivot_up : place ≤ (slice_index_or c.args.pivot.now.bare.now l.j (c.args.width, pos 0)).0 = subst (λ n. place ≤ n) c.place_at.ensures c.least_place-place.ensures.one in
    let fault_is : c.in-Err.fault ≡ faults.Wide j = cc in
    let told = c.in-Err.ensures.wide j (ap Err fault_is) in
    let p_is : to_z w128 (of_z w128 c.args.times) ≡ c.args.times = to_z-of_z w128 c.args.times c.ranges.times in
    let below : j < place = told.1 in
    (omega (arith, below, c.least_place-place.ensures.other), alone_wide c.args.pivot.now.den c.args.times c.args.less c.args.pivot.now.column j c.args.pivot.now.bare.now c.args.own.now (from_none l.next l.j c.args.width j c.args.pivot.now.bare.now l.invariant.pivot told.0 (omega (arith, below, pivot_up))) c.requires.column (subst (λ x. is_wide (coefficient c.args.own.now j *ℤ x) ≡ true) p_is told.2))

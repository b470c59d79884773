use Rattle.std.proofs.Common.{◌≡◌, ◌∙◌, ℕ, true, slice_get, get_or, arith, ap, sym, inl, inr}
use Rattle.std.proofs.lemmas.Bool.{cases_lt}
use Rattle.rounding.specs.Fixes.{can_hold}
use Rattle.rounding.proofs.ForceSteps.{forced_then, hold_further}
use Rattle.rounding.proofs.forcing.settle_each.Goals as goal

pub returns-then-not-holds-clause-forced : goal.returns-then-not-holds-clause-forced
returns-then-not-holds-clause-forced c = forced_then c.args.bounds.now c.numbers.bounds c.force_relation.new.bounds c.numbers.invariant.forced c.in_ok-holds.ensures.forced

pub numbers-preserved : goal.numbers-preserved
numbers-preserved c =
    let first = c.args.bounds.now in
    let before = c.numbers.bounds in
    let after = c.force_relation.new.bounds in
    let numbers = c.args.numbers.now in
    record {
      forced = forced_then first before after c.numbers.invariant.forced c.in_ok-holds.ensures.forced;
      hold = λ place r below there untouched.
          hold_further first before after (get_or numbers place 0) r c.numbers.invariant.forced c.in_ok-holds.ensures.forced there untouched
          (λ found untouched_then. elim (cases_lt place c.numbers.number-index) as (λ _. can_hold before r ≡ true) [
            | inl less ↦ c.numbers.invariant.hold place r less found untouched_then
            | inr not_less ↦
                let last : place ≡ c.numbers.number-index = omega arith in
                c.in_ok-holds.ensures.hold c.if-not-holds.false r (ap (λ (k : ℕ). slice_get before.system.relations (get_or numbers k 0)) (sym last) ∙ found)
          ]);
    }

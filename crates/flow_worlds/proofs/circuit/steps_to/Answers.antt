use Rattle.std.proofs.Common.{◌≡◌, ℕ, refl, subst, arith}
use Rattle.flow_worlds.proofs.Circling.{IsLedBack, IsPushed, led_on, pushed, last_at}
use Rattle.flow_worlds.specs.Searches.{visit_at, visited}
use Rattle.flow_worlds.proofs.circuit.steps_to.Goals as goal

pub steps-preserved : goal.steps-preserved
steps-preserved c = led_on c.args.visits.now c.args.place c.steps.at c.steps.steps.items c.push.new.self.items (visit_at c.args.visits.now c.steps.at) c.requires.visits c.steps.invariant c.steps-test.true refl c.in_ok-push.ensures.items

pub returns : goal.returns
returns c =
    let none : c.steps.at ≡ 0 = omega (arith, c.steps-test.false) in
    let led : IsLedBack c.args.visits.now c.args.place 0 c.steps.steps.items = subst (λ (n : ℕ). IsLedBack c.args.visits.now c.args.place n c.steps.steps.items) none c.steps.invariant in
    let more : IsPushed c.args.visits.now c.args.place 0 c.push-2.new.self.items = pushed c.args.visits.now c.args.place 0 c.steps.steps.items c.push-2.new.self.items (visited c.args.visits.now 0) led refl c.in_ok-push-2.ensures.items in
    record {
      each = more.each;
      apart = more.apart;
      first = last_at c.steps.steps.items c.push-2.new.self.items (visited c.args.visits.now 0) c.in_ok-push-2.ensures.items;
      carries = λ arcs along point. more.carries arcs along point;
    }

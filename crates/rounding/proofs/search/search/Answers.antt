use Rattle.std.proofs.Common.{◌≡◌, ◌+◌, false, true, arith, refl, sym}
use Rattle.rounding.specs.PartialLists.{choices_of}
use Rattle.rounding.proofs.SearchSteps.{found_values, not_whole, not_viable, stops_here, same_then, same_left, same_on, start_seen, all_seen}
use Rattle.rounding.proofs.search.search.Goals as goal

pub lists-init : goal.lists-init
lists-init c = record {
  kept = c.requires.kept;
  same = refl;
  below = omega (arith, c.requires.nodes);
  has = start_seen c.args.partial.now.bounds c.args.partial.now.steps.items c.requires.start;
}

pub returns-then-is_whole-clause-found : goal.returns-then-is_whole-clause-found
returns-then-is_whole-clause-found c =
    let p = c.lists.partial in
    found_values c.args.partial.now.bounds p.bounds p.naming.items p.cells.items p.steps.items p.viable c.lists.invariant.kept c.lists.invariant.same (sym c.if-is_viable.ensures) (c.if-is_whole.ensures.0 refl)

pub returns-then-seen-nodes-clause-limit : goal.returns-then-seen-nodes-clause-limit
returns-then-seen-nodes-clause-limit c = λ n is.
    let p = c.lists.partial in
    let same : c.args.nodes ≡ n = cc in
    stops_here c.args.partial.now.bounds p.bounds (choices_of p.steps.items) c.lists.seen c.args.nodes n c.lists.invariant.same
    (not_whole p.bounds p.naming.items p.cells.items p.steps.items p.viable c.lists.invariant.kept (λ whole. let clash : false ≡ true = c.if-is_whole.ensures.1 whole in cc)) c.lists.invariant.has c.if-seen-nodes.true same

pub go_on-requires-clause-kept : goal.go_on-requires-clause-kept
go_on-requires-clause-kept c = c.lists.invariant.kept

pub go_on-requires-clause-viable : goal.go_on-requires-clause-viable
go_on-requires-clause-viable c = sym c.if-is_viable.ensures

pub lists-preserved-then-is_viable : goal.lists-preserved-then-is_viable
lists-preserved-then-is_viable c =
    let first = c.args.partial.now.bounds in
    let p = c.lists.partial in
    record {
      kept = c.in-Ok.ensures.kept;
      same = same_then first p.bounds c.go_on.new.self.bounds c.lists.invariant.same c.in-Ok.ensures.same;
      below = omega (arith, c.lists.invariant.below, c.if-seen-nodes.false);
      has = same_on first p.bounds (choices_of p.steps.items) (choices_of c.go_on.new.self.steps.items) c.lists.invariant.same c.in-Ok.ensures.on c.lists.seen c.lists.invariant.has;
    }

pub returns-then-seen-nodes-2-clause-limit : goal.returns-then-seen-nodes-2-clause-limit
returns-then-seen-nodes-2-clause-limit c = λ n is.
    let p = c.lists.partial in
    let same : c.args.nodes ≡ n = cc in
    stops_here c.args.partial.now.bounds p.bounds (choices_of p.steps.items) c.lists.seen c.args.nodes n c.lists.invariant.same
    (not_viable p.bounds p.naming.items p.cells.items p.steps.items p.viable c.lists.invariant.kept (sym c.if-is_viable.ensures)) c.lists.invariant.has c.if-seen-nodes-2.true same

pub go_beside-requires-clause-kept : goal.go_beside-requires-clause-kept
go_beside-requires-clause-kept c = c.lists.invariant.kept

pub go_beside-requires-clause-barred : goal.go_beside-requires-clause-barred
go_beside-requires-clause-barred c = sym c.if-is_viable.ensures

pub returns-then-not-more-clause-none : goal.returns-then-not-more-clause-none
returns-then-not-more-clause-none c = λ _.
    let first = c.args.partial.now.bounds in
    let p = c.lists.partial in
    all_seen first p.bounds p.naming.items p.cells.items p.steps.items p.viable (c.lists.seen + 1) c.lists.invariant.kept c.lists.invariant.same
    (same_left first p.bounds (choices_of p.steps.items) _ c.lists.invariant.same (c.in-Ok-go_beside.ensures.end c.if-not-more.true) c.lists.seen c.lists.invariant.has)

pub lists-preserved : goal.lists-preserved
lists-preserved c =
    let first = c.args.partial.now.bounds in
    let p = c.lists.partial in
    record {
      kept = c.in-Ok-go_beside.ensures.kept c.if-not-more.false;
      same = same_then first p.bounds c.go_beside.new.self.bounds c.lists.invariant.same (c.in-Ok-go_beside.ensures.same c.if-not-more.false);
      below = omega (arith, c.lists.invariant.below, c.if-seen-nodes-2.false);
      has = same_on first p.bounds (choices_of p.steps.items) (choices_of c.go_beside.new.self.steps.items) c.lists.invariant.same (c.in-Ok-go_beside.ensures.on c.if-not-more.false) c.lists.seen c.lists.invariant.has;
    }

use Rattle.std.proofs.Common.{◌<◌, length, slice_set, zero, refl, arith}
use Rattle.sdc_base.specs.Forests.{Meet}
use Rattle.sdc_base.proofs.Chains.{linked-then, linked-turned}
use Rattle.sdc_base.proofs.Forest.{forest-set, leads-linked, meet-end, meet-joined, meet-kept, meet-turned}
use Rattle.sdc_base.proofs.connected.join.Goals as goal

pub returns-then-first-second-clause-forest : goal.returns-then-first-second-clause-forest
returns-then-first-second-clause-forest c =
    let s = c.args.system.now in
    let flags = c.args.flags.now in
    let before = c.lowest-first.new.lower.items in
    let lower = c.lowest-second.new.lower.items in
    let first = c.lowest-first.result in
    let second = c.lowest-second.result in
    let forest = c.lowest-second.ensures.forest s.relations flags s.cells (c.lowest-first.ensures.forest s.relations flags s.cells c.requires.forest) in
    let meet : Meet before c.args.one first = (first, c.lowest-first.ensures.leads, (zero, refl)) in
    let one_leads = meet-end lower first c.args.one (c.lowest-second.ensures.ends first c.lowest-first.ensures.end) (c.lowest-second.ensures.kept c.args.one first meet) in
    let one_linked = leads-linked s.relations flags s.cells lower forest c.args.one first c.requires.one_known one_leads in
    let other_linked = leads-linked s.relations flags s.cells lower forest c.args.other second c.requires.other_known c.lowest-second.ensures.leads in
    let back = linked-then s.relations flags c.args.other c.args.one first (linked-turned s.relations flags c.args.one c.args.other c.requires.linked) one_linked in
    forest-set s.relations flags s.cells lower second first forest (omega (arith, c.if-first-second.true)) (linked-then s.relations flags second c.args.other first (linked-turned s.relations flags c.args.other second other_linked) back)

pub returns-then-first-second-clause-kept : goal.returns-then-first-second-clause-kept
returns-then-first-second-clause-kept c = λ one other meet.
    meet-kept c.lowest-second.new.lower.items c.lowest-second.result c.lowest-first.result c.lowest-second.ensures.end one other (c.lowest-second.ensures.kept one other (c.lowest-first.ensures.kept one other meet))

pub returns-then-first-second-clause-joined : goal.returns-then-first-second-clause-joined
returns-then-first-second-clause-joined c =
    let before = c.lowest-first.new.lower.items in
    let lower = c.lowest-second.new.lower.items in
    let first = c.lowest-first.result in
    let second = c.lowest-second.result in
    let meet : Meet before c.args.one first = (first, c.lowest-first.ensures.leads, (zero, refl)) in
    let one_leads = meet-end lower first c.args.one (c.lowest-second.ensures.ends first c.lowest-first.ensures.end) (c.lowest-second.ensures.kept c.args.one first meet) in
    meet-turned (slice_set lower second first) c.args.other c.args.one (meet-joined lower second first c.args.other c.args.one c.lowest-second.ensures.within c.lowest-second.ensures.end c.lowest-second.ensures.leads one_leads)

pub returns-else-first-second-clause-forest : goal.returns-else-first-second-clause-forest
returns-else-first-second-clause-forest c =
    let s = c.args.system.now in
    let flags = c.args.flags.now in
    let before = c.lowest-first.new.lower.items in
    let lower = c.lowest-second.new.lower.items in
    let first = c.lowest-first.result in
    let second = c.lowest-second.result in
    let forest = c.lowest-second.ensures.forest s.relations flags s.cells (c.lowest-first.ensures.forest s.relations flags s.cells c.requires.forest) in
    let meet : Meet before c.args.one first = (first, c.lowest-first.ensures.leads, (zero, refl)) in
    let one_leads = meet-end lower first c.args.one (c.lowest-second.ensures.ends first c.lowest-first.ensures.end) (c.lowest-second.ensures.kept c.args.one first meet) in
    let one_linked = leads-linked s.relations flags s.cells lower forest c.args.one first c.requires.one_known one_leads in
    let other_linked = leads-linked s.relations flags s.cells lower forest c.args.other second c.requires.other_known c.lowest-second.ensures.leads in
    let on = linked-then s.relations flags c.args.one c.args.other second c.requires.linked other_linked in
    forest-set s.relations flags s.cells lower first second forest (omega (arith, c.if-first-second.false)) (linked-then s.relations flags first c.args.one second (linked-turned s.relations flags c.args.one first one_linked) on)

pub returns-else-first-second-clause-kept : goal.returns-else-first-second-clause-kept
returns-else-first-second-clause-kept c = λ one other meet.
    meet-kept c.lowest-second.new.lower.items c.lowest-first.result c.lowest-second.result (c.lowest-second.ensures.ends c.lowest-first.result c.lowest-first.ensures.end) one other (c.lowest-second.ensures.kept one other (c.lowest-first.ensures.kept one other meet))

pub returns-else-first-second-clause-joined : goal.returns-else-first-second-clause-joined
returns-else-first-second-clause-joined c =
    let before = c.lowest-first.new.lower.items in
    let lower = c.lowest-second.new.lower.items in
    let first = c.lowest-first.result in
    let second = c.lowest-second.result in
    let end = c.lowest-second.ensures.ends first c.lowest-first.ensures.end in
    let meet : Meet before c.args.one first = (first, c.lowest-first.ensures.leads, (zero, refl)) in
    let one_leads = meet-end lower first c.args.one end (c.lowest-second.ensures.kept c.args.one first meet) in
    let inside : first < length lower = let within = c.lowest-first.ensures.within in let long = c.lowest-second.ensures.long in omega (arith, within, long) in
    meet-joined lower first second c.args.one c.args.other inside end one_leads c.lowest-second.ensures.leads

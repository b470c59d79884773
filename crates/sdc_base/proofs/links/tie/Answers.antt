use Rattle.std.proofs.Common.{◌≡◌, ap, arith, ◌∙◌}
use Rattle.sdc_base.specs.Links.{Follow, sign_by_link}
use Rattle.sdc_base.specs.Signs.{sign_of}
use Rattle.sdc_base.proofs.LinkLemmas.{set-on, set-says, tie-back, tie-links, tied-back, tied-on, turned-over}
use Rattle.sdc_base.proofs.links.tie.Goals as goal

pub returns-then-first-second-2-clause-on : goal.returns-then-first-second-2-clause-on
returns-then-first-second-2-clause-on c = λ signs follow says.
    let first = c.last_link-first.result in
    let second = c.last_link-second.result in
    let links = c.last_link-second.new.links.items in
    let b = c.sign_by_link-between.result in
    let is : b ≡ sign_by_link first.same (sign_by_link c.args.same second.same) = c.sign_by_link-between.ensures ∙ ap (sign_by_link first.same) c.sign_by_link.ensures in
    let now : Follow signs links = c.last_link-second.ensures.on signs (c.last_link-first.ensures.on signs follow) in
    let one_is = c.last_link-first.ensures.tied signs (c.last_link-second.ensures.back signs now) in
    let other_is = c.last_link-second.ensures.tied signs now in
    set-on signs links second.to (record { to = first.to; same = b }) now
    (turned-over b (sign_of signs first.to) (sign_of signs second.to) (tied-on signs c.args.one c.args.other first.to second.to c.args.same first.same second.same b is one_is other_is says))

pub returns-then-first-second-2-clause-back : goal.returns-then-first-second-2-clause-back
returns-then-first-second-2-clause-back c = λ signs follow.
    let first = c.last_link-first.result in
    let second = c.last_link-second.result in
    let links = c.last_link-second.new.links.items in
    let last = c.last_link-second.ensures.last in
    c.last_link-first.ensures.back signs (c.last_link-second.ensures.back signs
    (tie-back signs links second.to (record { to = first.to; same = c.sign_by_link-between.result }) last.0 c.last_link-second.ensures.links last.1 last.2 follow))

pub returns-then-first-second-2-clause-tied : goal.returns-then-first-second-2-clause-tied
returns-then-first-second-2-clause-tied c = λ _ signs follow.
    let first = c.last_link-first.result in
    let second = c.last_link-second.result in
    let links = c.last_link-second.new.links.items in
    let last = c.last_link-second.ensures.last in
    let b = c.sign_by_link-between.result in
    let is : b ≡ sign_by_link first.same (sign_by_link c.args.same second.same) = c.sign_by_link-between.ensures ∙ ap (sign_by_link first.same) c.sign_by_link.ensures in
    let now : Follow signs links = tie-back signs links second.to (record { to = first.to; same = b }) last.0 c.last_link-second.ensures.links last.1 last.2 follow in
    let one_is = c.last_link-first.ensures.tied signs (c.last_link-second.ensures.back signs now) in
    let other_is = c.last_link-second.ensures.tied signs now in
    tied-back signs c.args.one c.args.other first.to second.to c.args.same first.same second.same b is one_is other_is
    (turned-over b (sign_of signs second.to) (sign_of signs first.to) (set-says signs links second.to (record { to = first.to; same = b }) last.0 last.1 follow))

pub returns-else-first-second-2-clause-links : goal.returns-else-first-second-2-clause-links
returns-else-first-second-2-clause-links c =
    let first = c.last_link-first.result in
    let second = c.last_link-second.result in
    tie-links c.last_link-second.new.links.items second.to first.to c.sign_by_link-between.result c.last_link-second.ensures.links (omega (arith, c.if-first-second.false, c.if-first-second-2.false))

pub returns-else-first-second-2-clause-on : goal.returns-else-first-second-2-clause-on
returns-else-first-second-2-clause-on c = λ signs follow says.
    let first = c.last_link-first.result in
    let second = c.last_link-second.result in
    let links = c.last_link-second.new.links.items in
    let b = c.sign_by_link-between.result in
    let is : b ≡ sign_by_link first.same (sign_by_link c.args.same second.same) = c.sign_by_link-between.ensures ∙ ap (sign_by_link first.same) c.sign_by_link.ensures in
    let now : Follow signs links = c.last_link-second.ensures.on signs (c.last_link-first.ensures.on signs follow) in
    let one_is = c.last_link-first.ensures.tied signs (c.last_link-second.ensures.back signs now) in
    let other_is = c.last_link-second.ensures.tied signs now in
    set-on signs links first.to (record { to = second.to; same = b }) now
    (tied-on signs c.args.one c.args.other first.to second.to c.args.same first.same second.same b is one_is other_is says)

pub returns-else-first-second-2-clause-back : goal.returns-else-first-second-2-clause-back
returns-else-first-second-2-clause-back c = λ signs follow.
    let first = c.last_link-first.result in
    let second = c.last_link-second.result in
    let links = c.last_link-second.new.links.items in
    let last = c.last_link-first.ensures.last in
    let at = c.last_link-second.ensures.lasts first.to last.0 last.1 last.2 in
    c.last_link-first.ensures.back signs (c.last_link-second.ensures.back signs
    (tie-back signs links first.to (record { to = second.to; same = c.sign_by_link-between.result }) last.0 c.last_link-second.ensures.links at last.2 follow))

pub returns-else-first-second-2-clause-tied : goal.returns-else-first-second-2-clause-tied
returns-else-first-second-2-clause-tied c = λ _ signs follow.
    let first = c.last_link-first.result in
    let second = c.last_link-second.result in
    let links = c.last_link-second.new.links.items in
    let last = c.last_link-first.ensures.last in
    let at = c.last_link-second.ensures.lasts first.to last.0 last.1 last.2 in
    let b = c.sign_by_link-between.result in
    let is : b ≡ sign_by_link first.same (sign_by_link c.args.same second.same) = c.sign_by_link-between.ensures ∙ ap (sign_by_link first.same) c.sign_by_link.ensures in
    let now : Follow signs links = tie-back signs links first.to (record { to = second.to; same = b }) last.0 c.last_link-second.ensures.links at last.2 follow in
    let one_is = c.last_link-first.ensures.tied signs (c.last_link-second.ensures.back signs now) in
    let other_is = c.last_link-second.ensures.tied signs now in
    tied-back signs c.args.one c.args.other first.to second.to c.args.same first.same second.same b is one_is other_is
    (set-says signs links first.to (record { to = second.to; same = b }) last.0 at follow)

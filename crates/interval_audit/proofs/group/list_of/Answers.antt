use Rattle.std.proofs.Common.{◌<◌, ℕ, Option, length, IfSome, sym, subst, ◌∙◌}
use Rattle.interval_audit.proofs.ComponentLists.{list_met, shown_met}
use Rattle.interval_audit.proofs.group.list_of.Goals as goal

pub returns-in_default : goal.returns-in_default
returns-in_default c = λ relations components are. sym (shown_met c.args.of.now c.args.asked relations (sym c.in_default.ensures))

pub bounds-lists-number : goal.bounds-lists-number
bounds-lists-number c = subst (λ (o : Option ℕ). IfSome o (λ number. number < length c.args.lists.now)) (sym c.in-Some.ensures) c.requires.known

pub returns : goal.returns
returns c = λ relations components are.
    let inside : c.in-Some.number < length c.args.lists.now = subst (λ (o : Option ℕ). IfSome o (λ number. number < length c.args.lists.now)) (sym c.in-Some.ensures) c.requires.known in
    c.as_slice.ensures.value ∙ list_met c.args.lists.now c.args.of.now c.args.asked c.in-Some.number components relations c.index-lists-number.result (sym c.in-Some.ensures) inside c.index-lists-number.is are

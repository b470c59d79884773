use Rattle.std.proofs.Common.{◌∙◌, ap, get_or, pos, rules, ℤ, ◌+ℤ◌, ◌*ℤ◌, FitsSigned, to_z, of_z, List}
use Rattle.std.specs.Int.{w128}
use Rattle.std.proofs.lemmas.Int.{to_z-of_z}
use Rattle.std.proofs.lemmas.List.{take_all}
use Rattle.sdc_base.specs.Forms.{Term, coefficient}
use Rattle.kept_questions.proofs.TermSums.{push_next}
use Rattle.kept_questions.proofs.terms.push_times.Goals as goal

pub list-preserved : goal.list-preserved
list-preserved c = λ place.
    let term : Term = get_or c.args.list.now c.list.term-index (0, pos 0) in
    let times : ℤ = to_z w128 (of_z w128 c.args.times) in
    let fits : FitsSigned w128 term.1 = search rules in
    let number : FitsSigned w128 c.in_ok-number.number = search rules in
    let told = simp to_z-of_z at c.in_ok-number.ensures in
    let pushed = simp to_z-of_z at c.in_ok-push_term.ensures in
    push_next c.args.terms.now.items c.list.terms.items c.push_term.new.terms.items c.args.list.now times c.in_ok-number.number c.list.term-index place (0, pos 0) c.list-test.true told pushed (c.list.invariant place)

pub returns : goal.returns
returns c = λ place.
    let times : ℤ = to_z w128 (of_z w128 c.args.times) in
    c.list.invariant place ∙ ap (λ (ts : List Term). coefficient c.args.terms.now.items place +ℤ times *ℤ coefficient ts place) (take_all c.list.term-index c.args.list.now c.list-test.false)
    ∙ ap (λ (z : ℤ). coefficient c.args.terms.now.items place +ℤ z *ℤ coefficient c.args.list.now place) (to_z-of_z w128 c.args.times c.ranges.times)

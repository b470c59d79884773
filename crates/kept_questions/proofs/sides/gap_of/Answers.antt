use Rattle.std.proofs.Common.{◌≡◌, ◌∙◌, ◌∷◌, [], ◌++◌, ap, List, ℤ, FitsSigned, rules, ◌+ℤ◌, ◌*ℤ◌}
use Rattle.std.specs.Int.{w128}
use Rattle.std.proofs.lemmas.Int.{to_z-of_z}
use Rattle.sdc_base.specs.Forms.{Term, coefficient}
use Rattle.kept_questions.proofs.SideSums.{gap_at}
use Rattle.kept_questions.proofs.sides.gap_of.Goals as goal

pub returns : goal.returns
returns c = λ place.
    let den : ℤ = c.args.limit.den in
    let den_fits : FitsSigned w128 den = search rules in
    let bound_fits : FitsSigned w128 c.args.limit.bound = search rules in
    let far_fits : FitsSigned w128 c.in_ok-far.far = search rules in
    let less_fits : FitsSigned w128 c.in_ok-less.less = search rules in
    let times_fits : FitsSigned w128 c.args.times = c.ranges.times in
    let far = simp to_z-of_z at c.in_ok-far.ensures in
    let first = simp to_z-of_z at c.in_ok-push_term.ensures in
    let second = simp to_z-of_z at c.in_ok-push_term-2.ensures in
    let less = simp to_z-of_z at c.in_ok-less.ensures in
    let two : c.push_term-2.new.terms.items ≡ (0, c.in_ok-far.far) ∷ (c.in_ok-own.own, den) ∷ [] =
    second ∙ ap (λ (ts : List Term). ts ++ (c.in_ok-own.own, den) ∷ []) (first ∙ ap (λ (ts : List Term). ts ++ (0, c.in_ok-far.far) ∷ []) c.new-terms.ensures.items) in
    c.in_ok-gap.ensures place
    ∙ gap_at den c.args.limit.bound c.args.times c.in_ok-far.far c.in_ok-less.less c.args.limit.own c.in_ok-own.own c.push_term-2.new.terms.items c.args.list.now c.push_times.new.terms.items place far c.in_ok-own.ensures less two
    (c.in_ok-push_times.ensures place ∙ ap (λ (z : ℤ). coefficient c.push_term-2.new.terms.items place +ℤ z *ℤ coefficient c.args.list.now place) (to_z-of_z w128 c.in_ok-less.less less_fits))

use Rattle.std.proofs.Common.{◌≡◌, ◌∷◌, ◌++◌, [], ℕ, List, Bool, true, false, length, ℤ, arith, ap, refl, sym, subst, ◌∙◌, rules, FitsSigned}
use Rattle.std.specs.Int.{w128}
use Rattle.std.proofs.lemmas.Int.{to_z-of_z}
use Rattle.sdc_base.specs.Forms.{Term}
use Rattle.sdc_base.specs.Signs.{sign_of}
use Rattle.flow_worlds.specs.Cuts.{multiplier_of}
use Rattle.flow_worlds.proofs.Listed.{get_or_any}
use Rattle.flow_worlds.proofs.Weighing.{AreMultipliersBelow, reached_more, none_weighed}
use Rattle.flow_worlds.proofs.cut.multipliers_of.Goals as goal

pub relations-init : goal.relations-init
relations-init c = none_weighed c.args.signs.now c.args.reached.now c.args.forward c.new-by_relation.result.items c.new-by_relation.ensures.items

pub relations-preserved : goal.relations-preserved
relations-preserved c =
    let k = c.relations.number in
    let fits : FitsSigned w128 c.multiplier_of.result = search rules in
    let is : c.multiplier_of.result ≡ multiplier_of (sign_of c.args.signs.now k) c.args.forward = c.multiplier_of.ensures ∙ ap (λ (s : Bool). multiplier_of s c.args.forward) (get_or_any c.args.signs.now k false true c.relations-test.true) in
    let pushed : c.push.new.self.items ≡ c.relations.by_relation.items ++ (k, c.multiplier_of.result) ∷ [] = simp to_z-of_z at c.in_ok-push.ensures.items in
    reached_more c.args.signs.now c.args.reached.now c.args.forward k c.relations.by_relation.items c.push.new.self.items c.if-not-reached-number.false (pushed ∙ ap (λ (z : ℤ). c.relations.by_relation.items ++ (k, z) ∷ []) is) c.relations.invariant

pub returns : goal.returns
returns c =
    let all : c.relations.number ≡ length c.args.signs.now = omega (arith, c.relations-test.false, c.relations.auto.number-end) in
    let are : AreMultipliersBelow c.args.signs.now c.args.reached.now c.args.forward (length c.args.signs.now) c.new.result =
    subst (λ (ms : List Term). AreMultipliersBelow c.args.signs.now c.args.reached.now c.args.forward (length c.args.signs.now) ms) (sym c.new.ensures)
    (subst (λ (n : ℕ). AreMultipliersBelow c.args.signs.now c.args.reached.now c.args.forward n c.relations.by_relation.items) all c.relations.invariant) in
    record { whole = refl; listed = are.listed; ones = are.ones; coefficients = are.coefficients }

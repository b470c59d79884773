use Rattle.std.proofs.Common.{◌≡◌, ◌∷◌, ◌++◌, ◌+◌, [], List, ℤ, length, arith, rules, refl, subst, sym, FitsSigned}
use Rattle.std.specs.Int.{w128}
use Rattle.std.proofs.lemmas.Int.{to_z-of_z}
use Rattle.std.proofs.lemmas.Option.{slice_get_read}
use Rattle.sdc_base.specs.Systems.{number_at}
use Rattle.rounding.proofs.SumSteps.{AreFirstExtremes, one_more_extreme, all_extremes}
use Rattle.rounding.proofs.numbers.extremes_of.Goals as goal

pub relations-init : goal.relations-init
relations-init c = rw c.new-sums.ensures.items (record { each = refl; extremes = λ n r below there. absurd (omega (arith, below)) })

pub relations-preserved : goal.relations-preserved
relations-preserved c =
    let sum : FitsSigned w128 c.extreme_of.result = search rules in
    let items : c.push.new.self.items ≡ c.relations.sums.items ++ c.extreme_of.result ∷ [] = simp to_z-of_z at c.in_ok-push.ensures.items in
    subst (λ (xs : List ℤ). AreFirstExtremes (number_at c.args.one.now) (number_at c.args.other.now) c.args.relations.now xs (c.relations.relation-index + 1)) (sym items)
    (one_more_extreme (number_at c.args.one.now) (number_at c.args.other.now) c.args.relations.now c.relations.sums.items c.relations.relation-index c.relation-item.result c.extreme_of.result
    (slice_get_read c.args.relations.now (length c.args.relations.now) c.relations.relation-index c.relation-item.result refl c.relations-test.true c.relation-item.is) c.extreme_of.ensures c.relations.invariant)

pub returns : goal.returns
returns c = all_extremes c.args.one.now c.args.other.now c.args.relations.now c.relations.sums.items c.relations.relation-index c.relations-test.false c.relations.auto.relation-index-end c.relations.invariant

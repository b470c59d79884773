use Rattle.std.proofs.Common.{◌≡◌, ◌∙◌, ℕ, sym, length, to_z, of_z, arith, FitsSigned, rules}
use Rattle.std.specs.Int.{w128}
use Rattle.std.proofs.lemmas.Int.{to_z-of_z}
use Rattle.sdc_base.specs.Forms.{coefficient}
use Rattle.sdc_base.specs.Systems.{number_at}
use Rattle.worlds.specs.RefutationFaults.{terms_added}
use Rattle.worlds.proofs.TrueTests.{on_ok}
use Rattle.worlds.proofs.RefutationLaws.{added_up}
use Rattle.worlds.proofs.Lists.{listed_where_none}
use Rattle.worlds.proofs.refutation_check.first_sum.Goals as goal

pub gather-requires-clause-relations : goal.gather-requires-clause-relations
gather-requires-clause-relations c = (listed_where_none (length c.as_slice-relations.result.now) c.as_slice-listed.result.now (sym c.misplaced_multiplier.ensures ∙ c.in_default.is)).named

pub sum_shares-requires-clause-fewer_than_2_32 : goal.sum_shares-requires-clause-fewer_than_2_32
sum_shares-requires-clause-fewer_than_2_32 c =
    omega (arith, c.args.pattern.now.system.now.below_2_32, c.args.pattern.now.one_each.each_cell)

pub returns-clause-coefficients : goal.returns-clause-coefficients
returns-clause-coefficients c =
    let den : FitsSigned w128 c.args.multipliers.now.den = search rules in
    on_ok ((number : ℕ) → number_at c.gather.new.numbers number ≡ coefficient (terms_added c.args.pattern.now.system.now c.args.cell c.args.side c.args.multipliers.now) number) c.sum_shares.result
    (added_up c.args.pattern.now.system.now c.args.cell c.args.side c.args.multipliers.now (length c.args.scratch.now) c.as_slice-relations.result.now (to_z w128 (of_z w128 c.args.multipliers.now.den)) c.as_slice-listed.result.now c.gather.new.numbers c.requires.asked c.requires.scratch (search rules) (to_z-of_z w128 c.args.multipliers.now.den den) (search rules) c.in_ok-gather.ensures.ok)

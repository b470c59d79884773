use Rattle.std.proofs.Common.{◌↔◌, ◌∙◌, IsOk, sym, subst}
use Rattle.worlds.specs.RefutationFaults.{IsGivenSum, sum_of_bounds}
use Rattle.worlds.proofs.TrueTests.{if_ok, if_err}
use Rattle.worlds.proofs.RefutationLaws.{sum_law, given_law}
use Rattle.worlds.proofs.WideFaults.{only_wide, wide_where}
use Rattle.worlds.proofs.refutation_check.bound_sum.Goals as goal

pub returns-clause-sum : goal.returns-clause-sum
returns-clause-sum c = if_ok c.first_sum.result (λ sum is. sum_law c.args.system.now c.args.cells.now c.args.hidden.now.flags c.args.cell c.args.side c.args.multipliers.now sum c.requires.asked (sym c.first_sum.ensures.exact ∙ is))

pub returns-clause-given : goal.returns-clause-given
returns-clause-given c =
    subst (λ r. IsOk r ↔ IsGivenSum c.args.system.now c.args.cells.now c.args.hidden.now.flags c.args.cell c.args.side c.args.multipliers.now) (sym c.first_sum.ensures.exact)
    (given_law c.args.system.now c.args.cells.now c.args.hidden.now.flags c.args.cell c.args.side c.args.multipliers.now c.requires.asked)

pub returns-clause-wide : goal.returns-clause-wide
returns-clause-wide c = if_err c.first_sum.result (λ found is positive listed bounded. wide_where (sum_of_bounds c.args.system.now c.args.cells.now c.args.hidden.now.flags c.args.cell c.args.side c.args.multipliers.now) found (sym c.first_sum.ensures.exact ∙ is)
    (only_wide c.args.system.now c.args.cells.now c.args.hidden.now.flags c.args.cell c.args.side c.args.multipliers.now c.requires.asked positive listed bounded))

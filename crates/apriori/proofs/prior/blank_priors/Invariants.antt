use Rattle.std.proofs.Common.{◌≡◌}
use Rattle.std.specs.Prelude.{replicate}
use Rattle.apriori.specs.Priors.{empty_prior}
use Rattle.apriori.proofs.prior.blank_priors.Given as goal

abbrev pub invariant-cells : goal.invariant-cells
invariant-cells l = l.priors.items ≡ replicate l.counter empty_prior

use Rattle.std.proofs.Common.{◌∙◌, ap}
use Rattle.sdc_base.specs.HiddenSets.{is_hidden}
use Rattle.attackers.specs.Extras.{subjects_of}
use Rattle.attackers.proofs.AllAttacks.{within_cells}
use Rattle.attackers.proofs.guarding.narrow.Goals as goal

pub try_all-outcome-requires-clause-within : goal.try_all-outcome-requires-clause-within
try_all-outcome-requires-clause-within c =
    λ cell is. ap (λ f. is_hidden f cell) c.requires.extended.hidden_is ∙ (within_cells c.args.first.now.flags (subjects_of c.args.extended.reasons)).hides cell is

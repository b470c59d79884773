use Rattle.primary_rules.proofs.Stricter.{stricter_wants_more, stricter_lowers_none, further_lowers_none, more_lowers_no_manual}
use Rattle.primary_rules.proofs.FromZero.{values_from_zero_are_enough}
use Rattle.primary_rules.proofs.laws.stricter_lowers_none.Goals as goal

pub returns-clause-wants : goal.returns-clause-wants
returns-clause-wants c = stricter_wants_more

pub returns-clause-among_rules : goal.returns-clause-among_rules
returns-clause-among_rules c = stricter_lowers_none

pub returns-clause-further : goal.returns-clause-further
returns-clause-further c = further_lowers_none

pub returns-clause-manual : goal.returns-clause-manual
returns-clause-manual c = more_lowers_no_manual

pub returns-clause-from_zero : goal.returns-clause-from_zero
returns-clause-from_zero c = values_from_zero_are_enough

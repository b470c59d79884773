use Rattle.primary_rules.proofs.Rescaling.{units_change_no_naming}
use Rattle.primary_rules.proofs.RescaledRecords.{records_are_rescaled}
use Rattle.primary_rules.proofs.laws.units_change_no_naming.Goals as goal

pub returns-clause-records : goal.returns-clause-records
returns-clause-records c = records_are_rescaled

pub returns-clause-levels : goal.returns-clause-levels
returns-clause-levels c = units_change_no_naming

use Rattle.std.proofs.Common.{rules}
use Rattle.interval_audit.proofs.readings.read_world.Goals as goal

pub returns-in_err-moves-clause-read : goal.returns-in_err-moves-clause-read
returns-in_err-moves-clause-read c = search rules

pub returns-in_err-moves-clause-held : goal.returns-in_err-moves-clause-held
returns-in_err-moves-clause-held c = search rules

pub returns-clause-read : goal.returns-clause-read
returns-clause-read c = search rules

pub returns-clause-held : goal.returns-clause-held
returns-clause-held c = search rules

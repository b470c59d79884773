-- What guarding comes to in whole units, as it does where the relations have signs (own).
use Rattle.std.specs.Prelude.{◌≡◌, pos, Result, Ok, Err}
use Rattle.interval_audit.specs.WalkLimits.{HasNoWalk}
use Rattle.attackers.specs.WholeGuards.{IsWholeExtra, IsWholeAgainst}
use Rattle.contributor_protection.specs.declared.guarding.GuardedCells.{GuardedCells}
use Rattle.contributor_protection.specs.declared.guarding.GuardFailure.{GuardFailure}
use Rattle.contributor_protection.specs.declared.guarding.GuardFailure.TheVariants as guard_failure

-- All denominators of the extra cells' worlds and needs are 1, or those of the multipliers that refute an attack for the
-- full set, or those of the extra cells until a stop, whose question stops short but for its size. Not: those of the
-- certificate.
abbrev pub IsWholeOutcome : Result GuardedCells GuardFailure → Type 0
IsWholeOutcome (Ok guarded) = IsWholeExtra guarded.extra
IsWholeOutcome (Err (guard_failure.CannotAgainst found)) = found.multipliers.den ≡ pos 1
IsWholeOutcome (Err (guard_failure.Undecided stopped against)) = HasNoWalk stopped.fault × IsWholeAgainst against
IsWholeOutcome (Err guard_failure.Memory) = Unit {0}

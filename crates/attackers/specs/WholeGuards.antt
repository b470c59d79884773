-- Guards, needs and stops in whole units, as they are where the relations have signs (own).
use Rattle.std.specs.Prelude.{◌≡◌, All, pos}
use Rattle.interval_audit.specs.WalkLimits.{HasNoWalk}
use Rattle.certificate.specs.declared.certificate.WorldLine.{WorldLine}
use Rattle.certificate.specs.declared.extra.Extra.{Extra}
use Rattle.certificate.specs.declared.extra.ExtraNeed.{ExtraNeed}
use Rattle.attackers.specs.declared.extra.Against.{Against}
use Rattle.attackers.specs.declared.extra.Guarded.{Guarded}
use Rattle.attackers.specs.declared.extra.Guarded.TheVariants.{Guards, CannotAgainst}
use Rattle.attackers.specs.declared.extra.GuardStop.{GuardStop}

-- a guard whose world's denominator is 1
abbrev pub IsWholeGuard : WorldLine → Type 0
IsWholeGuard line = line.world.den ≡ pos 1

-- a need, or an extra cell's reason, whose multipliers have the denominator 1
abbrev pub IsWholeNeed : ExtraNeed → Type 0
IsWholeNeed need = need.multipliers.den ≡ pos 1

-- all denominators of an extra are 1
abbrev pub IsWholeExtra : Extra → Type 0
IsWholeExtra extra = All IsWholeGuard extra.guards × All IsWholeNeed extra.needs

-- all denominators of what guarding comes to are 1
abbrev pub IsWholeGuarded : Guarded → Type 0
IsWholeGuarded (Guards extra) = IsWholeExtra extra
IsWholeGuarded (CannotAgainst row cell side multipliers) = multipliers.den ≡ pos 1

-- the denominators of the extra cells' reasons are 1
abbrev pub IsWholeAgainst : Against → Type 0
IsWholeAgainst against = All IsWholeNeed against.extras

-- a stop's fault has no walk, and the denominators of its extra cells' reasons are 1
abbrev pub IsWholeGuardStop : GuardStop → Type 0
IsWholeGuardStop stop = HasNoWalk stop.fault × IsWholeAgainst stop.against

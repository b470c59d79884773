-- Protections in whole units, as they are where the relations have signs (own).
use Rattle.std.specs.Prelude.{◌≡◌, All, pos}
use Rattle.certificate.specs.declared.certificate.WorldLine.{WorldLine}
use Rattle.repair.specs.WholeVerdicts.{IsWholeRefuted, IsWholeStop}
use Rattle.cell_protection.specs.declared.protection.ProtectionOutcome.{ProtectionOutcome}
use Rattle.cell_protection.specs.declared.protection.ProtectionOutcome.TheVariants as protection

-- a world line whose denominator is 1
abbrev pub IsWholeLine : WorldLine → Type 0
IsWholeLine line = line.world.den ≡ pos 1

-- all denominators of a protection are 1, and no question of it stops short but for its size or want of memory
abbrev pub IsWholeProtection : ProtectionOutcome → Type 0
IsWholeProtection (protection.Protected protected certificate) = All IsWholeRefuted certificate.repairs
    × All IsWholeRefuted certificate.needs × All IsWholeLine certificate.worlds
IsWholeProtection (protection.Cannot found) = found.multipliers.den ≡ pos 1
IsWholeProtection (protection.Undecided stopped) = IsWholeStop stopped

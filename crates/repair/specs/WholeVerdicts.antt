-- Verdicts and stops in whole units, as they are where the relations have signs (own).
use Rattle.std.specs.Prelude.{◌≡◌, All, pos}
use Rattle.worlds.specs.declared.refuted.Refuted.{Refuted}
use Rattle.worlds.specs.declared.world.World.{World}
use Rattle.interval_audit.specs.WalkLimits.{HasNoWalk}
use Rattle.repair.specs.declared.stopped.Stopped.{Stopped}
use Rattle.repair.specs.declared.verdict.Verdict.{Verdict}
use Rattle.repair.specs.declared.verdict.Verdict.TheVariants.{Protected, Cannot}

-- a world whose denominator is 1
abbrev pub IsWholeWorld : World → Type 0
IsWholeWorld world = world.den ≡ pos 1

-- a repair or a need whose multipliers have the denominator 1
abbrev pub IsWholeRefuted : Refuted → Type 0
IsWholeRefuted refuted = refuted.multipliers.den ≡ pos 1

-- all denominators of a verdict are 1
abbrev pub IsWholeVerdict : Verdict → Type 0
IsWholeVerdict (Protected protected repairs needs) = All IsWholeWorld protected.worlds × All IsWholeRefuted repairs
    × All IsWholeRefuted needs
IsWholeVerdict (Cannot cell side multipliers) = multipliers.den ≡ pos 1

-- a stop's fault has no walk, and its repairs' denominators are 1
abbrev pub IsWholeStop : Stopped → Type 0
IsWholeStop stopped = HasNoWalk stopped.fault × All IsWholeRefuted stopped.repairs

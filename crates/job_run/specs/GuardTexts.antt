-- What is printed of a contributors' file that doesn't show that a release is guarded (own).
use Rattle.std.specs.Prelude.{ℕ, ◌+◌, List, ◌++◌, codes, decimal}
use Rattle.sdc_base.specs.Sides.{side_word}
use Rattle.attackers.specs.declared.faults.ExtraFault.{ExtraFault}
use Rattle.attackers.specs.declared.faults.ExtraFault.TheVariants as fault
use Rattle.job_run.specs.CheckTexts.{kind_with_number, world_text, refutation_text}

-- The kind of a fault, with its numbers: places from 0, a row from 1, a cell from 0, a side by its name, and the fault
-- of a world or of multipliers as its own kind and number. Want of memory is never one.
abbrev pub guard_text : ExtraFault → List ℕ
guard_text (fault.Cell k) = kind_with_number (codes "Cell") k
guard_text (fault.NeedCell k) = kind_with_number (codes "NeedCell") k
guard_text (fault.Need k why) = kind_with_number (codes "Need") k ++ (codes " " ++ refutation_text why)
guard_text (fault.GuardCell k) = kind_with_number (codes "GuardCell") k
guard_text (fault.Guard k why) = kind_with_number (codes "Guard") k ++ (codes " " ++ world_text why)
guard_text (fault.Open row cell side) =
    kind_with_number (codes "Open") (row + 1) ++ (codes " " ++ (decimal cell ++ (codes " " ++ side_word side)))
guard_text fault.Memory = codes "Memory"

-- What is printed of a release that isn't accepted (own).
use Rattle.std.specs.Prelude.{ℕ, ◌+◌, List, ◌++◌, codes, decimal}
use Rattle.sdc_base.specs.Sides.{side_word}
use Rattle.cert_check.specs.declared.faults.CheckFault.{CheckFault}
use Rattle.cert_check.specs.declared.faults.CheckFault.TheVariants as fault
use Rattle.worlds.specs.declared.faults.RefutationFault.{RefutationFault}
use Rattle.worlds.specs.declared.faults.RefutationFault.TheVariants as refutation
use Rattle.worlds.specs.declared.faults.WorldFault.{WorldFault}
use Rattle.worlds.specs.declared.faults.WorldFault.TheVariants as world

-- a kind with a number
abbrev pub kind_with_number : List ℕ → ℕ → List ℕ
kind_with_number kind n = kind ++ (codes " " ++ decimal n)

-- why a world is none
abbrev pub world_text : WorldFault → List ℕ
world_text world.Den = codes "Den"
world_text (world.Order place) = kind_with_number (codes "Order") place
world_text (world.Shown cell) = kind_with_number (codes "Shown") cell
world_text (world.Bound cell) = kind_with_number (codes "Bound") cell
world_text (world.Relation number) = kind_with_number (codes "Relation") number

-- why multipliers are no refutation
abbrev pub refutation_text : RefutationFault → List ℕ
refutation_text refutation.Den = codes "Den"
refutation_text (refutation.Order place) = kind_with_number (codes "Order") place
refutation_text (refutation.Wide cell) = kind_with_number (codes "Wide") cell
refutation_text (refutation.Unbounded cell) = kind_with_number (codes "Unbounded") cell
refutation_text refutation.NotBelow = codes "NotBelow"

-- The kind of a fault, with its numbers: a table and a line from 1, a side by its name, and the fault of a world or of
-- multipliers as its own kind and number. Want of memory is never one.
abbrev pub check_text : CheckFault → List ℕ
check_text fault.Counts = codes "Counts"
check_text fault.Method = codes "Method"
check_text (fault.PrimaryShown cell) = kind_with_number (codes "PrimaryShown") cell
check_text (fault.FixedHidden cell) = kind_with_number (codes "FixedHidden") cell
check_text (fault.Release t line) = kind_with_number (codes "Release") (t + 1) ++ (codes " " ++ decimal line)
check_text (fault.Step k) = kind_with_number (codes "Step") k
check_text (fault.RepairCell k) = kind_with_number (codes "RepairCell") k
check_text (fault.Repair k why) = kind_with_number (codes "Repair") k ++ (codes " " ++ refutation_text why)
check_text (fault.Outside cell) = kind_with_number (codes "Outside") cell
check_text (fault.WorldCell k) = kind_with_number (codes "WorldCell") k
check_text (fault.World k why) = kind_with_number (codes "World") k ++ (codes " " ++ world_text why)
check_text (fault.NotReached cell side) = kind_with_number (codes "NotReached") cell ++ (codes " " ++ side_word side)
check_text (fault.NeedCell k) = kind_with_number (codes "NeedCell") k
check_text (fault.Need k why) = kind_with_number (codes "Need") k ++ (codes " " ++ refutation_text why)
check_text (fault.Rounded cell) = kind_with_number (codes "Rounded") cell
check_text (fault.Relation number) = kind_with_number (codes "Relation") number
check_text fault.Memory = codes "Memory"

-- The first fault of a rounded release: its tables, then its cells, then its relations (zero-restricted controlled
-- rounding; own).
use Rattle.std.specs.Prelude.{ℕ, ◌+◌, ◌&&◌, Bool, List, [], ◌∷◌, if◌then◌else◌, Option, None, Some, Result, ℤ, pos, ◌+ℤ◌, ◌-ℤ◌, int_lt}
use Rattle.std.specs.Int.RustNames.{int_rem}
use Rattle.std.specs.Ordering.{int_eq}
use Rattle.sdc_base.specs.Steps.{◌>>=◌, map_fault}
use Rattle.sdc_base.specs.declared.cell.Cell.{Cell}
use Rattle.sdc_base.specs.declared.relation.Relation.{Relation}
use Rattle.sdc_base.specs.declared.system.System.{System}
use Rattle.sdc_base.specs.Systems.{Numbers, form, number_at}
use Rattle.release_writer.specs.ReleaseReading.{LinePlace, rounded_read}
use Rattle.release_writer.specs.declared.release_fault.ReleaseFault.{ReleaseFault}
use Rattle.release_writer.specs.declared.release_fault.ReleaseFault.TheVariants as release
use Rattle.worlds.specs.WorldFaults.{refuse_at}
use Rattle.cert_check.specs.declared.case.Case.{Case}
use Rattle.cert_check.specs.declared.faults.CheckFault.{CheckFault}
use Rattle.cert_check.specs.declared.faults.CheckFault.TheVariants as fault

-- whether a value is a multiple of the base, less than one base from the truth
abbrev pub is_adjacent : ℤ → ℤ → ℤ → Bool
is_adjacent base truth value =
    int_eq (int_rem value base) (pos 0) && (int_lt (truth -ℤ base) value && int_lt value (truth +ℤ base))

-- the first cell, from this number on, whose value isn't so
abbrev pub first_unrounded : ℤ → Numbers → ℕ → List Cell → Option ℕ
first_unrounded base numbers number [] = None
first_unrounded base numbers number (cell ∷ cells) =
    if is_adjacent base cell.truth (numbers number) then first_unrounded base numbers (number + 1) cells
    else Some number

-- the first relation, from this number on, whose form isn't 0 on the values
abbrev pub first_broken : Numbers → ℕ → List Relation → Option ℕ
first_broken numbers number [] = None
first_broken numbers number (r ∷ relations) = if int_eq (form numbers r) (pos 0)
    then first_broken numbers (number + 1) relations else Some number

-- the first cell that isn't rounded to the base, then the first relation that doesn't hold
abbrev pub values_fault : System → List Cell → ℤ → List ℤ → Result (Unit {0}) CheckFault
values_fault system cells base values =
    refuse_at fault.Rounded (first_unrounded base (number_at values) 0 cells) >>= λ _.
    refuse_at fault.Relation (first_broken (number_at values) 0 system.relations)

-- the fault of a bad line of a table
abbrev pub at_line : LinePlace → CheckFault
at_line place = fault.Release place.0 place.1

-- the fault of a call that reads tables
abbrev pub fault_for : ReleaseFault → CheckFault
fault_for (release.At table line) = fault.Release table line
fault_for release.Memory = fault.Memory

-- the first fault of a rounded release
abbrev pub rounded_fault : Case → List (List ℕ) → Result (Unit {0}) CheckFault
rounded_fault case tables =
    map_fault at_line (rounded_read case.book.now case.names.now case.decimals tables) >>= λ values.
    values_fault case.system.now case.cells.now case.base values

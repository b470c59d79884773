-- Hidden cells that neither the plan nor a repair has hidden (own).
use Rattle.std.specs.Prelude.{ℕ, ◌+◌, ◌&&◌, not, Bool, List, [], ◌∷◌, Option, None, Some, if◌then◌else◌, Result}
use Rattle.sdc_base.specs.HiddenSets.{is_hidden}
use Rattle.worlds.specs.WorldFaults.{refuse_at}
use Rattle.cert_check.specs.declared.faults.CheckFault.{CheckFault}
use Rattle.cert_check.specs.declared.faults.CheckFault.TheVariants as fault

-- the first cell, from this number on, that is hidden in the set of the flags and shown in the other
abbrev pub first_outside : List Bool → ℕ → List Bool → Option ℕ
first_outside larger number [] = None
first_outside larger number (hidden ∷ flags) = if hidden && not (is_hidden larger number) then Some number
    else first_outside larger (number + 1) flags

-- it is refused
abbrev pub outside_fault : List Bool → List Bool → Result (Unit {0}) CheckFault
outside_fault larger flags = refuse_at fault.Outside (first_outside larger 0 flags)

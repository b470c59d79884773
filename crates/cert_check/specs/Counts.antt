-- Whether the counts of a certificate are the case's, and its numbers name cells (own).
use Rattle.std.specs.Prelude.{ℕ, ◌==◌, ◌&&◌, nat_lt, not, Bool, length, Result}
use Rattle.std.specs.List.{list_all}
use Rattle.sdc_base.specs.Steps.{refuse}
use Rattle.sdc_base.specs.declared.system.System.{System}
use Rattle.worlds.specs.declared.refuted.Refuted.{Refuted}
use Rattle.certificate.specs.declared.certificate.Certificate.{Certificate}
use Rattle.certificate.specs.declared.certificate.WorldLine.{WorldLine}
use Rattle.cert_check.specs.declared.faults.CheckFault.{CheckFault}
use Rattle.cert_check.specs.declared.faults.CheckFault.TheVariants as fault

-- the number is that of a cell
abbrev pub is_cell_number : ℕ → ℕ → Bool
is_cell_number cells number = nat_lt number cells

-- subject and cell of a refutation are cells
abbrev pub names_cells : ℕ → Refuted → Bool
names_cells cells refuted = nat_lt refuted.subject cells && nat_lt refuted.cell cells

-- the cell of a line with a world is a cell
abbrev pub stands_for_cell : ℕ → WorldLine → Bool
stands_for_cell cells line = nat_lt line.cell cells

-- The counts are those of the system, and each number that stands for a cell names one. The moves of worlds aren't
-- looked at.
abbrev pub counts_fit : System → Certificate → Bool
counts_fit system c =
    (c.cells == system.cells) && ((c.relations == length system.relations)
    && (list_all (is_cell_number system.cells) c.hidden && (list_all (names_cells system.cells) c.repairs
    && (list_all (names_cells system.cells) c.needs && list_all (stands_for_cell system.cells) c.worlds))))

-- a certificate whose counts are others is refused
abbrev pub counts_fault : System → Certificate → Result (Unit {0}) CheckFault
counts_fault system c = refuse fault.Counts (not (counts_fit system c))

-- What becomes of cells that are to be protected (own).
use Rattle.std.specs.Prelude.{◌≡◌, ◌≤◌, ℕ, Bool, List, length, All}
use Rattle.sdc_base.specs.declared.dimension.Dimension.{Dimension}
use Rattle.sdc_base.specs.declared.method.Method.{Method}
use Rattle.sdc_base.specs.declared.trail.PlanStep.{PlanStep}
use Rattle.worlds.specs.Protection.{Protection as HiddenSet}
use Rattle.certificate.specs.Spelling.{IsSpellable}
use Rattle.certificate.specs.declared.certificate.Certificate.{Certificate}
use Rattle.sdc_base.specs.Trails.{corners_of}
use Rattle.repair.specs.HidingOrder.{Case, planned_set, prices_of, protected_case}
use Rattle.repair.specs.Stops.{StopsFor}
use Rattle.repair.specs.Verdicts.{IsCannot, IsVerdict}
use Rattle.repair.specs.declared.verdict.Verdict.{Verdict}
use Rattle.repair.specs.declared.verdict.Verdict.TheVariants as verdict
use Rattle.cell_protection.specs.Certifying.{certificate_made}
use Rattle.cell_protection.specs.declared.protection.CostedCells.{CostedCells}
use Rattle.cell_protection.specs.declared.protection.ProtectionOutcome.{ProtectionOutcome}
use Rattle.cell_protection.specs.declared.protection.ProtectionOutcome.TheVariants as protection

-- at most eight tables, each of one to eight variables
pub record AreNarrow (tables : List (List Dimension)) : Type 0 where
  pub at_most_8_tables : length tables ≤ 8
  pub each : All (λ table. (1 ≤ length table) × (length table ≤ 8)) tables

-- the case of cells whose costs are known
abbrev pub case_of : CostedCells → Case
case_of costed = protected_case costed.system.now costed.cells.now

-- what hiding each of them costs
abbrev pub prices_in : CostedCells → List ℕ
prices_in costed = prices_of costed.cost costed.cells.now costed.marks.now

-- the set with which repairing begins: the primary cells and the corners of the planned steps
abbrev pub planned_from : Case → List PlanStep → List Bool
planned_from c steps = planned_set c.cells (corners_of steps)

-- A hidden set protects every primary cell, beginning with the cells of these steps, and each of its cells is needed, for
-- the first question that isn't protected with the cell shown; the certificate names its cells, the steps, its complete
-- tables, and the repairs and needs.
pub record IsProtectedWith (c : Case) (prices : List ℕ) (method : Method) (steps : List PlanStep)
    (protected : HiddenSet) (certificate : Certificate) : Type 0 where
  pub verdict : IsVerdict c prices (planned_from c steps)
      (verdict.Protected protected certificate.repairs certificate.needs)
  pub certificate_is : certificate ≡ certificate_made method c.system c.cells protected steps certificate.repairs
      certificate.needs

-- What becomes of a case whose trail has these steps: a hidden set that protects, a cell that can't be protected, with
-- the multipliers that stopped its question after repairs from there on, or a question that stopped short.
abbrev pub IsProtectionOf : Case → List ℕ → Method → List PlanStep → ℕ → ProtectionOutcome → Type 0
IsProtectionOf c prices method steps limit (protection.Protected protected certificate) = IsProtectedWith c prices
    method steps protected certificate
IsProtectionOf c prices method steps limit (protection.Cannot found) = IsCannot c prices (planned_from c steps)
    found.cell found.side found.multipliers
IsProtectionOf c prices method steps limit (protection.Undecided stopped) = StopsFor c prices (planned_from c steps)
    limit stopped.fault stopped.repairs stopped.shown

-- the certificate of a set that protects has a text
abbrev pub HasText : ProtectionOutcome → Type 0
HasText (protection.Protected protected certificate) = IsSpellable certificate
HasText other = Unit {0}

-- the protection that a verdict speaks of, with the certificate of a set that protects
abbrev pub protection_by : Method → Case → List PlanStep → Verdict → ProtectionOutcome
protection_by method c steps (verdict.Protected protected repairs needs) = protection.Protected protected
    (certificate_made method c.system c.cells protected steps repairs needs)
protection_by method c steps (verdict.Cannot cell side multipliers) =
    protection.Cannot (record { cell = cell; side = side; multipliers = multipliers })

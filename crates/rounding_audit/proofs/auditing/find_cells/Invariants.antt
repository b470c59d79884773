use Rattle.std.proofs.Common.{◌≡◌, ◌++◌, ◌-◌, All, filter, map}
use Rattle.std.specs.List.{range_with_len}
use Rattle.sdc_base.specs.Kinds.{is_primary_at}
use Rattle.rounding_audit.specs.Audits.{IsAuditedCell, primary_cells}
use Rattle.rounding_audit.specs.declared.audited.AuditedCell.{AuditedCell}
use Rattle.rounding_audit.proofs.auditing.find_cells.Given as goal

abbrev pub invariant-cells : goal.invariant-cells
invariant-cells l = record {
  numbers : map (λ (one : AuditedCell). one.cell) l.audited ++ filter (is_primary_at l.reader.cells.now) (range_with_len l.number (l.reader.system.now.cells - l.number)) ≡ primary_cells l.reader.cells.now;
  each : All (IsAuditedCell l.reader.system.now l.reader.cells.now l.reader.values.now l.reader.base) l.audited;
}

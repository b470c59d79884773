use Rattle.std.proofs.Common.{◌≡◌, ◌++◌, flat_map, take}
use Rattle.rounding_audit.specs.AuditTexts.{cell_text}
use Rattle.rounding_audit.proofs.texts.add_cells.Given as goal

abbrev pub invariant-cells : goal.invariant-cells
invariant-cells l = l.text ≡ l.fn.text ++ flat_map cell_text (take l.one-index l.audited)

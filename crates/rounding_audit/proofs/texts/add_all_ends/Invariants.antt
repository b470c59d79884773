use Rattle.std.proofs.Common.{◌≡◌, ◌++◌, flat_map, take}
use Rattle.rounding_audit.specs.AuditTexts.{ends_text}
use Rattle.rounding_audit.proofs.texts.add_all_ends.Given as goal

abbrev pub invariant-cells : goal.invariant-cells
invariant-cells l = l.text ≡ l.fn.text ++ flat_map ends_text (take l.one-index l.audited)

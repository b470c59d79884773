-- Which primary cells a rounded release exposes (own).
use Rattle.std.specs.Prelude.{ℕ, ◌||◌, not, Bool, List, count_by}
use Rattle.rounding_audit.specs.declared.audited.AuditedCell.{AuditedCell}

-- the cell isn't covered on some side
abbrev pub is_exposed : AuditedCell → Bool
is_exposed one = not one.below.covered || not one.above.covered

-- how many cells aren't covered on some side
abbrev pub exposed_in : List AuditedCell → ℕ
exposed_in audited = count_by is_exposed audited

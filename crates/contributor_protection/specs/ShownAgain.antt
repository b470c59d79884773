-- The cells that a plan or a repair had hidden and that a protection shows again (own).
use Rattle.std.specs.Prelude.{ℕ, Bool, List, length}
use Rattle.repair.specs.HidingOrder.{Case, hide_subjects}
use Rattle.certificate.specs.declared.certificate.Certificate.{Certificate}
use Rattle.attackers.specs.Dropping.{cells_beside}
use Rattle.cell_protection.specs.Protections.{planned_from}

-- all that was hidden on the way to a certificate: the primary cells, the corners of its steps and the subjects of its
-- repairs
abbrev pub hidden_on_way : Case → Certificate → List Bool
hidden_on_way c certificate = hide_subjects (planned_from c certificate.steps) certificate.repairs

-- the cells of it that a hidden set doesn't have, ascending
abbrev pub shown_again : Case → Certificate → List Bool → List ℕ
shown_again c certificate flags = cells_beside flags (hidden_on_way c certificate) (length c.cells)

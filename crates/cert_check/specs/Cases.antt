-- What a case must be for a certificate to be judged by it (own).
use Rattle.std.specs.Prelude.{◌≡◌, ◌<◌, ◌≤◌, ◌≤ℤ◌, true, pos, List, ℕ, length, map, All}
use Rattle.sdc_base.specs.Trails.{corners_of}
use Rattle.release_writer.specs.Sheets.{HaveNames}
use Rattle.cert_check.specs.declared.case.Case.{Case}
use Rattle.cert_check.specs.Methods.{rounds_cells}

-- The cells are those of the system and of the book, with its truths; the corners of the trail are cells; there are
-- names and bytes for each table; and a base by which is rounded is 1 or more.
pub record IsCase (case : Case) (release : List (List ℕ)) : Type 0 where
  pub each_cell : length case.cells.now ≡ case.system.now.cells
  pub truths : map (λ mark. mark.facts.truth) case.book.now.marks ≡ map (λ cell. cell.truth) case.cells.now
  pub corners : All (λ corner. corner < length case.cells.now) (corners_of case.trail.now.steps)
  pub decimals : case.decimals ≤ 13
  pub names : HaveNames case.names.now case.book.now.tables
  pub tables : length release ≡ length case.book.now.tables
  pub base : rounds_cells case.method ≡ true → pos 1 ≤ℤ case.base

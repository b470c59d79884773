-- What the lines of a release table are written from (own).
use Rattle.std.specs.Prelude.{◌≡◌, ◌≤◌, slice_get, Some}
use Rattle.release_writer.specs.ShownCells.{CanBeShown}
use Rattle.release_writer.specs.declared.tables.Page.{Page}

-- the table is one of the book, the decimals are those of a number, and each cell can be shown
pub record IsPage (page : Page) : Type 0 where
  pub table : slice_get page.book.now.tables page.t ≡ Some page.table.now
  pub decimals : page.decimals ≤ 13
  pub shown : CanBeShown page.book.now page.shown

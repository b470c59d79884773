use Rattle.std.proofs.Common.{◌≡◌, drop, [], All}
use Rattle.release_writer.specs.ReleaseReading.{read_tables, release_read}
use Rattle.release_writer.specs.Sheets.{IsFromZero}
use Rattle.release_writer.proofs.release.release_shown.Given as goal

abbrev pub invariant-tables : goal.invariant-tables
invariant-tables l = record {
  read : read_tables l.book l.decimals l.rounded l.t (drop l.t l.book.tables) (drop l.t l.names) (drop l.t l.tables) l.shown ≡ release_read l.book l.names l.decimals l.rounded l.tables;
  shown : All IsFromZero l.shown;
}

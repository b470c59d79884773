use Rattle.std.proofs.Common.{◌≡◌, ◌-◌, length, All}
use Rattle.release_writer.specs.ReleaseReading.{read_places}
use Rattle.release_writer.specs.Sheets.{form_of, reading_of, places_below, IsFromZero}
use Rattle.release_writer.proofs.ReadSteps.{places_from}
use Rattle.release_writer.proofs.below.+read_below.Given as goal

abbrev pub decreases-read_below : goal.decreases-read_below
decreases-read_below l = length l.sheet.now.table.now - length l.place.now

abbrev pub invariant-codes : goal.invariant-codes
invariant-codes l = record {
  read : read_places (form_of l.sheet) (reading_of l.progress) (places_from (form_of l.sheet) l.place l.code) ≡ read_places (form_of l.sheet) (reading_of l.fn.progress) (places_below (form_of l.sheet) l.place);
  shown : All IsFromZero l.progress.shown;
}

-- The records of microdata: lines, what each says after those before it, and the closing look at the codes (tau-ARGUS
-- user manual, fixed-format microdata; limits and first fault own).
use Rattle.std.specs.Prelude.{ℕ, List, map, Result, Ok}
use Rattle.sdc_base.specs.Lines.{lines}
use Rattle.sdc_base.specs.Steps.{◌>>=◌}
use Rattle.microdata.specs.Closing.{closed_of, rows_of}
use Rattle.microdata.specs.Layouts.{measures_of}
use Rattle.microdata.specs.OneRecord.{line_says, lines_say, no_records}
use Rattle.microdata.specs.declared.faults.RowWhy.{RowWhy}
use Rattle.microdata.specs.declared.layout.Layout.{Layout}
use Rattle.microdata.specs.declared.layout.Measures.{Measures}
use Rattle.microdata.specs.declared.record.ReaderProgress.{ReaderProgress}
use Rattle.microdata.specs.declared.records.Records.{Records}

-- the closing look: the trees, and the records with their places in these
unfoldable pub closed_records : ReaderProgress → Result Records (ℕ × RowWhy)
closed_records so_far = do
  rows ← rows_of (map closed_of so_far.variables) so_far.rows
  Ok (record {
    trees = map (λ closed. closed.tree) (map closed_of so_far.variables);
    rows = rows;
    skipped = so_far.skipped;
  })

-- the records behind these and a last line
unfoldable pub records_behind : Measures → ReaderProgress → List ℕ → Result Records (ℕ × RowWhy)
records_behind measures so_far last = do
  all ← line_says measures so_far last
  closed_records all

-- the records of the bytes, or the first fault with the number of its record
unfoldable pub records_of : Layout → List ℕ → Result Records (ℕ × RowWhy)
records_of layout bytes = do
  all ← lines_say (measures_of layout) (no_records layout) (lines bytes)
  closed_records all

-- The lines of a release table, and the csv writer that writes them (own).
use Rattle.std.specs.Prelude.{◌≡◌, ℕ, List, [], ◌∷◌, ◌++◌, length, drop, flat_map, Option, Some, false, Vec, option_map}
use Rattle.std.specs.declared.alloc.Global.{Global}
use Rattle.csv.specs.declared.writer.Writer.{Writer}
use Rattle.csv.specs.Writing.{default_writer, writer_setup, fields_written, has_written, text_written}
use Rattle.sdc_base.specs.Cells.{places, trees_of}
use Rattle.sdc_base.specs.TableText.{line_text, codes_of_place, shown_text}
use Rattle.sdc_base.specs.declared.dimension.Dimension.{Dimension}
use Rattle.linked_tables.specs.BookViews.{BookView}
use Rattle.linked_tables.specs.BookCells.{name_in_table}
use Rattle.release_writer.specs.ShownCells.{number_shown}
use Rattle.release_writer.specs.declared.shown.Shown.{Shown}

-- the line of a place: its codes and what its cell shows
abbrev pub place_line : BookView → List Dimension → ℕ → Shown → List ℕ → List ℕ
place_line book table decimals how place =
    line_text (codes_of_place (trees_of book.trees table) place
    ++ shown_text decimals (number_shown book how (name_in_table book table place)) ∷ [])

-- the lines of the places that begin with this one
abbrev pub lines_below : BookView → List Dimension → ℕ → Shown → List ℕ → List ℕ
lines_below book table decimals how place =
    flat_map (λ rest. place_line book table decimals how (place ++ rest))
    (places (trees_of book.trees (drop (length place) table)))

-- a csv writer over bytes in memory, with the defaults and between two lines
pub record IsReadyWriter (writer : Writer (Vec ℕ Global)) : Type 0 where
  pub setup : writer_setup writer ≡ default_writer
  pub fields : fields_written writer ≡ 0
  pub clean : has_written writer ≡ false

-- the bytes that a csv writer has written
abbrev pub bytes_written : Writer (Vec ℕ Global) → Option (List ℕ)
bytes_written writer = text_written (λ bytes. Some bytes.items) writer

-- a csv writer has written this text behind what it had written before
abbrev pub AppendsText : Writer (Vec ℕ Global) → Writer (Vec ℕ Global) → List ℕ → Type 0
AppendsText old new added = bytes_written new ≡ option_map (λ text. text ++ added) (bytes_written old)

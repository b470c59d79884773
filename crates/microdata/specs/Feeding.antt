-- Bytes that come in pieces: what the lines that have ended say, and when the line that has begun is too long (own).
use Rattle.std.specs.Prelude.{◌≡◌, ℕ, ◌+◌, nat_lt, Bool, if◌then◌else◌, List, [], ◌∷◌, ◌++◌, length, true, Option, None, Some, Result, Err}
use Rattle.std.specs.List.{list_any}
use Rattle.std.specs.Str.Lines.{strip_carriage_return}
use Rattle.sdc_base.specs.Lines.{lines, is_line_feed}
use Rattle.sdc_base.specs.Steps.{◌>>=◌, refuse}
use Rattle.microdata.specs.Layouts.{measures_of}
use Rattle.microdata.specs.OneRecord.{lines_say, no_records}
use Rattle.microdata.specs.declared.faults.RowError.{RowError}
use Rattle.microdata.specs.declared.faults.RowError.TheVariants as row_error
use Rattle.microdata.specs.declared.faults.RowWhy.{RowWhy}
use Rattle.microdata.specs.declared.faults.RowWhy.TheVariants.{TooLong}
use Rattle.microdata.specs.declared.layout.Layout.{Layout}
use Rattle.microdata.specs.declared.layout.Measures.{Measures}
use Rattle.microdata.specs.declared.record.ReaderProgress.{ReaderProgress}

-- the bytes up to the last line feed
abbrev pub up_to_last_feed : List ℕ → List ℕ
up_to_last_feed [] = []
up_to_last_feed (b ∷ bytes) = if list_any is_line_feed (b ∷ bytes) then b ∷ up_to_last_feed bytes else []

-- the lines that have ended
abbrev pub ended_lines : List ℕ → List (List ℕ)
ended_lines bytes = lines (up_to_last_feed bytes)

-- the line that has begun: what stands behind the last line feed
abbrev pub begun_line : List ℕ → List ℕ
begun_line [] = []
begun_line (b ∷ bytes) = if list_any is_line_feed (b ∷ bytes) then begun_line bytes else b ∷ bytes

-- It has more than 1,000 bytes, one CR at its end not counted. Not: 1,001 bytes of which the last is a CR, since LF may
-- follow.
abbrev pub is_too_long : List ℕ → Bool
is_too_long line = nat_lt 1000 (length (strip_carriage_return line))

-- after these, what the lines say that have ended, and whether the line that has begun is too long
unfoldable pub fed_says : Measures → ReaderProgress → List ℕ → Result (Unit {0}) (ℕ × RowWhy)
fed_says measures so_far bytes = do
  all ← lines_say measures so_far (ended_lines bytes)
  refuse (all.number + 1, TooLong) (is_too_long (begun_line bytes))

-- what can be said of bytes before they are all there, or the first fault with the number of its record
abbrev pub fed_of : Layout → List ℕ → Result (Unit {0}) (ℕ × RowWhy)
fed_of layout bytes = fed_says (measures_of layout) (no_records layout) bytes

-- after these, what all lines say
abbrev pub all_says : Measures → ReaderProgress → List ℕ → Result ReaderProgress (ℕ × RowWhy)
all_says measures so_far bytes = lines_say measures so_far (lines bytes)

-- what a reader keeps of the bytes
pub record ReaderView : Type 0 where
  pub measures : Measures
  pub so_far : ReaderProgress
  pub begun : List ℕ
  pub error : Option RowError

-- Whatever follows, the lines of these bytes with it say what those of the other bytes with it say after other records.
pub record SaysAsFrom (measures : Measures) (first : ReaderProgress) (bytes : List ℕ) (so_far : ReaderProgress)
    (rest : List ℕ) : Type 0 where
  pub all : (more : List ℕ) → all_says measures first (bytes ++ more) ≡ all_says measures so_far (rest ++ more)
  pub fed : (more : List ℕ) → fed_says measures first (bytes ++ more) ≡ fed_says measures so_far (rest ++ more)

-- Whatever follows, these bytes have this first fault.
pub record HasFault (measures : Measures) (first : ReaderProgress) (bytes : List ℕ) (fault : ℕ × RowWhy) : Type 0 where
  pub all : (more : List ℕ) → all_says measures first (bytes ++ more) ≡ Err fault
  pub fed : (more : List ℕ) → fed_says measures first (bytes ++ more) ≡ Err fault

-- what was kept of these bytes, by the error that was answered; after want of memory nothing is said
abbrev pub IsKeptOf : Option RowError → Measures → ReaderProgress → List ℕ → ReaderProgress → List ℕ → Type 0
IsKeptOf None measures first bytes so_far rest = SaysAsFrom measures first bytes so_far rest
IsKeptOf (Some row_error.Memory) measures first bytes so_far rest = Unit {0}
IsKeptOf (Some (row_error.At number why)) measures first bytes so_far rest = HasFault measures first bytes (number, why)

-- a reader of this layout was fed these bytes, in whatever pieces
pub record HasRead (reader : ReaderView) (layout : Layout) (bytes : List ℕ) : Type 0 where
  pub measures : reader.measures ≡ measures_of layout
  pub kept : IsKeptOf reader.error reader.measures (no_records layout) bytes reader.so_far reader.begun

-- the error that a reader has answered, if it has
abbrev pub answered_error : ReaderView → Option RowError
answered_error reader = reader.error

-- the error is want of memory, or says that this line, behind so many records, is too long
abbrev pub StopsLong : RowError → ℕ → List ℕ → Type 0
StopsLong row_error.Memory number line = Unit {0}
StopsLong (row_error.At at why) number line = (at ≡ number + 1) × (why ≡ TooLong) × (is_too_long line ≡ true)

-- What the contributors' file says, or the first fault with its line (own).
use Rattle.std.specs.Prelude.{ℕ, ◌-◌, Bool, false, not, List, [], ◌∷◌, map, codes, if◌then◌else◌, Result, Ok}
use Rattle.std.specs.List.{list_all}
use Rattle.std.specs.Str.{bytes_eq}
use Rattle.sdc_base.specs.Steps.{◌>>=◌, refuse}
use Rattle.certificate.specs.declared.certificate.WorldLine.{WorldLine}
use Rattle.certificate.specs.declared.extra.Extra.{Extra}
use Rattle.certificate.specs.declared.extra.ExtraNeed.{ExtraNeed}
use Rattle.certificate.specs.declared.faults.CertWhy.{CertWhy}
use Rattle.certificate.specs.declared.version.Version.TheVariants.{Two}
use Rattle.certificate.specs.declared.faults.CertWhy.TheVariants.{Shape, Order, Version, NoEnd}
use Rattle.certificate.specs.Remainder.{Remainder}
use Rattle.certificate.specs.Pieces.{pieces, line_feed}
use Rattle.certificate.specs.Numerals.{natural_of, denominator_of, ascends}
use Rattle.certificate.specs.TokenLists.{first_of, end_of, is_pair, terms_of}
use Rattle.certificate.specs.LineReadings.{hidden_of, side_of, world_of}
use Rattle.certificate.specs.Certificates.{next_line, is_next, item_at, items_at, end_at}

-- why an extra cell is needed, by its tokens; rows are counted from 1 in the text
unfoldable pub need_by : List ℕ → List ℕ → List ℕ → List ℕ → List ℕ → List (List ℕ) → Result ExtraNeed CertWhy
need_by subject row cell side den pairs = do
  at ← side_of side
  shape ← refuse Shape (not (list_all is_pair pairs))
  hidden ← natural_of 0 subject
  number ← natural_of 1 row
  primary ← natural_of 0 cell
  divisor ← denominator_of den
  terms ← terms_of pairs
  order ← refuse Order (not (ascends (map (λ term. term.0) terms)))
  Ok (record {
    subject = hidden;
    row = number - 1;
    cell = primary;
    side = at;
    multipliers = record { den = divisor; by_relation = terms };
  })

-- why an extra cell is needed
unfoldable pub need_of : List (List ℕ) → Result ExtraNeed CertWhy
need_of tokens = do
  subject ← first_of tokens
  row ← first_of subject.1
  cell ← first_of row.1
  side ← first_of cell.1
  den ← first_of side.1
  need_by subject.0 row.0 cell.0 side.0 den.0 den.1

-- a complete table against contributors: what a line of the certificate's second version says, whatever is hidden
abbrev pub guard_of : List (List ℕ) → Result WorldLine CertWhy
guard_of tokens = world_of Two [] tokens

-- the first line of the contributors' file
abbrev pub contributors_line : List ℕ
contributors_line = codes "argus contributors 1"

-- the bytes begin with this line, whether LF ends it or not
abbrev pub begins_with_line : List ℕ → List (List ℕ) → Bool
begins_with_line heading [] = false
begins_with_line heading (line ∷ lines) = bytes_eq line heading

-- what is wrong where they don't
abbrev pub heading_fault : List (List ℕ) → CertWhy
heading_fault ([] ∷ []) = NoEnd
heading_fault other = Version

-- the first line, which is to be this one
unfoldable pub heading_at : List ℕ → List (List ℕ) → Result Remainder (ℕ × CertWhy)
heading_at heading lines = do
  first ← refuse (1, heading_fault lines) (not (begins_with_line heading lines))
  line ← next_line 0 lines
  Ok line.1

-- the extra cells, where there is a line of them
unfoldable pub cells_at : Remainder → Result (List ℕ × Remainder) (ℕ × CertWhy)
cells_at left = if is_next (codes "extra") left.lines then item_at (codes "extra") hidden_of left else Ok ([], left)

-- The extra cells with their needs and guards, or the first fault with its line.
unfoldable pub extra_of : List ℕ → Result Extra (ℕ × CertWhy)
extra_of bytes = do
  start ← heading_at contributors_line (pieces line_feed bytes)
  cells ← cells_at start
  needs ← items_at (codes "need") need_of cells.1
  guards ← items_at (codes "guard") guard_of needs.1
  end ← item_at (codes "end") end_of guards.1
  nothing ← end_at end.1.given end.1.lines
  Ok (record { cells = cells.0; needs = needs.0; guards = guards.0 })

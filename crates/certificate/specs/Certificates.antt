-- The certificate that bytes are, or the first fault with its line (own).
use Rattle.std.specs.Prelude.{ℕ, ◌+◌, ◌==◌, Bool, false, List, [], ◌∷◌, codes, if◌then◌else◌, Result, Ok, Err}
use Rattle.std.specs.List.{before_first}
use Rattle.std.specs.Str.{bytes_eq}
use Rattle.sdc_base.specs.Steps.{◌>>=◌}
use Rattle.certificate.specs.declared.certificate.Certificate.{Certificate}
use Rattle.certificate.specs.declared.faults.CertWhy.{CertWhy}
use Rattle.certificate.specs.declared.faults.CertWhy.TheVariants as why
use Rattle.certificate.specs.declared.version.Version.{Version}
use Rattle.certificate.specs.declared.version.Version.TheVariants.{One, Two}
use Rattle.certificate.specs.Faults.{at_line}
use Rattle.certificate.specs.Remainder.{Remainder}
use Rattle.certificate.specs.Pieces.{pieces, line_feed, space}
use Rattle.certificate.specs.TokenLists.{end_of}
use Rattle.certificate.specs.LineReadings.{item_of, hidden_of, step_of, refutation_of, world_of}
use Rattle.certificate.specs.MethodReadings.{method_of, count_of}

-- what is wrong with bytes that no LF ends: where there are none, the line `end` is missing
abbrev pub open_line_fault : List ℕ → CertWhy
open_line_fault [] = why.NoEnd
open_line_fault (b ∷ bytes) = why.Shape

-- the next line, which LF must end
abbrev pub next_line : ℕ → List (List ℕ) → Result (List ℕ × Remainder) (ℕ × CertWhy)
next_line given [] = Err (given + 1, why.NoEnd)
next_line given (last ∷ []) = Err (given + 1, open_line_fault last)
next_line given (line ∷ next ∷ lines) = Ok (line, record { given = given + 1; lines = next ∷ lines })

-- the line's first word is this one
abbrev pub begins_with_word : List ℕ → List ℕ → Bool
begins_with_word word line = bytes_eq (before_first (λ b. b == space) line) word

-- the first word of the next line is this one
abbrev pub is_next : List ℕ → List (List ℕ) → Bool
is_next word [] = false
is_next word (line ∷ lines) = begins_with_word word line

-- what the next line says, which is to be one by this word
unfoldable pub item_at : {A : Type 0} → List ℕ → (List (List ℕ) → Result A CertWhy) → Remainder
    → Result (A × Remainder) (ℕ × CertWhy)
item_at word read left = do
  line ← next_line left.given left.lines
  item ← at_line (left.given + 1) (item_of word read line.0)
  Ok (item, line.1)

-- what the lines by this word say, as many as stand next
unfoldable pub items_from : {A : Type 0} → List ℕ → (List (List ℕ) → Result A CertWhy) → ℕ → List (List ℕ)
    → Result (List A × Remainder) (ℕ × CertWhy)
items_from word read given [] = Ok ([], record { given = given; lines = [] })
items_from word read given (line ∷ lines) =
    if begins_with_word word line then
    (item_at word read (record { given = given; lines = line ∷ lines })
    >>= λ item. items_from word read (given + 1) lines >>= λ items. Ok (item.0 ∷ items.0, items.1))
    else Ok ([], record { given = given; lines = line ∷ lines })

-- the same, from what is left
abbrev pub items_at : {A : Type 0} → List ℕ → (List (List ℕ) → Result A CertWhy) → Remainder
    → Result (List A × Remainder) (ℕ × CertWhy)
items_at word read left = items_from word read left.given left.lines

-- the first line of a version
abbrev pub first_line : Version → List ℕ
first_line One = codes "argus certificate 1"
first_line Two = codes "argus certificate 2"

-- the version of which a line is the first one
abbrev pub version_of : List ℕ → Result Version CertWhy
version_of line =
    if bytes_eq line (first_line One) then Ok One
    else if bytes_eq line (first_line Two) then Ok Two
    else Err why.Version

-- the version with whose first line the bytes begin, whether LF ends it or not
abbrev pub first_version : List (List ℕ) → Result Version CertWhy
first_version [] = Err why.NoEnd
first_version ([] ∷ []) = Err why.NoEnd
first_version (line ∷ lines) = version_of line

-- the first line
unfoldable pub version_at : List (List ℕ) → Result (Version × Remainder) (ℕ × CertWhy)
version_at lines = do
  version ← at_line 1 (first_version lines)
  line ← next_line 0 lines
  Ok (version, line.1)

-- the hidden cells, where there is a line of them
unfoldable pub hidden_at : Remainder → Result (List ℕ × Remainder) (ℕ × CertWhy)
hidden_at left = if is_next (codes "hidden") left.lines then item_at (codes "hidden") hidden_of left else Ok ([], left)

-- there is no line left, and no byte
abbrev pub end_at : ℕ → List (List ℕ) → Result (Unit {0}) (ℕ × CertWhy)
end_at given [] = Ok tt
end_at given ([] ∷ []) = Ok tt
end_at given other = Err (given + 1, why.Shape)

-- The certificate, or the first fault with its line.
unfoldable pub certificate_of : List ℕ → Result Certificate (ℕ × CertWhy)
certificate_of bytes = do
  start ← version_at (pieces line_feed bytes)
  method ← item_at (codes "method") method_of start.1
  cells ← item_at (codes "cells") count_of method.1
  relations ← item_at (codes "relations") count_of cells.1
  hidden ← hidden_at relations.1
  steps ← items_at (codes "step") step_of hidden.1
  repairs ← items_at (codes "repair") refutation_of steps.1
  needs ← items_at (codes "need") refutation_of repairs.1
  worlds ← items_at (codes "world") (world_of start.0 hidden.0) needs.1
  end ← item_at (codes "end") end_of worlds.1
  nothing ← end_at end.1.given end.1.lines
  Ok (record {
    method = method.0;
    cells = cells.0;
    relations = relations.0;
    hidden = hidden.0;
    steps = steps.0;
    repairs = repairs.0;
    needs = needs.0;
    worlds = worlds.0;
  })

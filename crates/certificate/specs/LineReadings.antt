-- What each kind of line says, by the tokens behind its word, or its first fault: in all tokens first Shape, then
-- Number, then Order (own).
use Rattle.std.specs.Prelude.{ℕ, ◌-◌, ◌==◌, nat_lt, not, List, length, map, if◌then◌else◌, Result, Ok, Err}
use Rattle.std.specs.List.{list_all}
use Rattle.std.specs.Str.{bytes_eq}
use Rattle.sdc_base.specs.Steps.{◌>>=◌, refuse}
use Rattle.sdc_base.specs.declared.trail.PlanStep.{PlanStep}
use Rattle.sdc_base.specs.declared.side.Side.{Side}
use Rattle.sdc_base.specs.Sides.{side_word}
use Rattle.sdc_base.specs.declared.side.Side.TheVariants as side
use Rattle.worlds.specs.declared.refuted.Refuted.{Refuted}
use Rattle.certificate.specs.declared.certificate.WorldLine.{WorldLine}
use Rattle.certificate.specs.declared.faults.CertWhy.{CertWhy}
use Rattle.certificate.specs.declared.faults.CertWhy.TheVariants.{Shape, Order}
use Rattle.certificate.specs.declared.version.Version.{Version}
use Rattle.certificate.specs.Pieces.{pieces, space}
use Rattle.sdc_base.specs.TableText.{comma}
use Rattle.certificate.specs.Numerals.{natural_of, denominator_of, ascends}
use Rattle.certificate.specs.TokenLists.{behind_word, first_of, only_of, token_numbers, is_pair, terms_of, have_form, moves_by}

-- the hidden cells, one at least, ascending
unfoldable pub hidden_of : List (List ℕ) → Result (List ℕ) CertWhy
hidden_of tokens = do
  some ← refuse Shape (length tokens == 0)
  cells ← token_numbers tokens
  order ← refuse Order (not (ascends cells))
  Ok cells

-- a step by its four tokens; tables are counted from 1 in the text
unfoldable pub step_by : List ℕ → List ℕ → List ℕ → List ℕ → Result PlanStep CertWhy
step_by table parents cell corners = do
  has_parent ← refuse Shape (length parents == 0)
  few ← refuse Shape (nat_lt 8 (length (pieces comma parents)))
  has_corner ← refuse Shape (length corners == 0)
  number ← natural_of 1 table
  places ← token_numbers (pieces comma parents)
  centre ← natural_of 0 cell
  others ← token_numbers (pieces comma corners)
  order ← refuse Order (not (ascends others))
  Ok (record { table = number - 1; parents = places; cell = centre; corners = others })

-- a step of the trail
unfoldable pub step_of : List (List ℕ) → Result PlanStep CertWhy
step_of tokens = do
  table ← first_of tokens
  parents ← first_of table.1
  cell ← first_of parents.1
  corners ← only_of cell.1
  step_by table.0 parents.0 cell.0 corners

-- the side of a word
abbrev pub side_of : List ℕ → Result Side CertWhy
side_of word =
    if bytes_eq word (side_word side.Above) then Ok side.Above
    else if bytes_eq word (side_word side.Below) then Ok side.Below
    else Err Shape

-- a refutation by its tokens
unfoldable pub refutation_by : List ℕ → List ℕ → List ℕ → List ℕ → List (List ℕ) → Result Refuted CertWhy
refutation_by subject cell side den pairs = do
  at ← side_of side
  shape ← refuse Shape (not (list_all is_pair pairs))
  hidden ← natural_of 0 subject
  primary ← natural_of 0 cell
  divisor ← denominator_of den
  terms ← terms_of pairs
  order ← refuse Order (not (ascends (map (λ term. term.0) terms)))
  Ok (record {
    subject = hidden;
    cell = primary;
    side = at;
    multipliers = record { den = divisor; by_relation = terms };
  })

-- a refutation
unfoldable pub refutation_of : List (List ℕ) → Result Refuted CertWhy
refutation_of tokens = do
  subject ← first_of tokens
  cell ← first_of subject.1
  side ← first_of cell.1
  den ← first_of side.1
  refutation_by subject.0 cell.0 side.0 den.0 den.1

-- a complete table by its tokens, in this version and with these hidden cells
unfoldable pub world_by : Version → List ℕ → List ℕ → List ℕ → List ℕ → List (List ℕ) → Result WorldLine CertWhy
world_by version hidden cell side den tokens = do
  at ← side_of side
  shape ← refuse Shape (not (have_form version hidden tokens))
  primary ← natural_of 0 cell
  divisor ← denominator_of den
  moves ← moves_by version hidden tokens
  Ok (record { cell = primary; side = at; world = record { den = divisor; moves = moves } })

-- a complete table, in this version and with these hidden cells
unfoldable pub world_of : Version → List ℕ → List (List ℕ) → Result WorldLine CertWhy
world_of version hidden tokens = do
  cell ← first_of tokens
  side ← first_of cell.1
  den ← first_of side.1
  world_by version hidden cell.0 side.0 den.0 den.1

-- what a line by this word says
unfoldable pub item_of : {A : Type 0} → List ℕ → (List (List ℕ) → Result A CertWhy) → List ℕ → Result A CertWhy
item_of word read line = do
  tokens ← behind_word word (pieces space line)
  read tokens

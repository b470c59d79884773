-- What a row says of its record, read by itself (tau-ARGUS user manual, fixed-format microdata).
use Rattle.std.specs.Prelude.{◌≡◌, ℕ, ◌+◌, ◌&&◌, not, Bool, true, false, filter, List, [], ◌∷◌, ◌++◌, length, Some, Ok, Err, pos}
use Rattle.sdc_base.specs.Lines.{lines}
use Rattle.sdc_base.specs.Trees.{Tree, find}
use Rattle.sdc_base.specs.declared.rows.Row.{Row}
use Rattle.microdata.specs.Fields.{field, has_no_response, value_of, weight_of}
use Rattle.microdata.specs.Layouts.{IsLayout}
use Rattle.microdata.specs.Microdata.{records_of}
use Rattle.microdata.specs.declared.faults.RowWhy.{RowWhy}
use Rattle.microdata.specs.declared.layout.Field.{Field}
use Rattle.microdata.specs.declared.layout.Layout.{Layout}
use Rattle.microdata.specs.declared.layout.NumberField.{NumberField}
use Rattle.microdata.specs.declared.records.Records.{Records}

-- a line with a byte
abbrev pub is_record : List ℕ → Bool
is_record [] = false
is_record (b ∷ line) = true

-- a record with a response
abbrev pub is_answered : NumberField → List ℕ → Bool
is_answered response line = is_record line && not (has_no_response response line)

-- a record without a response
abbrev pub is_unanswered : NumberField → List ℕ → Bool
is_unanswered response line = is_record line && has_no_response response line

-- for each variable the code in its field is the one that stands in its tree at this place, and nowhere else
abbrev pub ArePlacesOf : List Field → List Tree → List ℕ → List ℕ → Type 0
ArePlacesOf [] [] line [] = Unit {0}
ArePlacesOf (one ∷ fields) (tree ∷ trees) line (place ∷ places) =
    (find tree (field one.first one.width line) ≡ Some place) × ArePlacesOf fields trees line places
ArePlacesOf fields trees line places = ⊥

-- a row has the places of the codes in the fields of its record, and the value and weight that stand there
pub record IsRowOf (layout : Layout) (trees : List Tree) (line : List ℕ) (row : Row) : Type 0 where
  pub places : ArePlacesOf layout.spanning trees line row.codes
  pub value : (n : ℕ) × (value_of layout.response line ≡ Ok n) × (row.value ≡ pos n)
  pub weight : weight_of layout.weight line ≡ Ok row.weight

-- each row is that of its record, one after another
abbrev pub AreRowsOf : Layout → List Tree → List (List ℕ) → List Row → Type 0
AreRowsOf layout trees [] [] = Unit {0}
AreRowsOf layout trees (line ∷ lines) (row ∷ rows) = IsRowOf layout trees line row × AreRowsOf layout trees lines rows
AreRowsOf layout trees lines rows = ⊥

-- the rows are those of the records with a response, in their order, each read by itself; and the others are counted
abbrev pub RowsAreTheirRecords : Type 0
RowsAreTheirRecords =
    (layout : Layout) (bytes : List ℕ) (records : Records) → IsLayout layout → records_of layout bytes ≡ Ok records
    → AreRowsOf layout records.trees (filter (is_answered layout.response) (lines bytes)) records.rows
    × (records.skipped ≡ length (filter (is_unanswered layout.response) (lines bytes)))

-- this is the number of a record: so many lines with a byte stand up to its own
abbrev pub IsNumberOfRecord : List (List ℕ) → ℕ → Type 0
IsNumberOfRecord lines number =
    (before : List (List ℕ)) × (line : List ℕ) × (behind : List (List ℕ)) × (lines ≡ before ++ line ∷ behind)
    × (is_record line ≡ true) × (number ≡ length (filter is_record before) + 1)

-- a fault is given with the number of a record, in which every line with a byte is counted
abbrev pub FaultsAreNumbered : Type 0
FaultsAreNumbered =
    (layout : Layout) (bytes : List ℕ) (number : ℕ) (why : RowWhy) → records_of layout bytes ≡ Err (number, why)
    → IsNumberOfRecord (lines bytes) number

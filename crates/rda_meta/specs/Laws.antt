-- Laws of metadata, above the reading line by line: order, meaning, leniency and spelling (own).
use Rattle.std.specs.Prelude.{◌≡◌, ◌≢◌, ℕ, ◌+◌, Bool, true, false, List, [], ◌∷◌, map, filter, take, slice_get, ◌++◌, find, ◌⊎◌, Some, Result, Ok, Err}
use Rattle.sdc_base.specs.Blanks.{trim}
use Rattle.sdc_base.specs.Lines.{lines, text_of_lines, joined_with_returns, IsLine}
use Rattle.rda_meta.specs.Metadata.{variable_of, text_says, lines_say, no_lines, meta_of}
use Rattle.rda_meta.specs.declared.faults.MetaWhy.{MetaWhy}
use Rattle.rda_meta.specs.declared.faults.MetaWhy.TheVariants.{Clash}
use Rattle.std.specs.List.{AllByRecursion}
use Rattle.rda_meta.specs.declared.meta.Meta.{Meta}
use Rattle.rda_meta.specs.declared.meta.Variable.{Variable}
use Rattle.rda_meta.specs.declared.entry.Entry.{Entry}
use Rattle.rda_meta.specs.Spelling.{canonical_lines}
use Rattle.rda_meta.specs.CanonicalMetadata.{AreCanonical, entry_of}
use Rattle.rda_meta.specs.declared.entry.ReaderProgress.{ReaderProgress}
use Rattle.rda_meta.specs.LineSettings.{is_clashing}

-- the line has a byte
abbrev pub is_dark_line : List ℕ → Bool
is_dark_line [] = false
is_dark_line (b ∷ text) = true

-- the lines of a text that aren't blank, without blanks at their ends
abbrev pub dark_lines : List ℕ → List (List ℕ)
dark_lines bytes = filter is_dark_line (map trim (lines bytes))

-- what reading gives, whatever the line of its fault
abbrev pub but_for_line : {A : Type 0} → Result A (ℕ × MetaWhy) → Result A MetaWhy
but_for_line (Ok x) = Ok x
but_for_line (Err fault) = Err fault.1

-- Line ends, blank lines and blanks at the ends of lines change nothing but the line of a fault.
abbrev pub IsLenient : Type 0
IsLenient = (a b : List ℕ) → dark_lines a ≡ dark_lines b → but_for_line (meta_of a) ≡ but_for_line (meta_of b)

-- Where no line is taken out, they change nothing at all.
abbrev pub IsLenientToEnds : Type 0
IsLenientToEnds = (a b : List ℕ) → map trim (lines a) ≡ map trim (lines b) → meta_of a ≡ meta_of b

-- LF, CR and LF, and no end of the last line are alike.
abbrev pub IsLenientToLineEnds : Type 0
IsLenientToLineEnds = (texts : List (List ℕ)) → AllByRecursion IsLine texts
    → (meta_of (joined_with_returns texts) ≡ meta_of (text_of_lines texts))
    × ((last : List ℕ) → IsLine last → last ≢ []
    → meta_of (text_of_lines texts ++ last) ≡ meta_of (text_of_lines (texts ++ last ∷ [])))

-- The line behind so many lines has this fault, and they have none.
abbrev pub IsLineFault : List (List ℕ) → ℕ → MetaWhy → Type 0
IsLineFault texts line why =
    (before : ℕ) × (so_far : ReaderProgress) × (text : List ℕ) × (line ≡ before + 1)
    × (slice_get texts before ≡ Some text)
    × (lines_say 0 no_lines (take before texts) ≡ Ok so_far) × (text_says line so_far (trim text) ≡ Err why)

-- No line has a fault, and the variable of this line is the first that clashes.
abbrev pub IsClash : List (List ℕ) → ℕ → MetaWhy → Type 0
IsClash texts line why =
    (all : ReaderProgress) × (entry : Entry) × (why ≡ Clash) × (lines_say 0 no_lines texts ≡ Ok all)
    × (find (λ e. is_clashing e.said) all.entries ≡ Some entry) × (entry.line ≡ line)

-- The fault that is given is that of the first line that has one, or else that of the first variable that clashes.
abbrev pub IsInOrder : Type 0
IsInOrder =
    (bytes : List ℕ) (line : ℕ) (why : MetaWhy) → meta_of bytes ≡ Err (line, why)
    → IsLineFault (lines bytes) line why ⊎ IsClash (lines bytes) line why

-- the canonical text of entries and of so many lines that are passed over: their lines, each ended by LF
abbrev pub canonical_text : List Entry → ℕ → List ℕ
canonical_text entries passed = text_of_lines (canonical_lines entries passed)

-- Each text that has the canonical lines, with other blanks or line ends, gives the variables of the entries. A line
-- that is passed over needs a variable before it.
abbrev pub IsSpelling : Type 0
IsSpelling =
    (entries : List Entry) (passed : ℕ) (bytes : List ℕ) → AreCanonical [] entries → (entries ≡ [] → passed ≡ 0)
    → dark_lines bytes ≡ canonical_lines entries passed
    → meta_of bytes ≡ Ok (record { variables = map variable_of entries; passed_over = passed })

-- The canonical text of entries gives their variables.
abbrev pub IsReadAgain : Type 0
IsReadAgain =
    (entries : List Entry) (passed : ℕ) → AreCanonical [] entries → (entries ≡ [] → passed ≡ 0)
    → AllByRecursion IsLine (canonical_lines entries passed)
    → meta_of (canonical_text entries passed)
    ≡ Ok (record { variables = map variable_of entries; passed_over = passed })

-- a weight is numeric
abbrev pub WeightsAreNumeric : List Variable → Type 0
WeightsAreNumeric variables = AllByRecursion (λ v. v.weight ≡ true → v.numeric ≡ true) variables

-- Metadata within the limits, whose words can be written in lines.
pub record AreWithinLimits (meta : Meta) : Type 0 where
  pub weights : WeightsAreNumeric meta.variables
  pub canonical : AreCanonical [] (map entry_of meta.variables)
  pub passed : map entry_of meta.variables ≡ [] → meta.passed_over ≡ 0
  pub lines : AllByRecursion IsLine (canonical_lines (map entry_of meta.variables) meta.passed_over)

-- The canonical text of metadata is read as these metadata.
abbrev pub IsRoundTrip : Type 0
IsRoundTrip =
    (meta : Meta) → AreWithinLimits meta
    → meta_of (canonical_text (map entry_of meta.variables) meta.passed_over) ≡ Ok meta

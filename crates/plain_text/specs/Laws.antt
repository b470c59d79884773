-- Laws of lines and of numbers, from the text that is written to what is read (own).
use Rattle.std.specs.Prelude.{◌≡◌, ◌≢◌, ◌<◌, ◌++◌, ℕ, List, [], ◌∷◌, length, replicate, Ok, ℤ, pos}
use Rattle.std.specs.List.{AllByRecursion}
use Rattle.sdc_base.specs.Lines.{lines, IsLine, HasNoFeed, text_of_lines, joined_with_returns}
use Rattle.sdc_base.specs.Numbers.{fraction, read_units, units_text, too_wide}

-- lines that were joined, each with LF at its end, are read again
abbrev pub AreReadAgain : Type 0
AreReadAgain = (texts : List (List ℕ)) → AllByRecursion IsLine texts → lines (text_of_lines texts) ≡ texts

-- Lines that were joined, each with CR and LF at its end, are read again.
-- A line may have a CR of its own at its end: one CR alone belongs to the line's end.
abbrev pub AreReadWithReturns : Type 0
AreReadWithReturns =
    (texts : List (List ℕ)) → AllByRecursion HasNoFeed texts → lines (joined_with_returns texts) ≡ texts

-- A last line without its end is read as the others are, after lines that end with LF and after lines that end with CR
-- and LF. A CR at its end belongs to it.
pub record IsLastRead : Type 0 where
  pub feeds : (texts : List (List ℕ)) (last : List ℕ) → AllByRecursion IsLine texts → HasNoFeed last → last ≢ [] →
      lines (text_of_lines texts ++ last) ≡ texts ++ last ∷ []
  pub returns : (texts : List (List ℕ)) (last : List ℕ) → AllByRecursion HasNoFeed texts → HasNoFeed last → last ≢ [] →
      lines (joined_with_returns texts ++ last) ≡ texts ++ last ∷ []

-- the text of a number of units that is not too wide is read as that number, at each number of decimals
abbrev pub IsPrintedRead : Type 0
IsPrintedRead = (n decimals : ℕ) → n < too_wide → read_units (units_text n decimals) decimals ≡ Ok (pos n)

-- above 0 decimals exactly so many digits stand behind the text's point
abbrev pub HasAllPlaces : Type 0
HasAllPlaces = (n decimals : ℕ) → n < too_wide → 0 < decimals → length (fraction (units_text n decimals)) ≡ decimals

-- zeros in front change nothing of a number that is read
abbrev pub AreZerosPassed : Type 0
AreZerosPassed =
    (zeros decimals : ℕ) (bytes : List ℕ) (units : ℤ) → read_units bytes decimals ≡ Ok units
    → read_units (replicate zeros 48 ++ bytes) decimals ≡ Ok units

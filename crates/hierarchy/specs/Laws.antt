-- The law of code lists, in the words of its rule (own).
use Rattle.std.specs.Prelude.{◌≡◌, ◌≢◌, ℕ, ◌≤◌, List, [], length, ◌⊎◌, Ok}
use Rattle.std.specs.List.{IsDistinct}
use Rattle.std.specs.Str.{bytes_eq}
use Rattle.sdc_base.specs.Lines.{lines}
use Rattle.code_trees.specs.Among.{IsIn}
use Rattle.hierarchy.specs.CodeList.{code_of_line, codes_of}

-- The kept codes are those of the lines: each is the code of a line, has a byte and isn't the total, and none
-- stands twice; and the code of each line is kept, where it has a byte and isn't the total.
pub record AreTheListed (total : List ℕ) (texts kept : List (List ℕ)) : Type 0 where
  pub each : (code : List ℕ) → IsIn code kept
      → ((line : List ℕ) × IsIn line texts × (code_of_line line ≡ code)) × (code ≢ []) × (code ≢ total)
  pub all : (line : List ℕ) → IsIn line texts
      → (code_of_line line ≡ []) ⊎ ((code_of_line line ≡ total) ⊎ IsIn (code_of_line line) kept)
  pub once : IsDistinct bytes_eq kept
  pub at_most_5000 : length kept ≤ 5000

-- a code list gives the codes of its lines, but the empty one and the total, each once
abbrev pub ListGivesItsCodes : Type 0
ListGivesItsCodes =
    (total bytes : List ℕ) (kept : List (List ℕ)) → codes_of total bytes ≡ Ok kept
    → AreTheListed total (lines bytes) kept

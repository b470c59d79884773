-- A code list: a code and its label a line (tau-ARGUS user manual, code lists; commas in quotes and what is passed over
-- own).
use Rattle.std.specs.Prelude.{ℕ, ◌+◌, ◌-◌, ◌==◌, ◌&&◌, ◌||◌, nat_le, Bool, List, [], ◌∷◌, ◌++◌, length, take, drop, slice_index, if◌then◌else◌, Result, Ok, Err, ◌≡◌}
use Rattle.std.specs.List.{before_first}
use Rattle.std.specs.Str.{bytes_eq}
use Rattle.sdc_base.specs.Lines.{lines as lines_of}
use Rattle.sdc_base.specs.Blanks.{trim}
use Rattle.code_trees.specs.MissingCodes.{has_code}
use Rattle.code_trees.specs.declared.tree_fault.TreeFault.{TreeFault}
use Rattle.code_trees.specs.declared.tree_fault.TreeFault.TheVariants as fault
use Rattle.sdc_base.specs.Trees.{Tree, codes}

-- a byte is a comma
abbrev pub is_comma : ℕ → Bool
is_comma b = b == 44

-- the bytes begin and end with a double quote, and these are two
abbrev pub is_quoted : List ℕ → Bool
is_quoted bytes = nat_le 2 (length bytes) && (slice_index bytes 0 == 34) && (slice_index bytes (length bytes - 1) == 34)

-- without one pair of double quotes round it
abbrev pub text_without_quotes : List ℕ → List ℕ
text_without_quotes bytes = if is_quoted bytes then take (length bytes - 2) (drop 1 bytes) else bytes

-- the code of a line: what stands before the first comma, or the whole line, without blanks at both ends and then
-- without a pair of quotes; blanks inside the quotes stay
abbrev pub code_of_line : List ℕ → List ℕ
code_of_line line = text_without_quotes (trim (before_first is_comma line))

-- an empty code, the total, and a code that was there before are passed over
abbrev pub is_passed_over : List ℕ → List (List ℕ) → List ℕ → Bool
is_passed_over total kept code = (length code == 0) || (bytes_eq code total || has_code kept code)

-- what the code of line n and the lines after it give, where `next` is what these give after the codes that are kept
abbrev pub after_code : List ℕ → ℕ → List (List ℕ) → List ℕ → (List (List ℕ) → Result (List (List ℕ)) TreeFault)
    → Result (List (List ℕ)) TreeFault
after_code total n kept code next =
    if is_passed_over total kept code then next kept
    else if nat_le 5000 (length kept) then Err (fault.TooMany n)
    else next (kept ++ code ∷ [])

-- the codes of the lines, which are numbered from n, after those that are kept
abbrev pub codes_listed : List ℕ → ℕ → List (List ℕ) → List (List ℕ) → Result (List (List ℕ)) TreeFault
codes_listed total n kept [] = Ok kept
codes_listed total n kept (line ∷ lines) = after_code total n kept (code_of_line line)
    (λ next. codes_listed total (n + 1) next lines)

-- what the code of line n and the lines after it give, after the codes that are kept
abbrev pub codes_listed_from : List ℕ → ℕ → List (List ℕ) → List ℕ → List (List ℕ) → Result (List (List ℕ)) TreeFault
codes_listed_from total n kept code lines = after_code total n kept code (λ next. codes_listed total (n + 1) next lines)

-- what a code list can be refused for
abbrev pub IsListFault : TreeFault → Type 0
IsListFault (fault.TooMany n) = Unit {0}
IsListFault fault.Memory = Unit {0}
IsListFault other = ⊥

-- the codes of a code list, or the line of the 5,001st
abbrev pub codes_of : List ℕ → List ℕ → Result (List (List ℕ)) TreeFault
codes_of total bytes = codes_listed total 1 [] (lines_of bytes)

-- a statement holds of the total, where the known codes are the total and these
abbrev pub HoldsOfTotal : Tree → List (List ℕ) → (List ℕ → Type 0) → Type 0
HoldsOfTotal known kept statement = (total : List ℕ) → codes known ≡ total ∷ kept → statement total

-- with the code of a line, before which these are kept and after which those, the codes of further lines are listed on
abbrev pub ListsFurtherCodes : List ℕ → ℕ → List (List ℕ) → List ℕ → List (List ℕ) → Type 0
ListsFurtherCodes total number before code after =
    (lines : List (List ℕ)) → codes_listed_from total number before code lines
    ≡ codes_listed total (number + 1) after lines

-- The text of a released table (manual: a table as lines of fields; quotes, order and `x`: own).
use Rattle.std.specs.Prelude.{ℕ, ◌==◌, ◌||◌, Bool, List, [], ◌∷◌, ◌++◌, length, map, flat_map, codes, if◌then◌else◌, Option, None, Some, ℤ, unsigned_abs}
use Rattle.std.specs.List.{list_any, join_with_byte}
use Rattle.sdc_base.specs.Numbers.{units_text}
use Rattle.sdc_base.specs.Trees.{Tree, code_in}
use Rattle.sdc_base.specs.CutTrees.{CutTree}
use Rattle.sdc_base.specs.Cells.{places, trees_of, name_of}
use Rattle.sdc_base.specs.declared.dimension.Dimension.{Dimension}

-- the comma, which separates fields
abbrev pub comma : ℕ
comma = 44

-- the double quote
abbrev pub quote : ℕ
quote = 34

-- a byte for which a field stands in quotes: comma, quote, CR or LF; a blank is none
abbrev pub is_special : ℕ → Bool
is_special b = (b == comma) || ((b == quote) || ((b == 13) || (b == 10)))

-- each quote inside is doubled
abbrev pub quotes_doubled : List ℕ → List ℕ
quotes_doubled [] = []
quotes_doubled (b ∷ field) = if b == quote then quote ∷ b ∷ quotes_doubled field else b ∷ quotes_doubled field

-- a field's text: in quotes exactly where it has a special byte
abbrev pub field_text : List ℕ → List ℕ
field_text field = if list_any is_special field then quote ∷ (quotes_doubled field ++ quote ∷ []) else field

-- a line: the fields with commas between them, ended by LF
abbrev pub line_text : List (List ℕ) → List ℕ
line_text fields = join_with_byte comma (map field_text fields) ++ 10 ∷ []

-- the codes of a place, one for each of the table's variables
abbrev pub codes_of_place : List CutTree → List ℕ → List (List ℕ)
codes_of_place [] place = []
codes_of_place (tree ∷ trees) [] = []
codes_of_place (tree ∷ trees) (code ∷ place) = code_in tree.tree code ∷ codes_of_place trees place

-- what a cell shows: its number with the unit's decimals, or `x` where it is hidden (None), whatever hides it
abbrev pub shown_text : ℕ → Option ℤ → List ℕ
shown_text decimals None = codes "x"
shown_text decimals (Some number) = units_text (unsigned_abs number) decimals

-- The text of a table over all trees: a line of its names (those of its variables and of the response),
-- and a line for each place in lexicographic order: its codes and what its cell shows.
-- `shown` gives what the cell of each name shows, so nothing else enters the text.
abbrev pub table_text : List Tree → List Dimension → List (List ℕ) → ℕ → (List ℕ → Option ℤ) → List ℕ
table_text trees table names decimals shown =
    line_text names
    ++ flat_map (λ place. line_text (codes_of_place (trees_of trees table) place
    ++ shown_text decimals (shown (name_of (length trees) table place)) ∷ [])) (places (trees_of trees table))

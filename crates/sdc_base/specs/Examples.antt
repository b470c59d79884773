-- The definitions on small tables that can be reckoned by hand (own).
use Rattle.std.specs.Prelude.{◌≡◌, ℕ, true, false, List, [], ◌∷◌, codes, length, map, None, Some, ℤ, pos}
use Rattle.sdc_base.specs.Trees.{Tree, flat_tree, is_under, places_upward}
use Rattle.sdc_base.specs.Records.{Name}
use Rattle.sdc_base.specs.Cells.{cells_of, named_by, whole, whole_table}
use Rattle.sdc_base.specs.Relations.{relations_among}
use Rattle.sdc_base.specs.Sums.{truth, freq}
use Rattle.sdc_base.specs.Largest.{largest_in}
use Rattle.sdc_base.specs.Rules.{frequency_names, first_named}
use Rattle.sdc_base.specs.declared.dimension.Dimension.{Dimension}
use Rattle.sdc_base.specs.declared.rows.Row.{Row}

-- a record of one variable
abbrev pub row_of : ℕ → ℕ → ℕ → Row
row_of code value weight = record { codes = code ∷ []; value = pos value; weight = weight }

-- Total, a and b
abbrev pub two_codes : Tree
two_codes = flat_tree (codes "Total") (codes "a" ∷ codes "b" ∷ [])

-- b with 20, 20, 20 and 30
abbrev pub rows_of_b : List Row
rows_of_b = row_of 2 20 1 ∷ row_of 2 20 1 ∷ row_of 2 20 1 ∷ row_of 2 30 1 ∷ []

-- a with 10, 20 and 30, and b
abbrev pub seven_rows : List Row
seven_rows = row_of 1 10 1 ∷ row_of 1 20 1 ∷ row_of 1 30 1 ∷ rows_of_b

-- the same without the third record
abbrev pub six_rows : List Row
six_rows = row_of 1 10 1 ∷ row_of 1 20 1 ∷ rows_of_b

-- the total, a and b
abbrev pub three_cells : List Name
three_cells = (0 ∷ []) ∷ (1 ∷ []) ∷ (2 ∷ []) ∷ []

-- the truths of the three cells
abbrev pub truths : List Row → List ℤ
truths rows = map (λ name. truth (two_codes ∷ []) name rows) three_cells

-- the frequencies of the three cells
abbrev pub freqs : List Row → List ℕ
freqs rows = map (λ name. freq (two_codes ∷ []) name rows) three_cells

-- One flat variable: with three records in a no cell is named, with two a is.
-- A rule by `freq ≤ n` would name a with three records.
pub record FlatTable : Type 0 where
  pub cells : cells_of (two_codes ∷ []) (whole_table (0 ∷ []) ∷ []) ≡ three_cells
  pub sums : truths seven_rows ≡ pos 150 ∷ pos 60 ∷ pos 90 ∷ []
  pub counts : freqs seven_rows ≡ 7 ∷ 3 ∷ 4 ∷ []
  pub none : first_named 3 (two_codes ∷ []) seven_rows three_cells ≡ None
  pub fewer : freqs six_rows ≡ 6 ∷ 2 ∷ 4 ∷ []
  pub named : first_named 3 (two_codes ∷ []) six_rows three_cells ≡ Some 1
  pub empty : frequency_names 3 0 ≡ false

-- the sums over the one, two and three largest contributions of the total
abbrev pub largest_three : ℕ → List Row → List ℤ
largest_three scale rows = map (largest_in (two_codes ∷ []) (0 ∷ []) rows scale) (1 ∷ 2 ∷ 3 ∷ [])

-- Value 10 with weight 3 and value 4 with weight 1: both of the two largest are of value 10, also with the records
-- reversed. A sum over records in place of weight steps would give 14 for two.
pub record WeightSteps : Type 0 where
  pub sum : truth (two_codes ∷ []) (0 ∷ []) (row_of 1 10 3 ∷ row_of 2 4 1 ∷ []) ≡ pos 34
  pub count : freq (two_codes ∷ []) (0 ∷ []) (row_of 1 10 3 ∷ row_of 2 4 1 ∷ []) ≡ 2
  pub largest : largest_three 1 (row_of 1 10 3 ∷ row_of 2 4 1 ∷ []) ≡ pos 10 ∷ pos 20 ∷ pos 30 ∷ []
  pub reversed : largest_three 1 (row_of 2 4 1 ∷ row_of 1 10 3 ∷ []) ≡ pos 10 ∷ pos 20 ∷ pos 30 ∷ []

-- One record of value 10 and weight 2.5: its last half step counts half.
-- A last contribution taken whole would give 300 for three.
pub record LastInPart : Type 0 where
  pub sum : truth (two_codes ∷ []) (0 ∷ []) (row_of 1 10 25 ∷ []) ≡ pos 250
  pub largest : largest_three 10 (row_of 1 10 25 ∷ []) ≡ pos 100 ∷ pos 200 ∷ pos 250 ∷ []

-- Total, Nr, 1 and 2 under Nr, Os, 3 under Os
abbrev pub two_levels : Tree
two_levels =
    (codes "Total", None) ∷ (codes "Nr", Some 0) ∷ (codes "1", Some 1) ∷ (codes "2", Some 1) ∷ (codes "Os", Some 0)
    ∷ (codes "3", Some 4) ∷ []

-- Two levels of codes: 2 is under itself, Nr and the total, and not under its sibling 1 or under Os.
pub record TwoLevels : Type 0 where
  pub walk : places_upward two_levels 3 ≡ 3 ∷ 1 ∷ 0 ∷ []
  pub under : map (is_under two_levels 3) (0 ∷ 1 ∷ 2 ∷ 3 ∷ 4 ∷ 5 ∷ []) ≡ true ∷ true ∷ false ∷ true ∷ false ∷ false ∷ []

-- Tables that share margins: what an earlier table named isn't named again, and names aren't sorted.
-- A table that spans the second variable first goes through its own places in lexicographic order.
pub record SharedMargins : Type 0 where
  pub margin_first : cells_of (two_codes ∷ two_codes ∷ []) (whole_table (0 ∷ []) ∷ whole_table (0 ∷ 1 ∷ []) ∷ [])
      ≡ (0 ∷ 0 ∷ []) ∷ (1 ∷ 0 ∷ []) ∷ (2 ∷ 0 ∷ []) ∷ (0 ∷ 1 ∷ []) ∷ (0 ∷ 2 ∷ []) ∷ (1 ∷ 1 ∷ []) ∷ (1 ∷ 2 ∷ [])
      ∷ (2 ∷ 1 ∷ []) ∷ (2 ∷ 2 ∷ []) ∷ []
  pub turned : cells_of (two_codes ∷ two_codes ∷ []) (whole_table (1 ∷ 0 ∷ []) ∷ [])
      ≡ (0 ∷ 0 ∷ []) ∷ (1 ∷ 0 ∷ []) ∷ (2 ∷ 0 ∷ []) ∷ (0 ∷ 1 ∷ []) ∷ (1 ∷ 1 ∷ []) ∷ (2 ∷ 1 ∷ []) ∷ (0 ∷ 2 ∷ [])
      ∷ (1 ∷ 2 ∷ []) ∷ (2 ∷ 2 ∷ []) ∷ []

-- Relations by cell and then by variable: of a table of two variables; of two tables that share a margin; of two levels
-- of codes, where all codes below a code in the place of those right below would give the total five parts; and of a
-- table that doesn't span the second variable, which has none for it.
pub record RelationRows : Type 0 where
  pub two_way : relations_among (two_codes ∷ two_codes ∷ []) (whole_table (0 ∷ 1 ∷ []) ∷ [])
      ≡ (0, 3 ∷ 6 ∷ []) ∷ (0, 1 ∷ 2 ∷ []) ∷ (1, 4 ∷ 7 ∷ []) ∷ (2, 5 ∷ 8 ∷ []) ∷ (3, 4 ∷ 5 ∷ []) ∷ (6, 7 ∷ 8 ∷ []) ∷ []
  pub linked : relations_among (two_codes ∷ two_codes ∷ []) (whole_table (0 ∷ []) ∷ whole_table (1 ∷ []) ∷ [])
      ≡ (0, 1 ∷ 2 ∷ []) ∷ (0, 3 ∷ 4 ∷ []) ∷ []
  pub levels : relations_among (two_levels ∷ []) (whole_table (0 ∷ []) ∷ []) ≡ (0, 1 ∷ 4 ∷ []) ∷ (1, 2 ∷ 3 ∷ []) ∷ (4, 5 ∷ []) ∷ []
  pub not_spanned : relations_among (two_codes ∷ two_codes ∷ []) (whole_table (0 ∷ []) ∷ []) ≡ (0, 1 ∷ 2 ∷ []) ∷ []

-- Total, 1, 11 and 12 under 1, 2, 21 and 22 under 2
abbrev pub two_by_two : Tree
two_by_two =
    (codes "Total", None) ∷ (codes "1", Some 0) ∷ (codes "11", Some 1) ∷ (codes "12", Some 1) ∷ (codes "2", Some 0)
    ∷ (codes "21", Some 4) ∷ (codes "22", Some 4) ∷ []

-- a variable with these codes, and one of two codes
abbrev pub deep_and_flat : List Tree
deep_and_flat = two_by_two ∷ two_codes ∷ []

-- the first variable down to the codes right below the total
abbrev pub upper_codes : Dimension
upper_codes = record { variable = 0; depth = 1 }

-- both variables with all their codes, and the first one alone to depth 1
abbrev pub table_beside_shallow : List (List Dimension)
table_beside_shallow = whole_table (0 ∷ 1 ∷ []) ∷ (upper_codes ∷ []) ∷ []

-- both variables, the first to depth 1, and the first one alone with all its codes
abbrev pub shallow_table_beside : List (List Dimension)
shallow_table_beside = (upper_codes ∷ whole 1 ∷ []) ∷ whole_table (0 ∷ []) ∷ []

-- One classification at two depths. A table to depth 1 has its cells from a deeper one that spans its variables, codes
-- above its last level as well. Where the table of both variables ends at depth 1, the cells of codes 1 and 2 are still
-- the sums of those below them in the other table; the cells of code 1 with a code of the second variable are no sums
-- over the first, although the other table has codes below 1: a relation would have parts that no table has.
pub record DepthRows : Type 0 where
  pub shared : length (cells_of deep_and_flat table_beside_shallow) ≡ 21
  pub upper : named_by deep_and_flat (upper_codes ∷ []) ≡ (0 ∷ 0 ∷ []) ∷ (1 ∷ 0 ∷ []) ∷ (4 ∷ 0 ∷ []) ∷ []
  pub nine : length (named_by deep_and_flat (upper_codes ∷ whole 1 ∷ [])) ≡ 9
  pub thirteen : length (cells_of deep_and_flat shallow_table_beside) ≡ 13
  pub relations : relations_among deep_and_flat shallow_table_beside
      ≡ (0, 3 ∷ 6 ∷ []) ∷ (0, 1 ∷ 2 ∷ []) ∷ (1, 4 ∷ 7 ∷ []) ∷ (2, 5 ∷ 8 ∷ []) ∷ (3, 9 ∷ 10 ∷ []) ∷ (3, 4 ∷ 5 ∷ [])
      ∷ (6, 11 ∷ 12 ∷ []) ∷ (6, 7 ∷ 8 ∷ []) ∷ []

-- The columns of a listing: their names, and what stands in them for a cell (own).
use Rattle.std.specs.Prelude.{ℕ, ◌+◌, ◌==◌, min, Bool, List, [], ◌∷◌, ◌++◌, map, codes, decimal, slice_get, if◌then◌else◌, Option, None, Some, ℤ, ◌+ℤ◌, neg_ℤ, unsigned_abs}
use Rattle.std.specs.List.{join_with_byte}
use Rattle.std.specs.Option.{option_map_or}
use Rattle.sdc_base.specs.Records.{Name}
use Rattle.sdc_base.specs.RuleLevels.{Figures}
use Rattle.sdc_base.specs.TableText.{shown_text}
use Rattle.sdc_base.specs.Trees.{Tree, code_in}
use Rattle.sdc_base.specs.declared.dimension.Dimension.{Dimension}
use Rattle.cost_rule.specs.Costs.{most_value}
use Rattle.cost_rule.specs.declared.kind.CostKind.{CostKind}
use Rattle.cost_rule.specs.declared.kind.CostKind.TheVariants as cost
use Rattle.relations.specs.Having.{has_codes}
use Rattle.rda_meta.specs.declared.meta.Variable.{Variable}
use Rattle.job_inputs.specs.declared.described.DescribedJob.{DescribedJob}
use Rattle.cell_listing.specs.ListedCells.{ListedCell}
use Rattle.cell_listing.specs.Reasons.{kind_word, reasons}

-- ---- names

-- the name of the variable at a place of the metadata
abbrev pub name_in : List Variable → ℕ → List ℕ
name_in variables place = option_map_or (λ variable. variable.name) (slice_get variables place) []

-- the names of the variables that span the tables of a job, in the order of the metadata
abbrev pub variable_names : DescribedJob → List (List ℕ)
variable_names described = map (name_in described.meta.variables) described.bound.spanning

-- the columns before the variables
abbrev pub place_names : List (List ℕ)
place_names = codes "cell" ∷ codes "tables" ∷ []

-- the columns of what the records make of a cell
abbrev pub figure_names : List (List ℕ)
figure_names = codes "value" ∷ codes "records" ∷ codes "largest" ∷ codes "second" ∷ []

-- the columns of what a cell is to its protection
abbrev pub standing_names : List (List ℕ)
standing_names =
    codes "status" ∷ codes "rules" ∷ codes "up" ∷ codes "down" ∷ codes "price" ∷ codes "low" ∷ codes "high" ∷ []

-- the names of all columns
abbrev pub column_names : DescribedJob → List (List ℕ)
column_names described = place_names ++ variable_names described ++ figure_names ++ standing_names

-- ---- which tables have a cell

-- The table has the cell of this name: for each variable that the table spans the name has a code that is at most as
-- deep as the table goes, and for each other one the total. Not: for one that the table spans it has any code of the tree.
abbrev pub has_cell : List Tree → List Dimension → Name → Bool
has_cell trees table name = has_codes trees table 0 name

-- the numbers of the tables that have the cell, where the first of these has this number
abbrev pub having_from : List Tree → ℕ → List (List Dimension) → Name → List (List ℕ)
having_from trees number [] name = []
having_from trees number (table ∷ tables) name =
    if has_cell trees table name then decimal number ∷ having_from trees (number + 1) tables name
    else having_from trees (number + 1) tables name

-- ---- fields

-- words with a blank between them
abbrev pub spaced : List (List ℕ) → List ℕ
spaced words = join_with_byte 32 words

-- a blank before a word that isn't the first
abbrev pub blank_before : ℕ → List ℕ
blank_before place = if place == 0 then [] else 32 ∷ []

-- an amount of units, as a release table shows it
abbrev pub amount_text : ℕ → ℤ → List ℕ
amount_text decimals amount = shown_text decimals (Some amount)

-- an upper bound, and nothing where there is none
abbrev pub bound_text : ℕ → Option ℤ → List ℕ
bound_text decimals None = []
bound_text decimals (Some bound) = amount_text decimals bound

-- the largest contribution
abbrev pub largest : Figures → ℤ
largest cell = cell.largest 1

-- what the two largest contributions have beside the largest
abbrev pub second : Figures → ℤ
second cell = cell.largest 2 +ℤ neg_ℤ (cell.largest 1)

-- what it costs to hide a cell with these figures
abbrev pub cost_by : CostKind → Figures → ℕ
cost_by cost.Value cell = 1 + min (unsigned_abs cell.truth) most_value
cost_by cost.Freq cell = 1 + cell.freq
cost_by cost.One cell = 1

-- the price of a cell is its own, else the cost of its figures
abbrev pub price_by : CostKind → Option ℕ → Figures → ℕ
price_by kind None cell = cost_by kind cell
price_by kind (Some price) cell = price

-- the number of a cell, and those of the tables that have it
abbrev pub place_fields : List Tree → List (List Dimension) → ListedCell → List (List ℕ)
place_fields trees tables cell = decimal cell.number ∷ spaced (having_from trees 1 tables cell.name) ∷ []

-- the codes of a cell's name, one for each variable
abbrev pub codes_of_name : List Tree → Name → List (List ℕ)
codes_of_name [] name = []
codes_of_name (tree ∷ trees) [] = []
codes_of_name (tree ∷ trees) (code ∷ name) = code_in tree code ∷ codes_of_name trees name

-- what the records make of a cell
abbrev pub figure_fields : ℕ → Figures → List (List ℕ)
figure_fields decimals cell =
    amount_text decimals cell.truth ∷ decimal cell.freq ∷ amount_text decimals (largest cell)
    ∷ amount_text decimals (second cell) ∷ []

-- what a cell is to its protection
abbrev pub standing_fields : DescribedJob → ListedCell → List (List ℕ)
standing_fields described cell =
    kind_word cell.settled.kind
    ∷ spaced (reasons described.job.rules.list cell.settled.kind cell.figures)
    ∷ amount_text described.bound.decimals cell.settled.up ∷ amount_text described.bound.decimals cell.settled.down
    ∷ decimal (price_by described.job.cost cell.settled.price cell.figures)
    ∷ amount_text described.bound.decimals cell.settled.low ∷ bound_text described.bound.decimals cell.settled.high
    ∷ []

-- all that stands in the line of a cell
abbrev pub cell_fields : DescribedJob → List Tree → ListedCell → List (List ℕ)
cell_fields described trees cell =
    place_fields trees described.bound.tables cell ++ codes_of_name trees cell.name
    ++ figure_fields described.bound.decimals cell.figures ++ standing_fields described cell

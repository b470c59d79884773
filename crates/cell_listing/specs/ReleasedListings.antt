-- The text of a listing of cells with what a release made of them (own).
use Rattle.std.specs.Prelude.{ℕ, List, [], ◌∷◌, ◌++◌, flat_map, codes, Option, ℤ}
use Rattle.std.specs.Option.{option_map_or}
use Rattle.sdc_base.specs.TableText.{line_text}
use Rattle.sdc_base.specs.Trees.{Tree}
use Rattle.certificate.specs.declared.certificate.Certificate.{Certificate}
use Rattle.certificate.specs.declared.extra.Extra.{Extra}
use Rattle.job_inputs.specs.declared.described.DescribedJob.{DescribedJob}
use Rattle.job_check.specs.ReleaseFiles.{ReleasedFiles}
use Rattle.cell_listing.specs.ListedCells.{ListedCell, listed_cells}
use Rattle.cell_listing.specs.Columns.{amount_text, cell_fields, column_names}
use Rattle.cell_listing.specs.Outcomes.{outcome_of}
use Rattle.cell_listing.specs.declared.outcome.Origin.{Origin}
use Rattle.cell_listing.specs.declared.outcome.Origin.TheVariants as origin
use Rattle.cell_listing.specs.declared.outcome.Outcome.{Outcome}
use Rattle.cell_listing.specs.declared.outcome.Outcome.TheVariants as outcome

-- the columns of what a release made of a cell, behind all others
abbrev pub outcome_names : List (List ℕ)
outcome_names = codes "release" ∷ codes "origin" ∷ []

-- the word of an origin
abbrev pub origin_word : Origin → List ℕ
origin_word origin.Primary = codes "primary"
origin_word origin.Step = codes "step"
origin_word origin.Repair = codes "repair"
origin_word origin.Extra = codes "extra"

-- what a release made of a cell; of a rounded one the amount, as its tables show it
abbrev pub outcome_text : ℕ → Outcome → List ℕ
outcome_text decimals outcome.Shown = codes "shown"
outcome_text decimals (outcome.Hidden by) = codes "hidden"
outcome_text decimals (outcome.Rounded amount) = amount_text decimals amount

-- by what a cell came to be hidden, and nothing where it isn't
abbrev pub origin_text : Outcome → List ℕ
origin_text outcome.Shown = []
origin_text (outcome.Hidden by) = option_map_or origin_word by []
origin_text (outcome.Rounded amount) = []

-- both
abbrev pub outcome_fields : ℕ → Outcome → List (List ℕ)
outcome_fields decimals what = outcome_text decimals what ∷ origin_text what ∷ []

-- what a release made of a listed cell
abbrev pub outcome_at : Certificate → Option Extra → List ℤ → ListedCell → Outcome
outcome_at c extra amounts cell = outcome_of c extra amounts cell.number cell.settled.kind

-- the line of a cell of which the release made this
abbrev pub released_line : DescribedJob → List Tree → (ListedCell → Outcome) → ListedCell → List ℕ
released_line described trees made cell =
    line_text (cell_fields described trees cell ++ outcome_fields described.bound.decimals (made cell))

-- a listing: the line of the columns' names, and then a line for each cell
abbrev pub released_text : DescribedJob → List Tree → (ListedCell → Outcome) → List ListedCell → List ℕ
released_text described trees made cells =
    line_text (column_names described ++ outcome_names) ++ flat_map (released_line described trees made) cells

-- the listing of a release, whose tables show these amounts where it rounds
unfoldable pub released_listing : ReleasedFiles → List ℤ → List ℕ
released_listing released amounts =
    released_text released.settled.inputs.described released.settled.inputs.records.trees
    (outcome_at released.certificate released.extra amounts) (listed_cells released.settled)
